-- Reading starts off the flags, step by step: without a flag there is nothing, with one the start alone or all later starts
-- under it; and one position after the other, up to the end of the range or of the sequence. How many starts there are is counted
-- so too.
use mathlib.Core.Path.{◌≡◌, refl, sym, ap, ◌∙◌}
use mathlib.Core.Bool.{Bool, true, false}
use mathlib.Core.List.{List, [], ◌∷◌, map, append-nil}
use Prim.Native.Nat.{ℕ, zero, suc, min, ◌+◌, ◌-◌, ◌*◌, ◌≤◌, ◌<◌}
use native.Mathlib.Nat.{add-zero, sub-zero, zero-sub, sub_self}
use native.Mathlib.Numerals.{add-one}
use native.Mathlib.Omega.{arith}
use lib.Dec.{ltb}
use lib.ListN.{length, take, get_or}
use borrow.Author.Tests.{le-leb, lt-leb, ltb-true, ltb-false}
use Rattle.descent.specs.Buffer.{Buffer, emits, with_front}
use Rattle.descent.specs.Paths.{flag, Unflagged, paths, handed}
use Rattle.descent.proofs.Buffer.{emits_append, with_front_none, with_front_append}
use Rattle.rules.specs.Limits.{sequence_set_letters}
use Rattle.rules.specs.Lists.{run, keep, each}
use Rattle.rules.specs.Occurrence.{reach}
use Rattle.rules.specs.Template.{distance}
use Rattle.rules.specs.declared.Component.{Component}
use Rattle.rules.proofs.Lists.{each_append, run_append}

-- ---- flags

module _ (n : ℕ) (flags : List Bool) (c p : ℕ) where
  -- of a position that the sequence has
  pub flag_in : 1 ≤ p → p ≤ n → flag n flags c p ≡ get_or flags (c * sequence_set_letters + (p - 1)) false
  unfolding flag
  flag_in h l = rw (le-leb 1 p h, le-leb p n l)

  -- and of one that it has not
  pub flag_past : n < p → flag n flags c p ≡ false
  unfolding flag
  flag_past h = let l : 1 ≤ p = omega arith in rw (le-leb 1 p l, lt-leb p n h)

  pub flag_zero : p ≡ 0 → flag n flags c p ≡ false
  unfolding flag
  flag_zero e = rw (lt-leb 1 p (omega arith))

  -- without a flag there is nothing
  pub paths_closed : (xs : List Component) → flag n flags c p ≡ false → paths n flags xs c p ≡ []
  unfolding paths
  paths_closed [] e = refl
  paths_closed (x ∷ []) e = rw e
  paths_closed (x ∷ y ∷ ys) e = rw e

  -- with one, the start of the last component alone, or all later starts under it
  pub paths_last : {xs : List Component} (x : Component) → xs ≡ x ∷ [] → flag n flags c p ≡ true → paths n flags xs c p ≡ (p ∷ []) ∷ []
  unfolding paths
  paths_last x q e = rw (q, e)

  pub paths_more : {xs ys : List Component} (x y : Component) (zs : List Component) → xs ≡ x ∷ ys → ys ≡ y ∷ zs → flag n flags c p ≡ true
      → paths n flags xs c p ≡ map (λ t. p ∷ t) (each (paths n flags ys (suc c)) (reach (distance x.length y.low) (distance x.length y.high) p))
  unfolding paths
  paths_more x y zs q r e = rw (q, r, e)

-- ---- positions without a flag

-- one more of them
pub unflagged_more : (n : ℕ) (flags : List Bool) (c a q : ℕ) → Unflagged n flags c a q → flag n flags c q ≡ false → Unflagged n flags c a (q + 1)
unflagged_more n flags c a q h e p l k = go (ltb p q) refl
  where
    go : (b : Bool) → ltb p q ≡ b → flag n flags c p ≡ false
    go true t = h p l (ltb-true p q t)
    go false t = let z : p ≡ q = omega (arith, ltb-false) in rw z e

-- the next k positions may be passed over if they have none
each_unflagged : (n : ℕ) (flags : List Bool) (xs : List Component) (c k q m : ℕ) → Unflagged n flags c q (q + k)
    → each (paths n flags xs c) (run q m) ≡ each (paths n flags xs c) (run (q + k) (m - k))
unfolding each run
each_unflagged n flags xs c zero q m u = rw (add-zero q, sub-zero m)
each_unflagged n flags xs c (suc k) q zero u = rw (zero-sub (suc k))
each_unflagged n flags xs c (suc k) q (suc m) u =
    let e : q + suc k ≡ suc q + k = omega arith in
    let l : suc m - suc k ≡ m - k = omega arith in
    rw (paths_closed n flags c q xs (u q (omega arith) (omega arith)), e, l) (each_unflagged n flags xs c k (suc q) m (λ p h j. u p (omega arith) (omega arith)))

-- past the end of the sequence there is nothing
each_past : (n : ℕ) (flags : List Bool) (xs : List Component) (c q m : ℕ) → n < q → each (paths n flags xs c) (run q m) ≡ []
unfolding each run
each_past n flags xs c q m h = each_unflagged n flags xs c m q m (λ p l k. flag_past n flags c p (omega arith)) ∙ rw (sub_self m)

-- so those past it may be left out
each_within : (n : ℕ) (flags : List Bool) (xs : List Component) (c q k m : ℕ) → n < q + k → each (paths n flags xs c) (run q k) ≡ each (paths n flags xs c) (run q (k + m))
each_within n flags xs c q k m h =
    rw (← (run_append q k m), each_append (paths n flags xs c) (run q k) (run (q + k) m), each_past n flags xs c (q + k) m h, append-nil (each (paths n flags xs c) (run q k)))

-- ---- how many positions have a flag

module _ (n : ℕ) (flags : List Bool) (c : ℕ) where
  -- as many rows as there are of the last component
  pub rows_last : (x : Component) (ps : List ℕ) → length (each (paths n flags (x ∷ []) c) ps) ≡ length (keep (flag n flags c) ps)
  unfolding each keep paths
  rows_last x [] = refl
  rows_last x (p ∷ ps) = go (flag n flags c p) refl (rows_last x ps)
    where
      go : (b : Bool) → flag n flags c p ≡ b → length (each (paths n flags (x ∷ []) c) ps) ≡ length (keep (flag n flags c) ps)
          → length (each (paths n flags (x ∷ []) c) (p ∷ ps)) ≡ length (keep (flag n flags c) (p ∷ ps))
      go true e h = rw e (ap suc h)
      go false e h = rw e h

  -- those from q up to e
  abbrev pub starts_left : ℕ → ℕ → ℕ
  starts_left q e = length (keep (flag n flags c) (run q (e - q)))

  -- past one that has one, one fewer is left
  pub count_on : (q e : ℕ) → q < e → flag n flags c q ≡ true → starts_left q e ≡ starts_left (q + 1) e + 1
  unfolding keep run
  count_on q e h f =
      let k : e - q ≡ suc (e - (q + 1)) = omega arith in
      rw (k, f, add-one q) (sym (add-one _))

  -- past one that has none, as many
  pub count_past : (q e : ℕ) → q < e → flag n flags c q ≡ false → starts_left q e ≡ starts_left (q + 1) e
  unfolding keep run
  count_past q e h f =
      let k : e - q ≡ suc (e - (q + 1)) = omega arith in
      rw (k, f, add-one q)

  -- and none at the end
  pub count_done : (q e : ℕ) → e ≤ q → starts_left q e ≡ 0
  unfolding keep run
  count_done q e h = let k : e - q ≡ 0 = omega arith in rw k

-- ---- one start after the other

module _ (xs : List Component) (n : ℕ) (flags : List Bool) (row : List ℕ) (c : ℕ) where
  -- first those under q
  pub handed_on : (q e : ℕ) (s : Buffer) → q < e → handed xs n flags row c q e s ≡ handed xs n flags row c (q + 1) e (handed xs n flags row c q (q + 1) s)
  unfolding handed each run
  handed_on q e s h =
      let k : e - q ≡ suc (e - (q + 1)) = omega arith in
      let one : q + 1 - q ≡ 1 = omega arith in
      rw (k, one, add-one q, append-nil (paths n flags xs c q), with_front_append (take (suc c) row) (paths n flags xs c q) (each (paths n flags xs c) (run (suc q) (e - suc q))))
      (emits_append _ (with_front (take (suc c) row) (paths n flags xs c q)) (with_front (take (suc c) row) (each (paths n flags xs c) (run (suc q) (e - suc q)))) s)

  -- those without a flag may be passed over
  pub handed_over : (q r e : ℕ) (s : Buffer) → (q ≤ r) × Unflagged n flags c q r → handed xs n flags row c q e s ≡ handed xs n flags row c r e s
  unfolding handed
  handed_over q r e s h =
      let k : q + (r - q) ≡ r = omega arith in
      let m : e - q - (r - q) ≡ e - r = omega arith in
      ap (λ l. emits (suc (c + length xs)) (with_front (take (suc c) row) l) s) (each_unflagged n flags xs c (r - q) q (e - q) (λ p l j. h.1 p l (omega arith)) ∙ rw (k, m))

  -- and so may one
  pub handed_past : (q e : ℕ) (s : Buffer) → q < e → flag n flags c q ≡ false → handed xs n flags row c (q + 1) e s ≡ handed xs n flags row c q e s
  handed_past q e s h f = sym (handed_over q (q + 1) e s (omega arith, λ p l u. let z : p ≡ q = omega arith in rw z f))

  -- at the end nothing is left
  pub handed_done : (q e : ℕ) (s : Buffer) → e ≤ q → handed xs n flags row c q e s ≡ s
  unfolding handed emits each run
  handed_done q e s h = let k : e - q ≡ 0 = omega arith in rw (k, with_front_none (take (suc c) row))

  -- nor past the end of the sequence
  pub handed_within : (q m : ℕ) (s : Buffer) → handed xs n flags row c q (min (n + 1) m) s ≡ handed xs n flags row c q m s
  unfolding handed
  handed_within q m s = ap (λ l. emits (suc (c + length xs)) (with_front (take (suc c) row) l) s) (go (ltb n (q + (min (n + 1) m - q))) refl)
    where
      go : (b : Bool) → ltb n (q + (min (n + 1) m - q)) ≡ b → each (paths n flags xs c) (run q (min (n + 1) m - q)) ≡ each (paths n flags xs c) (run q (m - q))
      go true e =
          let k : min (n + 1) m - q + (m - q - (min (n + 1) m - q)) ≡ m - q = omega arith in
          rw (← k) (each_within n flags xs c q (min (n + 1) m - q) (m - q - (min (n + 1) m - q)) (ltb-true n (q + (min (n + 1) m - q)) e))
      go false e = let k : min (n + 1) m - q ≡ m - q = omega (arith, ltb-false) in rw k
