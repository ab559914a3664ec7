-- Why one pass over both lists is right. Those of the second list before the reach of a position are before the reach of every
-- later one too, so what was passed over has no partner any more; and of what is left the first decides, since the others are
-- higher still.
use mathlib.Core.Path.{◌≡◌, refl}
use mathlib.Core.Bool.{Bool, true, false, ◌&&◌}
use mathlib.Core.List.{List, [], ◌∷◌}
use Prim.Native.Nat.{ℕ, zero, suc, ◌+◌, ◌≤◌, ◌<◌}
use native.Mathlib.Omega.{arith}
use lib.Dec.{ltb, eqb}
use lib.ListN.{length, get_or}
use borrow.Author.Tests.{ltb-true, ltb-false, eqb-false, ne_eqb}
use Rattle.rules.specs.Join.{is_rising}
use Rattle.rules.specs.Lists.{run, if, keep, has_some, is_member}
use Rattle.rules.specs.declared.Distances.{Distances}
use Rattle.joins.specs.Pass.{LieBefore, Reached, is_within, has_partner}
use Rattle.joins.proofs.Rising.{rising_order}

-- a run holds the numbers from its start up to its end, and no other
run_in : (q a n : ℕ) → a ≤ q → q < a + n → is_member q (run a n) ≡ true
unfolding is_member run
run_in q a zero h l = absurd (omega arith)
run_in q a (suc n) h l = go (eqb q a) refl (λ h. run_in q (suc a) n h (omega arith))
  where
    go : (b : Bool) → eqb q a ≡ b → (suc a ≤ q → is_member q (run (suc a) n) ≡ true) → if b true (is_member q (run (suc a) n)) ≡ true
    go true e ih = refl
    go false e ih = ih (omega (arith, eqb-false q a e))

run_out : (q a n : ℕ) → (a ≤ q → q < a + n → ⊥) → is_member q (run a n) ≡ false
unfolding is_member run
run_out q a zero h = refl
run_out q a (suc n) h = rw (ne_eqb q a (λ e. h (omega arith) (omega arith))) (run_out q (suc a) n (λ l k. h (omega arith) (omega arith)))

-- one of a list passes a test, or none
some_at : (f : ℕ → Bool) (xs : List ℕ) (i : ℕ) → i < length xs → f (get_or xs i 0) ≡ true → has_some (keep f xs) ≡ true
unfolding keep has_some
some_at f [] i h e = absurd (omega arith)
some_at f (x ∷ xs) zero h e = rw e
some_at f (x ∷ xs) (suc i) h e = go (f x) (some_at f xs i (omega arith) e)
  where
    go : (b : Bool) → has_some (keep f xs) ≡ true → has_some (if b (x ∷ keep f xs) (keep f xs)) ≡ true
    go true ih = refl
    go false ih = ih

some_none : (f : ℕ → Bool) (xs : List ℕ) → ((i : ℕ) → i < length xs → f (get_or xs i 0) ≡ false) → has_some (keep f xs) ≡ false
unfolding keep has_some
some_none f [] h = refl
some_none f (x ∷ xs) h = rw (h zero (omega arith)) (some_none f xs (λ i l. h (suc i) (omega arith)))

module _ (ys : List ℕ) (from count j : ℕ) where
  abbrev end : ℕ
  end = from + count

  abbrev within_reach : ℕ → Bool
  within_reach q = is_member q (run from count)

  -- the first that is not before a reach tells whether one is in it
  first_of : is_rising 0 ys ≡ true → Reached ys from j → has_some (keep within_reach ys) ≡ is_within ys j end
  unfolding is_within
  first_of r t = go (ltb j (length ys)) (ltb (get_or ys j 0) end) refl refl
    where
      none : ((k : ℕ) → k < length ys → from ≤ get_or ys k 0 → get_or ys k 0 < end → ⊥) → has_some (keep within_reach ys) ≡ false
      none h = some_none within_reach ys (λ k l. run_out (get_or ys k 0) from count (h k l))

      past : (b : Bool) → (k : ℕ) → ltb k j ≡ b → end ≤ get_or ys j 0 → k < length ys → from ≤ get_or ys k 0 → get_or ys k 0 < end → ⊥
      past true k e h l a b = omega (arith, t.before k (ltb-true k j e))
      past false k e h l a b = omega (arith, rising_order 0 ys r j k (ltb-false k j e) l)

      go : (b c : Bool) → ltb j (length ys) ≡ b → ltb (get_or ys j 0) end ≡ c → has_some (keep within_reach ys) ≡ (b && c)
      go true true u v =
          let l = ltb-true j (length ys) u in
          some_at within_reach ys j l (run_in (get_or ys j 0) from count (t.next l) (ltb-true (get_or ys j 0) end v))
      go true false u v = none (λ k l. past (ltb k j) k refl (ltb-false (get_or ys j 0) end v) l)
      go false c u v = none (λ k l a b. omega (arith, t.before k (omega (arith, ltb-false j (length ys) u))))

-- so the first that is not before the reach of a position tells whether that has a partner
pub first_decides : (ys : List ℕ) (apart : Distances) (p j : ℕ) → is_rising 0 ys ≡ true → Reached ys (p + apart.near) j → has_partner ys apart p ≡ is_within ys j (p + apart.near + apart.count)
first_decides ys apart p j r t = first_of ys (p + apart.near) apart.count j r t

-- those of the second list up to j lie before the reach of the first list's positions from i on
pub record PassedOver (xs : List ℕ) (i : ℕ) (ys : List ℕ) (j near : ℕ) : Type 0 where
  pub before : (m : ℕ) → i ≤ m → m < length xs → LieBefore ys j (get_or xs m 0 + near)

module _ (xs : List ℕ) (i : ℕ) (ys : List ℕ) (near : ℕ) where
  -- at first nothing was passed over
  pub passed_none : PassedOver xs i ys 0 near
  passed_none = record { before = λ m h l k z. absurd (omega arith) }

  -- what lies before the reach of one lies before that of every later one
  pub passed_on : (j : ℕ) → is_rising 0 xs ≡ true → Reached ys (get_or xs i 0 + near) j → PassedOver xs (i + 1) ys j near
  passed_on j r t = record { before = λ m h l k z. omega (arith, t.before k z, rising_order 0 xs r i m (omega arith) l) }
