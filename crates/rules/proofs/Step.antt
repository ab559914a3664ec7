-- The walk's law: one step.
use mathlib.Core.Path.{◌≡◌, refl, sym, ap, ◌∙◌}
use mathlib.Core.Bool.{Bool, true, false, ◌&&◌}
use mathlib.Core.List.{List, [], ◌∷◌, ◌++◌, append_assoc, append-nil}
use Prim.Native.Nat.{ℕ, zero, suc, ◌+◌, ◌-◌, ◌*◌, ◌/◌, ◌%◌, ◌≤◌, ◌<◌}
use native.Mathlib.Nat.{div-add-mod', mod-lt, div-eq_of_lt-le}
use native.Mathlib.Omega.{arith}
use lib.Dec.{ltb}
use borrow.Author.Tests.{ltb-true, ltb-false}
use Rattle.rules.specs.Lists.{if, each}
use Rattle.rules.specs.Walk.{Walk, place, choose, children, later, under, onward, up, from, next, start}
use Rattle.rules.specs.declared.Place.{Place}
use Rattle.rules.proofs.Lists.{Tail, keep_tail, tail_from}

-- a number in the block of m
pub block : (b m n : ℕ) → m * b ≤ n → n < m * b + b → n / b ≡ m
block b m n h l = div-eq_of_lt-le b h (omega arith)

module _ (W : Walk) (pos : 1 ≤ W.base) where
  open W use {base, may, good, depth}

  children_tail : (j m : ℕ) → Tail (may (suc j)) (m * base) (m * base + base) (children W j m)
  unfolding children
  children_tail j m = keep_tail (may (suc j)) (m * base) base (m * base + base) refl

  later_tail : (j m : ℕ) → Tail (may j) (m / base * base) (m / base * base + base) (later W j m)
  unfolding later
  later_tail j m = tail_from (may j) (m / base * base) (suc m) (m / base * base + base) (later W j m) (omega (arith, div-add-mod' m base))
      (keep_tail (may j) (suc m) (base - suc (m % base)) (m / base * base + base) (omega (arith, div-add-mod' m base, mod-lt m {m = base} pos)))

  from_at : (d j m : ℕ) → d + suc j ≡ depth → from W (place (suc j) m) ≡ under W d (suc j) m ++ onward W d (suc j) m
  unfolding from
  from_at d j m e = let h : depth - suc j ≡ d = omega arith in rw h

  -- some siblings of the block of (j, m), and what is left above
  choose_law : (d j m : ℕ) (ns : List ℕ) → d + suc j ≡ depth → Tail (may (suc j)) (m * base) (m * base + base) ns → onward W (suc d) j m ≡ from W (up W j m)
      → each (under W d (suc j)) ns ++ onward W (suc d) j m ≡ from W (choose (up W j m) (suc j) ns)
  unfolding each onward later
  choose_law d j m [] e t h = h
  choose_law d j m (n ∷ ns) e t h =
      let q : n / base ≡ m = block base m n t.0 t.1 in
      let k : m * base + base - suc n ≡ base - suc (n % base) = omega (arith, div-add-mod' n base, ap (λ x. x * base) q) in
      rw (from_at d j n e, append_assoc, q, t.2, k)

  up_law : (d j m : ℕ) → d + j ≡ depth → onward W d j m ≡ from W (up W j m)
  unfolding onward up from
  up_law d zero m e = refl
  up_law d (suc j) m e = choose_law d j (m / base) (later W (suc j) m) e (later_tail (suc j) m) (up_law (suc d) j (m / base) (omega arith))

  -- T1
  pub step : (j m : ℕ) → suc j ≤ depth → from W (place (suc j) m) ≡ place (suc j) m ∷ from W (next W (place (suc j) m))
  unfolding next under
  step j m h = from_at (depth - suc j) j m (omega arith) ∙ go (depth - suc j) (omega arith) (ltb (suc j) depth) (good (suc j) m) refl refl
    where
      go : (d : ℕ) → d + suc j ≡ depth → (a b : Bool) → ltb (suc j) depth ≡ a → good (suc j) m ≡ b
          → under W d (suc j) m ++ onward W d (suc j) m ≡ place (suc j) m ∷ from W (if (a && b) (choose (up W (suc j) m) (suc (suc j)) (children W (suc j) m)) (up W (suc j) m))
      go zero e true b f g = absurd (omega (arith, ltb-true))
      go zero e false b f g = ap (λ l. place (suc j) m ∷ l) (up_law 0 (suc j) m e)
      go (suc d) e true true f g = rw g (ap (λ l. place (suc j) m ∷ l) (choose_law d (suc j) m (children W (suc j) m) (omega arith) (children_tail (suc j) m) (up_law (suc d) (suc j) m e)))
      go (suc d) e true false f g = rw g (ap (λ l. place (suc j) m ∷ l) (up_law (suc d) (suc j) m e))
      go (suc d) e false b f g = absurd (omega (arith, ltb-false))

  pub step_at : (p : Place) → 1 ≤ p.letters → p.letters ≤ depth → from W p ≡ p ∷ from W (next W p)
  step_at p h l = go p.letters p.number h l
    where
      go : (n m : ℕ) → 1 ≤ n → n ≤ depth → from W (place n m) ≡ place n m ∷ from W (next W (place n m))
      go zero m h l = absurd (omega arith)
      go (suc j) m h l = step j m l

  pub at_end : (p : Place) → p.letters ≡ 0 → from W p ≡ []
  unfolding from
  at_end p e = rw e

  -- the whole search is what stands under the empty prefix
  pub whole : 1 ≤ depth → good 0 0 ≡ true → under W depth 0 0 ≡ place 0 0 ∷ from W (start W)
  unfolding start under up onward
  whole h g = go depth refl h
    where
      go : (D : ℕ) → D ≡ depth → 1 ≤ D → under W D 0 0 ≡ place 0 0 ∷ from W (start W)
      go zero e h = absurd (omega arith)
      go (suc d) e h = rw g (ap (λ l. place 0 0 ∷ l) (sym (append-nil _) ∙ choose_law d 0 0 (children W 0 0) (omega arith) (children_tail 0 0) (up_law (suc d) 0 0 (omega arith))))
