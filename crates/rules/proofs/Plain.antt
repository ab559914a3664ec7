-- What the laws say where every letter may follow every prefix: the step is the paper's, and each good prefix has `base`
-- candidates under it.
use mathlib.Core.Path.{◌≡◌, refl, sym, ap, ◌∙◌}
use mathlib.Core.Bool.{Bool, true, false}
use mathlib.Core.List.{List, [], ◌∷◌}
use Prim.Native.Nat.{ℕ, zero, suc, ◌-◌, ◌*◌, ◌/◌, ◌%◌, ◌^◌, ◌≤◌}
use native.Mathlib.Omega.{arith}
use lib.ListN.{length, length-append}
use lib.Dec.{ltb}
use borrow.Author.Tests.{ltb-true, ltb-false}
use Rattle.rules.specs.Lists.{run, if, keep, each}
use Rattle.rules.specs.Walk.{Walk, place, choose, children, later, up, spelled, candidate, tries, goods}
use Rattle.rules.proofs.Lists.{keep_same, length_run}
use Rattle.rules.proofs.Whole.{level_keep}

keep_true : (f : ℕ → Bool) → ((x : ℕ) → f x ≡ true) → (xs : List ℕ) → keep f xs ≡ xs
unfolding keep
keep_true f h [] = refl
keep_true f h (x ∷ xs) = rw (h x) (ap (λ l. x ∷ l) (keep_true f h xs))

module _ (W : Walk) (all : (j m : ℕ) → W.may j m ≡ true) where
  open W use {base, may, good, depth}

  children_plain : (j m : ℕ) → children W j m ≡ run (m * base) base
  unfolding children
  children_plain j m = keep_true (may (suc j)) (all (suc j)) (run (m * base) base)

  later_plain : (j m : ℕ) → later W j m ≡ run (suc m) (base - suc (m % base))
  unfolding later
  later_plain j m = keep_true (may j) (all j) (run (suc m) (base - suc (m % base)))

  pub spelled_plain : (j m : ℕ) → spelled W j m ≡ true
  unfolding spelled
  spelled_plain zero m = refl
  spelled_plain (suc j) m = rw (all (suc j) m) (spelled_plain j (m / base))

  pub candidate_plain : (j m : ℕ) → candidate W (suc j) m ≡ good j (m / base)
  unfolding candidate
  candidate_plain j m = rw (all (suc j) m, spelled_plain j (m / base))

  -- the way up, by the last digit
  pub up_plain : 1 ≤ base → (j m : ℕ) → up W (suc j) m ≡ if (ltb (suc (m % base)) base) (place (suc j) (suc m)) (up W j (m / base))
  unfolding up run
  up_plain h j m = rw (later_plain (suc j) m) (go (base - suc (m % base)) (ltb (suc (m % base)) base) refl refl)
    where
      go : (n : ℕ) (b : Bool) → base - suc (m % base) ≡ n → ltb (suc (m % base)) base ≡ b → choose (up W j (m / base)) (suc j) (run (suc m) n) ≡ if b (place (suc j) (suc m)) (up W j (m / base))
      go zero false e f = refl
      go zero true e f = absurd (omega (arith, ltb-true))
      go (suc n) true e f = refl
      go (suc n) false e f = absurd (omega (arith, ltb-false))

  each_children : (k : ℕ) (ms : List ℕ) → length (each (children W k) ms) ≡ base * length ms
  unfolding each
  each_children k [] = omega arith
  each_children k (m ∷ ms) = rw length-append (omega (arith, ap length (children_plain k m), length_run (m * base) base, each_children k ms))

  -- T3: `base` candidates for each good prefix shorter than a motif
  pub tries_plain : (k : ℕ) → tries W k ≡ base * goods W k
  unfolding tries goods
  tries_plain zero = omega arith
  tries_plain (suc k) = omega (arith, tries_plain k, each_children k (keep (good k) (run 0 (base ^ k))), ap length (level_keep W (good k) k ∙ keep_same _ (candidate W (suc k)) 0 (base ^ suc k) (λ n h l. rw (all (suc k) n) (sym (candidate_plain k n)))))
