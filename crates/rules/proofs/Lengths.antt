-- How long a list is at most. Rising numbers that all stand in another list are no more than it has, since each of them takes
-- a place of its own; and lists laid end to end are as long as all of them together.
use mathlib.Core.Path.{◌≡◌, refl, sym, ◌∙◌}
use mathlib.Core.Logic.{◌⊎◌, inl, inr}
use mathlib.Core.Bool.{Bool, true, false}
use mathlib.Core.List.Memᴰ
use mathlib.Core.List.{List, [], ◌∷◌, map, Memᴰ}
use Prim.Native.Nat.{ℕ, zero, suc, ◌*◌, ◌≤◌}
use native.Mathlib.Omega.{arith}
use lib.ListN.{length, length-append}
use Rattle.rules.specs.Lists.{run, if, keep, each, sum}
use Rattle.rules.specs.Order.{Rising}

-- a list with one place less, which still holds all others
abbrev Less : {A : Type 0} → A → List A → Type 0
Less {A} x l = (r : List A) × (length l ≡ suc (length r)) × ((y : A) → Memᴰ y l → (y ≡ x → ⊥) → Memᴰ y r)

-- a member is taken out
taken_out : {A : Type 0} (l : List A) {x : A} → Memᴰ x l → Less x l
taken_out [] m = absurd (Memᴰ.not-nil m)
taken_out {A} (z ∷ zs) {x} m = go (Memᴰ.cases_cons m) (λ m. taken_out zs m)
  where
    go : (x ≡ z) ⊎ Memᴰ x zs → (Memᴰ x zs → Less x zs) → Less x (z ∷ zs)
    go (inl e) ih = (zs, refl, λ y k d. other y (Memᴰ.cases_cons k) d)
      where
        other : (y : A) → (y ≡ z) ⊎ Memᴰ y zs → (y ≡ x → ⊥) → Memᴰ y zs
        other y (inl f) d = absurd (d (f ∙ sym e))
        other y (inr k) d = k
    go (inr m) ih = (z ∷ r.0, omega (arith, r.1), λ y k d. other y (Memᴰ.cases_cons k) d)
      where
        r : Less x zs
        r = ih m

        other : (y : A) → (y ≡ z) ⊎ Memᴰ y zs → (y ≡ x → ⊥) → Memᴰ y (z ∷ r.0)
        other y (inl f) d = Memᴰ.head f
        other y (inr k) d = Memᴰ.tail (r.2 y k d)

-- rising numbers that all stand in a list are no more than it has
pub rising_within : (xs l : List ℕ) → Rising xs → ((x : ℕ) → Memᴰ x xs → Memᴰ x l) → length xs ≤ length l
rising_within [] l rise h = omega arith
rising_within (x ∷ xs) l rise h =
    let r = taken_out l (h x (Memᴰ.head refl)) in
    omega (arith, r.1, rising_within xs r.0 rise.1 (λ y m. r.2 y (h y (Memᴰ.tail m)) (λ e. omega (arith, rise.0 y m))))

-- lists of at most n, one for each number of a run
pub each_run : {B : Type 0} (f : ℕ → List B) (n : ℕ) → ((x : ℕ) → length (f x) ≤ n) → (a k : ℕ) → length (each f (run a k)) ≤ k * n
unfolding each run
each_run f n h a zero = omega arith
each_run f n h a (suc k) = omega (arith, length-append (f a) (each f (run (suc a) k)), h a, each_run f n h (suc a) k)

-- lists of which each is at most n times what g says
pub each_times : {A B : Type 0} (f : A → List B) (g : A → ℕ) (n : ℕ) → ((x : A) → length (f x) ≤ g x * n) → (xs : List A) → length (each f xs) ≤ sum (map g xs) * n
unfolding each sum
each_times f g n h [] = omega arith
each_times f g n h (x ∷ xs) = omega (arith, length-append (f x) (each f xs), h x, each_times f g n h xs)

-- one that passes a test, where some are kept
pub keep_some : {A : Type 0} (f : A → Bool) (xs : List A) → 1 ≤ length (keep f xs) → (x : A) × Memᴰ x xs × (f x ≡ true)
unfolding keep
keep_some f [] h = absurd (omega arith)
keep_some {A} f (x ∷ xs) h = go (f x) refl h (keep_some f xs)
  where
    Found : List A → Type 0
    Found l = (y : A) × Memᴰ y l × (f y ≡ true)

    go : (b : Bool) → f x ≡ b → 1 ≤ length (if b (x ∷ keep f xs) (keep f xs)) → (1 ≤ length (keep f xs) → Found xs) → Found (x ∷ xs)
    go true e h ih = (x, Memᴰ.head refl, e)
    go false e h ih = let r = ih h in (r.0, Memᴰ.tail r.1, r.2)
