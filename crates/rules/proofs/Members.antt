-- Membership in the lists that `keep`, `each` and `run` make.
use mathlib.Core.Path.{◌≡◌, refl, sym, ◌∙◌, subst}
use mathlib.Core.Logic.{◌⊎◌, inl, inr}
use mathlib.Core.Bool.{Bool, true, false, false≢true}
use mathlib.Core.List.Memᴰ
use mathlib.Core.List.{List, [], ◌∷◌, Memᴰ}
use Prim.Native.Nat.{ℕ, zero, suc, ◌+◌, ◌≤◌, ◌<◌}
use native.Mathlib.Omega.{arith}
use lib.Dec.{ltb}
use borrow.Author.Tests.{ltb-true, ltb-false}
use Rattle.rules.specs.Lists.{run, if, keep, each}

-- what f makes of a member is there, and nothing else
pub each_in : {A B : Type 0} (f : A → List B) (xs : List A) {x : A} {b : B} → Memᴰ x xs → Memᴰ b (f x) → Memᴰ b (each f xs)
unfolding each
each_in {A = A} {B = B} f [] {x = x} {b = b} m h = elim m [ ]
each_in f (y ∷ ys) {x} {b} (Memᴰ.head e) h = Memᴰ.append_left (each f ys) (subst (λ z. Memᴰ b (f z)) e h)
each_in f (y ∷ ys) (Memᴰ.tail m) h = Memᴰ.append_right (f y) (each_in f ys m h)

pub each_out : {A B : Type 0} (f : A → List B) (xs : List A) {b : B} → Memᴰ b (each f xs) → (x : A) × Memᴰ x xs × Memᴰ b (f x)
unfolding each
each_out f [] m = absurd (Memᴰ.not-nil m)
each_out f (y ∷ ys) {b} m = go (Memᴰ.append_cases (f y) m) (λ m. each_out f ys m)
  where
    go : Memᴰ b (f y) ⊎ Memᴰ b (each f ys) → (Memᴰ b (each f ys) → (x : _) × Memᴰ x ys × Memᴰ b (f x)) → (x : _) × Memᴰ x (y ∷ ys) × Memᴰ b (f x)
    go (inl m) ih = (y, Memᴰ.head refl, m)
    go (inr m) ih = ((ih m).0, Memᴰ.tail (ih m).1, (ih m).2)

-- what is kept passes the test
pub keep_passes : {A : Type 0} (f : A → Bool) (xs : List A) {x : A} → Memᴰ x (keep f xs) → f x ≡ true
unfolding keep
keep_passes f [] m = absurd (Memᴰ.not-nil m)
keep_passes f (y ∷ ys) {x} m = go (f y) refl m (λ m. keep_passes f ys m)
  where
    here : f y ≡ true → (x ≡ y) ⊎ Memᴰ x (keep f ys) → (Memᴰ x (keep f ys) → f x ≡ true) → f x ≡ true
    here p (inl e) ih = rw e p
    here p (inr m) ih = ih m

    go : (b : Bool) → f y ≡ b → Memᴰ x (if b (y ∷ keep f ys) (keep f ys)) → (Memᴰ x (keep f ys) → f x ≡ true) → f x ≡ true
    go true p m ih = here p (Memᴰ.cases_cons m) ih
    go false p m ih = ih m

-- the numbers of a run that pass a test are kept, and nothing else
pub keep_run_in : (f : ℕ → Bool) (a n x : ℕ) → a ≤ x → x < a + n → f x ≡ true → Memᴰ x (keep f (run a n))
unfolding keep run
keep_run_in f a zero x h l e = absurd (omega arith)
keep_run_in f a (suc n) x h l e = go (f a) (ltb a x) refl refl (λ h. keep_run_in f (suc a) n x h (omega arith) e)
  where
    go : (b c : Bool) → f a ≡ b → ltb a x ≡ c → (suc a ≤ x → Memᴰ x (keep f (run (suc a) n))) → Memᴰ x (if b (a ∷ keep f (run (suc a) n)) (keep f (run (suc a) n)))
    go true true p q ih = Memᴰ.tail (ih (ltb-true a x q))
    go false true p q ih = ih (ltb-true a x q)
    go true false p q ih = let k : x ≡ a = omega (arith, ltb-false) in Memᴰ.head k
    go false false p q ih = let k : x ≡ a = omega (arith, ltb-false) in absurd (false≢true (sym p ∙ (rw k at e)))

pub keep_run_out : (f : ℕ → Bool) (a n x : ℕ) → Memᴰ x (keep f (run a n)) → (a ≤ x) × (x < a + n) × (f x ≡ true)
unfolding keep run
keep_run_out f a zero x m = absurd (Memᴰ.not-nil m)
keep_run_out f a (suc n) x m = go (f a) refl m (λ m. keep_run_out f (suc a) n x m)
  where
    at : f a ≡ true → (x ≡ a) ⊎ Memᴰ x (keep f (run (suc a) n)) → (Memᴰ x (keep f (run (suc a) n)) → (suc a ≤ x) × (x < suc a + n) × (f x ≡ true)) → (a ≤ x) × (x < a + suc n) × (f x ≡ true)
    at p (inl e) ih = (omega arith, omega arith, rw e p)
    at p (inr m) ih = let r = ih m in (omega arith, omega arith, r.2)

    go : (b : Bool) → f a ≡ b → Memᴰ x (if b (a ∷ keep f (run (suc a) n)) (keep f (run (suc a) n))) → (Memᴰ x (keep f (run (suc a) n)) → (suc a ≤ x) × (x < suc a + n) × (f x ≡ true)) → (a ≤ x) × (x < a + suc n) × (f x ≡ true)
    go true p m ih = at p (Memᴰ.cases_cons m) ih
    go false p m ih = let r = ih m in (omega arith, omega arith, r.2)
