-- Laws of tests joined by `&&`, `||` and `not`.
use mathlib.Core.Path.{◌≡◌, refl, sym}
use mathlib.Core.Logic.Iff
use mathlib.Core.Logic.{◌↔◌, ◌⊎◌, inl, inr, ⊎_map, ⊎_elim}
use mathlib.Core.Bool.{Bool, true, false, ◌&&◌, ◌||◌, not, false≢true}

-- either of two tests fails to apply exactly if neither applies
pub neither : (a b : Bool) → (a || b ≡ false) ↔ ((a ≡ false) × (b ≡ false))
neither false b = (λ e. (refl, e), λ h. h.1)
neither true b = (λ e. absurd (false≢true (sym e)), λ h. h.0)

-- both of two tests pass exactly if each does
pub both : (a b : Bool) → (a && b ≡ true) ↔ ((a ≡ true) × (b ≡ true))
both true b = (λ e. (refl, e), λ h. h.1)
both false b = (λ e. absurd (false≢true e), λ h. h.0)

-- a test that must not fail passes
pub not_false : (b : Bool) → (not b ≡ false) ↔ (b ≡ true)
not_false true = (λ e. refl, λ e. refl)
not_false false = (λ e. sym e, λ e. sym e)

-- and one that must fail fails
pub not_passes : (b : Bool) → (not b ≡ true) ↔ (b ≡ false)
not_passes true = (λ e. sym e, λ e. sym e)
not_passes false = (λ e. refl, λ e. refl)

-- a test fails exactly if what it says does not hold
pub fails : {P : Type 0} (b : Bool) → (b ≡ true) ↔ P → (b ≡ false) ↔ (P → ⊥)
fails true p = (λ e. absurd (false≢true (sym e)), λ h. absurd (h (p.0 refl)))
fails false p = (λ e h. false≢true (p.1 h), λ h. refl)

-- a test or one that passes
pub or_true : (b : Bool) → b || true ≡ true
or_true true = refl
or_true false = refl

-- one of two tests that together pass does
pub or_cases : (a b : Bool) → a || b ≡ true → (a ≡ true) ⊎ (b ≡ true)
or_cases true b e = inl refl
or_cases false b e = inr e

-- a test and one that passes, or fails
pub and_true : (b : Bool) → b && true ≡ b
and_true true = refl
and_true false = refl

pub and_false : (b : Bool) → b && false ≡ false
and_false true = refl
and_false false = refl

-- WHAT TESTS SAY. Two that each say something together say both
pub two : {P Q : Type 0} (a b : Bool) → (a ≡ true) ↔ P → (b ≡ true) ↔ Q → (a && b ≡ true) ↔ (P × Q)
two a b p q = (λ e. let h = (both a b).0 e in (p.0 h.0, q.0 h.1), λ h. (both a b).1 (p.1 h.0, q.1 h.1))

-- either of two says one or the other
pub either : {P Q : Type 0} (a b : Bool) → (a ≡ true) ↔ P → (b ≡ true) ↔ Q → (a || b ≡ true) ↔ (P ⊎ Q)
either a b p q = (λ e. ⊎_map p.0 q.0 (or_cases a b e), ⊎_elim (λ x. rw (p.1 x)) (λ y. rw (q.1 y) (or_true a)))

-- one that fails denies what it says
pub denied : {P : Type 0} (b : Bool) → (b ≡ true) ↔ P → (b ≡ false) ↔ (P → ⊥)
denied true p = (λ e x. false≢true (sym e), λ f. absurd (f (p.0 refl)))
denied false p = (λ e x. false≢true (p.1 x), λ f. refl)

-- of two that do not both pass one fails, or the other
pub one_fails : {P Q : Type 0} (a b : Bool) → (a ≡ false) ↔ P → (b ≡ false) ↔ Q → (a && b ≡ false) ↔ (P ⊎ Q)
one_fails true b p q = (λ e. inr (q.0 e), ⊎_elim (λ x. absurd (false≢true (sym (p.1 x)))) (λ y. q.1 y))
one_fails false b p q = (λ e. inl (p.0 refl), λ x. refl)

-- and so of three
pub of_three_fails : {P Q R : Type 0} (a b c : Bool) → (a ≡ false) ↔ P → (b ≡ false) ↔ Q → (c ≡ false) ↔ R → (a && b && c ≡ false) ↔ (P ⊎ Q ⊎ R)
of_three_fails {P} {Q} {R} a b c p q r = Iff.trans (one_fails (a && b) c (one_fails a b p q) r) (on, back)
  where
    on : (P ⊎ Q) ⊎ R → P ⊎ Q ⊎ R
    on (inl (inl x)) = inl x
    on (inl (inr y)) = inr (inl y)
    on (inr z) = inr (inr z)

    back : P ⊎ Q ⊎ R → (P ⊎ Q) ⊎ R
    back (inl x) = inl (inl x)
    back (inr (inl y)) = inl (inr y)
    back (inr (inr z)) = inr z
