-- What holds of every member of a list, and a test of every one of it, `all_pass`.
use mathlib.Core.Path.{◌≡◌, refl}
use mathlib.Core.Logic.{◌↔◌, ⊎_elim}
use mathlib.Core.Bool.{Bool, true}
use mathlib.Core.List.Memᴰ
use mathlib.Core.List.{List, [], ◌∷◌, ◌++◌, Memᴰ}
use Prim.Native.Nat.{ℕ, zero, suc, ◌<◌}
use native.Mathlib.Omega.{arith}
use lib.Dec.{eqb}
use lib.ListN.{length, get_or, replicate}
use borrow.Author.Tests.{eqb-true, eq-eqb}
use Rattle.rules.specs.Lists.{all_pass}
use Rattle.rules.proofs.Tests.{both}

-- an empty list has no member that it could fail to hold of
pub no_member : {A : Type 0} (P : A → Type 0) (x : A) → Memᴰ x [] → P x
no_member P x m = absurd (Memᴰ.not-nil m)

-- what holds of the first and of each of the others holds of each
pub members : {A : Type 0} (P : A → Type 0) {y : A} {l : List A} → P y → ((x : A) → Memᴰ x l → P x) → (x : A) → Memᴰ x (y ∷ l) → P x
members P p h x m = ⊎_elim (λ e. rw e p) (h x) (Memᴰ.cases_cons m)

-- what holds of each of two lists holds of each of both end to end
pub members_append : {A : Type 0} (P : A → Type 0) (k l : List A) → ((x : A) → Memᴰ x k → P x) → ((x : A) → Memᴰ x l → P x) → (x : A) → Memᴰ x (k ++ l) → P x
members_append P k l f g x m = ⊎_elim (f x) (g x) (Memᴰ.append_cases k m)

-- every one passes a test exactly if each member does
pub all_members : {A : Type 0} (f : A → Bool) (l : List A) → (all_pass f l ≡ true) ↔ ((x : A) → Memᴰ x l → f x ≡ true)
unfolding all_pass
all_members f [] = (λ e. no_member _, λ h. refl)
all_members f (y ∷ l) =
    let b = both (f y) (all_pass f l) in
    let r = all_members f l in (
      λ e. members _ (b.0 e).0 (r.0 (b.0 e).1),
      λ h. b.1 (h y (Memᴰ.head refl), r.1 (λ x m. h x (Memᴰ.tail m))),
    )

-- what stands at an index is a member
pub member_at : {A : Type 0} (l : List A) (i : ℕ) (d : A) → i < length l → Memᴰ (get_or l i d) l
member_at [] i d h = absurd (omega arith)
member_at (x ∷ l) zero d h = Memᴰ.head refl
member_at (x ∷ l) (suc i) d h = Memᴰ.tail (member_at l i d (omega arith))

-- a list of one number alone is so many of it
pub all_one : (v : ℕ) (l : List ℕ) → all_pass (λ b. eqb b v) l ≡ true → l ≡ replicate (length l) v
unfolding all_pass
all_one v [] e = refl
all_one v (x ∷ l) e = let p = (both (eqb x v) _).0 e in let h = eqb-true x v p.0 in rw (h, ← (all_one v l p.1))

-- so many of a number are that number alone
pub one_all : (v n : ℕ) → all_pass (λ b. eqb b v) (replicate n v) ≡ true
unfolding all_pass
one_all v zero = refl
one_all v (suc n) = (both (eqb v v) _).1 (eq-eqb v v refl, one_all v n)
