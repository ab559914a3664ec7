-- Laws of the ordered checks: none of a list refuses exactly if each is fine, which goes check by check; and the first
-- bad one of a list, which is not at any index before.
use Rattle.std.specs.Prelude.{Result, Ok, Err, IsErr, IsErrAnd}
use mathlib.Core.Path.{◌≡◌, refl, sym}
use mathlib.Core.Logic.{◌↔◌}
use mathlib.Core.Bool.{Bool, true, false, false≢true}
use mathlib.Core.List.{List, [], ◌∷◌, ◌++◌, map}
use Prim.Native.Nat.{ℕ, zero, suc, ◌+◌, ◌≤◌, ◌<◌}
use native.Mathlib.Nat.{zero-add}
use native.Mathlib.Omega.{arith}
use lib.Dec.{ltb}
use lib.ListN.{length, get_or, take}
use lib.Seq.{get_or-take, length-take-le}
use borrow.Author.Tests.{ltb-false, le-ltb}
use Rattle.rules.specs.Lists.{if}
use Rattle.rules.specs.Refusals.{◌else◌, first, refuse_if, first_bad, outside}
use Rattle.rules.specs.Told.{Verdict, fine, refused, refuses, refusal_number, refusal_place, told_checked, told_answer}
use Rattle.rules.specs.declared.Refusal.{Refusal}
use Rattle.rules.proofs.Tests.{neither}

-- a refusal is not fine
pub never : {A : Type 0} (n p : ℕ) → refused n p ≡ fine → A
never n p e = let z : ◌≡◌ {A = ℕ} 0 1 = cc in absurd (omega arith)

-- a number is not outside low to high exactly if it lies there
pub inside : (low high x : ℕ) → (outside low high x ≡ false) ↔ ((low ≤ x) × (x ≤ high))
inside low high x = (
  λ e. let h = (neither (ltb x low) (ltb high x)).0 e in (ltb-false x low h.0, ltb-false high x h.1),
  λ h. (neither (ltb x low) (ltb high x)).1 (le-ltb x low h.0, le-ltb high x h.1),
)

-- THE FIRST OF TWO
-- the first of three does not depend on which two are taken together
pub else_assoc : (u v w : Verdict) → (u else v) else w ≡ u else (v else w)
unfolding ◌else◌
else_assoc fine v w = refl
else_assoc (refused n p) v w = refl

-- nothing found, first or last, changes nothing
pub fine_else : (v : Verdict) → fine else v ≡ v
unfolding ◌else◌
fine_else v = refl

-- and a refusal stays, whatever comes after it
pub refused_else : (n p : ℕ) (v : Verdict) → refused n p else v ≡ refused n p
unfolding ◌else◌
refused_else n p v = refl

pub else_fine : (v : Verdict) → v else fine ≡ v
unfolding ◌else◌
else_fine fine = refl
else_fine (refused n p) = refl

-- neither of two refuses exactly if both are fine
pub else_both : (v w : Verdict) → (v else w ≡ fine) ↔ ((v ≡ fine) × (w ≡ fine))
unfolding ◌else◌
else_both fine w = (λ e. (refl, e), λ h. h.1)
else_both (refused n p) w = (λ e. never n p e, λ h. h.0)

-- THE FIRST OF A LIST
-- the first of two lists, one after the other, is the first of the first, or else of the second
pub first_append : (us vs : List Verdict) → first (us ++ vs) ≡ first us else first vs
unfolding first
first_append [] vs = sym (fine_else (first vs))
first_append (u ∷ us) vs = rw (first_append us vs) (sym (else_assoc u (first us) (first vs)))

-- none of two lists, one after the other, refuses exactly if none of either does
pub first_both : (us vs : List Verdict) → (first (us ++ vs) ≡ fine) ↔ ((first us ≡ fine) × (first vs ≡ fine))
first_both us vs = rw (first_append us vs) (else_both (first us) (first vs))

-- the same of a check and the list of those after it: a list is built up by it, and taken apart
pub first_cons : (v : Verdict) (vs : List Verdict) → (first (v ∷ vs) ≡ fine) ↔ ((v ≡ fine) × (first vs ≡ fine))
unfolding first
first_cons v vs = else_both v (first vs)

-- where none refuses, the check at i is fine
pub none_of : (vs : List Verdict) → first vs ≡ fine → (i : ℕ) → get_or vs i fine ≡ fine
none_of [] e i = refl
none_of (v ∷ vs) e zero = ((first_cons v vs).0 e).0
none_of (v ∷ vs) e (suc i) = none_of vs ((first_cons v vs).0 e).1 i

-- and back: each check of a list is fine, one after the other, and so none refuses
abbrev pub Fine : List Verdict → Type 0
Fine [] = Unit {0}
Fine (v ∷ vs) = (v ≡ fine) × Fine vs

pub all_fine : (vs : List Verdict) → Fine vs → first vs ≡ fine
unfolding first
all_fine [] h = refl
all_fine (v ∷ vs) h = (first_cons v vs).1 (h.0, all_fine vs h.1)

-- ONE CHECK. A test that refuses, with no place or at one
pub refuse_if_fine : (b : Bool) (n : ℕ) → (refuse_if b n ≡ fine) ↔ (b ≡ false)
refuse_if_fine false n = (λ e. refl, λ e. refl)
refuse_if_fine true n = (λ e. never n 0 e, λ e. absurd (false≢true (sym e)))

pub refuse_at_fine : (b : Bool) (n p : ℕ) → (if b (refused n p) fine ≡ fine) ↔ (b ≡ false)
refuse_at_fine false n p = (λ e. refl, λ e. refl)
refuse_at_fine true n p = (λ e. never n p e, λ e. absurd (false≢true (sym e)))

-- THE FIRST BAD ONE, counted from k
module _ {A : Type 0} (n : ℕ) (bad : ℕ → A → Bool) where
  -- it is neither the first nor among the others
  pub bad_cons : (k : ℕ) (x : A) (xs : List A) → (first_bad n bad k (x ∷ xs) ≡ fine) ↔ ((bad k x ≡ false) × (first_bad n bad (suc k) xs ≡ fine))
  unfolding first_bad
  bad_cons k x xs = go (bad k x)
    where
      go : (b : Bool) → (if b (refused n k) (first_bad n bad (suc k) xs) ≡ fine) ↔ ((b ≡ false) × (first_bad n bad (suc k) xs ≡ fine))
      go true = (λ e. never n k e, λ h. absurd (false≢true (sym h.0)))
      go false = (λ e. (refl, e), λ h. h.1)

  -- nor does it matter how they are changed, if what is bad stays bad, and what is not
  pub first_bad_map : (f : A → A) → ((i : ℕ) (x : A) → bad i (f x) ≡ bad i x) → (k : ℕ) (xs : List A) → first_bad n bad k (map f xs) ≡ first_bad n bad k xs
  unfolding first_bad
  first_bad_map f e k [] = refl
  first_bad_map f e k (x ∷ xs) = rw (e k x, first_bad_map f e (suc k) xs)

  module _ (d : A) where
    -- where there is none, the one at i is not bad; and back
    pub none_bad : (k : ℕ) (xs : List A) → first_bad n bad k xs ≡ fine → (i : ℕ) → i < length xs → bad (i + k) (get_or xs i d) ≡ false
    none_bad k [] e i h = absurd (omega arith)
    none_bad k (x ∷ xs) e zero h = rw zero-add ((bad_cons k x xs).0 e).0
    none_bad k (x ∷ xs) e (suc i) h = let q : suc i + k ≡ i + suc k = omega arith in rw q (none_bad (suc k) xs ((bad_cons k x xs).0 e).1 i (omega arith))

    pub all_good : (k : ℕ) (xs : List A) → ((i : ℕ) → i < length xs → bad (i + k) (get_or xs i d) ≡ false) → first_bad n bad k xs ≡ fine
    all_good k [] h = unfold first_bad in refl
    all_good k (x ∷ xs) h = (bad_cons k x xs).1 (rw zero-add at (h 0 (omega arith)), all_good (suc k) xs (λ i l. let q : suc i + k ≡ i + suc k = omega arith in rw q at (h (suc i) (omega arith))))

    -- the same of the first m of a list
    module _ (k m : ℕ) (xs : List A) (l : m ≤ length xs) where
      pub none_bad_in : first_bad n bad k (take m xs) ≡ fine → (i : ℕ) → i < m → bad (i + k) (get_or xs i d) ≡ false
      none_bad_in e i h = rw (get_or-take m xs i d h) at (none_bad k (take m xs) e i (rw (length-take-le m xs l) h))

      pub all_good_in : ((i : ℕ) → i < m → bad (i + k) (get_or xs i d) ≡ false) → first_bad n bad k (take m xs) ≡ fine
      all_good_in f = all_good k (take m xs) (λ i h. let h' : i < m = rw (length-take-le m xs l) at h in rw (get_or-take m xs i d h') (f i h'))

-- A refusal that a `?` hands on
pub handed_on : (q : Result (Unit {0}) Refusal) (r : Refusal) → IsErr q × IsErrAnd q (λ s. s ≡ r) → told_checked q ≡ refused (refusal_number r) (refusal_place r)
handed_on (Ok u) r h = absurd h.1
handed_on (Err s) r h = rw h.1

-- and of a call that gives something
pub answer_handed_on : {A : Type 0} (q : Result A Refusal) (r : Refusal) → IsErr q × IsErrAnd q (λ s. s ≡ r) → told_answer q ≡ refuses (refusal_number r) (refusal_place r)
answer_handed_on (Ok a) r h = absurd h.1
answer_handed_on (Err s) r h = rw h.1

-- CHECKS ONE AFTER ANOTHER, each behind a `?`: what a call is told is the first that refuses. A function of such checks names this set,
-- and what takes its order apart by `else`; then its goals need no answer.
pub ruleset in_turn = (handed_on, answer_handed_on, fine_else, refused_else, else_fine)
