-- The first check of a list that applies, and the first bad one of a list: what is told is it, and all before it are fine. Both
-- go from the front, so that what stands before the first one found was passed over.
use mathlib.Core.Path.{◌≡◌, refl, sym, ap, ◌∙◌}
use mathlib.Core.Logic.Iff
use mathlib.Core.Logic.{◌↔◌, ◌⊎◌, inl, inr}
use mathlib.Core.Bool.{Bool, true, false, false≢true}
use mathlib.Core.List.{List, [], ◌∷◌}
use Prim.Native.Nat.{ℕ, zero, suc, ◌-◌, ◌<◌}
use native.Mathlib.Nat.{eq-or-lt_of_le}
use native.Mathlib.Omega.{arith}
use lib.ListN.{length, get_or}
use Rattle.rules.specs.Calls.{unless, on_refusal, LegRule, written_unless}
use Rattle.rules.specs.declared.Stop.{Stop}
use Rattle.rules.specs.Lists.{if}
use Rattle.rules.specs.Refusals.{◌else◌, first, first_bad}
use Rattle.rules.specs.Refused.{FirstOf, FirstBad, RefusesAt}
use Rattle.rules.specs.Told.{Verdict, fine, refused, gives, refuses}
use Rattle.rules.proofs.Verdicts.{never}

-- ---- the order

-- a list that begins with a check that applies tells it
first_here : (vs : List Verdict) (n p : ℕ) → FirstOf (refused n p ∷ vs) n p
first_here vs n p = record { at = 0; within = omega arith; applies = refl; before = λ j h. absurd (omega arith) }

-- one that begins with a check that is fine tells what the others do
first_later : (vs : List Verdict) (n p : ℕ) → FirstOf vs n p → FirstOf (fine ∷ vs) n p
first_later vs n p f = record { at = suc f.at; within = omega (arith, f.within); applies = f.applies; before = before }
  where
    before : (j : ℕ) → j < suc f.at → get_or (fine ∷ vs) j fine ≡ fine
    before zero h = refl
    before (suc j) h = f.before j (omega arith)

-- and what it tells, the others do
first_rest : (vs : List Verdict) (n p : ℕ) → FirstOf (fine ∷ vs) n p → FirstOf vs n p
first_rest vs n p f = go f.at f.within f.applies f.before
  where
    go : (i : ℕ) → i < suc (length vs) → get_or (fine ∷ vs) i fine ≡ refused n p → ((j : ℕ) → j < i → get_or (fine ∷ vs) j fine ≡ fine) → FirstOf vs n p
    go zero h e b = never n p (sym e)
    go (suc i) h e b = record { at = i; within = omega arith; applies = e; before = λ j l. b (suc j) (omega arith) }

-- nothing after a check that applies is told
first_is : (k q : ℕ) (vs : List Verdict) (n p : ℕ) → FirstOf (refused k q ∷ vs) n p → refused k q ≡ refused n p
first_is k q vs n p f = go f.at f.applies f.before
  where
    go : (i : ℕ) → get_or (refused k q ∷ vs) i fine ≡ refused n p → ((j : ℕ) → j < i → get_or (refused k q ∷ vs) j fine ≡ fine) → refused k q ≡ refused n p
    go zero e b = e
    go (suc i) e b = never k q (b 0 (omega arith))

-- checks refuse with a number and place exactly if the first of them that applies tells these
pub first_applies : (vs : List Verdict) (n p : ℕ) → (first vs ≡ refused n p) ↔ FirstOf vs n p
unfolding first ◌else◌
first_applies [] n p = (λ e. never n p (sym e), λ f. absurd (omega (arith, f.within)))
first_applies (fine ∷ vs) n p = (λ e. first_later vs n p ((first_applies vs n p).0 e), λ f. (first_applies vs n p).1 (first_rest vs n p f))
first_applies (refused k q ∷ vs) n p = (λ e. rw e (first_here vs n p), λ f. first_is k q vs n p f)

-- ---- the place

module _ {A : Type 0} (n : ℕ) (bad : ℕ → A → Bool) (d : A) where
  -- the one with number p, of those that are counted from k, is bad
  abbrev BadAt : ℕ → List A → ℕ → Type 0
  BadAt k xs p = bad p (get_or xs (p - k) d) ≡ true

  -- the place of a refusal is that of the first bad one
  pub first_bad_at : (k : ℕ) (xs : List A) → RefusesAt (first_bad n bad k xs) n (FirstBad k (length xs) (BadAt k xs))
  unfolding first_bad
  first_bad_at k [] m p = (λ e. never m p (sym e), λ f. absurd (omega (arith, f.1.least, f.1.most)))
  first_bad_at k (x ∷ xs) m p = go (bad k x) refl (first_bad_at (suc k) xs m p)
    where
      Bad : ℕ → Type 0
      Bad q = bad q (get_or (x ∷ xs) (q - k) d) ≡ true

      none : k - k ≡ 0
      none = omega arith

      -- the first one is bad by the test of it, and a later one by the test among the later ones
      here : (q : ℕ) → k ≡ q → Bad q ↔ (bad k x ≡ true)
      here q e = rw (← e, none) Iff.rfl

      there : (q : ℕ) → k < q → Bad q ↔ BadAt (suc k) xs q
      there q h = let z : q - k ≡ suc (q - suc k) = omega arith in rw z Iff.rfl

      -- where the first one is bad, nothing later is told
      at_front : bad k x ≡ true → FirstBad k (suc (length xs)) Bad p → (k ≡ p) ⊎ (k < p) → refused n k ≡ refused n p
      at_front e f (inl q) = ap (refused n) q
      at_front e f (inr l) = absurd (f.before k (omega arith) l ((here k refl).1 e))

      -- where it is not, the first bad one is among the others
      further : bad k x ≡ false → FirstBad k (suc (length xs)) Bad p → (k ≡ p) ⊎ (k < p) → FirstBad (suc k) (length xs) (BadAt (suc k) xs) p
      further e f (inl q) = absurd (false≢true (sym e ∙ (here p q).0 f.bad))
      further e f (inr l) = record { least = l; most = omega (arith, f.most); bad = (there p l).0 f.bad; before = λ q h k b. f.before q (omega arith) k ((there q h).1 b) }

      -- and none before it is bad
      before : bad k x ≡ false → FirstBad (suc k) (length xs) (BadAt (suc k) xs) p → (q : ℕ) → q < p → (k ≡ q) ⊎ (k < q) → Bad q → ⊥
      before e f q h (inl z) b = false≢true (sym e ∙ (here q z).0 b)
      before e f q h (inr l) b = f.before q l h ((there q l).0 b)

      go : (b : Bool) → bad k x ≡ b → (first_bad n bad (suc k) xs ≡ refused m p) ↔ ((m ≡ n) × FirstBad (suc k) (length xs) (BadAt (suc k) xs) p)
          → (if b (refused n k) (first_bad n bad (suc k) xs) ≡ refused m p) ↔ ((m ≡ n) × FirstBad k (suc (length xs)) Bad p)
      go true e ih = (
        λ r. let q : m ≡ n = cc in let z : k ≡ p = cc in (q, record { least = omega arith; most = omega arith; bad = (here p z).1 e; before = λ q h l. absurd (omega arith) }),
        λ f. rw f.0 (at_front e f.1 (eq-or-lt_of_le f.1.least)),
      )
      go false e ih = (
        λ r. let f = ih.0 r in
            (f.0, record { least = omega (arith, f.1.least); most = omega (arith, f.1.most); bad = (there p f.1.least).1 f.1.bad; before = λ q h l. before e f.1 q l (eq-or-lt_of_le h) }),
        λ f. ih.1 (f.0, further e f.1 (eq-or-lt_of_le f.1.least)),
      )

-- ---- what a call tells

-- what is given or written behind checks is refused exactly if they refuse, with their number and place
pub unless_refuses : {A : Type 0} (v : Verdict) (a : A) (n p : ℕ) → (unless v a ≡ refuses n p) ↔ (v ≡ refused n p)
unless_refuses fine a n p = (λ e. cc, λ e. cc)
unless_refuses (refused m q) a n p = (λ e. cc, λ e. cc)

pub written_refuses : {A : Type 0} (v : Verdict) (a : A) (xs out : List ℕ) (n p : ℕ) → ((written_unless v a xs out).told ≡ refuses n p) ↔ (v ≡ refused n p)
written_refuses fine a xs out n p = (λ e. cc, λ e. cc)
written_refuses (refused m q) a xs out n p = (λ e. cc, λ e. cc)

-- and so is a leg, if what it answers otherwise is no refusal
pub leg_refused : (v : Verdict) (f : ℕ → ℕ → LegRule) (l : LegRule) (n p : ℕ) (a : Stop) → ((n p : ℕ) → (f n p).told.answer ≡ refuses n p) → l.told.answer ≡ gives a
    → ((on_refusal v f l).told.answer ≡ refuses n p) ↔ (v ≡ refused n p)
leg_refused fine f l n p a h e = (λ q. cc, λ q. cc)
leg_refused (refused m k) f l n p a h e = (λ q. let r = h m k in cc, λ q. let r = h m k in cc)
