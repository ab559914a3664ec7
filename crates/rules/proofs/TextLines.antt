-- Which line of an input is bad, and that refusal 18 tells the lowest that is. Each check says that one line is bad, but for one
-- thing: a last line without its end may be line 1 or 2. Such a line is missing from those that have an end, and a missing
-- line is empty, which is no template and no number: so its own check has told it already.
use mathlib.Core.Path.{◌≡◌, refl, sym, ◌∙◌}
use mathlib.Core.Logic.Iff
use mathlib.Core.Logic.{◌↔◌}
use mathlib.Core.Bool.{Bool, true, false, not, false≢true}
use mathlib.Core.List.{List, []}
use Prim.Native.Nat.{ℕ, zero, suc, ◌≤◌, ◌<◌}
use native.Mathlib.Omega.{arith}
use lib.Dec.{ltb}
use lib.ListN.{length, get_or, get_or-eq_default}
use borrow.Author.Tests.{ltb-true, ltb-false, lt-ltb}
use Rattle.rules.specs.Limits.{text_bytes, text_quorum_digits}
use Rattle.rules.specs.Lists.{has_some}
use Rattle.rules.specs.Refusals.{◌else◌, first}
use Rattle.rules.specs.Text.{is_well_formed, parse_number, parse_components, lines, unended, refuse_line, nth_line, text_checks}
use Rattle.rules.specs.TextRefused.{NumberText, TemplateText, BadLine, too_long, missing, no_template, no_quorum, no_end, LowestBad}
use Rattle.rules.specs.Told.{Verdict, fine, refused}
use Rattle.rules.proofs.Prefix.{some_length, length_some}
use Rattle.rules.proofs.Tests.{fails, not_passes}
use Rattle.rules.proofs.TextNumbers.{number_well, number_some}
use Rattle.rules.proofs.TextTemplate.{template_well, template_some}
use Rattle.rules.proofs.Verdicts.{never, first_cons, refuse_at_fine}

module _ (input : List ℕ) where
  -- what each test says
  long_says : (ltb text_bytes (length input) ≡ true) ↔ (text_bytes < length input)
  long_says = (ltb-true text_bytes (length input), lt-ltb text_bytes (length input))

  template_says : (not (is_well_formed (parse_components (nth_line input 1))) ≡ true) ↔ (TemplateText (nth_line input 1) → ⊥)
  template_says = Iff.trans (not_passes _) (fails _ (template_well (nth_line input 1)))

  quorum_says : (not (is_well_formed (parse_number text_quorum_digits (nth_line input 2))) ≡ true) ↔ (NumberText text_quorum_digits (nth_line input 2) → ⊥)
  quorum_says = Iff.trans (not_passes _) (fails _ (number_well text_quorum_digits (nth_line input 2)))

  end_says : (has_some (unended input) ≡ true) ↔ (1 ≤ length (unended input))
  end_says = (some_length (unended input), length_some (unended input))

  -- a missing line is empty, and so neither a template nor a number
  no_line : (p : ℕ) → length (lines input) ≤ p → get_or (lines input) p [] ≡ []
  no_line p h = get_or-eq_default (lines input) [] h

  -- a line is bad only if the test of its number says so
  bad_0 : BadLine input 0 → text_bytes < length input
  bad_0 (too_long e h) = h
  bad_0 (missing a b h) = absurd (omega arith)
  bad_0 (no_template e l h) = absurd (omega (arith, e))
  bad_0 (no_quorum e l h) = absurd (omega (arith, e))
  bad_0 (no_end e h) = absurd (omega (arith, e))

  bad_1 : BadLine input 1 → TemplateText (nth_line input 1) → ⊥
  bad_1 (too_long e h) t = omega (arith, e)
  bad_1 (missing a b h) t = template_some (rw (no_line 0 (omega arith)) at t)
  bad_1 (no_template e l h) t = h t
  bad_1 (no_quorum e l h) t = omega (arith, e)
  bad_1 (no_end e h) t = template_some (rw (no_line 0 (omega (arith, e))) at t)

  bad_2 : BadLine input 2 → NumberText text_quorum_digits (nth_line input 2) → ⊥
  bad_2 (too_long e h) t = omega (arith, e)
  bad_2 (missing a b h) t = number_some text_quorum_digits (rw (no_line 1 (omega arith)) at t)
  bad_2 (no_template e l h) t = omega (arith, e)
  bad_2 (no_quorum e l h) t = h t
  bad_2 (no_end e h) t = number_some text_quorum_digits (rw (no_line 1 (omega (arith, e))) at t)

  bad_later : (p : ℕ) → 3 ≤ p → BadLine input p → (p ≡ suc (length (lines input))) × (1 ≤ length (unended input))
  bad_later p l (too_long e h) = absurd (omega (arith, e))
  bad_later p l (missing a b h) = absurd (omega arith)
  bad_later p l (no_template e k h) = absurd (omega (arith, e))
  bad_later p l (no_quorum e k h) = absurd (omega (arith, e))
  bad_later p l (no_end e h) = (e, h)

  -- and it is bad if the test says so
  at_1 : (TemplateText (nth_line input 1) → ⊥) → BadLine input 1
  at_1 h = go (ltb (length (lines input)) 1) refl
    where
      go : (z : Bool) → ltb (length (lines input)) 1 ≡ z → BadLine input 1
      go true e = missing (omega arith) (omega arith) (ltb-true _ _ e)
      go false e = no_template refl (ltb-false _ _ e) h

  at_2 : (NumberText text_quorum_digits (nth_line input 2) → ⊥) → BadLine input 2
  at_2 h = go (ltb (length (lines input)) 2) refl
    where
      go : (z : Bool) → ltb (length (lines input)) 2 ≡ z → BadLine input 2
      go true e = missing (omega arith) (omega arith) (ltb-true _ _ e)
      go false e = no_quorum refl (ltb-false _ _ e) h

  -- a line of which no test up to its own speaks is not bad
  not_bad : (p : ℕ) → ltb text_bytes (length input) ≡ false
      → (1 ≤ p → not (is_well_formed (parse_components (nth_line input 1))) ≡ false)
      → (2 ≤ p → not (is_well_formed (parse_number text_quorum_digits (nth_line input 2))) ≡ false)
      → (3 ≤ p → p ≡ suc (length (lines input)) → has_some (unended input) ≡ false)
      → BadLine input p → ⊥
  not_bad zero a b c d h = false≢true (sym a ∙ long_says.1 (bad_0 h))
  not_bad (suc zero) a b c d h = false≢true (sym (b (omega arith)) ∙ template_says.1 (bad_1 h))
  not_bad (suc (suc zero)) a b c d h = false≢true (sym (c (omega arith)) ∙ quorum_says.1 (bad_2 h))
  not_bad (suc (suc (suc p))) a b c d h =
      let r = bad_later (suc (suc (suc p))) (omega arith) h in
      false≢true (sym (d (omega arith) r.0) ∙ end_says.1 r.1)

  -- what is told is the lowest bad line
  told_lowest : (n p : ℕ) → first (text_checks input) ≡ refused n p → (n ≡ 18) × LowestBad input p
  unfolding first text_checks ◌else◌
  told_lowest n p e = go (ltb text_bytes (length input)) refl (not (is_well_formed (parse_components (nth_line input 1)))) refl
      (not (is_well_formed (parse_number text_quorum_digits (nth_line input 2)))) refl (has_some (unended input)) refl e
    where
      at : {q : ℕ} → refused 18 q ≡ refused n p → LowestBad input q → (n ≡ 18) × LowestBad input p
      at {q} e l = let k : q ≡ p = cc in (cc, rw k at l)

      go : (a : Bool) → ltb text_bytes (length input) ≡ a → (b : Bool) → not (is_well_formed (parse_components (nth_line input 1))) ≡ b
          → (c : Bool) → not (is_well_formed (parse_number text_quorum_digits (nth_line input 2))) ≡ c → (d : Bool) → has_some (unended input) ≡ d
          → refuse_line a 0 else (refuse_line b 1 else (refuse_line c 2 else (refuse_line d (suc (length (lines input))) else fine))) ≡ refused n p
          → (n ≡ 18) × LowestBad input p
      go true ea b eb c ec d ed e = at e (record { bad = too_long refl (long_says.0 ea); before = λ q h. absurd (omega arith) })
      go false ea true eb c ec d ed e = at e (record {
        bad = at_1 (template_says.0 eb);
        before = λ q h. not_bad q ea (λ l. absurd (omega arith)) (λ l. absurd (omega arith)) (λ l. absurd (omega arith));
      })
      go false ea false eb true ec d ed e = at e (record {
        bad = at_2 (quorum_says.0 ec);
        before = λ q h. not_bad q ea (λ _. eb) (λ l. absurd (omega arith)) (λ l. absurd (omega arith));
      })
      go false ea false eb false ec true ed e = at e (record {
        bad = no_end refl (end_says.0 ed);
        before = λ q h. not_bad q ea (λ _. eb) (λ _. ec) (λ l r. absurd (omega (arith, r)));
      })
      go false ea false eb false ec false ed e = never n p (sym e)

  -- if none is told, no test says anything, and so none is bad
  pub text_passes : first (text_checks input) ≡ fine
      → (ltb text_bytes (length input) ≡ false) × (not (is_well_formed (parse_components (nth_line input 1))) ≡ false)
      × (not (is_well_formed (parse_number text_quorum_digits (nth_line input 2))) ≡ false) × (has_some (unended input) ≡ false)
  unfolding text_checks
  text_passes e =
      let r = (first_cons _ _).0 e in
      let s = (first_cons _ _).0 r.1 in
      let t = (first_cons _ _).0 s.1 in
      let u = (first_cons _ _).0 t.1 in
      ((refuse_at_fine _ 18 0).0 r.0, (refuse_at_fine _ 18 1).0 s.0, (refuse_at_fine _ 18 2).0 t.0, (refuse_at_fine _ 18 _).0 u.0)

  told_none : first (text_checks input) ≡ fine → (p : ℕ) → BadLine input p → ⊥
  told_none e p = let r = text_passes e in not_bad p r.0 (λ _. r.1) (λ _. r.2) (λ _ _. r.3)

  -- there is one lowest
  one_lowest : (p q : ℕ) → LowestBad input p → LowestBad input q → p ≡ q
  one_lowest p q a b = go (ltb p q) refl (ltb q p) refl
    where
      go : (s : Bool) → ltb p q ≡ s → (t : Bool) → ltb q p ≡ t → p ≡ q
      go true e t f = absurd (b.before p (ltb-true p q e) a.bad)
      go false e true f = absurd (a.before q (ltb-true q p f) b.bad)
      go false e false f = omega (arith, ltb-false p q e, ltb-false q p f)

  -- an input is refused with its lowest bad line, and is fine exactly if it has none
  pub refused_lowest : (n p : ℕ) → (first (text_checks input) ≡ refused n p) ↔ ((n ≡ 18) × LowestBad input p)
  refused_lowest n p = (told_lowest n p, λ h. go (first (text_checks input)) refl h.0 h.1)
    where
      go : (v : Verdict) → first (text_checks input) ≡ v → n ≡ 18 → LowestBad input p → v ≡ refused n p
      go fine e h l = absurd (told_none e p l.bad)
      go (refused m q) e h l = let r = told_lowest m q e in rw (r.0, h, one_lowest q p r.1 l)

  pub fine_none : (first (text_checks input) ≡ fine) ↔ ((p : ℕ) → BadLine input p → ⊥)
  fine_none = (told_none, λ h. go (first (text_checks input)) refl h)
    where
      go : (v : Verdict) → first (text_checks input) ≡ v → ((p : ℕ) → BadLine input p → ⊥) → v ≡ fine
      go fine e h = refl
      go (refused m q) e h = absurd (h q (told_lowest m q e).1.bad)
