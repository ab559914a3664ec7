-- WHAT EACH REFUSAL SAYS (specs/EachRefusal.antt), proved: each check is a test, and a test that applies says what it tests.
use mathlib.Core.Path.{◌≡◌, refl, sym, ap}
use mathlib.Core.Logic.Iff
use mathlib.Core.Logic.{◌↔◌, ◌⊎◌, inl, inr, ⊎_swap}
use mathlib.Core.Bool.{Bool, true, false, ◌&&◌, not, false≢true}
use mathlib.Core.List.{List, []}
use Prim.Native.Nat.{ℕ, suc, ◌+◌, ◌-◌, ◌*◌, ◌<◌}
use native.Mathlib.Omega.{arith}
use lib.Dec.{eqb, leb, ltb}
use lib.ListN.{length, get_or}
use borrow.Author.Tests.{ltb-true, ltb-false, leb-false, lt-ltb, le-ltb, lt-leb}
use Rattle.rules.specs.EachRefusal.{EachRefusal}
use Rattle.rules.specs.Letters.{value, is_letter}
use Rattle.rules.specs.Limits.{record_bytes, record_extra, template_components, template_length, template_letters, template_mixed, template_gap, sequence_set_sequences, sequence_set_letters}
use Rattle.rules.specs.Lists.{if, sum}
use Rattle.rules.specs.Profile.{profile_of}
use Rattle.rules.specs.Refusals.{refuse_if, outside, bad_byte, bad_length, bad_range, bad_gap, bad_allowance, check1, check2, check3, check4, check5, check6, check7, check8, check9, check10, check11, check12, is_passing, check13, check14, check15, check6_head, check8_range, check16, check17, check21, check22, check23, check24, first_bad}
use Rattle.rules.specs.Refused.{FirstBad, RefusesAt, RefusesIf, Outside, IsLetter, numbered, BadRange, BadGap, WrongKind, NotBlank, PlaceRule, CandidateIn}
use Rattle.rules.specs.Saved.{record_at, record_count, component_count, read_profile, saved_records, has_kind, is_unnamed_blank, is_sized}
use Rattle.rules.specs.Sequences.{sequences}
use Rattle.rules.specs.Template.{components, size, none}
use Rattle.rules.specs.Told.{Verdict, fine, refused}
use Rattle.rules.specs.Walk.{ended_place, walk_in, walk_of, candidate}
use Rattle.rules.specs.declared.Component.{Component}
use Rattle.rules.specs.declared.Search.{Search}
use Rattle.rules.proofs.EachCheck.{same, some_passes, check13_fine, records_counted, record_numbered}
use Rattle.rules.proofs.Exact.{exact_search, exact_most, exact_valid, exact_spells}
use Rattle.rules.proofs.First.{first_bad_at}
use Rattle.rules.proofs.JoinLists.{rising_says}
use Rattle.rules.proofs.Laid.{saved_read, kind_fails, blank_fails, adds_say, laid_says}
use Rattle.rules.proofs.LaidOut.{laid_out_passes}
use Rattle.rules.proofs.Places.{same_place}
use Rattle.rules.proofs.Mixed.{mixed_most, mixed_spells}
use Rattle.rules.proofs.ReadKind.{mixed_saved, saved_length, saved_allowance, kind_read}
use Rattle.rules.proofs.Records.{bytes_counted}
use Rattle.rules.proofs.Spells.{valid_says, place_rule_says}
use Rattle.rules.proofs.Tests.{neither, two, either, denied, one_fails, of_three_fails}
use Rattle.rules.proofs.Tried.{candidate_in}
use Rattle.rules.proofs.Verdicts.{never}

-- ---- one check

-- a test that applies makes a check refuse, at the place k
refuses_at : {P : Type 0} (b : Bool) (n k : ℕ) → (b ≡ true) ↔ P → RefusesAt (if b (refused n k) fine) n (λ p. (p ≡ k) × P)
refuses_at true n k s m p = (λ e. let q : m ≡ n = cc in let z : p ≡ k = cc in (q, (z, s.0 refl)), λ h. rw (h.0, h.1.0))
refuses_at false n k s m p = (λ e. never m p (sym e), λ h. absurd (false≢true (s.1 h.1.1)))

-- or at none
pub refuses_if : {P : Type 0} (b : Bool) (n : ℕ) → (b ≡ true) ↔ P → RefusesIf (refuse_if b n) n P
refuses_if b n = refuses_at b n 0

-- a check that wants a test to pass refuses if it fails
pub not_says : {P : Type 0} (b : Bool) → (b ≡ false) ↔ P → (not b ≡ true) ↔ P
not_says true s = (λ e. absurd (false≢true e), λ x. absurd (false≢true (sym (s.1 x))))
not_says false s = (λ e. s.0 refl, λ x. refl)

refuses_unless : {P : Type 0} (b : Bool) (n : ℕ) → (b ≡ false) ↔ P → RefusesIf (refuse_if (not b) n) n P
refuses_unless b n s = refuses_if (not b) n (not_says b s)

-- ---- numbers

-- a test of numbers that applies, or fails
pub less : (a b : ℕ) → (ltb a b ≡ true) ↔ (a < b)
less a b = (ltb-true a b, lt-ltb a b)

above : (a b : ℕ) → (leb a b ≡ false) ↔ (b < a)
above a b = (leb-false a b, lt-leb a b)

-- a number lies outside its limits
outside_says : (low high x : ℕ) → (outside low high x ≡ true) ↔ Outside low high x
outside_says low high x = either _ _ (less x low) (less high x)

-- two numbers differ
differ : (a b : ℕ) → (eqb a b ≡ false) ↔ (a ≡ b → ⊥)
differ a b = denied (eqb a b) (same a b)

-- ---- the first bad one

-- two ways to be bad that say the same of the things that are counted have the same first one
pub first_same : {P Q : ℕ → Type 0} {v : Verdict} {n k l : ℕ} → ((p : ℕ) → p < k + l → P p ↔ Q p) → RefusesAt v n (FirstBad k l P) → RefusesAt v n (FirstBad k l Q)
first_same {P} {Q} s r m p = (
  λ e. let h = (r m p).0 e in let f = h.1 in
      (h.0, record { least = f.least; most = f.most; bad = (s p f.most).0 f.bad; before = λ q a b c. f.before q a b ((s q (omega (arith, b, f.most))).1 c) }),
  λ h. let f = h.1 in
      (r m p).1 (h.0, record { least = f.least; most = f.most; bad = (s p f.most).1 f.bad; before = λ q a b c. f.before q a b ((s q (omega (arith, b, f.most))).0 c) }),
)

-- a byte is a letter exactly if it is one of the four
pub letter_says : (b : ℕ) → (is_letter b ≡ true) ↔ IsLetter b
unfolding is_letter value
letter_says b = (go (eqb b 65) (eqb b 67) (eqb b 71) (eqb b 84) (same b 65).0 (same b 67).0 (same b 71).0 (same b 84).0, back)
  where
    go : (a c g t : Bool) → (a ≡ true → b ≡ 65) → (c ≡ true → b ≡ 67) → (g ≡ true → b ≡ 71) → (t ≡ true → b ≡ 84) → not (eqb (if a 0 (if c 1 (if g 2 (if t 3 4)))) 4) ≡ true → IsLetter b
    go true c g t A C G T e = inl (A refl)
    go false true g t A C G T e = inr (inl (C refl))
    go false false true t A C G T e = inr (inr (inl (G refl)))
    go false false false true A C G T e = inr (inr (inr (T refl)))
    go false false false false A C G T e = absurd (false≢true e)

    back : IsLetter b → is_letter b ≡ true
    back (inl e) = rw e
    back (inr (inl e)) = rw e
    back (inr (inr (inl e))) = rw e
    back (inr (inr (inr e))) = rw e

-- a range is bad
range_says : (low high : ℕ) → (bad_range low high ≡ true) ↔ BadRange low high
range_says low high = either _ _ (less high low) (less template_gap high)

-- or a component's, where the first one's must be 0, 0
gap_says : (i : ℕ) (c : Component) → (bad_gap i c ≡ true) ↔ BadGap i c
gap_says i c = either _ _ (range_says c.low c.high) (two _ _ (same i 1) (not_says _ (denied _ (two _ _ (same c.low 0) (same c.high 0)))))

-- ---- candidates

module _ (letters lengths : List ℕ) (s : Search) (rule : PlaceRule s.template s.place) where
  -- the place of a search is a candidate
  abbrev Here : Type 0
  Here = CandidateIn s.template s.quorum (sequences letters lengths) s.place

  here_says : (candidate (walk_of letters lengths s) s.place.letters s.place.number ≡ true) ↔ Here
  unfolding walk_in
  here_says =
      let c = candidate_in s.template s.quorum (sequences letters lengths) s.place in
      (λ e. c.0 (record { most = rule.most; below = rule.spells.below; is = e }), λ h. (c.1 h).is)

  -- or the ended place
  ended_says : (eqb s.place.letters 0 && eqb s.place.number 0 ≡ true) ↔ (s.place ≡ ended_place)
  ended_says = Iff.trans (two _ _ (same s.place.letters 0) (same s.place.number 0)) (λ h. same_place s.place ended_place h.0 h.1, λ q. (ap (λ p. p.letters) q, ap (λ p. p.number) q))

  -- the test of 13 passes a candidate and the ended place
  passes_says : (is_passing letters lengths s ≡ true) ↔ (Here ⊎ (s.place ≡ ended_place))
  unfolding is_passing
  passes_says = Iff.trans (either _ _ ended_says here_says) (⊎_swap, ⊎_swap)

  -- and nothing else
  passes_not : (is_passing letters lengths s ≡ false) ↔ ((Here → ⊥) × (s.place ≡ ended_place → ⊥))
  unfolding is_passing
  passes_not = Iff.trans (neither _ _) (λ h. ((denied _ here_says).0 h.1, (denied _ ended_says).0 h.0), λ h. ((denied _ ended_says).1 h.1, (denied _ here_says).1 h.0))

-- ---- saved bytes

-- bytes have not the length that they say
sized_fails : (bs : List ℕ) → (is_sized bs ≡ false) ↔ ((length bs < record_bytes) ⊎ (record_count bs < record_extra) ⊎ (length bs ≡ record_bytes * record_count bs → ⊥))
unfolding is_sized
sized_fails bs = of_three_fails _ _ _ (above record_bytes (length bs)) (above record_extra (record_count bs)) (differ _ _)

-- the first bad one of the records of saved bytes, by what is said of each
records_first : (n : ℕ) (test : ℕ → List ℕ → Bool) (Bad : ℕ → Type 0) (bs : List ℕ) → ((i : ℕ) → i < component_count bs + record_extra → (test i (record_at bs i) ≡ false) ↔ Bad i)
    → RefusesAt (first_bad n (λ i r. not (test i r)) 0 (saved_records bs)) n (FirstBad 0 (component_count bs + record_extra) Bad)
records_first n test Bad bs says =
    let r = rw (records_counted bs) at (first_bad_at n (λ i r. not (test i r)) [] 0 (saved_records bs)) in
    first_same (λ i h. let l : i < component_count bs + record_extra = omega (arith, h) in let z : i - 0 ≡ i = omega arith in rw (z, record_numbered bs i l) (not_says _ (says i l))) r

-- ---- all of them

pub each_refusal : EachRefusal
unfolding check1 check2 check3 check4 check5 check6 check6_head check7 check8 check8_range check9 check10 check11 check12 check13 check14 check15 check16 check17 check21 check22 check23 check24
each_refusal =
    record {
      one = λ lengths. refuses_if _ 1 (outside_says 1 sequence_set_sequences (length lengths));
      two = λ letters. refuses_if _ 2 (less sequence_set_letters (length letters));
      three = λ letters lengths. refuses_unless _ 3 (differ (sum lengths) (length letters));
      four = λ letters. first_same (λ o l. let z : o - 0 ≡ o = omega arith in rw z (not_says _ (denied _ (letter_says (get_or letters o 0))))) (first_bad_at 4 bad_byte 0 0 letters);
      five = λ t. refuses_if _ 5 (outside_says 1 template_components t.count);
      six = λ t. first_same (λ i l. outside_says 1 template_length (numbered t i).length) (first_bad_at 6 bad_length none 1 (components t));
      six_head = λ head. refuses_at _ 6 1 (outside_says 1 template_length head);
      seven = λ t. refuses_if _ 7 (less (profile_of t).most (size t));
      seven_exact = λ t e. rw (exact_most t (exact_search t e)) (refuses_if _ 7 (less template_letters (size t)));
      seven_mixed = λ t e. rw (mixed_most t e) (refuses_if _ 7 (less template_mixed (size t)));
      eight = λ t. first_same (λ i l. gap_says i (numbered t i)) (first_bad_at 8 bad_gap none 1 (components t));
      eight_range = λ low high. refuses_at _ 8 1 (range_says low high);
      nine = λ lengths quorum. refuses_if _ 9 (outside_says 1 (length lengths) quorum);
      ten = λ bs. refuses_unless _ 10 (sized_fails bs);
      eleven = λ bs. records_first 11 (has_kind (component_count bs)) (WrongKind bs) bs (kind_fails bs);
      twelve = λ letters lengths s. refuses_unless _ 12 (one_fails _ _ (differ s.set.sequences (length lengths)) (differ s.set.letters (length letters)));
      thirteen = λ letters lengths s r. refuses_unless _ 13 (passes_not letters lengths s r);
      thirteen_fine = λ letters lengths s r. Iff.trans (check13_fine letters lengths s) (passes_says letters lengths s r);
      fourteen = λ t m. refuses_unless _ 14 (denied _ (valid_says t (size t) m));
      fourteen_exact = λ t e m. rw (exact_valid t (exact_search t e) (size t) m) (refuses_unless _ 14 (ltb-false m _, le-ltb m _));
      spells_exact = exact_spells;
      spells_mixed = mixed_spells;
      fifteen = λ letters lengths t m f. refuses_if _ 15 (less _ f);
      sixteen = λ xs ys. refuses_unless _ 16 (one_fails _ _ (rising_says xs) (rising_says ys));
      seventeen = λ needed out. refuses_if _ 17 (less (length out) needed);
      seventeen_save = bytes_counted;
      twenty_one = λ bs. records_first 21 (is_unnamed_blank (read_profile bs) (component_count bs)) (NotBlank bs) bs (blank_fails bs);
      twenty_two = λ bs few. refuses_unless _ 22 (denied _ (adds_say bs few));
      twenty_three = λ s. refuses_at _ 23 (suc s.template.count) (not_says _ (denied _ (place_rule_says s.template s.place)));
      twenty_three_read = saved_read;
      twenty_three_kind = λ bs. (kind_read bs, mixed_saved bs);
      twenty_three_lengths = saved_length;
      twenty_three_allowances = saved_allowance;
      layout_fine = λ bs few. Iff.trans (Iff.symm (laid_out_passes bs)) (laid_says bs few);
      twenty_four = λ t. refuses_if _ 24 (Iff.trans (some_passes (bad_allowance t.profile) none (components t)) (λ h. (h.0, h.1, ltb-true _ _ h.2), λ h. (h.0, h.1, lt-ltb _ _ h.2)));
    }
