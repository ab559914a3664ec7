-- What each check says, by its number: a check is fine exactly if its sentence holds of the numbers. Each is a test that
-- refuses, or a search for the first bad one of a list.
use mathlib.Core.Path.{◌≡◌, refl, sym, ap, ◌∙◌}
use mathlib.Core.Logic.Iff
use mathlib.Core.Logic.{◌↔◌}
use mathlib.Core.Bool.{Bool, true, false, ◌&&◌, not, false≢true}
use mathlib.Core.List.{List, [], ◌∷◌}
use Prim.Native.Nat.{ℕ, zero, suc, ◌+◌, ◌≤◌, ◌<◌}
use native.Mathlib.Nat.{zero-add, add-zero}
use native.Mathlib.Omega.{arith}
use lib.Dec.{ltb, eqb}
use lib.ListN.{length, get_or}
use borrow.Author.Tests.{ltb-false, le-ltb, eqb-true, eq-eqb, ne_eqb}
use Rattle.rules.specs.Join.{is_rising}
use Rattle.rules.specs.Letters.{is_letter}
use Rattle.rules.specs.Limits.{record_extra, template_components, template_length, template_gap, sequence_set_sequences, sequence_set_letters}
use Rattle.rules.specs.Lists.{if, keep, has_some, sum}
use Rattle.rules.specs.Profile.{profile_of}
use Rattle.rules.specs.Recovery.{whole_list}
use Rattle.rules.specs.Refusals.{refuse_if, bad_byte, bad_length, bad_range, bad_gap, bad_allowance, check1, check2, check3, check4, check5, check6, check7, check8, check9, check10, check11, check12, is_passing, check13, check14, check15, check6_head, check8_range, check16, check17, check21, check22, check23, check24, first_bad}
use Rattle.rules.specs.Saved.{is_sized, record_at, component_count, read_profile, saved_records, has_kind, is_unnamed_blank, adds_up, meets_place_rule}
use Rattle.rules.specs.Sequences.{sequences}
use Rattle.rules.specs.Support.{valid}
use Rattle.rules.specs.Template.{allowance_in, slots, none, components, size}
use Rattle.rules.specs.Told.{fine}
use Rattle.rules.specs.declared.Component.{Component}
use Rattle.rules.specs.declared.Search.{Search}
use Rattle.rules.specs.declared.Template.{Template}
use Rattle.rules.proofs.Over.{length_map_run, getd_map_run}
use Rattle.rules.proofs.Tests.{neither, both, not_false, two, denied}
use Rattle.rules.proofs.Verdicts.{inside, refuse_if_fine, refuse_at_fine, none_bad, all_good, none_bad_in, all_good_in}

not_less : (a b : ℕ) → (ltb a b ≡ false) ↔ (b ≤ a)
not_less a b = (ltb-false a b, le-ltb a b)

-- numbers are the same exactly if the test says so
pub same : (a b : ℕ) → (eqb a b ≡ true) ↔ (a ≡ b)
same a b = (eqb-true a b, eq-eqb a b)

-- a check whose test says nothing against P
says : {P : Type 0} (b : Bool) (n : ℕ) → (b ≡ false) ↔ P → (refuse_if b n ≡ fine) ↔ P
says b n = Iff.trans (refuse_if_fine b n)

-- a check that wants a test to pass
wants : {P : Type 0} (b : Bool) (n : ℕ) → (b ≡ true) ↔ P → (refuse_if (not b) n ≡ fine) ↔ P
wants b n p = says (not b) n (Iff.trans (not_false b) p)

-- some of a list pass a test exactly if one at an index does
pub some_passes : {A : Type 0} (f : A → Bool) (d : A) (xs : List A) → (has_some (keep f xs) ≡ true) ↔ ((i : ℕ) × (i < length xs) × (f (get_or xs i d) ≡ true))
unfolding has_some keep
some_passes f d [] = (λ e. absurd (false≢true e), λ h. absurd (omega (arith, h.1)))
some_passes {A} f d (x ∷ xs) = go (f x) refl (some_passes f d xs)
  where
    Some : List A → Type 0
    Some l = (i : ℕ) × (i < length l) × (f (get_or l i d) ≡ true)

    later : (i : ℕ) → i < length (x ∷ xs) → f (get_or (x ∷ xs) i d) ≡ true → f x ≡ false → Some xs
    later zero l q e = absurd (false≢true (sym e ∙ q))
    later (suc i) l q e = (i, omega arith, q)

    go : (b : Bool) → f x ≡ b → (has_some (keep f xs) ≡ true) ↔ Some xs → (has_some (if b (x ∷ keep f xs) (keep f xs)) ≡ true) ↔ Some (x ∷ xs)
    go true e rest = (λ q. (0, omega arith, e), λ h. refl)
    go false e rest = (λ q. let h = rest.0 q in (suc h.0, omega (arith, h.1), h.2), λ h. rest.1 (later h.0 h.1 h.2 e))

-- and none passes exactly if each fails
none_passes : {A : Type 0} (f : A → Bool) (d : A) (xs : List A) → (has_some (keep f xs) ≡ false) ↔ ((i : ℕ) → i < length xs → f (get_or xs i d) ≡ false)
none_passes f d xs = Iff.trans (denied _ (some_passes f d xs)) (λ h i l. (denied _ Iff.rfl).1 (λ e. h (i, l, e)), λ h k. false≢true (sym (h k.0 k.1) ∙ k.2))

range : (low high : ℕ) → (bad_range low high ≡ false) ↔ ((low ≤ high) × (high ≤ template_gap))
range low high = (
  λ e. let h = (neither (ltb high low) (ltb template_gap high)).0 e in (ltb-false high low h.0, ltb-false template_gap high h.1),
  λ h. (neither (ltb high low) (ltb template_gap high)).1 (le-ltb high low h.0, le-ltb template_gap high h.1),
)

-- 1: the number of sequences lies in its limits
pub check1_fine : (lengths : List ℕ) → (check1 lengths ≡ fine) ↔ ((1 ≤ length lengths) × (length lengths ≤ sequence_set_sequences))
unfolding check1
check1_fine lengths = says _ 1 (inside 1 sequence_set_sequences (length lengths))

-- 2: no more letters than there may be
pub check2_fine : (letters : List ℕ) → (check2 letters ≡ fine) ↔ (length letters ≤ sequence_set_letters)
unfolding check2
check2_fine letters = says _ 2 (not_less sequence_set_letters (length letters))

-- 3: the lengths add up to the buffer
pub check3_fine : (letters lengths : List ℕ) → (check3 letters lengths ≡ fine) ↔ (sum lengths ≡ length letters)
unfolding check3
check3_fine letters lengths = wants _ 3 (same (sum lengths) (length letters))

-- 4: every byte is a letter
pub check4_fine : (letters : List ℕ) → (check4 letters ≡ fine) ↔ ((i : ℕ) → i < length letters → is_letter (get_or letters i 0) ≡ true)
unfolding check4
check4_fine letters = (λ e i h. (not_false _).0 (none_bad 4 bad_byte 0 0 letters e i h), λ f. all_good 4 bad_byte 0 0 letters (λ i h. (not_false _).1 (f i h)))

module _ (t : Template) where
  -- 5: the number of components lies in its limits
  pub check5_fine : (check5 t ≡ fine) ↔ ((1 ≤ t.count) × (t.count ≤ template_components))
  unfolding check5
  check5_fine = says _ 5 (inside 1 template_components t.count)

  -- 7: K is not above its limit
  pub check7_fine : (check7 t ≡ fine) ↔ (size t ≤ (profile_of t).most)
  unfolding check7
  check7_fine = says _ 7 (not_less (profile_of t).most (size t))

  -- 24: no allowance is above its component's length
  pub check24_fine : (check24 t ≡ fine)
      ↔ ((i : ℕ) → i < length (components t) → allowance_in t.profile (get_or (components t) i none) ≤ (get_or (components t) i none).length)
  unfolding check24
  check24_fine = says _ 24 (Iff.trans (none_passes (bad_allowance t.profile) none (components t)) (λ h i l. (not_less _ _).0 (h i l), λ h i l. (not_less _ _).1 (h i l)))

  module _ (few : t.count ≤ template_components) where
    -- 6: the length of each component lies in its limits
    pub check6_fine : (check6 t ≡ fine) ↔ ((i : ℕ) → i < t.count → (1 ≤ (get_or (slots t) i none).length) × ((get_or (slots t) i none).length ≤ template_length))
    unfolding check6 components
    check6_fine = (
      λ e i h. (inside 1 template_length _).0 (none_bad_in 6 bad_length none 1 t.count (slots t) few e i h),
      λ f. all_good_in 6 bad_length none 1 t.count (slots t) few (λ i h. (inside 1 template_length _).1 (f i h)),
    )

    -- of a first component's range
    first_gap : (i : ℕ) (c : Component) → (eqb (i + 1) 1 && not (eqb c.low 0 && eqb c.high 0) ≡ false) ↔ (i ≡ 0 → (c.low ≡ 0) × (c.high ≡ 0))
    first_gap zero c = let z = Iff.trans (not_false _) (two _ _ (same c.low 0) (same c.high 0)) in (λ e q. z.0 e, λ f. z.1 (f refl))
    first_gap (suc i) c = (λ e q. absurd (omega arith), λ f. rw (ne_eqb (suc i + 1) 1 (omega arith)))

    -- 8: each range is one, and the first component's is 0, 0
    pub check8_fine : (check8 t ≡ fine)
        ↔ ((i : ℕ) → i < t.count → ((get_or (slots t) i none).low ≤ (get_or (slots t) i none).high) × ((get_or (slots t) i none).high ≤ template_gap)
        × (i ≡ 0 → ((get_or (slots t) i none).low ≡ 0) × ((get_or (slots t) i none).high ≡ 0)))
    unfolding check8 components
    check8_fine = (
      λ e i h. let b = (neither _ _).0 (none_bad_in 8 bad_gap none 1 t.count (slots t) few e i h) in let r = (range _ _).0 b.0 in
          (r.0, r.1, (first_gap i (get_or (slots t) i none)).0 b.1),
      λ f. all_good_in 8 bad_gap none 1 t.count (slots t) few (λ i h. let r = f i h in
          (neither _ _).1 ((range _ _).1 (r.0, r.1), (first_gap i (get_or (slots t) i none)).1 r.2)),
    )

-- 9: the quorum is 1 to the number of sequences
pub check9_fine : (lengths : List ℕ) (q : ℕ) → (check9 lengths q ≡ fine) ↔ ((1 ≤ q) × (q ≤ length lengths))
unfolding check9
check9_fine lengths q = says _ 9 (inside 1 (length lengths) q)

-- 10: the bytes have the length that they say
pub check10_fine : (bs : List ℕ) → (check10 bs ≡ fine) ↔ (is_sized bs ≡ true)
unfolding check10
check10_fine bs = wants _ 10 Iff.rfl

-- the records of saved bytes, by their numbers: there are so many, and record i is one of them
pub records_counted : (bs : List ℕ) → length (saved_records bs) ≡ component_count bs + record_extra
unfolding saved_records
records_counted bs = length_map_run (record_at bs) 0 _

pub record_numbered : (bs : List ℕ) (i : ℕ) → i < component_count bs + record_extra → get_or (saved_records bs) i [] ≡ record_at bs i
unfolding saved_records
record_numbered bs i h = getd_map_run (record_at bs) [] 0 _ i h ∙ ap (record_at bs) (zero-add i)

-- no record is bad exactly if each passes its test
each_record : (n : ℕ) (test : ℕ → List ℕ → Bool) (bs : List ℕ)
    → (first_bad n (λ i r. not (test i r)) 0 (saved_records bs) ≡ fine) ↔ ((i : ℕ) → i < component_count bs + record_extra → test i (record_at bs i) ≡ true)
each_record n test bs = (
  λ e i h. (not_false (test i (record_at bs i))).0 (rw (add-zero i, record_numbered bs i h) at (none_bad n (λ i r. not (test i r)) [] 0 (saved_records bs) e i (rw (records_counted bs) h))),
  λ f. all_good n (λ i r. not (test i r)) [] 0 (saved_records bs) (λ i h. let l : i < component_count bs + record_extra = rw (records_counted bs) at h in
      rw (add-zero i, record_numbered bs i l) ((not_false (test i (record_at bs i))).1 (f i l))),
)

-- 11: each record has its kind, and a component's its number
pub check11_fine : (bs : List ℕ) → (check11 bs ≡ fine) ↔ ((i : ℕ) → i < component_count bs + record_extra → has_kind (component_count bs) i (record_at bs i) ≡ true)
unfolding check11
check11_fine bs = each_record 11 (has_kind (component_count bs)) bs

-- 21: and 0 in the bytes that the papers do not name
pub check21_fine : (bs : List ℕ) → (check21 bs ≡ fine) ↔ ((i : ℕ) → i < component_count bs + record_extra → is_unnamed_blank (read_profile bs) (component_count bs) i (record_at bs i) ≡ true)
unfolding check21
check21_fine bs = each_record 21 (is_unnamed_blank (read_profile bs) (component_count bs)) bs

-- 22: K is the sum of the lengths
pub check22_fine : (bs : List ℕ) → (check22 bs ≡ fine) ↔ (adds_up bs ≡ true)
unfolding check22
check22_fine bs = wants _ 22 Iff.rfl

-- 23: the place keeps its rule
pub check23_fine : (s : Search) → (check23 s ≡ fine) ↔ (meets_place_rule s.template s.place ≡ true)
unfolding check23
check23_fine s = Iff.trans (refuse_at_fine _ 23 _) (not_false _)

-- 12: the search is over as many sequences and letters as are lent
pub check12_fine : (letters lengths : List ℕ) (s : Search) → (check12 letters lengths s ≡ fine) ↔ ((s.set.sequences ≡ length lengths) × (s.set.letters ≡ length letters))
unfolding check12
check12_fine letters lengths s = wants _ 12 (two _ _ (same s.set.sequences (length lengths)) (same s.set.letters (length letters)))

-- 13: the place is a candidate or the ended place
pub check13_fine : (letters lengths : List ℕ) (s : Search) → (check13 letters lengths s ≡ fine) ↔ (is_passing letters lengths s ≡ true)
unfolding check13
check13_fine letters lengths s = wants _ 13 Iff.rfl

-- 14: the number is a motif's
pub check14_fine : (t : Template) (m : ℕ) → (check14 t m ≡ fine) ↔ (valid t (size t) m ≡ true)
unfolding check14
check14_fine t m = wants _ 14 Iff.rfl

-- 15: the first row is not above the list's length
pub check15_fine : (letters lengths : List ℕ) (t : Template) (m f : ℕ) → (check15 letters lengths t m f ≡ fine) ↔ (f ≤ length (whole_list t (sequences letters lengths) m))
unfolding check15
check15_fine letters lengths t m f = says _ 15 (not_less _ f)

-- a join's 6 and 8: its head is a component's length, and its range is one
pub check6_head_fine : (head : ℕ) → (check6_head head ≡ fine) ↔ ((1 ≤ head) × (head ≤ template_length))
unfolding check6_head
check6_head_fine head = Iff.trans (refuse_at_fine _ 6 1) (inside 1 template_length head)

pub check8_range_fine : (low high : ℕ) → (check8_range low high ≡ fine) ↔ ((low ≤ high) × (high ≤ template_gap))
unfolding check8_range
check8_range_fine low high = Iff.trans (refuse_at_fine _ 8 1) (range low high)

-- 16: both lists rise
pub check16_fine : (xs ys : List ℕ) → (check16 xs ys ≡ fine) ↔ ((is_rising 0 xs ≡ true) × (is_rising 0 ys ≡ true))
unfolding check16
check16_fine xs ys = wants _ 16 (both (is_rising 0 xs) (is_rising 0 ys))

-- 17: there is room
pub check17_fine : (needed : ℕ) (out : List ℕ) → (check17 needed out ≡ fine) ↔ (needed ≤ length out)
unfolding check17
check17_fine needed out = says _ 17 (not_less (length out) needed)
