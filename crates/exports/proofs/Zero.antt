-- An exported call answers 0 exactly if none of its checks refuses: every refusal has a number of at least 1.
use mathlib.Core.Path.{◌≡◌, refl, ap}
use mathlib.Core.Logic.{◌↔◌}
use mathlib.Core.Bool.{Bool, true, false, ◌&&◌, not}
use mathlib.Core.List.{List, [], ◌∷◌, ◌++◌, map}
use Prim.Native.Nat.{ℕ, suc, ◌≤◌}
use native.Mathlib.Omega.{arith}
use lib.Dec.{leb, ltb, eqb}
use lib.ListN.{length}
use Rattle.rules.specs.Profile.{profile_of}
use Rattle.rules.specs.Fasta.{Line, Entry, has_no_room, size_of, has_text_first, check_line, check19, check20, check_lines, check4_file, lines_from, entries, next_checks, reader_checks, stays, hands_out, reader_rule}
use Rattle.rules.specs.Support.{valid}
use Rattle.rules.specs.Calls.{on_refusal, begun, unless, written_unless, save_rule, restore_rule, recover_rule, join_rule}
use Rattle.rules.specs.Join.{is_rising}
use Rattle.rules.specs.Limits.{profile_last, template_components, template_length, sequence_set_sequences, sequence_set_letters}
use Rattle.rules.specs.Lists.{if, keep, has_some, sum}
use Rattle.rules.specs.Recovery.{whole_list}
use Rattle.rules.specs.Refusals.{◌else◌, first, first_bad, outside, bad_range, bad_allowance, is_passing, check1, check2, check3, check4, check5, check6, check7, check8, check9, check10, check11, check12, check13, check14, check15, check6_head, check8_range, check16, check17, check21, check22, check23, check24, set_checks, new_checks, restore_checks, value_checks, search_checks, save_checks, recover_checks, join_checks}
use Rattle.rules.specs.Saved.{bytes, is_sized, adds_up, meets_place_rule, read_search}
use Rattle.rules.specs.Sequences.{sequences}
use Rattle.rules.specs.Template.{components, size}
use Rattle.rules.specs.Told.{Verdict, fine, refused, refuses}
use Rattle.rules.specs.declared.Search.{Search}
use Rattle.rules.specs.declared.Template.{Template}
use Rattle.rules.proofs.Verdicts.{never}
use Rattle.exports.specs.Exported.{LegOutcome, no_profile, profile_check, checked_written, begin_outcome, leg_outcome, restore_outcome, save_outcome, recover_outcome, join_outcome, fasta_outcome}
use Rattle.exports.specs.Numbers.{refusal_number_told, count_told, page_told, restored_told, found_told}
use Rattle.exports.specs.Shape.{shaped_template}
use Rattle.exports.proofs.MadeOfTwo.{checked_saves, leg_refused, leg_runs}

-- a refusal of at least 1, and every one of a list
unfoldable Numbered : Verdict → Type 0
Numbered fine = Unit {0}
Numbered (refused n p) = 1 ≤ n

abbrev AllNumbered : List Verdict → Type 0
AllNumbered [] = Unit {0}
AllNumbered (v ∷ vs) = Numbered v × AllNumbered vs

else_numbered : (b : Bool) (n p : ℕ) (v : Verdict) → 1 ≤ n → Numbered v → Numbered (if b (refused n p) v)
unfolding Numbered
else_numbered true n p v h k = h
else_numbered false n p v h k = k

if_numbered : (b : Bool) (n p : ℕ) → 1 ≤ n → Numbered (if b (refused n p) fine)
unfolding Numbered
if_numbered b n p h = else_numbered b n p fine h tt

bad_numbered : {A : Type 0} (n : ℕ) (bad : ℕ → A → Bool) (i : ℕ) (xs : List A) → 1 ≤ n → Numbered (first_bad n bad i xs)
unfolding first_bad Numbered
bad_numbered n bad i [] h = tt
bad_numbered n bad i (x ∷ xs) h = else_numbered (bad i x) n i (first_bad n bad (suc i) xs) h (bad_numbered n bad (suc i) xs h)

all_numbered : (vs : List Verdict) → AllNumbered vs → Numbered (first vs)
unfolding first ◌else◌ Numbered
all_numbered [] h = tt
all_numbered (fine ∷ vs) h = all_numbered vs h.1
all_numbered (refused n p ∷ vs) h = h.0

two_numbered : (v w : Verdict) → Numbered v → Numbered w → Numbered (v else w)
unfolding ◌else◌ Numbered
two_numbered fine w h k = k
two_numbered (refused n p) w h k = h

fine_numbered : (b : Bool) (v : Verdict) → Numbered v → Numbered (if b fine v)
unfolding Numbered
fine_numbered true v h = tt
fine_numbered false v h = h

both_numbered : (us vs : List Verdict) → AllNumbered us → AllNumbered vs → AllNumbered (us ++ vs)
both_numbered [] vs h k = k
both_numbered (u ∷ us) vs h k = (h.0, both_numbered us vs h.1 k)

-- the checks of each call
set_numbered : (letters lengths : List ℕ) → AllNumbered (set_checks letters lengths)
unfolding check1 check2 check3 check4
set_numbered letters lengths = (if_numbered (outside 1 sequence_set_sequences (length lengths)) 1 0 (omega arith), (if_numbered (ltb sequence_set_letters (length letters)) 2 0 (omega arith), (if_numbered (not (eqb (sum lengths) (length letters))) 3 0 (omega arith), (bad_numbered 4 _ 0 letters (omega arith), tt))))

template_numbered : (t : Template) → Numbered (check5 t) × (Numbered (check6 t) × (Numbered (check7 t) × (Numbered (check8 t) × Numbered (check24 t))))
unfolding check5 check6 check7 check8 check24
template_numbered t = (if_numbered (outside 1 template_components t.count) 5 0 (omega arith), (bad_numbered 6 _ 1 _ (omega arith), (if_numbered (ltb (profile_of t).most (size t)) 7 0 (omega arith), (bad_numbered 8 _ 1 _ (omega arith), if_numbered (has_some (keep (bad_allowance t.profile) (components t))) 24 0 (omega arith)))))

room_numbered : (n : ℕ) (out : List ℕ) → Numbered (check17 n out)
unfolding check17
room_numbered n out = if_numbered (ltb (length out) n) 17 0 (omega arith)

module _ (letters lengths : List ℕ) where
  profile_numbered : (profile : ℕ) (t : Template) → Numbered (profile_check letters lengths profile t)
  unfolding profile_check no_profile Numbered
  profile_numbered profile t =
      fine_numbered (leb profile profile_last) _
      (two_numbered (first (set_checks letters lengths)) (check5 t else refused 21 0) (all_numbered _ (set_numbered letters lengths))
      (two_numbered (check5 t) (refused 21 0) (template_numbered t).0 (omega arith)))

  new_numbered : (t : Template) (quorum : ℕ) → AllNumbered (new_checks letters lengths t quorum)
  unfolding new_checks check9
  new_numbered t quorum =
      let h = template_numbered t in
      both_numbered (set_checks letters lengths) (check5 t ∷ check6 t ∷ check7 t ∷ check8 t ∷ check24 t ∷ check9 lengths quorum ∷ []) (set_numbered letters lengths) (h.0, (h.1.0, (h.1.1.0, (h.1.1.1.0, (h.1.1.1.1, (if_numbered (outside 1 (length lengths) quorum) 9 0 (omega arith), tt))))))

  value_numbered : (s : Search) → AllNumbered (value_checks letters lengths s)
  unfolding check9 check12 check13 check23
  value_numbered s =
      let h = template_numbered s.template in
      (if_numbered (not (meets_place_rule s.template s.place)) 23 _ (omega arith), (h.1.0, (h.1.1.0, (h.1.1.1.0, (h.1.1.1.1, (if_numbered (not (eqb s.set.sequences (length lengths) && eqb s.set.letters (length letters))) 12 0 (omega arith), (if_numbered (outside 1 (length lengths) s.quorum) 9 0 (omega arith), (if_numbered (not (is_passing letters lengths s)) 13 0 (omega arith), tt))))))))

  restore_numbered : (bs : List ℕ) → AllNumbered (restore_checks letters lengths bs)
  unfolding restore_checks check10 check11 check21 check22
  restore_numbered bs =
      let s = read_search bs in
      both_numbered (set_checks letters lengths) (check10 bs ∷ check5 s.template ∷ check11 bs ∷ check21 bs ∷ check22 bs ∷ value_checks letters lengths s) (set_numbered letters lengths)
      (if_numbered (not (is_sized bs)) 10 0 (omega arith), ((template_numbered s.template).0, (bad_numbered 11 _ 0 _ (omega arith), (bad_numbered 21 _ 0 _ (omega arith), (if_numbered (not (adds_up bs)) 22 0 (omega arith), value_numbered s)))))

  save_numbered : (s : Search) (out : List ℕ) → AllNumbered (save_checks letters lengths s out)
  unfolding save_checks search_checks
  save_numbered s out =
      both_numbered (search_checks letters lengths s) (check17 (length (bytes s)) out ∷ [])
      (both_numbered (set_checks letters lengths) (check5 s.template ∷ value_checks letters lengths s) (set_numbered letters lengths) ((template_numbered s.template).0, value_numbered s))
      (room_numbered _ out, tt)

  recover_numbered : (t : Template) (m f : ℕ) → AllNumbered (recover_checks letters lengths t m f)
  unfolding recover_checks check14 check15
  recover_numbered t m f =
      let h = template_numbered t in
      both_numbered (set_checks letters lengths) (check5 t ∷ check6 t ∷ check7 t ∷ check8 t ∷ check24 t ∷ check14 t m ∷ check15 letters lengths t m f ∷ []) (set_numbered letters lengths)
      (h.0, (h.1.0, (h.1.1.0, (h.1.1.1.0, (h.1.1.1.1, (if_numbered (not (valid t (size t) m)) 14 0 (omega arith), (if_numbered (ltb (length (whole_list t (sequences letters lengths) m)) f) 15 0 (omega arith), tt)))))))

join_numbered : (xs ys : List ℕ) (head low high : ℕ) (out : List ℕ) → AllNumbered (join_checks xs ys head low high out)
unfolding join_checks check6_head check8_range check16
join_numbered xs ys head low high out = (if_numbered (outside 1 template_length head) 6 1 (omega arith), (if_numbered (bad_range low high) 8 1 (omega arith), (if_numbered (not (is_rising 0 xs && is_rising 0 ys)) 16 0 (omega arith), (room_numbered _ out, tt))))

lines_numbered : (ls : List Line) → AllNumbered (map check_line ls)
lines_numbered [] = tt
lines_numbered (l ∷ ls) = (bad_numbered 4 _ l.at l.text (omega arith), lines_numbered ls)

module _ (letters : List ℕ) (used : ℕ) (lengths : List ℕ) (count : ℕ) where
  next_numbered : (es : List Entry) → AllNumbered (next_checks letters used lengths count es)
  unfolding check20 check4_file check_lines
  next_numbered [] = tt
  next_numbered (e ∷ es) = (if_numbered (has_no_room (length letters) used (length lengths) count (size_of e)) 20 0 (omega arith), (all_numbered _ (lines_numbered e.lines), tt))

  reader_numbered : (file : List ℕ) (at : ℕ) → AllNumbered (reader_checks file at letters used lengths count)
  unfolding reader_checks check19
  reader_numbered file at = (if_numbered (has_text_first (lines_from file at)) 19 0 (omega arith), next_numbered (entries (lines_from file at)))

-- 0 is told exactly if nothing refuses
unless_zero : {A : Type 0} (v : Verdict) (a : A) → Numbered v → (refusal_number_told (unless v a) ≡ 0) ↔ (v ≡ fine)
unfolding Numbered
unless_zero fine a h = (λ e. refl, λ e. refl)
unless_zero (refused n p) a h = (λ e. absurd (omega (arith, h, e)), λ e. never n p e)

written_zero : {A : Type 0} (v : Verdict) (a : A) (xs out : List ℕ) → Numbered v → (refusal_number_told (written_unless v a xs out).told ≡ 0) ↔ (v ≡ fine)
unfolding Numbered
written_zero fine a xs out h = (λ e. refl, λ e. refl)
written_zero (refused n p) a xs out h = (λ e. absurd (omega (arith, h, e)), λ e. never n p e)

-- the same where a check was made before the others
checked_zero : {A : Type 0} (v : Verdict) (vs : List Verdict) (a : A) (xs out : List ℕ) → Numbered v → AllNumbered vs
    → (refusal_number_told (checked_written v (written_unless (first vs) a xs out) out).told ≡ 0) ↔ (first (v ∷ vs) ≡ fine)
unfolding first ◌else◌ Numbered
checked_zero fine vs a xs out h k = written_zero (first vs) a xs out (all_numbered vs k)
checked_zero (refused n p) vs a xs out h k = (λ e. absurd (omega (arith, h, e)), λ e. never n p e)

module _ (letters lengths : List ℕ) where
  pub begin_zero : (profile components : ℕ) (shape allowances : List ℕ) (quorum : ℕ) (saved : List ℕ) → let t = shaped_template profile components shape allowances in
      ((begin_outcome letters lengths profile components shape allowances quorum saved).numbers.number ≡ 0)
      ↔ (first (profile_check letters lengths profile t ∷ new_checks letters lengths t quorum ++ (check17 (length (bytes (begun letters lengths t quorum))) saved ∷ [])) ≡ fine)
  unfolding begin_outcome count_told
  begin_zero profile components shape allowances quorum saved =
      let t = shaped_template profile components shape allowances in
      let bs = bytes (begun letters lengths t quorum) in
      let vs = new_checks letters lengths t quorum ++ (check17 (length bs) saved ∷ []) in
      rw (checked_saves letters lengths (profile_check letters lengths profile t) t quorum saved)
      (checked_zero (profile_check letters lengths profile t) vs (length bs) bs saved (profile_numbered letters lengths profile t)
      (both_numbered (new_checks letters lengths t quorum) (check17 (length bs) saved ∷ []) (new_numbered letters lengths t quorum) (room_numbered _ saved, tt)))

  module _ (saved : List ℕ) (budget : ℕ) (motifs supports weights : List ℕ) where
    leg_told_zero : (v : Verdict) → first (restore_checks letters lengths saved) ≡ v → Numbered v → ((leg_outcome letters lengths saved budget motifs supports weights).numbers.number ≡ 0) ↔ (v ≡ fine)
    unfolding restore_rule Numbered
    leg_told_zero fine e h = (λ q. refl, λ q. leg_runs letters lengths saved budget motifs supports weights (read_search saved) (rw e))
    leg_told_zero (refused n p) e h =
        let k : (leg_outcome letters lengths saved budget motifs supports weights).numbers.number ≡ n =
        ap (λ (o : LegOutcome). o.numbers.number) (leg_refused letters lengths saved budget motifs supports weights n p (rw e))
        in
        (λ q. absurd (omega (arith, h, k, q)), λ q. never n p q)

    pub leg_zero : ((leg_outcome letters lengths saved budget motifs supports weights).numbers.number ≡ 0) ↔ (first (restore_checks letters lengths saved) ≡ fine)
    leg_zero = leg_told_zero (first (restore_checks letters lengths saved)) refl (all_numbered _ (restore_numbered letters lengths saved))

  pub restore_zero : (saved shape allowances : List ℕ) → ((restore_outcome letters lengths saved shape allowances).numbers.number ≡ 0) ↔ (first (restore_checks letters lengths saved) ≡ fine)
  unfolding restore_outcome restored_told restore_rule
  restore_zero saved shape allowances = unless_zero _ _ (all_numbered _ (restore_numbered letters lengths saved))

  pub save_zero : (profile : ℕ) (s : Search) (out : List ℕ)
      → ((save_outcome letters lengths profile s out).numbers.number ≡ 0) ↔ (first (profile_check letters lengths profile s.template ∷ save_checks letters lengths s out) ≡ fine)
  unfolding save_outcome count_told save_rule
  save_zero profile s out = checked_zero _ (save_checks letters lengths s out) _ _ out (profile_numbered letters lengths profile s.template) (save_numbered letters lengths s out)

  pub recover_zero : (profile components : ℕ) (shape allowances : List ℕ) (motif first-row : ℕ) (out : List ℕ) → let t = shaped_template profile components shape allowances in
      ((recover_outcome letters lengths profile components shape allowances motif first-row out).numbers.number ≡ 0)
      ↔ (first (profile_check letters lengths profile t ∷ recover_checks letters lengths t motif first-row) ≡ fine)
  unfolding recover_outcome page_told recover_rule
  recover_zero profile components shape allowances motif first-row out =
      let t = shaped_template profile components shape allowances in
      checked_zero _ (recover_checks letters lengths t motif first-row) _ _ out (profile_numbered letters lengths profile t) (recover_numbered letters lengths t motif first-row)

pub join_zero : (xs ys : List ℕ) (head low high : ℕ) (out : List ℕ) → ((join_outcome xs ys head low high out).numbers.number ≡ 0) ↔ (first (join_checks xs ys head low high out) ≡ fine)
unfolding join_outcome count_told join_rule
join_zero xs ys head low high out = written_zero _ _ _ out (all_numbered _ (join_numbered xs ys head low high out))

module _ (file letters lengths : List ℕ) (at used count : ℕ) where
  handed_zero : (v : Verdict) (es : List Entry) → Numbered v
      → (refusal_number_told (on_refusal v (λ n p. stays file at letters used lengths count (refuses n p)) (hands_out file at letters used lengths count es)).told ≡ 0) ↔ (v ≡ fine)
  unfolding Numbered
  handed_zero fine [] h = (λ e. refl, λ e. refl)
  handed_zero fine (e ∷ es) h = (λ e. refl, λ e. refl)
  handed_zero (refused n p) es h = (λ e. absurd (omega (arith, h, e)), λ e. never n p e)

  pub fasta_zero : ((fasta_outcome file letters lengths at used count).refusal_number ≡ 0) ↔ (first (reader_checks file at letters used lengths count) ≡ fine)
  unfolding fasta_outcome found_told reader_rule
  fasta_zero = handed_zero _ (entries (lines_from file at)) (all_numbered _ (reader_numbered letters used lengths count file at))
