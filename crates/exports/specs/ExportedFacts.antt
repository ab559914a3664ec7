-- Small facts of the exported rules: what they compute on the paper's set E, beside what the papers say.
use Rattle.std.specs.Prelude.{List, [], ◌∷◌, map, ◌≡◌, refl, ℕ, drop, replicate}
use Rattle.rules.specs.Calls.{begin_rule, begun, leg_rule, stretch, supports_of, weights_of, save_rule, restore_rule}
use Rattle.rules.specs.Facts.{Fact, is, letters, lengths}
use Rattle.rules.specs.Legs.{leg}
use Rattle.rules.specs.Letters.{value, is_letter, letter}
use Rattle.rules.specs.Lists.{run, keep, each, joined, has_some, all_pass, is_member, sum, put}
use Rattle.rules.specs.Motif.{number, spell}
use Rattle.rules.specs.Occurrence.{front_by, stands_by, reach, starts, occurrences}
use Rattle.rules.specs.Profile.{allowed, to_come, exactly, profile_by}
use Rattle.rules.specs.Refusals.{◌else◌, first, first_bad, check1, check2, check3, check4, check5, check6, check7, check8, check9, check10, check11, check12, is_passing, check13, check17, check21, check22, check23, check24, new_checks, restore_checks, search_checks, save_checks}
use Rattle.rules.specs.Saved.{low_first, read_low, size_record, component_record, place_record, component_records, records, bytes, record_at, field, record_count, component_count, read_profile, read_component, read_place, read_template, read_search, is_sized, is_blank, has_size_kind, has_component_kind, has_place_kind, is_size_blank, is_component_blank, is_place_blank, saved_records, has_kind, is_unnamed_blank, adds_up, meets_place_rule}
use Rattle.rules.specs.Sequences.{split, sequences}
use Rattle.rules.specs.Support.{marks, support, rows_from, occurrence_rows, weight, allowed_in, parts_in, measure, reaches}
use Rattle.rules.specs.Template.{components, size, trimmed, distance, deal}
use Rattle.rules.specs.Walk.{walk_in, children, later, under, onward, from, up, next, start, motif, listed, spelled, candidate}
use Rattle.exports.specs.Exported.{LegOutcome, search_of, no_profile, profile_check, save_begun, begin_outcome, leg_from, leg_outcome, save_outcome, recover_outcome}
use Rattle.exports.specs.ExportedLegs.{Asked, legs_run, steps_in, rows_in, legs_asked}
use Rattle.exports.specs.Numbers.{count_told, page_told, leg_told}
use Rattle.exports.specs.Shape.{slot_at, shaped_template}

-- N[0,1]N over E, quorum 2
asked_pair : Asked
asked_pair =
    record {
      letters = letters;
      lengths = lengths;
      profile = 0;
      components = 2;
      shape = 1 ∷ 0 ∷ 0 ∷ 1 ∷ 0 ∷ 1 ∷ [];
      allowances = [];
      quorum = 2;
      room = replicate 64 9;
    }

-- up to nine legs of 4 steps, with room for two rows each
legs_of_pair : List LegOutcome
legs_of_pair = legs_asked asked_pair (replicate 9 (record { budget = 4; motifs = replicate 2 9; supports = replicate 2 9; weights = replicate 2 9 }))

-- the answer and place of a begin, a save and a recovery with a profile that is none, so many components, and a template, a quorum and
-- a motif that no call accepts
third_profile : List ℕ → ℕ → List ℕ
third_profile ls components =
    let b = (begin_outcome ls lengths 2 components [] [] 0 []).numbers in
    let s = (save_outcome ls lengths 2 (search_of 2 components [] [] 0 0 0 0 9) []).numbers in
    let r = (recover_outcome ls lengths 2 components [] [] 99 9 []).numbers in
    b.number ∷ b.place ∷ s.number ∷ s.place ∷ r.number ∷ r.place ∷ []

-- THE TABLE
exported_facts : List Fact
exported_facts =
    -- p3 in legs: 20 steps, then AG, CG, GT; their supports, and their weighted supports
    is (steps_in legs_of_pair ∷ rows_in (λ o. o.motifs) legs_of_pair) (20 ∷ 2 ∷ 6 ∷ 11 ∷ [])
    ∷ is (rows_in (λ o. o.supports) legs_of_pair) (2 ∷ 2 ∷ 2 ∷ [])
    ∷ is (rows_in (λ o. o.weights) legs_of_pair) (3 ∷ 2 ∷ 3 ∷ [])
    -- the fifth of the legs is the last: four stop with 2, and it with 1
    ∷ is (map (λ o. o.numbers.stop) legs_of_pair) (2 ∷ 2 ∷ 2 ∷ 2 ∷ 1 ∷ [])
    -- a profile that is none comes after a byte that is no letter, and after 5; and before all else
    ∷ is (third_profile (78 ∷ drop 1 letters) 0) (4 ∷ 0 ∷ 4 ∷ 0 ∷ 4 ∷ 0 ∷ [])
    ∷ is (third_profile letters 0) (5 ∷ 0 ∷ 5 ∷ 0 ∷ 5 ∷ 0 ∷ [])
    ∷ is (third_profile letters 1) (21 ∷ 0 ∷ 21 ∷ 0 ∷ 21 ∷ 0 ∷ [])
    ∷ []

the_exported_facts : map (λ f. f.computed) exported_facts ≡ map (λ f. f.paper) exported_facts
unfolding exported_facts asked_pair legs_of_pair third_profile legs_run steps_in rows_in no_profile profile_check save_begun begin_outcome save_outcome recover_outcome leg_from leg_outcome count_told page_told leg_told slot_at shaped_template letters lengths run keep each joined has_some all_pass is_member sum put value is_letter letter split sequences components size trimmed distance deal number spell front_by stands_by reach starts occurrences marks support rows_from occurrence_rows weight allowed to_come exactly profile_by allowed_in parts_in measure reaches walk_in children later under onward from up next start motif listed spelled candidate leg low_first read_low size_record component_record place_record component_records records bytes record_at field record_count component_count read_profile read_component read_place read_template read_search is_sized is_blank has_size_kind has_component_kind has_place_kind is_size_blank is_component_blank is_place_blank saved_records has_kind is_unnamed_blank adds_up meets_place_rule ◌else◌ first first_bad check1 check2 check3 check4 check5 check6 check7 check8 check9 check10 check11 check12 is_passing check13 check17 check21 check22 check23 check24 new_checks restore_checks search_checks save_checks begun begin_rule stretch supports_of weights_of leg_rule save_rule restore_rule
the_exported_facts = refl
