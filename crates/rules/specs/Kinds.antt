-- Small facts of each kind of search, computed: what it takes and lists, and for mixed letters what each stands for. Then what the calls
-- answer of a mixed search.
use Rattle.std.specs.Prelude.{List, [], ◌∷◌, ◌++◌, map, ◌≡◌, refl, ℕ, ltb, length, take, replicate, get_or}
use Rattle.rules.specs.Calls.{begin_rule, begun, leg_rule, stretch, supports_of, weights_of, save_rule, restore_rule, recover_rule}
use Rattle.rules.specs.Facts.{Fact, is, letters, lengths, pair, search_told, counts_told}
use Rattle.rules.specs.Legs.{leg}
use Rattle.rules.specs.declared.Stop.{Stop}
use Rattle.rules.specs.Letters.{A, C, G, T, value, is_letter}
use Rattle.rules.specs.Lists.{if, run, keep, each, joined, has_some, all_pass, is_member, sum, put}
use Rattle.rules.specs.Motif.{spell}
use Rattle.rules.specs.Occurrence.{front_by, stands_by, reach, starts, occurrences}
use Rattle.rules.specs.Profile.{allowed, to_come, exactly, repeated, substituted, bases, stands_for, several, within, mixed, profile_by}
use Rattle.rules.specs.Recovery.{whole_list, page}
use Rattle.rules.specs.Refusals.{◌else◌, first, first_bad, check1, check2, check3, check4, check5, check6, check7, check8, check9, check10, check11, check12, is_passing, check13, check14, check15, check17, check21, check22, check23, check24, new_checks, restore_checks, search_checks, save_checks, recover_checks}
use Rattle.rules.specs.Relay.{Lent, relay}
use Rattle.rules.specs.Saved.{low_first, read_low, size_record, component_record, place_record, component_records, records, bytes, record_at, field, record_count, component_count, read_profile, read_component, read_place, read_template, read_search, is_sized, is_blank, has_size_kind, has_component_kind, has_place_kind, is_size_blank, is_component_blank, is_place_blank, saved_records, has_kind, is_unnamed_blank, adds_up, meets_place_rule}
use Rattle.rules.specs.Sequences.{split, sequences}
use Rattle.rules.specs.Support.{marks, support, rows_from, occurrence_rows, weight, allowed_in, valid_in, parts_in, measure, reaches}
use Rattle.rules.specs.Template.{component, allowing, none, components, size, trimmed, distance, deal}
use Rattle.rules.specs.Told.{Told, gives, refuses, LegTold}
use Rattle.rules.specs.Walk.{Walk, place, walk_in, children, later, under, onward, from, up, next, start, motif, listed, spelled, candidate}
use Rattle.rules.specs.declared.Component.{Component}
use Rattle.rules.specs.declared.Place.{Place}
use Rattle.rules.specs.declared.Profile as declared
use Rattle.rules.specs.declared.Profile.TheVariants.{Exact, Mixed}
use Rattle.rules.specs.declared.Search.{Search}
use Rattle.rules.specs.declared.Template.{Template}

E : List (List ℕ)
E = sequences letters lengths

AAA : List (List ℕ)
AAA = (A ∷ A ∷ A ∷ []) ∷ []

-- ACG, ATG
two : List (List ℕ)
two = (A ∷ C ∷ G ∷ []) ∷ (A ∷ T ∷ G ∷ []) ∷ []

-- NN
double : Template
double = record { profile = Exact; count = 1; c1 = component 2 0 0; c2 = none; c3 = none; c4 = none; c5 = none; c6 = none }

-- N[0,1]N[0,1]N
triple : Template
triple = record { profile = Exact; count = 3; c1 = component 1 0 0; c2 = component 1 0 1; c3 = component 1 0 1; c4 = none; c5 = none; c6 = none }

-- an allowance of one in the second component of N[0,1]N and none in its first: the high ends of their ranges serve for it
second_one : Component → ℕ
second_one c = c.high

-- and of one in every component
each_one : Component → ℕ
each_one c = 1

-- a whole search: its steps, then the motifs that it lists
whole_walk : Walk → List ℕ
whole_walk W = let visited = from W (start W) in length visited ∷ listed W visited

-- the bases that each of the fourteen letters stands for, A 0 to T 3, each list ended by 9
meanings : List ℕ
meanings = each (λ x. keep (stands_for x) (run 0 4) ++ (9 ∷ [])) (run 0 14)

-- of each of them, 1 if `several` counts it, and else 0
counted_several : List ℕ
counted_several = map (λ x. several (x ∷ [])) (run 0 14)

-- and 1 if its list in `bases` has more than one base, and else 0
has_several : List ℕ
has_several = map (λ x. if (ltb 1 (length (get_or bases x []))) 1 0) (run 0 14)

kinds : List Fact
kinds =
    -- document 000's table: A, C, G, T; R is A G, Y C T, K G T, M A C, S C G, W A T; B is C G T, D A G T, H A C T, V A C G
    is meanings
    (0 ∷ 9 ∷ 1 ∷ 9 ∷ 2 ∷ 9 ∷ 3 ∷ 9 ∷ 0 ∷ 2 ∷ 9 ∷ 1 ∷ 3 ∷ 9 ∷ 2 ∷ 3 ∷ 9 ∷ 0 ∷ 1 ∷ 9 ∷ 1 ∷ 2 ∷ 9 ∷ 0 ∷ 3 ∷ 9 ∷ 1 ∷ 2 ∷ 3 ∷ 9 ∷ 0 ∷ 2 ∷ 3 ∷ 9 ∷ 0 ∷ 1 ∷ 3 ∷ 9 ∷ 0 ∷ 1 ∷ 2 ∷ 9 ∷ [])
    -- `several` counts the ten that stand for more than one base, and no other
    ∷ is counted_several has_several
    ∷ is counted_several (0 ∷ 0 ∷ 0 ∷ 0 ∷ 1 ∷ 1 ∷ 1 ∷ 1 ∷ 1 ∷ 1 ∷ 1 ∷ 1 ∷ 1 ∷ 1 ∷ [])
    -- mixed letters, one of them in the second component, quorum 3: AK, AB and AD. A, C, G and T come first, and of these A and T
    -- are in all three sequences and have fourteen letters under them
    ∷ is (whole_walk (walk_in (mixed second_one) pair 3 E)) (32 ∷ 6 ∷ 10 ∷ 11 ∷ [])
    -- one in a component of two letters: AY, AB, AH, YG, BG and HG, in 14 steps, 14 under each of A and G, and four under each of the
    -- ten mixed letters
    ∷ is (whole_walk (walk_in (mixed each_one) double 2 two)) (82 ∷ 5 ∷ 10 ∷ 12 ∷ 82 ∷ 162 ∷ 194 ∷ [])
    -- AV is a motif and AN is none, nor is a digit of 15, nor RA, which has a mixed letter too many, nor a number of three digits
    ∷ is (keep (valid_in (mixed second_one) pair 2) (13 ∷ 14 ∷ 15 ∷ 64 ∷ 256 ∷ [])) (13 ∷ [])
    -- substitutions, one in the second component, quorum 3: AA, AC, AG and AT, of which AA occurs nowhere as it is
    ∷ is (whole_walk (walk_in (substituted second_one) pair 3 E)) (12 ∷ 0 ∷ 1 ∷ 2 ∷ 3 ∷ [])
    -- one in a component of two letters: AA, AC, AG, AT, CG, CT, GG, TC and TG
    ∷ is (whole_walk (walk_in (substituted each_one) double 2 two)) (20 ∷ 0 ∷ 1 ∷ 2 ∷ 3 ∷ 6 ∷ 7 ∷ 10 ∷ 13 ∷ 14 ∷ [])
    -- repeats in AAA. A occurs three times and may come to six with the gap to come, AA occurs three times: quorums 3, 4 and 7
    ∷ is (whole_walk (walk_in repeated pair 3 AAA)) (8 ∷ 0 ∷ [])
    ∷ is (whole_walk (walk_in repeated pair 4 AAA)) (8 ∷ [])
    ∷ is (whole_walk (walk_in repeated pair 7 AAA)) (4 ∷ [])
    -- with two gaps to come A may come to twelve, AA to six; AAA occurs once
    ∷ is (whole_walk (walk_in repeated triple 1 AAA)) (12 ∷ 0 ∷ [])
    ∷ is (whole_walk (walk_in repeated triple 7 AAA)) (8 ∷ [])
    ∷ is (whole_walk (walk_in repeated triple 12 AAA)) (8 ∷ [])
    ∷ is (whole_walk (walk_in repeated triple 13 AAA)) (4 ∷ [])
    ∷ []

the_kinds : map (λ f. f.computed) kinds ≡ map (λ f. f.paper) kinds
unfolding kinds meanings counted_several has_several E AAA two double triple second_one each_one letters lengths pair whole_walk run keep each has_some all_pass is_member sum spell value split sequences front_by stands_by reach starts occurrences allowed to_come reaches allowed_in parts_in measure walk_in repeated substituted bases stands_for several within mixed marks support rows_from occurrence_rows weight components size distance deal children later under onward from up next start motif listed
the_kinds = refl

-- A MIXED SEARCH THROUGH THE CALLS: N[0,1]N over E with an allowance of one letter in the second component
one_mixed : Template
one_mixed = record { profile = Mixed; count = 2; c1 = component 1 0 0; c2 = allowing 1 (component 1 0 1); c3 = none; c4 = none; c5 = none; c6 = none }

-- one component of 12 letters and one of n, in a kind of search
twelve_and : ℕ → declared.Profile → Template
twelve_and n p = record { profile = p; count = 2; c1 = component 12 0 0; c2 = component n 0 1; c3 = none; c4 = none; c5 = none; c6 = none }

-- N[0,1]N with an allowance of two in the second component, which has one letter
too_many : declared.Profile → Template
too_many p = record { profile = p; count = 2; c1 = component 1 0 0; c2 = allowing 2 (component 1 0 1); c3 = none; c4 = none; c5 = none; c6 = none }

-- what a new search with a template tells
begins : Template → List ℕ
begins t = search_told (begin_rule letters lengths t 3)

-- the mixed search at a place, and what a leg of it tells there: its refusal, or its steps
mixed_at : Place → Search
mixed_at p = record { template = one_mixed; quorum = 3; set = record { sequences = 3; letters = 12 }; place = p }

leg_numbers : LegTold → List ℕ
leg_numbers l = go l.answer
  where
    go : Told Stop → List ℕ
    go (gives a) = l.steps ∷ []
    go (refuses n p) = n ∷ p ∷ []

leg_at : Place → List ℕ
leg_at p = leg_numbers (leg_rule letters lengths (mixed_at p) 99 (replicate 9 0) (replicate 9 0) (replicate 9 0)).told

-- what begins, run in one leg: its steps, then its motifs, supports and weighted supports
in_one_leg : Told Search → List ℕ
in_one_leg (gives s) =
    let l = leg_rule letters lengths s 99 (replicate 9 0) (replicate 9 0) (replicate 9 0) in
    let n = l.told.rows in l.told.steps ∷ take n l.motifs ++ take n l.supports ++ take n l.weights
in_one_leg (refuses n p) = n ∷ p ∷ []

-- and in legs of at most 7 steps with room for one row each, saved to 64 bytes and restored in between: two stop full, before AB and AD
mixed_in_legs : Told Search → List ℕ
mixed_in_legs (gives s) =
    let g : Lent = record { budget = 7; motifs = replicate 1 0; supports = replicate 1 0; weights = replicate 1 0; buffer = replicate 64 9 } in
    let r = relay letters lengths (replicate 8 g) s in r.steps ∷ r.motifs ++ r.supports ++ r.weights
mixed_in_legs (refuses n p) = n ∷ p ∷ []

-- a recovery of its motif m: the rows written, then the length of the list; and the buffer after it
recovered : ℕ → List ℕ
recovered m = counts_told (recover_rule letters lengths one_mixed m 0 (replicate 13 9)).told

recovered_rows : ℕ → List ℕ
recovered_rows m = (recover_rule letters lengths one_mixed m 0 (replicate 13 9)).out

mixed_calls : List Fact
mixed_calls =
    -- it begins at A; quorum 3: 32 steps, then AK, AB and AD, each in 3 sequences, with 4, 5 and 4 occurrences; the same in legs
    is (begins one_mixed) (1 ∷ 0 ∷ [])
    ∷ is (in_one_leg (begin_rule letters lengths one_mixed 3)) (32 ∷ 6 ∷ 10 ∷ 11 ∷ 3 ∷ 3 ∷ 3 ∷ 4 ∷ 5 ∷ 4 ∷ [])
    ∷ is (mixed_in_legs (begin_rule letters lengths one_mixed 3)) (32 ∷ 6 ∷ 10 ∷ 11 ∷ 3 ∷ 3 ∷ 3 ∷ 4 ∷ 5 ∷ 4 ∷ [])
    -- AK in E: rows 1 1 3, 2 2 3, 2 2 4, 3 1 2
    ∷ is (recovered 6) (4 ∷ 4 ∷ [])
    ∷ is (recovered_rows 6) (1 ∷ 1 ∷ 3 ∷ 2 ∷ 2 ∷ 3 ∷ 2 ∷ 2 ∷ 4 ∷ 3 ∷ 1 ∷ 2 ∷ 9 ∷ [])
    -- 14: a digit of 14 or 15, RA, whose R the first component does not allow, and 256; not AV, which occurs in two sequences
    ∷ is (recovered 13) (4 ∷ 4 ∷ [])
    ∷ is (recovered 14) (14 ∷ 0 ∷ [])
    ∷ is (recovered 15) (14 ∷ 0 ∷ [])
    ∷ is (recovered 64) (14 ∷ 0 ∷ [])
    ∷ is (recovered 256) (14 ∷ 0 ∷ [])
    -- 24: an allowance of 2 for one letter, of which an exact search reads nothing
    ∷ is (begins (too_many Mixed)) (24 ∷ 0 ∷ [])
    ∷ is (begins (too_many Exact)) (1 ∷ 0 ∷ [])
    -- 7 reads 16: K = 16 and 17, which an exact search takes
    ∷ is (begins (twelve_and 4 Mixed)) (1 ∷ 0 ∷ [])
    ∷ is (begins (twelve_and 5 Mixed)) (7 ∷ 0 ∷ [])
    ∷ is (begins (twelve_and 5 Exact)) (1 ∷ 0 ∷ [])
    -- 23, with the place record's number: a digit of 14, RA, and R alone; 13: CA, since C is in two sequences only; and from AV on 18 steps
    -- are left: AV, C, G, T and the fourteen under T
    ∷ is (leg_at (place 2 14)) (23 ∷ 3 ∷ [])
    ∷ is (leg_at (place 2 64)) (23 ∷ 3 ∷ [])
    ∷ is (leg_at (place 1 4)) (23 ∷ 3 ∷ [])
    ∷ is (leg_at (place 2 16)) (13 ∷ 0 ∷ [])
    ∷ is (leg_at (place 2 13)) (18 ∷ [])
    ∷ []

the_mixed_calls : map (λ f. f.computed) mixed_calls ≡ map (λ f. f.paper) mixed_calls
unfolding mixed_calls one_mixed twelve_and too_many begins mixed_at leg_numbers leg_at in_one_leg mixed_in_legs recovered recovered_rows search_told counts_told letters lengths value is_letter run keep each joined has_some all_pass is_member sum put split sequences components size trimmed distance deal spell front_by stands_by reach starts occurrences marks support rows_from occurrence_rows weight allowed to_come exactly bases stands_for several within mixed profile_by allowed_in parts_in measure reaches walk_in children later under onward from up next start motif listed spelled candidate leg low_first read_low size_record component_record place_record component_records records bytes record_at field record_count component_count read_profile read_component read_place read_template read_search is_sized is_blank has_size_kind has_component_kind has_place_kind is_size_blank is_component_blank is_place_blank saved_records has_kind is_unnamed_blank adds_up meets_place_rule whole_list page ◌else◌ first first_bad check1 check2 check3 check4 check5 check6 check7 check8 check9 check10 check11 check12 is_passing check13 check14 check15 check17 check21 check22 check23 check24 new_checks restore_checks search_checks save_checks recover_checks begun begin_rule stretch supports_of weights_of leg_rule save_rule restore_rule recover_rule relay
the_mixed_calls = refl
