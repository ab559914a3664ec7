-- The paper's small facts, p1 to p11, its printout, and what request 3 says of weighted supports: what the definitions compute beside
-- what the papers say.
use Rattle.std.specs.Prelude.{List, [], ◌∷◌, map, ◌≡◌, refl, ℕ, length, take, drop, replicate}
use Rattle.rules.specs.Calls.{begin_rule, begun, leg_rule, LegRule, stretch, supports_of, weights_of, Written, save_rule, restore_rule, recover_rule, join_rule}
use Rattle.rules.specs.Join.{partners, partnered, is_rising}
use Rattle.rules.specs.Legs.{leg}
use Rattle.rules.specs.Letters.{A, C, G, T, value, is_letter, letter}
use Rattle.rules.specs.Lists.{run, keep, each, joined, has_some, all_pass, is_member, sum, put}
use Rattle.rules.specs.Motif.{number, spell}
use Rattle.rules.specs.Occurrence.{front_by, stands_by, reach, starts, occurrences}
use Rattle.rules.specs.Profile.{allowed, to_come, exactly, profile_by}
use Rattle.rules.specs.Recovery.{whole_list, page}
use Rattle.rules.specs.Refusals.{◌else◌, first, first_bad, check1, check2, check3, check4, check5, check6, check7, check8, check9, check10, check11, check12, is_passing, check13, check14, check15, check6_head, check8_range, check16, check17, check21, check22, check23, check24, new_checks, restore_checks, search_checks, save_checks, recover_checks, join_checks}
use Rattle.rules.specs.Relay.{Lent, relay}
use Rattle.rules.specs.Saved.{low_first, read_low, size_record, component_record, place_record, component_records, records, bytes, record_at, field, record_count, component_count, read_profile, read_component, read_place, read_template, read_search, is_sized, is_blank, has_size_kind, has_component_kind, has_place_kind, is_size_blank, is_component_blank, is_place_blank, saved_records, has_kind, is_unnamed_blank, adds_up, meets_place_rule}
use Rattle.rules.specs.Sequences.{split, sequences}
use Rattle.rules.specs.Support.{marks, support, rows_from, occurrence_rows, weight, allowed_in, parts_in, measure, reaches}
use Rattle.rules.specs.Template.{Part, component, none, components, size, trimmed, distance, deal, cut}
use Rattle.rules.specs.Text as text
use Rattle.rules.specs.Told.{Told, gives, refuses}
use Rattle.rules.specs.Walk.{place, first_place, ended_place, walk_in, walk_over, children, later, under, onward, from, up, next, start, motif, listed, spelled, candidate}
use Rattle.rules.specs.declared.Place.{Place}
use Rattle.rules.specs.declared.Profile.TheVariants.{Exact}
use Rattle.rules.specs.declared.Search.{Search}
use Rattle.rules.specs.declared.Template.{Template}
use Rattle.rules.specs.declared.Recovered.{Recovered}

-- a fact, as numbers: what is computed, and what the paper says
pub record Fact : Type 0 where
  pub computed : List ℕ
  pub paper : List ℕ

abbrev pub is : List ℕ → List ℕ → Fact
is a b = record { computed = a; paper = b }

-- E: ACGTA, CAGGT, AT
unfoldable pub letters : List ℕ
letters = 65 ∷ 67 ∷ 71 ∷ 84 ∷ 65 ∷ 67 ∷ 65 ∷ 71 ∷ 71 ∷ 84 ∷ 65 ∷ 84 ∷ []

unfoldable pub lengths : List ℕ
lengths = 5 ∷ 5 ∷ 2 ∷ []

-- N[0,1]N
unfoldable pub pair : Template
pair = record { profile = Exact; count = 2; c1 = component 1 0 0; c2 = component 1 0 1; c3 = none; c4 = none; c5 = none; c6 = none }

-- the motifs AA, AG, CG, GT and AT under it, in E or in AAA
AA : List ℕ
AA = 0 ∷ 0 ∷ []

AG : List ℕ
AG = 0 ∷ 2 ∷ []

CG : List ℕ
CG = 1 ∷ 2 ∷ []

GT : List ℕ
GT = 2 ∷ 3 ∷ []

AT : List ℕ
AT = 0 ∷ 3 ∷ []

in_e : List ℕ → ℕ
in_e w = support (cut (components pair) w) (sequences letters lengths)

-- the positions in AAA from which an occurrence of AA begins
aa_starts : List ℕ
aa_starts = keep (λ p. has_some (starts (cut (components pair) AA) (A ∷ A ∷ A ∷ []) p)) (run 1 3)

-- document 000's Table 1: CCGTACCGAACCTCAAA, CCGTTATAGGAACCATT, TATGGAACCATCTT, TAACGGATCCCTTT; its template NNN[0,3]NN[1,3]NNNN;
-- and CCG[0,3]TA[1,3]GAAC under it
table_one : List (List ℕ)
table_one =
    (C ∷ C ∷ G ∷ T ∷ A ∷ C ∷ C ∷ G ∷ A ∷ A ∷ C ∷ C ∷ T ∷ C ∷ A ∷ A ∷ A ∷ [])
    ∷ (C ∷ C ∷ G ∷ T ∷ T ∷ A ∷ T ∷ A ∷ G ∷ G ∷ A ∷ A ∷ C ∷ C ∷ A ∷ T ∷ T ∷ [])
    ∷ (T ∷ A ∷ T ∷ G ∷ G ∷ A ∷ A ∷ C ∷ C ∷ A ∷ T ∷ C ∷ T ∷ T ∷ [])
    ∷ (T ∷ A ∷ A ∷ C ∷ G ∷ G ∷ A ∷ T ∷ C ∷ C ∷ C ∷ T ∷ T ∷ T ∷ [])
    ∷ []

ccg_ta_gaac : List Part
ccg_ta_gaac = cut (component 3 0 0 ∷ component 2 0 3 ∷ component 4 1 3 ∷ []) (C ∷ C ∷ G ∷ T ∷ A ∷ G ∷ A ∷ A ∷ C ∷ [])

-- what a call tells, as numbers: what it gives, or its refusal's number and place
unfoldable pub search_told : Told Search → List ℕ
search_told (gives s) = s.place.letters ∷ s.place.number ∷ []
search_told (refuses n p) = n ∷ p ∷ []

unfoldable pub counts_told : Told Recovered → List ℕ
counts_told (gives c) = c.rows ∷ c.length ∷ []
counts_told (refuses n p) = n ∷ p ∷ []

unfoldable pub answer_told : Told ℕ → List ℕ
answer_told (gives n) = n ∷ []
answer_told (refuses n p) = n ∷ p ∷ []

-- a search over E at a place
at : ℕ → Place → Search
at quorum p = record { template = pair; quorum = quorum; set = record { sequences = 3; letters = 12 }; place = p }

-- a leg over E with room for 9: its steps, then its rows
run_leg : ℕ → Search → LegRule
run_leg budget s = leg_rule letters lengths s budget (replicate 9 0) (replicate 9 0) (replicate 9 0)

whole : ℕ → List ℕ
whole quorum = let l = run_leg 99 (at quorum first_place) in l.told.steps ∷ take l.told.rows l.motifs

-- E, quorum 2, after 4 steps, saved to a buffer of 70 bytes; and the bytes of the save, which are the first 64 of these
save : Written ℕ
save = let l = run_leg 4 (at 2 first_place) in save_rule letters lengths l.told.search (replicate 70 9)

saved : List ℕ
saved = take 64 save.out

-- the same, quorum 3, at the place CA
moved_to_ca : List ℕ
moved_to_ca = bytes (at 3 (place 2 4))

-- five legs of 4 steps over E, with 64 bytes for the save after each: their steps, then their rows
in_legs : List ℕ
in_legs =
    let g : Lent = record { budget = 4; motifs = replicate 2 0; supports = replicate 2 0; weights = replicate 2 0; buffer = replicate 64 9 } in
    let r = relay letters lengths (replicate 5 g) (at 2 first_place) in r.steps ∷ r.motifs

-- the input of the paper's printing program, and what it prints
input : List ℕ
input =
    78 ∷ 91 ∷ 48 ∷ 44 ∷ 49 ∷ 93 ∷ 78 ∷ 10 ∷ 50 ∷ 10 ∷ 65 ∷ 67 ∷ 71 ∷ 84 ∷ 65 ∷ 10 ∷ 67 ∷ 65 ∷ 71 ∷ 71 ∷ 84 ∷ 10 ∷ 65 ∷ 84 ∷ 10 ∷ []

printout : List ℕ
printout =
    65 ∷ 91 ∷ 48 ∷ 44 ∷ 49 ∷ 93 ∷ 71 ∷ 32 ∷ 50 ∷ 32 ∷ 51 ∷ 10
    ∷ 67 ∷ 91 ∷ 48 ∷ 44 ∷ 49 ∷ 93 ∷ 71 ∷ 32 ∷ 50 ∷ 32 ∷ 50 ∷ 10
    ∷ 71 ∷ 91 ∷ 48 ∷ 44 ∷ 49 ∷ 93 ∷ 84 ∷ 32 ∷ 50 ∷ 32 ∷ 51 ∷ 10
    ∷ 101 ∷ 110 ∷ 100 ∷ 32 ∷ 50 ∷ 48 ∷ 32 ∷ 51 ∷ 10
    ∷ []

-- THE TABLE
facts : List Fact
facts =
    -- p1: AG is 2, CG 6, GT 11
    is (number 4 AG ∷ number 4 CG ∷ number 4 GT ∷ []) (2 ∷ 6 ∷ 11 ∷ [])
    -- p2: in E the support of AG is 2, of AT 1
    ∷ is (in_e AG ∷ in_e AT ∷ []) (2 ∷ 1 ∷ [])
    -- p3: E, quorum 2: 20 steps, then AG, CG, GT
    ∷ is (whole 2) (20 ∷ 2 ∷ 6 ∷ 11 ∷ [])
    -- p4: E, quorum 3: 12 steps, nothing
    ∷ is (whole 3) (12 ∷ [])
    -- p5: AG in E: rows 1 1 3, 2 2 3, 2 2 4; three of three written, and the rest of the buffer stays
    ∷ is (counts_told (recover_rule letters lengths pair 2 0 (replicate 11 9)).told) (3 ∷ 3 ∷ [])
    ∷ is (recover_rule letters lengths pair 2 0 (replicate 11 9)).out (1 ∷ 1 ∷ 3 ∷ 2 ∷ 2 ∷ 3 ∷ 2 ∷ 2 ∷ 4 ∷ 9 ∷ 9 ∷ [])
    -- p6: AAA: AA has occurrences (1,2), (1,3), (2,3) and 2 starts
    ∷ is (joined (occurrences (cut (components pair) AA) (A ∷ A ∷ A ∷ []))) (1 ∷ 2 ∷ 1 ∷ 3 ∷ 2 ∷ 3 ∷ [])
    ∷ is (length aa_starts ∷ []) (2 ∷ [])
    -- request 3: its weighted support is 3; in E those of AG, CG and GT are 3, 2 and 3
    ∷ is (weight (cut (components pair) AA) ((A ∷ A ∷ A ∷ []) ∷ []) ∷ []) (3 ∷ [])
    ∷ is (let l = run_leg 99 (at 2 first_place) in take l.told.rows l.weights) (3 ∷ 2 ∷ 3 ∷ [])
    -- document 000: CCG[0,3]TA[1,3]GAAC has support 2 and weighted support 3, since two occurrences share a start
    ∷ is (support ccg_ta_gaac table_one ∷ weight ccg_ta_gaac table_one ∷ []) (2 ∷ 3 ∷ [])
    ∷ is (joined (occurrence_rows ccg_ta_gaac table_one)) (1 ∷ 1 ∷ 4 ∷ 8 ∷ 2 ∷ 1 ∷ 5 ∷ 10 ∷ 2 ∷ 1 ∷ 7 ∷ 10 ∷ [])
    -- p7: the join of 1 4 with 3 5, head 1: range 0,1 gives 1 4; range 0,0 gives 4
    ∷ is (join_rule (1 ∷ 4 ∷ []) (3 ∷ 5 ∷ []) 1 0 1 (9 ∷ 9 ∷ [])).out (1 ∷ 4 ∷ [])
    ∷ is (join_rule (1 ∷ 4 ∷ []) (3 ∷ 5 ∷ []) 1 0 0 (9 ∷ 9 ∷ [])).out (4 ∷ 9 ∷ [])
    -- p8: after infrequent AT comes C; after TT the search has ended
    ∷ is (let p = next (walk_over pair 2 (sequences letters lengths)) (place 2 3) in p.letters ∷ p.number ∷ []) (1 ∷ 1 ∷ [])
    ∷ is (let p = next (walk_over pair 2 (sequences letters lengths)) (place 2 15) in p.letters ∷ p.number ∷ []) (0 ∷ 0 ∷ [])
    -- p9: E, quorum 2, after 4 steps: the save is 64 bytes, and the rest of the buffer stays; its size record; its place record
    ∷ is (answer_told save.told) (64 ∷ [])
    ∷ is (drop 64 save.out) (replicate 6 9)
    ∷ is (take 16 saved) (0x01 ∷ 0x04 ∷ 0x02 ∷ 0x00 ∷ 0x03 ∷ 0x00 ∷ 0x02 ∷ 0x00 ∷ 0x0C ∷ 0x00 ∷ 0x00 ∷ 0x00 ∷ 0x00 ∷ 0x00 ∷ 0x00 ∷ 0x00 ∷ [])
    ∷ is (drop 48 saved) (0x03 ∷ 0x02 ∷ 0x00 ∷ 0x00 ∷ 0x00 ∷ 0x00 ∷ 0x00 ∷ 0x00 ∷ 0x03 ∷ 0x00 ∷ 0x00 ∷ 0x00 ∷ 0x00 ∷ 0x00 ∷ 0x00 ∷ 0x00 ∷ [])
    ∷ is (search_told (restore_rule letters lengths saved)) (2 ∷ 3 ∷ [])
    -- p10: its first 63 bytes: refusal 10
    ∷ is (search_told (restore_rule letters lengths (take 63 saved))) (10 ∷ 0 ∷ [])
    -- an ended search restores as ended
    ∷ is (search_told (restore_rule letters lengths (bytes (at 2 ended_place)))) (0 ∷ 0 ∷ [])
    -- E, quorum 2, in legs: the same steps and rows
    ∷ is in_legs (20 ∷ 2 ∷ 6 ∷ 11 ∷ [])
    -- p11: quorum 3 with place CA: refusal 13
    ∷ is (search_told (restore_rule letters lengths moved_to_ca)) (13 ∷ 0 ∷ [])
    -- the printing program on E
    ∷ is (text.print_rule input) printout
    ∷ []

the_facts : map (λ f. f.computed) facts ≡ map (λ f. f.paper) facts
unfolding facts letters lengths pair AA AG CG GT AT in_e aa_starts table_one ccg_ta_gaac search_told counts_told answer_told at run_leg whole save saved moved_to_ca in_legs input printout run keep each joined has_some all_pass is_member sum put value is_letter letter split sequences components size trimmed distance deal number spell front_by stands_by reach starts occurrences marks support rows_from occurrence_rows weight allowed to_come exactly profile_by allowed_in parts_in measure reaches walk_in children later under onward from up next start motif listed spelled candidate leg low_first read_low size_record component_record place_record component_records records bytes record_at field record_count component_count read_profile read_component read_place read_template read_search is_sized is_blank has_size_kind has_component_kind has_place_kind is_size_blank is_component_blank is_place_blank saved_records has_kind is_unnamed_blank adds_up meets_place_rule partners partnered is_rising whole_list page ◌else◌ first first_bad check1 check2 check3 check4 check5 check6 check7 check8 check9 check10 check11 check12 is_passing check13 check14 check15 check6_head check8_range check16 check17 check21 check22 check23 check24 new_checks restore_checks search_checks save_checks recover_checks join_checks begun begin_rule stretch supports_of weights_of leg_rule save_rule restore_rule recover_rule join_rule relay text.pieces text.is_number_text text.digits text.parse_number text.is_run text.parse_component text.parse_first text.parse_rest text.parse_components text.template_of text.but_last text.last text.lines text.unended text.text_checks text.parse_template text.parse_quorum text.parse_letters text.parse_lengths text.digits_of text.decimal text.shape_rest text.shape text.print_motif text.print_row text.print_end text.print_refused text.print_search text.print_rule
the_facts = refl
