-- Small facts of damaged saves, and of those of either kind of search: what the definitions compute beside what requests 2 and 5 say of
-- the save of the paper's p9 (E, quorum 2, after 4 steps) with bytes of it changed.
use Rattle.std.specs.Prelude.{List, [], ◌∷◌, ◌++◌, map, ◌≡◌, refl, ℕ, ◌+◌, ◌*◌, take, replicate}
use Rattle.rules.specs.Calls.{moved, restore_rule, save_rule}
use Rattle.rules.specs.Facts.{Fact, is, letters, lengths, pair, search_told, answer_told}
use Rattle.rules.specs.Letters.{value, is_letter}
use Rattle.rules.specs.Lists.{run, keep, each, all_pass, has_some, is_member, sum, joined, put, put_at}
use Rattle.rules.specs.Motif.{spell}
use Rattle.rules.specs.Occurrence.{front_by, stands_by, reach, starts, occurrences}
use Rattle.rules.specs.Profile.{allowed, to_come, exactly, bases, stands_for, several, within, mixed, profile_by}
use Rattle.rules.specs.Refusals.{◌else◌, first, first_bad, check1, check2, check3, check4, check5, check6, check7, check8, check9, check10, check11, check12, is_passing, check13, check17, check21, check22, check23, check24, restore_checks, search_checks, save_checks}
use Rattle.rules.specs.Saved.{low_first, read_low, size_record, component_record, place_record, component_records, records, bytes, record_at, field, record_count, component_count, read_profile, read_component, read_place, read_template, read_search, is_sized, is_blank, has_size_kind, has_component_kind, has_place_kind, is_size_blank, is_component_blank, is_place_blank, saved_records, has_kind, is_unnamed_blank, adds_up, meets_place_rule}
use Rattle.rules.specs.Sequences.{split, sequences}
use Rattle.rules.specs.Support.{marks, support, allowed_in, parts_in, measure, reaches}
use Rattle.rules.specs.Template.{allowing, components, size, deal}
use Rattle.rules.specs.Walk.{place, walk_in, spelled, candidate}
use Rattle.rules.specs.declared.Place.{Place}
use Rattle.rules.specs.declared.Profile.{Profile}
use Rattle.rules.specs.declared.Profile.TheVariants.{Exact, Mixed}
use Rattle.rules.specs.declared.Search.{Search}

-- the save: the size record, a record for each of the two components, and the place record, which are its records 0 to 3
the_save : List ℕ
the_save =
    0x01 ∷ 0x04 ∷ 0x02 ∷ 0x00 ∷ 0x03 ∷ 0x00 ∷ 0x02 ∷ 0x00 ∷ 0x0C ∷ 0x00 ∷ 0x00 ∷ 0x00 ∷ 0x00 ∷ 0x00 ∷ 0x00 ∷ 0x00
    ∷ 0x02 ∷ 0x01 ∷ 0x01 ∷ 0x00 ∷ 0x00 ∷ 0x00 ∷ 0x00 ∷ 0x00 ∷ 0x00 ∷ 0x00 ∷ 0x00 ∷ 0x00 ∷ 0x00 ∷ 0x00 ∷ 0x00 ∷ 0x00
    ∷ 0x02 ∷ 0x02 ∷ 0x01 ∷ 0x00 ∷ 0x00 ∷ 0x00 ∷ 0x01 ∷ 0x00 ∷ 0x00 ∷ 0x00 ∷ 0x00 ∷ 0x00 ∷ 0x00 ∷ 0x00 ∷ 0x00 ∷ 0x00
    ∷ 0x03 ∷ 0x02 ∷ 0x00 ∷ 0x00 ∷ 0x00 ∷ 0x00 ∷ 0x00 ∷ 0x00 ∷ 0x03 ∷ 0x00 ∷ 0x00 ∷ 0x00 ∷ 0x00 ∷ 0x00 ∷ 0x00 ∷ 0x00
    ∷ []

-- byte k of record i made x
with_byte : ℕ → ℕ → ℕ → List ℕ → List ℕ
with_byte i k x bs = put_at (16 * i + k) (x ∷ []) bs

-- what a restore tells: the place of the search that it gives, or its refusal's number and place
restore_told : List ℕ → List ℕ
restore_told bs = search_told (restore_rule letters lengths bs)

-- the search that is saved so: it stands at AT
search : Search
search = record { template = pair; quorum = 2; set = record { sequences = 3; letters = 12 }; place = place 2 3 }

-- the same with another place, or with another number of components too, and what a save of a search tells
counting : ℕ → Place → Search
counting n p =
    record {
      template = record { profile = pair.profile; count = n; c1 = pair.c1; c2 = pair.c2; c3 = pair.c3; c4 = pair.c4; c5 = pair.c5; c6 = pair.c6 };
      quorum = search.quorum;
      set = search.set;
      place = p;
    }

-- or of a kind of search, with an allowance of one letter in the second component
allowing_one : Profile → Place → Search
allowing_one p at =
    record {
      template = record { profile = p; count = 2; c1 = pair.c1; c2 = allowing 1 pair.c2; c3 = pair.c3; c4 = pair.c4; c5 = pair.c5; c6 = pair.c6 };
      quorum = search.quorum;
      set = search.set;
      place = at;
    }

told_of_save : Search → List ℕ
told_of_save s = answer_told (save_rule letters lengths s (replicate 64 9)).told

-- ONE BYTE CHANGED
one_changed : List Fact
one_changed =
    -- the save as it is
    is (bytes search) the_save
    -- 11, with the record's number: the kind of each record, and the number of a component's
    ∷ is (restore_told (with_byte 0 0 2 the_save)) (11 ∷ 0 ∷ [])
    ∷ is (restore_told (with_byte 1 0 3 the_save)) (11 ∷ 1 ∷ [])
    ∷ is (restore_told (with_byte 2 1 1 the_save)) (11 ∷ 2 ∷ [])
    ∷ is (restore_told (with_byte 3 0 1 the_save)) (11 ∷ 3 ∷ [])
    -- 21: bytes that must be 0, in each of the records
    ∷ is (restore_told (with_byte 0 15 1 the_save)) (21 ∷ 0 ∷ [])
    ∷ is (restore_told (with_byte 1 3 1 the_save)) (21 ∷ 1 ∷ [])
    ∷ is (restore_told (with_byte 2 8 1 the_save)) (21 ∷ 2 ∷ [])
    ∷ is (restore_told (with_byte 3 7 1 the_save)) (21 ∷ 3 ∷ [])
    -- 22: K is 3 where the lengths add up to 2, or 2 where they add up to 3
    ∷ is (restore_told (with_byte 0 6 3 the_save)) (22 ∷ 0 ∷ [])
    ∷ is (restore_told (with_byte 2 2 2 the_save)) (22 ∷ 0 ∷ [])
    -- 23: a place of 3 letters where K is 2, and the number 16 of 2 letters
    ∷ is (restore_told (with_byte 3 1 3 the_save)) (23 ∷ 3 ∷ [])
    ∷ is (restore_told (with_byte 3 8 16 the_save)) (23 ∷ 3 ∷ [])
    ∷ []

-- SEVERAL
several_changed : List Fact
several_changed =
    -- the order of the numbers comes first: 11 in the last record before 21, 22 and 23, and so on
    is (restore_told (with_byte 3 0 1 (with_byte 0 15 1 (with_byte 0 6 3 (with_byte 3 1 9 the_save))))) (11 ∷ 3 ∷ [])
    ∷ is (restore_told (with_byte 3 7 1 (with_byte 0 6 3 (with_byte 3 1 9 the_save)))) (21 ∷ 3 ∷ [])
    ∷ is (restore_told (with_byte 0 6 3 (with_byte 3 1 9 the_save))) (22 ∷ 0 ∷ [])
    -- of two records that break the same, the first is told
    ∷ is (restore_told (with_byte 1 0 3 (with_byte 3 0 1 the_save))) (11 ∷ 1 ∷ [])
    ∷ is (restore_told (with_byte 1 3 1 (with_byte 2 8 1 the_save))) (21 ∷ 1 ∷ [])
    -- 10 and 5 come before all of these, and 23 before 6: a component of no letters, so that K is 1 and the place has one too many
    ∷ is (restore_told (with_byte 0 0 2 (take 63 the_save))) (10 ∷ 0 ∷ [])
    ∷ is (restore_told (with_byte 0 0 2 (with_byte 0 1 2 (take 32 the_save)))) (5 ∷ 0 ∷ [])
    ∷ is (restore_told (with_byte 2 2 0 (with_byte 0 6 1 the_save))) (23 ∷ 3 ∷ [])
    -- a save sees 23 alone, with the number that the place record would have
    ∷ is (told_of_save (moved search (place 3 0))) (23 ∷ 3 ∷ [])
    ∷ is (told_of_save (moved search (place 2 16))) (23 ∷ 3 ∷ [])
    -- 5 comes before it, and it before 6: a third component, of no letters
    ∷ is (told_of_save (counting 0 (place 3 0))) (5 ∷ 0 ∷ [])
    ∷ is (told_of_save (counting 7 (place 3 0))) (5 ∷ 0 ∷ [])
    ∷ is (told_of_save (counting 3 (place 3 0))) (23 ∷ 4 ∷ [])
    ∷ is (told_of_save (counting 3 (place 2 3))) (6 ∷ 3 ∷ [])
    ∷ []

-- KINDS OF SEARCH. With its byte 12 at 1 the save is that of a mixed search, where byte 3 of a component's record is its allowance; here
-- the second component may have one letter that stands for several bases
mixed_saved : List ℕ
mixed_saved = with_byte 0 12 1 (with_byte 2 3 1 the_save)

of_kinds : List Fact
of_kinds =
    -- a search so saved is mixed; of an exact one the allowance is not saved
    is (bytes (allowing_one Mixed (place 2 3))) mixed_saved
    ∷ is (bytes (allowing_one Exact (place 2 3))) the_save
    -- it restores, at AT; and at AR and CA, whose numbers are 4 and 16
    ∷ is (restore_told mixed_saved) (2 ∷ 3 ∷ [])
    ∷ is (restore_told (with_byte 3 8 4 mixed_saved)) (2 ∷ 4 ∷ [])
    ∷ is (restore_told (with_byte 3 8 16 mixed_saved)) (2 ∷ 16 ∷ [])
    -- 21: byte 12 is neither 0 nor 1, a byte after it is not 0, an exact search has an allowance
    ∷ is (restore_told (with_byte 0 12 2 the_save)) (21 ∷ 0 ∷ [])
    ∷ is (restore_told (with_byte 0 13 1 the_save)) (21 ∷ 0 ∷ [])
    ∷ is (restore_told (with_byte 0 13 1 mixed_saved)) (21 ∷ 0 ∷ [])
    ∷ is (restore_told (with_byte 2 3 1 the_save)) (21 ∷ 2 ∷ [])
    -- 23: a digit of 14 or 15, the number 259 of 2 letters, and RA, whose R the first component does not allow
    ∷ is (restore_told (with_byte 3 8 14 mixed_saved)) (23 ∷ 3 ∷ [])
    ∷ is (restore_told (with_byte 3 8 15 mixed_saved)) (23 ∷ 3 ∷ [])
    ∷ is (restore_told (with_byte 3 9 1 mixed_saved)) (23 ∷ 3 ∷ [])
    ∷ is (restore_told (with_byte 3 8 64 mixed_saved)) (23 ∷ 3 ∷ [])
    ∷ is (told_of_save (allowing_one Mixed (place 2 14))) (23 ∷ 3 ∷ [])
    ∷ is (told_of_save (allowing_one Mixed (place 2 64))) (23 ∷ 3 ∷ [])
    -- 24: an allowance of 2 for one letter. It comes after 8 and before 12
    ∷ is (restore_told (with_byte 2 3 2 mixed_saved)) (24 ∷ 0 ∷ [])
    ∷ is (restore_told (with_byte 2 7 1 (with_byte 2 3 2 mixed_saved))) (8 ∷ 2 ∷ [])
    ∷ is (restore_told (with_byte 0 4 4 (with_byte 2 3 2 mixed_saved))) (24 ∷ 0 ∷ [])
    -- 7 reads 16: lengths of 12 and 4, or 12 and 5, which an exact search takes
    ∷ is (restore_told (with_byte 1 2 12 (with_byte 2 2 4 (with_byte 0 6 16 mixed_saved)))) (2 ∷ 3 ∷ [])
    ∷ is (restore_told (with_byte 1 2 12 (with_byte 2 2 5 (with_byte 0 6 17 mixed_saved)))) (7 ∷ 0 ∷ [])
    ∷ is (restore_told (with_byte 1 2 12 (with_byte 2 2 5 (with_byte 0 6 17 the_save)))) (2 ∷ 3 ∷ [])
    ∷ []

the_saved_facts : map (λ f. f.computed) (one_changed ++ several_changed ++ of_kinds) ≡ map (λ f. f.paper) (one_changed ++ several_changed ++ of_kinds)
unfolding one_changed several_changed of_kinds the_save mixed_saved with_byte restore_told search counting allowing_one told_of_save search_told answer_told letters lengths pair value is_letter run keep each all_pass has_some is_member sum joined put put_at split sequences spell front_by stands_by reach starts occurrences marks support allowed to_come exactly bases stands_for several within mixed profile_by parts_in measure reaches walk_in spelled candidate deal ◌else◌ first first_bad check1 check2 check3 check4 check5 check6 check7 check8 check9 check10 check11 check12 is_passing check13 check17 check21 check22 check23 check24 restore_checks search_checks save_checks low_first read_low size_record component_record place_record component_records records bytes record_at field record_count component_count read_profile read_component read_place read_template read_search is_sized is_blank has_size_kind has_component_kind has_place_kind is_size_blank is_component_blank is_place_blank saved_records has_kind is_unnamed_blank adds_up meets_place_rule allowed_in components size restore_rule save_rule
the_saved_facts = refl
