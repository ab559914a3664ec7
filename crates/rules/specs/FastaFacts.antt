-- Small facts of FASTA: what the definitions compute beside what the request says of the file that stands at Fasta.antt's head, and
-- of some like it. Bytes are written by their numbers, as there: 9 is a tab, 13 and 10 end lines, 32 is a space, 62 is >.
use Rattle.std.specs.Prelude.{List, [], ◌∷◌, ◌++◌, map, ◌≡◌, refl, ℕ, replicate}
use Rattle.rules.specs.Facts.{Fact, is}
use Rattle.rules.specs.Fasta.{without_return, lines_of, lines_from, is_header, Entry, up_to_header, entries, up_to_blank, name_of, texts, letters_of, size_of, file_records, check19, check20, check_lines, check4_file, reader_checks, ReaderRule, reader_rule, Held, at_first, call, held_after, lines_checks, lines_for, lines_rule}
use Rattle.rules.specs.Letters.{value, is_letter}
use Rattle.rules.specs.Lists.{each, keep, has_some, put, put_at}
use Rattle.rules.specs.Refusals.{◌else◌, first, first_bad, check1}
use Rattle.rules.specs.Text.{pieces, digits_of, decimal, print_refused}
use Rattle.rules.specs.Told.{Verdict, fine, refused, Told, gives, refuses, Handing, entry, no_entry}

-- the file with the records p1, of the letters ACGTA on two lines, and p2, of none
file : List ℕ
file = 62 ∷ 112 ∷ 49 ∷ 32 ∷ 112 ∷ 114 ∷ 111 ∷ 109 ∷ 111 ∷ 116 ∷ 101 ∷ 114 ∷ 10 ∷ 65 ∷ 67 ∷ 71 ∷ 10 ∷ 84 ∷ 65 ∷ 10 ∷ 62 ∷ 112 ∷ 50 ∷ 10 ∷ []

-- the same with lines that end in 13 and 10, empty ones before, between and after its own, and no end of the last
with_returns : List ℕ
with_returns =
    13 ∷ 10 ∷ 10 ∷ 62 ∷ 112 ∷ 49 ∷ 32 ∷ 112 ∷ 114 ∷ 111 ∷ 109 ∷ 111 ∷ 116 ∷ 101 ∷ 114 ∷ 13 ∷ 10
    ∷ 13 ∷ 10 ∷ 65 ∷ 67 ∷ 71 ∷ 13 ∷ 10 ∷ 10 ∷ 84 ∷ 65 ∷ 13 ∷ 10 ∷ 10 ∷ 62 ∷ 112 ∷ 50
    ∷ []

-- a record written again: its name on one line, its letters on the next
again : Entry → List ℕ
again e = 62 ∷ name_of e ++ 10 ∷ letters_of e ++ 10 ∷ []

all_again : List ℕ → List ℕ
all_again f = each again (file_records f)

-- what is told, as numbers: a record's name by its offsets and its letters by their number, a refusal by its number and place
handing_told : Told Handing → List ℕ
handing_told (gives (entry start end size)) = start ∷ end ∷ size ∷ []
handing_told (gives no_entry) = []
handing_told (refuses n p) = n ∷ p ∷ []

-- and a check's refusal
refusal_told : Verdict → List ℕ
refusal_told fine = []
refusal_told (refused n p) = n ∷ p ∷ []

-- what a call tells, where the reader stands then, and what the buffer and the lengths table hold then
all_told : ReaderRule → List ℕ
all_told r = handing_told r.told ++ r.at ∷ r.letters ++ r.lengths

-- the first call over a file, with a buffer of so many 9s and a table of so many 8s
first_call : ℕ → ℕ → List ℕ → List ℕ
first_call room rows f = all_told (call f (at_first (replicate room 9) (replicate rows 8)))

-- the file over a buffer of 6 bytes and a table of 3 rows: what a caller holds after the first call, and after the second
held_1 : Held
held_1 = held_after file (at_first (replicate 6 9) (replicate 3 8)) 5

held_2 : Held
held_2 = held_after file held_1 0

-- THE TABLE
fasta_facts : List Fact
fasta_facts =
    -- its records: p1 with ACGTA, p2 with none
    is (all_again file) (62 ∷ 112 ∷ 49 ∷ 10 ∷ 65 ∷ 67 ∷ 71 ∷ 84 ∷ 65 ∷ 10 ∷ 62 ∷ 112 ∷ 50 ∷ 10 ∷ 10 ∷ [])
    -- 13 before 10 is no byte of a line, and empty lines are skipped: the same records
    ∷ is (all_again with_returns) (all_again file)
    -- a file of empty lines, or of nothing, has no record
    ∷ is (all_again (10 ∷ 13 ∷ 10 ∷ 10 ∷ [])) []
    ∷ is (all_again []) []
    -- and the search over it is refused with 1
    ∷ is (refusal_told (check1 (map size_of (file_records (10 ∷ []))))) (1 ∷ 0 ∷ [])
    -- > inside a line begins no record: it is a byte of a name, or of the letter lines
    ∷ is (all_again (62 ∷ 97 ∷ 62 ∷ 10 ∷ 67 ∷ 62 ∷ 71 ∷ 10 ∷ [])) (62 ∷ 97 ∷ 62 ∷ 10 ∷ 67 ∷ 62 ∷ 71 ∷ 10 ∷ [])
    -- a tab ends a name as a space does; a name may be empty
    ∷ is (all_again (62 ∷ 97 ∷ 9 ∷ 98 ∷ 32 ∷ 99 ∷ 10 ∷ 65 ∷ [])) (62 ∷ 97 ∷ 10 ∷ 65 ∷ 10 ∷ [])
    ∷ is (all_again (62 ∷ 32 ∷ 98 ∷ 10 ∷ 65 ∷ [])) (62 ∷ 10 ∷ 65 ∷ 10 ∷ [])
    -- the first call: the name at 1 to 3, 5 letters, the cursor at the next >, the letters and their number written
    ∷ is (first_call 6 3 file) (1 ∷ 3 ∷ 5 ∷ 20 ∷ 65 ∷ 67 ∷ 71 ∷ 84 ∷ 65 ∷ 9 ∷ 5 ∷ 8 ∷ 8 ∷ [])
    -- the second: a record of no letters, and the cursor at the file's end; then there is none, and all stays
    ∷ is (all_told (call file held_1)) (21 ∷ 23 ∷ 0 ∷ 24 ∷ 65 ∷ 67 ∷ 71 ∷ 84 ∷ 65 ∷ 9 ∷ 5 ∷ 0 ∷ 8 ∷ [])
    ∷ is (all_told (call file held_2)) (24 ∷ 65 ∷ 67 ∷ 71 ∷ 84 ∷ 65 ∷ 9 ∷ 5 ∷ 0 ∷ 8 ∷ [])
    -- a cursor past the file's end finds none
    ∷ is (handing_told (call file (record { at = 99; used = 0; count = 0; letters = []; lengths = [] })).told) []
    -- 19: text before the first >; an empty line is none
    ∷ is (first_call 6 1 (10 ∷ 65 ∷ 10 ∷ file)) (19 ∷ 0 ∷ 0 ∷ 9 ∷ 9 ∷ 9 ∷ 9 ∷ 9 ∷ 9 ∷ 8 ∷ [])
    ∷ is (handing_told (call (10 ∷ file) (at_first (replicate 6 9) (replicate 1 8))).told) (2 ∷ 4 ∷ 5 ∷ [])
    -- 20: the buffer one byte too small, or the table without a row left; all stays. It comes before 4: every byte counts
    ∷ is (first_call 4 1 file) (20 ∷ 0 ∷ 0 ∷ 9 ∷ 9 ∷ 9 ∷ 9 ∷ 8 ∷ [])
    ∷ is (first_call 5 0 file) (20 ∷ 0 ∷ 0 ∷ 9 ∷ 9 ∷ 9 ∷ 9 ∷ 9 ∷ [])
    ∷ is (first_call 1 1 (62 ∷ 10 ∷ 97 ∷ 98 ∷ 10 ∷ [])) (20 ∷ 0 ∷ 0 ∷ 9 ∷ 8 ∷ [])
    -- 4: lower case, on the second letter line, by the offset in the file; all stays
    ∷ is (first_call 3 1 (62 ∷ 97 ∷ 13 ∷ 10 ∷ 65 ∷ 13 ∷ 10 ∷ 67 ∷ 103 ∷ 10 ∷ [])) (4 ∷ 8 ∷ 0 ∷ 9 ∷ 9 ∷ 9 ∷ 8 ∷ [])
    -- a 13 at the file's end, with no 10 behind it, is a byte of its line
    ∷ is (first_call 3 1 (62 ∷ 97 ∷ 10 ∷ 65 ∷ 67 ∷ 13 ∷ [])) (4 ∷ 5 ∷ 0 ∷ 9 ∷ 9 ∷ 9 ∷ 8 ∷ [])
    -- the program `lines` on the file: one sequence a line; on one with a bad byte, "refused 4 5"
    ∷ is (lines_rule file) (65 ∷ 67 ∷ 71 ∷ 84 ∷ 65 ∷ 10 ∷ 10 ∷ [])
    ∷ is (lines_rule (62 ∷ 97 ∷ 10 ∷ 65 ∷ 67 ∷ 13 ∷ [])) (114 ∷ 101 ∷ 102 ∷ 117 ∷ 115 ∷ 101 ∷ 100 ∷ 32 ∷ 52 ∷ 32 ∷ 53 ∷ 10 ∷ [])
    ∷ []

the_fasta_facts : map (λ f. f.computed) fasta_facts ≡ map (λ f. f.paper) fasta_facts
unfolding fasta_facts file with_returns again all_again handing_told refusal_told all_told first_call held_1 held_2 without_return lines_of lines_from is_header up_to_header entries up_to_blank name_of texts letters_of file_records check19 check20 check_lines check4_file reader_checks reader_rule lines_checks lines_for lines_rule value is_letter each keep has_some put put_at ◌else◌ first first_bad check1 pieces digits_of decimal print_refused
the_fasta_facts = refl
