-- FASTA: what a file holds, and what the reader hands out of it, call by call. Bytes are written by their numbers: 9 is a tab,
-- 10 ends a line, 13 may stand before that 10, 32 is a space, 62 is >. The file
--
--     >p1 promoter
--     ACG
--     TA
--     >p2
--
-- holds the records p1 with the letters ACGTA, and p2 with none.
use Rattle.std.specs.Prelude.{Bool, false, ◌||◌, not, List, [], ◌∷◌, map, ◌≡◌, ℕ, suc, ◌+◌, ◌-◌, eqb, leb, ltb, length, take, drop, get_or}
use Rattle.rules.specs.Calls.{on_refusal}
use Rattle.rules.specs.Limits.{fasta_bytes, fasta_length}
use Rattle.rules.specs.Lists.{if, each, keep, put_at, has_some}
use Rattle.rules.specs.Refusals.{first, refuse_if, first_bad, bad_byte}
use Rattle.rules.specs.Text.{pieces, print_refused}
use Rattle.rules.specs.TextRefused.{with_end}
use Rattle.rules.specs.Told.{Verdict, Told, gives, refuses, Handing, entry, no_entry}

-- LINES. A line of a file: the offset at which it begins, and its bytes without its end
pub record Line : Type 0 where
  pub at : ℕ
  pub text : List ℕ

abbrev pub line : ℕ → List ℕ → Line
line o text = record { at = o; text = text }

-- the bytes before a byte 10, without a byte 13 at their end
unfoldable pub without_return : List ℕ → List ℕ
without_return text = if (eqb (get_or text (length text - 1) 0) 13) (take (length text - 1) text) text

-- the lines that some bytes 10 cut a text into, the first of which begins at offset o. No 10 ends the last: the file's end does,
-- and a 13 there is a byte of it
unfoldable pub lines_of : ℕ → List (List ℕ) → List Line
lines_of o [] = []
lines_of o (text ∷ []) = line o text ∷ []
lines_of o (text ∷ next ∷ rest) = line o (without_return text) ∷ lines_of (o + length text + 1) (next ∷ rest)

abbrev pub is_text : Line → Bool
is_text l = has_some l.text

-- the lines of a file from an offset on; empty ones are skipped
unfoldable pub lines_from : List ℕ → ℕ → List Line
lines_from file at = keep is_text (lines_of at (pieces 10 (drop at file)))

-- RECORDS. > begins a record as the first byte of a line, and nowhere else
unfoldable pub is_header : Line → Bool
is_header l = eqb (get_or l.text 0 0) 62

-- a record: its first line, and the lines that hold its letters
pub record Entry : Type 0 where
  pub header : Line
  pub lines : List Line

-- the lines up to the next record
unfoldable pub up_to_header : List Line → List Line
up_to_header [] = []
up_to_header (l ∷ ls) = if (is_header l) [] (l ∷ up_to_header ls)

-- the records of some lines, in order
unfoldable pub entries : List Line → List Entry
entries [] = []
entries (l ∷ ls) = if (is_header l) (record { header = l; lines = up_to_header ls } ∷ entries ls) (entries ls)

-- the name of a record: from after its > to the first space, tab or line end
abbrev pub is_space_or_tab : ℕ → Bool
is_space_or_tab b = eqb b 32 || eqb b 9

unfoldable pub up_to_blank : List ℕ → List ℕ
up_to_blank [] = []
up_to_blank (b ∷ bs) = if (is_space_or_tab b) [] (b ∷ up_to_blank bs)

unfoldable pub name_of : Entry → List ℕ
name_of e = up_to_blank (drop 1 e.header.text)

-- where its name starts and ends in the file
abbrev pub name_start : Entry → ℕ
name_start e = e.header.at + 1

abbrev pub name_end : Entry → ℕ
name_end e = name_start e + length (name_of e)

-- its letters: the bytes of its lines, joined
unfoldable pub texts : List Line → List ℕ
texts ls = each (λ l. l.text) ls

unfoldable pub letters_of : Entry → List ℕ
letters_of e = texts e.lines

abbrev pub size_of : Entry → ℕ
size_of e = length (letters_of e)

-- the records from an offset on
abbrev pub records_from : List ℕ → ℕ → List Entry
records_from file at = entries (lines_from file at)

-- WHAT A FILE HOLDS: its records, in file order
unfoldable pub file_records : List ℕ → List Entry
file_records file = records_from file 0

-- WHAT IS REFUSED. 19: a line that is not empty before the first record
abbrev pub has_text_first : List Line → Bool
has_text_first [] = false
has_text_first (l ∷ ls) = not (is_header l)

unfoldable pub check19 : List Line → Verdict
check19 ls = refuse_if (has_text_first ls) 19

-- 20: the letters of the next record, behind the `used` that the buffer holds, end past it; or the `count` rows that the lengths
-- table holds are all that it has, or a row of it cannot hold their number. The test is of both lengths: the buffer's and the table's
abbrev pub has_no_room : ℕ → ℕ → ℕ → ℕ → ℕ → Bool
has_no_room letters used lengths count size = ltb letters (used + size) || leb lengths count || ltb fasta_length size

unfoldable pub check20 : List ℕ → ℕ → List ℕ → ℕ → Entry → Verdict
check20 letters used lengths count e = refuse_if (has_no_room (length letters) used (length lengths) count (size_of e)) 20

-- 4: a byte of its lines that is no letter, by the offset of the first in the file
abbrev pub check_line : Line → Verdict
check_line l = first_bad 4 bad_byte l.at l.text

unfoldable pub check_lines : List Line → Verdict
check_lines ls = first (map check_line ls)

unfoldable pub check4_file : Entry → Verdict
check4_file e = check_lines e.lines

-- THE READER stands at a cursor, an offset in the file. What it refuses there: 19, and of the next record, if there is one, 20 and 4
abbrev pub next_checks : List ℕ → ℕ → List ℕ → ℕ → List Entry → List Verdict
next_checks letters used lengths count [] = []
next_checks letters used lengths count (e ∷ es) = check20 letters used lengths count e ∷ check4_file e ∷ []

unfoldable pub reader_checks : List ℕ → ℕ → List ℕ → ℕ → List ℕ → ℕ → List Verdict
reader_checks file at letters used lengths count =
    check19 (lines_from file at) ∷ next_checks letters used lengths count (records_from file at)

-- what it tells, where it stands then, and what the buffer of letters and the lengths table hold then
pub record ReaderRule : Type 0 where
  pub told : Told Handing
  pub at : ℕ
  pub letters : List ℕ
  pub lengths : List ℕ

-- what is handed out of a record: its name by its offsets, and how many letters it has
abbrev pub handing : Entry → Handing
handing e = entry (name_start e) (name_end e) (size_of e)

-- after a record the reader stands at the > of the next, or at the file's end
abbrev pub cursor_after : List ℕ → List Entry → ℕ
cursor_after file [] = length file
cursor_after file (e ∷ es) = e.header.at

module _ (file : List ℕ) (at : ℕ) (letters : List ℕ) (used : ℕ) (lengths : List ℕ) (count : ℕ) where
  -- nothing is written, and the reader stands where it stood
  abbrev pub stays : Told Handing → ReaderRule
  stays t = record { told = t; at = at; letters = letters; lengths = lengths }

  -- the next record is handed out: its letters are written behind those that the buffer holds, their number behind the rows that
  -- the lengths table holds
  abbrev pub hands_out : List Entry → ReaderRule
  hands_out [] = stays (gives no_entry)
  hands_out (e ∷ es) =
      record {
        told = gives (handing e);
        at = cursor_after file es;
        letters = put_at used (letters_of e) letters;
        lengths = put_at count (size_of e ∷ []) lengths;
      }

  -- THE RULE of a call
  unfoldable pub reader_rule : ReaderRule
  reader_rule =
      on_refusal (first (reader_checks file at letters used lengths count))
      (λ n p. stays (refuses n p))
      (hands_out (records_from file at))

-- ONE CALL AFTER ANOTHER. What a caller holds between two: the cursor, how much of the buffer and of the table is used, and both
pub record Held : Type 0 where
  pub at : ℕ
  pub used : ℕ
  pub count : ℕ
  pub letters : List ℕ
  pub lengths : List ℕ

-- at first: nothing is used, and the reader stands at the file's first byte
abbrev pub at_first : List ℕ → List ℕ → Held
at_first letters lengths = record { at = 0; used = 0; count = 0; letters = letters; lengths = lengths }

abbrev pub call : List ℕ → Held → ReaderRule
call file h = reader_rule file h.at h.letters h.used h.lengths h.count

-- after a call that handed out a record of so many letters
abbrev pub held_after : List ℕ → Held → ℕ → Held
held_after file h size =
    record { at = (call file h).at; used = h.used + size; count = suc h.count; letters = (call file h).letters; lengths = (call file h).lengths }

-- calls one after another, each over what the one before left: the first hands out the first of some records, and so on
pub data HandsOut (file : List ℕ) : Held → List Handing → Held → Type 0 where
  no_call : {h : Held} → HandsOut file h [] h
  one_more : {h k : Held} {start end size : ℕ} {xs : List Handing} → (call file h).told ≡ gives (entry start end size)
      → HandsOut file (held_after file h size) xs k → HandsOut file h (entry start end size ∷ xs) k

-- THE PROGRAM `lines`: one sequence a line. It refuses a file that it cannot hold, then what the reader refuses
unfoldable pub lines_checks : List ℕ → List Verdict
lines_checks file = refuse_if (ltb fasta_bytes (length file)) 20 ∷ check19 (lines_from file 0) ∷ map check4_file (file_records file)

-- some records, a line for each
unfoldable pub lines_for : List Entry → List ℕ
lines_for es = each (λ e. with_end (letters_of e)) es

-- ITS RULE: all that it prints for a file
unfoldable pub lines_rule : List ℕ → List ℕ
lines_rule file = on_refusal (first (lines_checks file)) print_refused (lines_for (file_records file))
