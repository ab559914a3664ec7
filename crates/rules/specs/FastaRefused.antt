-- What is said of the FASTA reader's refusals, and of those of the program `lines`, in the request's words. The checks of Fasta.antt
-- are tests; here stand the sentences that they test, about the file's own bytes, and at the end that the checks say them, which
-- proofs/FastaRefused.antt and proofs/FastaProgram.antt prove.
use Rattle.std.specs.Prelude.{◌⊎◌, ◌↔◌, ◌≡◌, ℕ, ◌+◌, ◌≤◌, ◌<◌, ◌^◌, length, get_or}
use mathlib.Core.List.{List, ◌∷◌, ◌++◌, Memᴰ, map}
use Rattle.rules.specs.Calls.{begin_rule}
use Rattle.rules.specs.Fasta.{Line, lines_from, Entry, size_of, records_from, file_records, check19, check20, check4_file, reader_rule, letters_of, lines_checks, lines_rule}
use Rattle.rules.specs.Letters.{value}
use Rattle.rules.specs.Limits.{fasta_bytes, fasta_length, text_bytes, text_quorum_digits}
use Rattle.rules.specs.Lists.{each, joined}
use Rattle.rules.specs.Refusals.{first}
use Rattle.rules.specs.Refused.{IsLetter, RefusesAt, RefusesIf}
use Rattle.rules.specs.Text.{decimal, template_text, template_of, print_refused, print_told, print_rule}
use Rattle.rules.specs.TextRefused.{with_end, Writable}
use Rattle.rules.specs.Told.{refused, refuses}
use Rattle.rules.specs.declared.Component.{Component}

-- 19: the first line from a cursor on that is not empty does not begin with >
abbrev pub TextBefore : List ℕ → ℕ → Type 0
TextBefore file at = (l : Line) × (ls : List Line) × (lines_from file at ≡ l ∷ ls) × (get_or file l.at 0 ≡ 62 → ⊥)

-- 20: a record's letter lines have more bytes than the buffer has left, whatever bytes they are; or the lengths table has no row
-- left, or none that holds their number
abbrev pub NoRoom : List ℕ → ℕ → List ℕ → ℕ → ℕ → Type 0
NoRoom letters used lengths count size = (length letters < used + size) ⊎ (length lengths ≤ count) ⊎ (fasta_length < size)

-- 4: p is the offset in the file of the first byte of some lines that is no letter. A byte of one of these lines
abbrev pub InLines : List Line → ℕ → Type 0
InLines ls p = (l : Line) × Memᴰ l ls × (l.at ≤ p) × (p < l.at + length l.text)

pub record FirstNoLetter (file : List ℕ) (ls : List Line) (p : ℕ) : Type 0 where
  pub inside : InLines ls p
  pub bad : IsLetter (get_or file p 0) → ⊥
  pub before : (q : ℕ) → InLines ls q → q < p → IsLetter (get_or file q 0)

-- THE ORDER of what a call refuses: 19; then, of the next record, 20; then 4. 19 and 20 tell place 0. e is the next record, and no text
-- stands before it
abbrev pub NextIs : List ℕ → ℕ → Entry → Type 0
NextIs file at e = (TextBefore file at → ⊥) × (es : List Entry) × (records_from file at ≡ e ∷ es)

pub data RefusesNext (file : List ℕ) (at : ℕ) (letters : List ℕ) (used : ℕ) (lengths : List ℕ) (count n p : ℕ) : Type 0 where
  text_before : n ≡ 19 → p ≡ 0 → TextBefore file at → RefusesNext file at letters used lengths count n p
  no_room : n ≡ 20 → p ≡ 0 → (e : Entry) → NextIs file at e → NoRoom letters used lengths count (size_of e) → RefusesNext file at letters used lengths count n p
  no_letter : n ≡ 4 → (e : Entry) → NextIs file at e → (NoRoom letters used lengths count (size_of e) → ⊥) → FirstNoLetter file e.lines p → RefusesNext file at letters used lengths count n p

-- THE PROGRAM `lines` refuses a file that it cannot hold, above 1 MiB, with 20; then 19; then 4, with the first byte that is no letter
-- of the lines of all its records
abbrev pub letter_lines : List ℕ → List Line
letter_lines file = each (λ e. e.lines) (file_records file)

pub data LinesRefuses (file : List ℕ) (n p : ℕ) : Type 0 where
  file_too_long : n ≡ 20 → p ≡ 0 → fasta_bytes < length file → LinesRefuses file n p
  text_first : n ≡ 19 → p ≡ 0 → length file ≤ fasta_bytes → TextBefore file 0 → LinesRefuses file n p
  bad_letter : n ≡ 4 → length file ≤ fasta_bytes → (TextBefore file 0 → ⊥) → FirstNoLetter file (letter_lines file) p → LinesRefuses file n p

-- WHAT IT PRINTS otherwise is the sequences of an input of the printing program, which has a template and a quorum before them
abbrev pub input_of : List Component → ℕ → List ℕ → List ℕ
input_of cs quorum sequences = with_end (template_text cs) ++ (with_end (decimal quorum) ++ sequences)

-- WHAT THE READER REFUSES: each check says its sentence
pub record FastaRefused : Type 0 where
  -- 19: a line that is not empty before the first record
  pub nineteen : (file : List ℕ) (at : ℕ) → RefusesIf (check19 (lines_from file at)) 19 (TextBefore file at)
  -- 20: no room for the next record
  pub twenty : (letters : List ℕ) (used : ℕ) (lengths : List ℕ) (count : ℕ) (e : Entry)
      → RefusesIf (check20 letters used lengths count e) 20 (NoRoom letters used lengths count (size_of e))
  -- 4: a byte of its lines that is no letter, with the offset of the first in the file
  pub four : (file : List ℕ) (at : ℕ) (e : Entry) → Memᴰ e (records_from file at) → RefusesAt (check4_file e) 4 (FirstNoLetter file e.lines)
  -- a call refuses in this order, and nothing else
  pub in_order : (file : List ℕ) (at : ℕ) (letters : List ℕ) (used : ℕ) (lengths : List ℕ) (count n p : ℕ)
      → ((reader_rule file at letters used lengths count).told ≡ refuses n p) ↔ RefusesNext file at letters used lengths count n p

-- WHAT THE PROGRAM `lines` REFUSES AND PRINTS
pub record FastaProgram : Type 0 where
  -- it refuses in this order, and nothing else
  pub in_order : (file : List ℕ) (n p : ℕ) → (first (lines_checks file) ≡ refused n p) ↔ LinesRefuses file n p
  pub refused : (file : List ℕ) (n p : ℕ) → LinesRefuses file n p → lines_rule file ≡ print_refused n p
  -- and else prints one sequence a line: the letters of each record, in file order
  pub printed : (file : List ℕ) → ((n p : ℕ) → LinesRefuses file n p → ⊥) → lines_rule file ≡ each with_end (map letters_of (file_records file))
  -- so the printing program, given them behind a template and a quorum, tells what a search over the records tells
  pub searched : (file : List ℕ) (cs : List Component) (quorum : ℕ) → ((n p : ℕ) → LinesRefuses file n p → ⊥) → Writable cs → quorum < 10 ^ text_quorum_digits
      → length (input_of cs quorum (lines_rule file)) ≤ text_bytes
      → let ss = map letters_of (file_records file) in
      print_rule (input_of cs quorum (lines_rule file)) ≡ print_told (map (map value) ss) (begin_rule (joined ss) (map length ss) (template_of cs) quorum)
