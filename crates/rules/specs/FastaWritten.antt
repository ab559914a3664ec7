-- HOW A FASTA FILE IS WRITTEN, from its lines and from its records. Fasta.antt reads a file by cutting it; here stands what it is put
-- together from, and at the end that what was put together is read back, and that every file is put together so, which
-- proofs/FastaWritten.antt proves. Bytes are written by their numbers, as there.
use Rattle.std.specs.Prelude.{Bool, false, ◌⊎◌, ◌≡◌, ℕ, ◌+◌, ◌-◌, length, get_or, replicate, take, drop}
use mathlib.Core.List.{List, [], ◌∷◌, ◌++◌, map, Memᴰ}
use Rattle.rules.specs.Fasta.{Line, line, lines_of, lines_from, Entry, name_of, name_start, name_end, letters_of, records_from, file_records}
use Rattle.rules.specs.FastaRefused.{TextBefore}
use Rattle.rules.specs.Lists.{if, each, joined}
use Rattle.rules.specs.Text.{pieces}
use Rattle.rules.specs.TextRefused.{Without}

-- LINES. A line as it is written: its text, and whether a 13 stands before the 10 that ends it
pub record WrittenLine : Type 0 where
  pub text : List ℕ
  pub return : Bool

abbrev pub written : WrittenLine → List ℕ
written w = w.text ++ if w.return (13 ∷ 10 ∷ []) (10 ∷ [])

-- a file is lines, each with its end, and a last text that the file's end ends. No text holds a 10, and none that 10 alone ends has a
-- 13 at its end
pub record InWrittenLines (file : List ℕ) (ws : List WrittenLine) (last : List ℕ) : Type 0 where
  pub whole : file ≡ each written ws ++ last
  pub no_end_within : (w : WrittenLine) → Memᴰ w ws → Without 10 w.text
  pub no_return : (w : WrittenLine) → Memᴰ w ws → w.return ≡ false → get_or w.text (length w.text - 1) 0 ≡ 13 → ⊥
  pub no_end_after : Without 10 last

-- where they stand in the file, the first of them at o: each behind those before it, with their ends
unfoldable pub placed : ℕ → List WrittenLine → List ℕ → List Line
placed o [] last = line o last ∷ []
placed o (w ∷ ws) last = line o w.text ∷ placed (o + length (written w)) ws last

-- RECORDS. A record as it is written: > and its name, what else stands on that line, and its letters on lines of any widths
pub record WrittenRecord : Type 0 where
  pub name : List ℕ
  pub rest : List ℕ
  pub parts : List (List ℕ)

abbrev pub record_texts : WrittenRecord → List (List ℕ)
record_texts r = (62 ∷ r.name ++ r.rest) ∷ r.parts

-- no space or tab is in its name, one begins the rest if there is any, and no > begins a later line
pub record ProperRecord (r : WrittenRecord) : Type 0 where
  pub no_blank : (b : ℕ) → Memᴰ b r.name → (b ≡ 32) ⊎ (b ≡ 9) → ⊥
  pub blank_rest : (r.rest ≡ []) ⊎ (get_or r.rest 0 0 ≡ 32) ⊎ (get_or r.rest 0 0 ≡ 9)
  pub no_mark : (text : List ℕ) → Memᴰ text r.parts → get_or text 0 0 ≡ 62 → ⊥

-- a file is empty lines, and then records one after another; an empty line behind a record is one of its own. The empty text behind a
-- last byte 10 counts too: as one of the last record's lines, or, in a file without a record, as one of the empty lines
pub record InWrittenRecords (file : List ℕ) (rs : List WrittenRecord) : Type 0 where
  pub lines : List WrittenLine
  pub last : List ℕ
  pub empties : ℕ
  pub laid : InWrittenLines file lines last
  pub texts : map (λ w. w.text) lines ++ (last ∷ []) ≡ replicate empties [] ++ each record_texts rs
  pub proper : (r : WrittenRecord) → Memᴰ r rs → ProperRecord r

-- WHAT A FILE HOLDS is what it was written from
pub record FastaWritten : Type 0 where
  -- the lines of a file, empty ones too, are those that it was written from, each at its place; the last is what the file's end ends
  pub lines_back : (file : List ℕ) (ws : List WrittenLine) (last : List ℕ) → InWrittenLines file ws last → lines_of 0 (pieces 10 file) ≡ placed 0 ws last
  -- and every file can be written from lines
  pub lines_of_each : (file : List ℕ) → (ws : List WrittenLine) × (last : List ℕ) × InWrittenLines file ws last
  -- the records of a file are those that it was written from: their names, and their letters joined; and no text stands before them
  pub records_back : (file : List ℕ) (rs : List WrittenRecord) → InWrittenRecords file rs
      → (map name_of (file_records file) ≡ map (λ r. r.name) rs) × (map letters_of (file_records file) ≡ map (λ r. joined r.parts) rs) × (TextBefore file 0 → ⊥)
  -- and every file with no text before its first record can be written from records
  pub records_of_each : (file : List ℕ) → (TextBefore file 0 → ⊥) → (rs : List WrittenRecord) × InWrittenRecords file rs
  -- from any offset on, a line's text is the part of the file from the line's own offset on
  pub in_file : (file : List ℕ) (at : ℕ) (l : Line) → Memᴰ l (lines_from file at) → l.text ≡ take (length l.text) (drop l.at file)
  -- and a record's name the part between its two offsets
  pub named : (file : List ℕ) (at : ℕ) (e : Entry) → Memᴰ e (records_from file at) → take (name_end e - name_start e) (drop (name_start e) file) ≡ name_of e
