-- A file is longer than its records: their letters are parts of it that do not overlap, and each has a > besides. So the
-- letters of all records and a row for each are no more than the file's bytes, and a buffer and a table as long as the file have room
-- for every record that a row can count.
use mathlib.Core.Path.{◌≡◌, refl, ap, ◌∙◌}
use mathlib.Core.Bool.{Bool, true, false}
use mathlib.Core.List.{List, [], ◌∷◌, ◌++◌}
use Prim.Native.Nat.{ℕ, ◌+◌, ◌-◌, ◌≤◌}
use native.Mathlib.Omega.{arith}
use lib.ListN.{length, drop, length-append, length-take, length-drop}
use Rattle.rules.specs.Fasta.{Line, lines_from, is_header, up_to_header, entries, texts, letters_of, file_records}
use Rattle.rules.specs.Lists.{if, each}
use Rattle.rules.proofs.FastaBytes.{mark_some}
use Rattle.rules.proofs.FastaLaid.{InFile, Laid, laid}

module _ (file : List ℕ) where
  -- a line ends within the file
  line_short : (l : Line) → InFile file l → length l.text ≤ length file - l.at
  line_short l e = omega (arith, ap length e ∙ length-take (length l.text) (drop l.at file), length-drop l.at file)

  -- and so do lines laid one behind the other
  texts_fit : (o : ℕ) (ls : List Line) → Laid file o ls → length (texts ls) ≤ length file - o
  unfolding texts each
  texts_fit o [] d = omega arith
  texts_fit o (l ∷ ls) d =
      omega (arith, d.0, line_short l d.1, length-append l.text (each (λ l. l.text) ls), texts_fit (l.at + length l.text) ls d.2)

-- the letters of the records of some lines, those before the first of them, and a byte for each are no more than the lines' bytes
counted : (ls : List Line) → length (texts (up_to_header ls)) + (length (each letters_of (entries ls)) + length (entries ls)) ≤ length (texts ls)
unfolding texts each up_to_header entries letters_of
counted [] = omega arith
counted (l ∷ ls) = go (is_header l) (mark_some l) (counted ls)
  where
    go : (b : Bool) → (b ≡ true → 1 ≤ length l.text) → length (texts (up_to_header ls)) + (length (each letters_of (entries ls)) + length (entries ls)) ≤ length (texts ls)
        → let up = if b [] (l ∷ up_to_header ls) in let es = if b (record { header = l; lines = up_to_header ls } ∷ entries ls) (entries ls) in
        length (texts up) + (length (each letters_of es) + length es) ≤ length (l.text ++ each (λ l. l.text) ls)
    go true s ih = omega (arith, s refl, length-append l.text (each (λ l. l.text) ls), length-append (texts (up_to_header ls)) (each letters_of (entries ls)))
    go false s ih = omega (arith, length-append l.text (each (λ l. l.text) ls), length-append l.text (texts (up_to_header ls)))

pub records_fit : (file : List ℕ) → length (each letters_of (file_records file)) + length (file_records file) ≤ length file
unfolding file_records
records_fit file = omega (arith, counted (lines_from file 0), texts_fit file 0 (lines_from file 0) (laid file 0))
