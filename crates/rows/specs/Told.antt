-- A row with few bits. The words of a long sequence are taken in lines, and behind the words of all sequences a bit for each line tells
-- whether it counts. Where the row is one with few, what stands in the other lines is left over from another row. Here is the row that
-- such words tell. The code has the sizes under the same names (src/lib.rt).
use Rattle.std.specs.Prelude.{Bool, ◌&&◌, List, [], ◌∷◌, ◌++◌, map, ℕ, ◌+◌, ◌-◌, ◌*◌, ◌/◌, eqb, leb, length, take, drop, get_or}
use Rattle.rules.specs.Lists.{if, run}
use Rattle.rows.specs.Bits.{word_bits, held}
use Rattle.rows.specs.Set.{row_marks, row_unused, words_of, first_word, bits_at}

-- the words of a line, and those of a sequence that is long, or more
abbrev pub row_line : ℕ
row_line = 8

abbrev pub row_long : ℕ
row_long = 128

-- a row with few bits has 1 in its last word
unfoldable pub is_few : List ℕ → Bool
is_few row = eqb (get_or row (length row - 1) 0) 1

-- the bits that tell of lines, in the unused words of a row. Those of a sequence whose words begin at `from` begin with a word of its own:
-- it has 128 words at least, and a word tells of 512, so that no two long sequences have one in common
abbrev pub told_line : ℕ → ℕ → ℕ
told_line from q = word_bits * (from / row_long) + q / row_line

-- whether the line counts in which word q of that sequence stands
unfoldable pub is_listed : List ℕ → ℕ → ℕ → Bool
is_listed row from q = eqb (get_or (held (drop (length row - row_unused) row)) (told_line from q) 0) 1

-- word q of it, if it has n words
unfoldable pub told_word : List ℕ → ℕ → ℕ → ℕ → ℕ
told_word row from n q = if (leb row_long n && is_few row) (if (is_listed row from q) (get_or row (from + q) 0) 0) (get_or row (from + q) 0)

unfoldable pub told_words : List ℕ → ℕ → ℕ → List ℕ
told_words row from n = map (told_word row from n) (run 0 n)

-- the words of all sequences, the first of which begin at `from`
unfoldable pub told_all : List ℕ → ℕ → List ℕ → List ℕ
told_all [] from row = []
told_all (n ∷ ns) from row = told_words row from (words_of n) ++ told_all ns (from + words_of n) row

-- THE ROW that some words tell
unfoldable pub told : List ℕ → List ℕ → List ℕ
told ns row = if (is_few row) (take row_marks row ++ told_all ns row_marks row ++ drop (first_word ns (length ns)) row) row

-- the bits that it tells of sequence k
abbrev pub told_at : List ℕ → List ℕ → ℕ → List ℕ
told_at ns row k = bits_at ns k (told ns row)
