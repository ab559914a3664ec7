-- What the printing program prints: its pages, laid end to end, are what its rule says (`print_rule` of the rules' Text). `Pages::next`
-- promises that it leaves each page at the front of the buffer that is written out, and answers what is left after it.
-- proofs/Program.antt proves the statement.
use Rattle.std.specs.Prelude.{List, ◌++◌, ◌≡◌, ℕ}
use Rattle.rules.specs.Text.{parse_letters, parse_lengths, print_rule}
use Rattle.motifs.specs.Input.{input_told}
use Rattle.motifs.specs.Left.{Left, nothing, opening}
use Rattle.motifs.specs.Pages.{pages, left_at, text_left}

-- the first n pages of an input, laid end to end, and what is left after them
abbrev pub pages_of : List ℕ → ℕ → List ℕ
pages_of input n = pages (parse_letters input) (parse_lengths input) n (opening (input_told input))

abbrev pub left_of : List ℕ → ℕ → Left
left_of input n = left_at (parse_letters input) (parse_lengths input) n (opening (input_told input))

-- THE PRINTOUT of an input is its pages, laid end to end
pub record Program : Type 0 where
  -- some number of pages, laid end to end, is the whole printout, and nothing is left after them
  pub whole : (input : List ℕ) → (n : ℕ) × (left_of input n ≡ nothing) × (pages_of input n ≡ print_rule input)
  -- and the first n pages, whatever n, are the front of the printout: the rest of it is the text of what is left after them
  pub front : (input : List ℕ) (n : ℕ) → print_rule input ≡ pages_of input n ++ text_left (parse_letters input) (parse_lengths input) (left_of input n)
