-- THE PRINTOUT of a file, as it comes to stand in a buffer record by record.
use Rattle.std.specs.Prelude.{List, ◌∷◌, ◌++◌, map, ◌≡◌, ℕ, ◌+◌, ◌≤◌, length, take}
use Rattle.rules.specs.Calls.{on_refusal}
use Rattle.rules.specs.Fasta.{lines_from, records_from, check19, check4_file, lines_for, lines_rule}
use Rattle.rules.specs.Refusals.{first}
use Rattle.rules.specs.Text.{print_refused}

-- WHAT IS PRINTED of a file where some lines stand and the reader is at a cursor: what is refused from there on, or those lines and
-- one for each record that is left
unfoldable pub rest_rule : List ℕ → ℕ → List ℕ → List ℕ
rest_rule file at before =
    on_refusal (first (check19 (lines_from file at) ∷ map check4_file (records_from file at))) print_refused (before ++ lines_for (records_from file at))

-- the lines so far, `used` bytes of them, stand at the front of a buffer and the reader is at a cursor: with those to come they are
-- no longer than the file, and the whole printout is what is printed from here
pub record Here (file out : List ℕ) (used at : ℕ) : Type 0 where
  pub short : used + length (lines_for (records_from file at)) ≤ length file
  pub whole : rest_rule file at (take used out) ≡ lines_rule file
