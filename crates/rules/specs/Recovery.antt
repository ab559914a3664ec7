-- Recovery: the rows of a motif's occurrence list from row f on, as many as fit into a buffer whole.
use Rattle.std.specs.Prelude.{List, ℕ, suc, ◌/◌, take, drop}
use Rattle.rules.specs.Support.{occurrence_rows, parts}
use Rattle.rules.specs.Template.{size}
use Rattle.rules.specs.declared.Template.{Template}

-- the whole list of a motif's occurrences
unfoldable pub whole_list : Template → List (List ℕ) → ℕ → List (List ℕ)
whole_list t ss m = occurrence_rows (parts t (size t) m) ss

-- the rows of k + 1 numbers that fit into a buffer of n, from row f on
unfoldable pub page : Template → List (List ℕ) → ℕ → ℕ → ℕ → List (List ℕ)
page t ss m f n = take (n / suc t.count) (drop f (whole_list t ss m))
