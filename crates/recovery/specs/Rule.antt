-- The rule of a recovery in the parts that the call goes through: what it refuses before it counts, and what comes of it then.
use Rattle.std.specs.Prelude.{List, [], ◌∷◌, ◌++◌, ℕ, length}
use Rattle.rules.specs.Calls.{Written, written_unless}
use Rattle.rules.specs.Lists.{joined}
use Rattle.rules.specs.Recovery.{whole_list, page}
use Rattle.rules.specs.Refusals.{check5, check6, check7, check8, check14, check15, check24, set_checks}
use Rattle.rules.specs.Sequences.{sequences}
use Rattle.rules.specs.Told.{Verdict}
use Rattle.rules.specs.declared.Template.{Template}
use Rattle.rules.specs.declared.Recovered.{Recovered}

-- 1 to 8, 24 and 14
abbrev pub first_checks : List ℕ → List ℕ → Template → ℕ → List Verdict
first_checks letters lengths t m = set_checks letters lengths ++ (check5 t ∷ check6 t ∷ check7 t ∷ check8 t ∷ check24 t ∷ check14 t m ∷ [])

-- 15, and else a page of the list
unfoldable pub rows_rule : List ℕ → List ℕ → Template → ℕ → ℕ → List ℕ → Written Recovered
rows_rule letters lengths t m f out =
    let rows = page t (sequences letters lengths) m f (length out) in
    written_unless (check15 letters lengths t m f) (record { rows = length rows; length = length (whole_list t (sequences letters lengths) m) }) (joined rows) out
