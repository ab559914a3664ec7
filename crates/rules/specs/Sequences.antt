-- Sequences: the lent buffer of letters, split by the lengths. All else speaks of one sequence at a time, so that nothing
-- reaches across the end of one into the next.
use Rattle.std.specs.Prelude.{List, [], ◌∷◌, map, ℕ, take, drop}
use Rattle.rules.specs.Letters.{value}
use Rattle.rules.specs.declared.SequenceSet.{SequenceSet}

-- a buffer's parts, in order, each as long as its length says
unfoldable pub split : List ℕ → List ℕ → List (List ℕ)
split [] buffer = []
split (n ∷ ns) buffer = take n buffer ∷ split ns (drop n buffer)

-- the sequences: a list of letter values for each
unfoldable pub sequences : List ℕ → List ℕ → List (List ℕ)
sequences letters lengths = split lengths (map value letters)

-- the size of a set: how many sequences, and their letters in all
abbrev pub set_of : ℕ → ℕ → SequenceSet
set_of n letters = record { sequences = n; letters = letters }
