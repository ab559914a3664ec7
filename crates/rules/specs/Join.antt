-- The join of two lists of positions.
use Rattle.std.specs.Prelude.{Bool, true, ◌&&◌, List, [], ◌∷◌, ℕ, leb, ltb}
use Rattle.rules.specs.Limits.{sequence_set_letters}
use Rattle.rules.specs.Lists.{keep, has_some, is_member}
use Rattle.rules.specs.Occurrence.{reach}
use Rattle.rules.specs.Template.{distance}

-- the positions of the second list at which a partner of p starts: after a head of n letters and a gap in the range
unfoldable pub partners : List ℕ → ℕ → ℕ → ℕ → ℕ → List ℕ
partners second n low high p = keep (λ q. is_member q (reach (distance n low) (distance n high) p)) second

-- the positions of the first list that have at least one partner in the second
unfoldable pub partnered : List ℕ → List ℕ → ℕ → ℕ → ℕ → List ℕ
partnered first second n low high = keep (λ p. has_some (partners second n low high p)) first

-- a list that a join takes: strictly rising from above `least`, and no position past the last letter there may be
unfoldable pub is_rising : ℕ → List ℕ → Bool
is_rising least [] = true
is_rising least (p ∷ ps) = ltb least p && leb p sequence_set_letters && is_rising p ps
