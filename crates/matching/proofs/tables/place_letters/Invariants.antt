-- Each turn writes the letters of one component, past those of the components before it.
use mathlib.Core.Path.{◌≡◌}
use lib.ListN.{take}
use Rattle.rows.specs.NextLetter.{letters_before}
use Rattle.matching.proofs.LetterPlaces.{Placed}
use Rattle.matching.proofs.tables.place_letters.Given as goal

abbrev pub invariant-loop-k : goal.invariant-loop-k
invariant-loop-k l = (l.from ≡ letters_before (take l.count l.components) l.k) × (Placed (take l.count l.components) l.k l.inside)
