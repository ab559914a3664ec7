-- Each turn writes the place of one letter, past those written before.
use mathlib.Core.Path.{◌≡◌}
use lib.ListN.{take}
use Rattle.matching.proofs.LetterPlaces.{Coded}
use Rattle.matching.proofs.tables.place_component.Given as goal

abbrev pub invariant-loop-i : goal.invariant-loop-i
invariant-loop-i l = (take l.from l.inside ≡ take l.from l.initial.inside) × (Coded l.k l.from l.i l.inside)
