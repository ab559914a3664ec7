-- What an accepted leg has room for, and what it tells.
use Rattle.std.specs.Prelude.{List, ℕ, min, length}
use Rattle.rules.specs.Calls.{moved}
use Rattle.rules.specs.Legs.{Stretch}
use Rattle.rules.specs.Told.{gives, LegTold}
use Rattle.rules.specs.declared.Search.{Search}

-- the shortest table
abbrev pub room_of : List ℕ → List ℕ → List ℕ → ℕ
room_of motifs supports weights = min (length motifs) (min (length supports) (length weights))

-- why it stopped, its steps, its rows, and the search at its new place
abbrev pub told_of : Search → Stretch → LegTold
told_of s l = record { answer = gives l.stop; steps = l.steps; rows = length l.motifs; search = moved s l.at }
