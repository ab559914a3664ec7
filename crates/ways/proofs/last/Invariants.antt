-- `last` meets its contract. The loop's invariant: the first `o` places are written, and past them is what was there.
use mathlib.Core.Path.{◌≡◌}
use Rattle.ways.specs.Counts.{ending}
use Rattle.rules.specs.Lists.{over}
use Rattle.ways.proofs.FilledTables.{by_offset}
use Rattle.ways.proofs.last.Given as goal

abbrev pub invariant-loop-o : goal.invariant-loop-o
invariant-loop-o l = (l.ways ≡ over (by_offset (ending l.word l.s)) l.o l.initial.ways)
