-- `pass` meets its contract. The loop's invariant: the first `o` places are written, past them is what was there, and `total` is the sum of
-- the ways at the distances from `o` at which the next component may start.
use mathlib.Core.Path.{◌≡◌}
use mathlib.Core.List.{map}
use Prim.Native.Nat.{suc, ◌+◌}
use Rattle.rules.specs.Lists.{run, sum, over}
use Rattle.ways.specs.Counts.{at_position, leading}
use Rattle.ways.proofs.FilledTables.{by_offset}
use Rattle.ways.proofs.pass.Given as goal

abbrev pub invariant-loop-o : goal.invariant-loop-o
invariant-loop-o l = (l.ways ≡ over (by_offset (leading l.word (record { near = l.near; count = l.count }) l.s l.initial.ways)) l.o l.initial.ways)
    × (l.total ≡ sum (map (at_position l.initial.ways) (run (suc (l.o + l.near)) l.count)))
