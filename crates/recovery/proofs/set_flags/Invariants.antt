-- `set_flags` meets its contract: up to `i` the flags say which ways are above 0.
use mathlib.Core.Path.{◌≡◌}
use mathlib.Core.List.{map}
use lib.Dec.{ltb}
use lib.ListN.{take}
use Rattle.recovery.proofs.set_flags.Given as goal

abbrev pub invariant-loop-i : goal.invariant-loop-i
invariant-loop-i l = take l.i l.flags ≡ map (ltb 0) (take l.i l.ways)
