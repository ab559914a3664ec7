-- Each turn prints one letter more.
use Prim.Native.Nat.{◌≤◌}
use Rattle.text.specs.Printed.{Prints, motif_letters}
use Rattle.text.proofs.print.Printer.letters.Given as goal

abbrev pub invariant-loop-i : goal.invariant-loop-i
invariant-loop-i l = (l.i ≤ l.n) × Prints (motif_letters l.i l.left l.motif) l.initial.self l.self
