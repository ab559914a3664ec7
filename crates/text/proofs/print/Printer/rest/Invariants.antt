-- Each turn prints one component more: what is printed, with the shape of the components that follow, is the shape of all.
use mathlib.Core.Path.{◌≡◌}
use mathlib.Core.List.{List, ◌++◌}
use Prim.Native.Nat.{ℕ, ◌≤◌}
use Rattle.text.specs.Printed.{Prints, size_from, shape_from}
use Rattle.text.proofs.print.Printer.rest.Given as goal

abbrev pub invariant-loop-i : goal.invariant-loop-i
invariant-loop-i l = (l.left ≤ 32)
    × (l.left ≡ size_from l.motif.template l.i)
    × ((done : List ℕ) × Prints done l.initial.self l.self × (done ++ shape_from l.motif.template l.i l.motif.number ≡ shape_from l.motif.template 1 l.motif.number))
