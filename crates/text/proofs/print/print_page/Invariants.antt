-- Each turn prints one row more, after those before it.
use Prim.Native.Nat.{◌*◌, ◌≤◌}
use lib.ListN.{take}
use Rattle.text.specs.Printed.{line_room, Prints, printed_page}
use Rattle.text.proofs.print.print_page.Given as goal

abbrev pub invariant-loop-i : goal.invariant-loop-i
invariant-loop-i l = (l.page.at ≤ l.i * line_room)
    × Prints (printed_page l.template (take l.i l.motifs) (take l.i l.supports) (take l.i l.weights)) l.initial.page l.page
