-- One pass over both lists. At each turn the table holds those of the first i positions that have a partner, and what was passed
-- over in the second list lies before the reach of every later position; so the first of the rest decides on the next one.
use mathlib.Core.Path.{◌≡◌}
use Prim.Native.Nat.{◌≤◌}
use lib.ListN.{length}
use Rattle.joins.specs.Pass.{has_partner}
use Rattle.joins.proofs.Partner.{PassedOver}
use Rattle.joins.proofs.Table.{Kept}
use Rattle.joins.proofs.pass.Given as goal

abbrev pub invariant-loop-p : goal.invariant-loop-p
invariant-loop-p l = (l.j ≤ length l.second)
    × (length l.out ≡ length l.initial.out)
    × Kept (has_partner l.second l.apart) l.first l.p-index l.initial.out l.out l.n
    × PassedOver l.first l.p-index l.second l.j l.apart.near
