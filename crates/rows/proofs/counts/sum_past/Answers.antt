-- Where the last word of the opened row is empty nothing is promised, and before the first place there is nothing to add.
use mathlib.Core.Path.{sym}
use native.Mathlib.Omega.{arith}
use lib.ListN.{length}
use Rattle.rows.specs.Bits.{held}
use Rattle.rows.specs.Flags.{masked}
use Rattle.rows.proofs.Window.{recent_out}
use Rattle.rows.proofs.counts.sum_past.Goals as goal

pub returns-then-to-eq0 : goal.returns-then-to-eq0
returns-then-to-eq0 c =
    let a = c.args in
    λ h. sym (recent_out (masked (held a.at.row.now) a.counts.now) (length a.counts.now) a.at.reach.apart.near a.at.reach.apart.count (omega arith))
