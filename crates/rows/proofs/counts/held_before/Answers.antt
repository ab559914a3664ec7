-- A place that far back has its bit in its own word, and where there is none both say 0.
use mathlib.Core.Path.{refl, sym}
use native.Mathlib.Omega.{arith}
use Rattle.rows.proofs.Gaps.{ago_out}
use Rattle.rows.proofs.Masks.{ago_held}
use Rattle.rows.proofs.counts.held_before.Goals as goal

pub returns-then-o-d : goal.returns-then-o-d
returns-then-o-d c = sym (ago_out _ _ _ (omega arith))

pub returns : goal.returns
returns c =
    let a = c.args in
    ago_held a.ways.row.now a.ways.counts.now a.o a.d (omega arith) refl c.when.ensures
