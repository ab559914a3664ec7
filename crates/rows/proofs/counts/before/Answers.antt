-- A place that far back holds what the definition reads, and where there is none both say 0.
use mathlib.Core.Path.{sym}
use native.Mathlib.Omega.{arith}
use Rattle.rows.proofs.Gaps.{ago_in, ago_out}
use Rattle.rows.proofs.counts.before.Goals as goal

pub returns-then-d-o : goal.returns-then-d-o
returns-then-d-o c = sym (ago_in _ _ _ (omega arith))

pub returns-else-d-o : goal.returns-else-d-o
returns-else-d-o c = sym (ago_out _ _ _ (omega arith))
