-- The list rises exactly if it does so from the index on after the position before; each turn tests one more.
use mathlib.Core.Path.{◌≡◌}
use lib.ListN.{drop}
use Rattle.rules.specs.Join.{is_rising}
use Rattle.joins.proofs.rises.Given as goal

abbrev pub invariant-loop-p : goal.invariant-loop-p
invariant-loop-p l = is_rising 0 l.list ≡ is_rising l.last.0 (drop l.p-index l.list)
