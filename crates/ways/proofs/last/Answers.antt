use borrow.Author.Rules.{rules}
use Rattle.ways.specs.Counts.{ending}
use Rattle.rules.proofs.Over.{over_none, over_put}
use Rattle.ways.proofs.FilledTables.{by_offset, entry_all}
use Rattle.ways.proofs.last.Goals as goal

pub loop-o-init : goal.loop-o-init
loop-o-init c = over_none _ 0 _

pub loop-o-preserved : goal.loop-o-preserved
unfolding ending by_offset
loop-o-preserved c = over_put _ _ _ c.loop-o.invariant c.cell.ensures (search rules)

pub returns : goal.returns
returns c = entry_all _ _ _ c.loop-o.invariant (search rules) (search rules)
