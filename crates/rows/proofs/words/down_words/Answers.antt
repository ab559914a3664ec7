use borrow.Author.Rules.{rules}
use Rattle.rules.proofs.Over.{over_none, over_put, over_end}
use Rattle.rows.proofs.Shifted.{ahead_is}
use Rattle.rows.proofs.words.down_words.Goals as goal

pub loop-q-init : goal.loop-q-init
loop-q-init c = (search rules, search rules, search rules, search rules, over_none _ 0 _)

pub loop-q-preserved : goal.loop-q-preserved
loop-q-preserved c =
    let i = c.loop-q.invariant.4 in
    (search rules, search rules, search rules, search rules, over_put _ _ _ i (ahead_is _ _ _ c.down.ensures) (search rules))

pub returns : goal.returns
returns c = over_end _ _ _ c.loop-q.invariant.4 (search rules)
