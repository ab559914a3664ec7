use borrow.Author.Rules.{rules}
use Rattle.rows.proofs.WordByWord.{either_is}
use mathlib.Core.Path.{ap, ◌∙◌}
use Rattle.rules.proofs.Over.{over_none, over_put, over_keeps, over_all}
use Rattle.rows.specs.Bits.{held}
use Rattle.rows.proofs.Bits.{either_row}
use Rattle.rows.proofs.words.join.Goals as goal

pub loop-q-init : goal.loop-q-init
loop-q-init c = (search rules, search rules, search rules, over_none _ 0 _)

pub loop-q-preserved : goal.loop-q-preserved
loop-q-preserved c =
    let l = c.loop-q in
    let i = l.invariant.3 in (
      search rules,
      search rules,
      search rules,
      over_put _ _ _ i (either_is _ _ l.row _ (over_keeps _ _ _ i _ (search rules))) (search rules),
    )

pub returns : goal.returns
returns c = ap held (over_all _ _ _ c.loop-q.invariant.3 (search rules) (search rules)) ∙ either_row _ _
