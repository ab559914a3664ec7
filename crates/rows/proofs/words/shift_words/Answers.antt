use borrow.Author.Rules.{rules}
use Rattle.rows.proofs.WordByWord.{behind_is}
use Rattle.rules.proofs.Over.{over_put}
use Rattle.rows.proofs.words.shift_words.Goals as goal

pub loop-q-preserved : goal.loop-q-preserved
loop-q-preserved c =
    let i = c.loop-q.invariant.4 in (
      search rules,
      search rules,
      search rules,
      search rules,
      over_put _ _ _ i (behind_is _ _ _ _ (search rules) c.up.ensures) (search rules),
    )
