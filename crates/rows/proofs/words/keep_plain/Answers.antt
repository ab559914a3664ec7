use borrow.Author.Rules.{rules}
use mathlib.Core.Path.{refl}
use Rattle.rules.proofs.Over.{over_none, over_put, over_end}
use Rattle.rows.proofs.Joined.{joined_none, joined_more, joined_end}
use Rattle.rows.proofs.WordByWord.{extended_plain}
use Rattle.rows.proofs.words.keep_plain.Goals as goal

pub loop-q-init : goal.loop-q-init
loop-q-init c =
    (search rules, search rules, search rules, search rules, search rules, joined_none _, over_none _ 0 _)

pub loop-q-preserved : goal.loop-q-preserved
loop-q-preserved c =
    let l = c.loop-q in (
      search rules,
      search rules,
      search rules,
      search rules,
      search rules,
      joined_more _ _ l.all l.invariant.5 (extended_plain _ _ _ refl _),
      over_put _ _ _ l.invariant.6 (extended_plain _ _ _ refl _) (search rules),
    )

pub returns : goal.returns
returns c =
    let l = c.loop-q in
    record {
      result_value = joined_end _ _ _ l.all l.invariant.5 (search rules);
      out_after = over_end _ _ _ l.invariant.6 (search rules);
    }
