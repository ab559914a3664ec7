use borrow.Author.Rules.{rules}
use Rattle.rows.proofs.WordByWord.{extended_is}
use mathlib.Core.Path.{refl, ap, ◌∙◌}
use Prim.Native.Nat.{ℕ, ◌+◌}
use lib.ListN.{get_or}
use Rattle.rules.proofs.Over.{over_none, over_put, over_end}
use Rattle.rows.specs.Words.{shifted_down}
use Rattle.rows.proofs.Joined.{joined_none, joined_more, joined_end}
use Rattle.rows.proofs.words.keep_words.Goals as goal

pub loop-q-init : goal.loop-q-init
loop-q-init c =
    (search rules, search rules, search rules, search rules, search rules, joined_none _, over_none _ 0 _, refl)

pub loop-q-preserved : goal.loop-q-preserved
loop-q-preserved c =
    let l = c.loop-q in
    let a = c.args in
    let w = c.down_some.ensures ∙ ap (λ (x : ℕ). shifted_down a.by.places x (get_or a.letters.now (l.q + 1) 0)) l.invariant.7 in (
      search rules,
      search rules,
      search rules,
      search rules,
      search rules,
      joined_more _ _ l.all l.invariant.5 (extended_is _ _ _ _ w),
      over_put _ _ _ l.invariant.6 (extended_is _ _ _ _ w) (search rules),
      refl,
    )

pub returns : goal.returns
returns c =
    let l = c.loop-q in
    record {
      result_value = joined_end _ _ _ l.all l.invariant.5 (search rules);
      out_after = over_end _ _ _ l.invariant.6 (search rules);
    }
