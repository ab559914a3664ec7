use borrow.Author.Rules.{rules}
use Prim.Native.Nat.{◌*◌, ◌≤◌}
use native.Mathlib.Omega.{arith}
use Rattle.rules.specs.Limits.{sequence_set_sequences}
use Rattle.rows.proofs.RowsRewritten.{same_bounds, rewritten_none, opened_word, opened_marks, opened_all}
use Rattle.rows.proofs.gap.open_all.Goals as goal

pub loop-w-init : goal.loop-w-init
loop-w-init c = (search rules, search rules, search rules, rewritten_none _ _ _ _ _ _ (omega arith))

pub open_sequences-requires : goal.open_sequences-requires
open_sequences-requires c =
    let p = c.requires in
    let l = c.loop-w in record {
      w_bound = search rules;
      bounded = same_bounds _ _ _ _ l.invariant.3.walked.kept p.bounded;
    }

pub loop-w-preserved : goal.loop-w-preserved
loop-w-preserved c =
    let p = c.requires in
    let l = c.loop-w in
    let e = c.open_sequences.ensures in (
      search rules,
      search rules,
      search rules,
      opened_word _ _ _ _ _ l.w p.bounded (search rules) l.invariant.3 _ e.row_unchanged e.row_unchanged_2 e.by_index,
    )

pub returns : goal.returns
returns c =
    let p = c.requires in
    let l = c.loop-w in
    let n : sequence_set_sequences ≤ l.w * 64 = omega (arith, c.loop-w-test.false) in record {
      marked = opened_marks _ _ _ _ _ _ n l.invariant.3;
      filled = opened_all _ _ _ _ _ _ n l.invariant.3 c.args.layout.now.few;
    }
