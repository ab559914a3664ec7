use borrow.Author.Rules.{rules}
use mathlib.Core.Path.{◌∙◌}
use Prim.Native.Nat.{◌≤◌, ◌<◌}
use native.Mathlib.Omega.{arith}
use lib.ListN.{length}
use Rattle.rules.specs.Limits.{sequence_set_sequences}
use Rattle.rows.specs.Set.{row_marks}
use Rattle.rows.proofs.Start.{begun_long, begun_turn, begun_end}
use Rattle.rows.proofs.set.mark_first.Goals as goal

pub loop-k-preserved : goal.loop-k-preserved
loop-k-preserved c =
    let l = c.loop-k in
    let h : l.k < sequence_set_sequences = omega (arith, c.requires.n_bound, c.loop-k-test.true) in
    let long : row_marks ≤ length l.row = omega (arith, l.invariant.1) in
    (search rules, begun_long _ _ _ l.invariant.2 h long ∙ l.invariant.1, begun_turn _ _ _ l.invariant.2 h long)

pub returns : goal.returns
returns c =
    let l = c.loop-k in
    record {
      marked = begun_end _ _ _ _ (search rules) l.invariant.2;
      by_index_2 = l.invariant.2.past;
    }
