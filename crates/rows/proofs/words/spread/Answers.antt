use borrow.Author.Rules.{rules}
use mathlib.Core.Path.{ap, ◌∙◌}
use native.Mathlib.Omega.{arith}
use Rattle.rows.specs.Bits.{held}
use Rattle.rows.specs.Rows.{window}
use Rattle.rows.proofs.Window.{window_one, spread_more}
use Rattle.rows.proofs.WordByWord.{bit_small}
use Rattle.rows.proofs.words.spread.Goals as goal

pub loop-have-init : goal.loop-have-init
loop-have-init c = (search rules, search rules, search rules, search rules, search rules, window_one _ (bit_small _))

pub loop-have-smaller : goal.loop-have-smaller
loop-have-smaller c = let e = c.min-d.ensures in omega arith

pub loop-have-preserved : goal.loop-have-preserved
loop-have-preserved c =
    let l = c.loop-have in
    let d = c.min-d in
    let s = c.shift_up in (
      search rules,
      search rules,
      search rules,
      search rules,
      search rules,
      spread_more _ _ _ l.invariant.5 s.ensures c.join.ensures (omega (arith, d.ensures)),
    )

pub returns : goal.returns
returns c = c.loop-have.invariant.5 ∙ ap (λ n. window 0 n (held c.args.row.now)) (omega arith)
