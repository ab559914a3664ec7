use borrow.Author.Rules.{rules}
use mathlib.Core.List.{[], ◌∷◌}
use mathlib.Core.Path.{ap, ◌∙◌}
use native.Mathlib.Omega.{arith}
use Rattle.rows.specs.Bits.{held}
use Rattle.rows.specs.Rows.{window}
use Rattle.rows.proofs.Window.{window_one, spread_more, open_end}
use Rattle.rows.proofs.Bits.{bit_small}
use Rattle.rows.proofs.Opened.{joined_word}
use Rattle.rows.proofs.gap.open_word.Goals as goal

pub loop-have-init : goal.loop-have-init
loop-have-init c = (search rules, search rules, window_one _ (bit_small _))

pub loop-have-smaller : goal.loop-have-smaller
loop-have-smaller c = let e = c.min-step.ensures in omega arith

pub loop-have-preserved : goal.loop-have-preserved
loop-have-preserved c =
    let l = c.loop-have in
    let d = c.min-step in
    (search rules, search rules, spread_more _ _ _ l.invariant.2 c.shift-all.ensures (joined_word _ _) (omega (arith, d.ensures)))

pub returns : goal.returns
returns c =
    let a = c.args in
    let l = c.loop-have in
    open_end (held (a.word ∷ [])) _ _ (l.invariant.2 ∙ ap (λ n. window 0 n (held (a.word ∷ []))) (omega arith)) c.shift.ensures
