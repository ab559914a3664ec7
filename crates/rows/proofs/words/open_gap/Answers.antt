-- Spread over the window and then shifted by the distance of its nearest bit.
use mathlib.Core.Path.{ap, ◌∙◌}
use Rattle.rows.specs.Bits.{held}
use Rattle.rows.specs.Rows.{window}
use Rattle.rows.proofs.Window.{open_end}
use Rattle.rows.proofs.words.open_gap.Goals as goal

pub returns : goal.returns
returns c =
    let a = c.args in
    let s = c.spread in
    open_end (held a.row.now) _ _ (s.ensures ∙ ap (λ x. window 0 a.apart.count (held x)) c.copy.ensures) c.shift_up.ensures
