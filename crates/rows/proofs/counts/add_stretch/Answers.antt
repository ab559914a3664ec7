-- Empty words add nothing; else the callee adds what they do.
use mathlib.Core.Path.{sym, ◌∙◌}
use Rattle.rows.proofs.Adding.{empty_sum}
use Rattle.rows.proofs.counts.add_stretch.Goals as goal

pub returns-then-empty : goal.returns-then-empty
returns-then-empty c =
    let a = c.args in
    empty_sum a.part.row.now a.part.counts.now (sym c.empty.ensures ∙ c.if-empty.true)
