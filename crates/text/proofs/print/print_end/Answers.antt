-- A line whose head is "end".
use mathlib.Core.List.{[], ◌∷◌}
use Rattle.rules.specs.Text.{print_end}
use Rattle.text.proofs.Line.{line_as, line_is}
use Rattle.text.proofs.print.print_end.Goals as goal

pub returns : goal.returns
unfolding print_end
returns c = line_as c.print_line.ensures (line_is (101 ∷ 110 ∷ 100 ∷ []) c.args.steps c.args.rows)
