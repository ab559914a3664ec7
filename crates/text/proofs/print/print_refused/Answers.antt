-- A line whose head is "refused".
use mathlib.Core.List.{[], ◌∷◌}
use Rattle.rules.specs.Text.{print_refused}
use Rattle.text.proofs.Line.{line_as, line_is}
use Rattle.text.proofs.print.print_refused.Goals as goal

pub returns : goal.returns
unfolding print_refused
returns c = line_as c.print_line.ensures (line_is (114 ∷ 101 ∷ 102 ∷ 117 ∷ 115 ∷ 101 ∷ 100 ∷ []) c.args.number c.args.place)
