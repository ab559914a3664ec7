-- The part that is parsed is the second line.
use mathlib.Core.Path.{ap, ◌∙◌}
use Rattle.rules.specs.Text.{parse_number, parse_quorum}
use Rattle.text.proofs.Lines.{told_else}
use Rattle.text.proofs.read.read_quorum.Goals as goal

pub returns : goal.returns
unfolding parse_quorum
returns c = c.unwrap_or.ensures ∙ told_else c.parse_number.result _ 0 (c.parse_number.ensures.value ∙ ap (parse_number 5) c.cut.ensures.quorum)
