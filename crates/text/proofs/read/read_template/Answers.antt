-- The part that is parsed is the first line, which the checks found to be a template's.
use mathlib.Core.Path.{ap, ◌∙◌}
use native.Mathlib.Omega.{arith}
use Rattle.rules.specs.Text.{parse_components, parse_template, template_of}
use Rattle.text.specs.Parsed.{parsed_by}
use Rattle.text.proofs.Lines.{text_short, text_template, told_some, told_is}
use Rattle.text.proofs.read.read_template.Goals as goal

pub parse_template-requires : goal.parse_template-requires
parse_template-requires c = omega (arith, c.cut.ensures.short.0, text_short c.args.input.now c.requires)

pub unwrap-requires : goal.unwrap-requires
unwrap-requires c =
    told_some c.parse_template.result _ (c.parse_template.ensures ∙ ap (λ l. parsed_by template_of (parse_components l)) c.cut.ensures.template) (text_template c.args.input.now c.requires)

pub returns : goal.returns
unfolding parse_template
returns c =
    told_is c.parse_template.result _ c.unwrap.result (c.parse_template.ensures ∙ ap (λ l. parsed_by template_of (parse_components l)) c.cut.ensures.template) c.unwrap.ensures
