-- `Template::trim`: each slot is kept by the same rule.
use Rattle.rules.specs.Template.{trimmed}
use Rattle.rules.proofs.Template.trim.Goals as goal

pub returns : goal.returns
unfolding trimmed
returns c =
    rw (c.new.ensures, c.keep.ensures, c.keep-2.ensures, c.keep-3.ensures, c.keep-4.ensures, c.keep-5.ensures, c.keep-6.ensures)
