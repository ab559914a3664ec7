use mathlib.Core.Path.{◌∙◌, sym}
use Rattle.rules.specs.Letters.{is_letter}
use Rattle.checks.proofs.Laws.{all_on, all_end}
use Rattle.checks.proofs.all_letters.Goals as goal

pub loop-b-preserved : goal.loop-b-preserved
loop-b-preserved c =
    let l = c.loop-b in
    l.invariant ∙ all_on is_letter l.all l.b-index c.args.bytes.now c.loop-b-test.true ∙ rw c.is_letter-all.ensures

pub returns : goal.returns
returns c =
    let l = c.loop-b in
    sym (l.invariant ∙ all_end is_letter l.all l.b-index c.args.bytes.now c.loop-b-test.false)
