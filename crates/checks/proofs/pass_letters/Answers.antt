use mathlib.Core.Path.{◌∙◌, sym}
use Rattle.checks.proofs.Laws.{block_passed}
use Rattle.checks.proofs.pass_letters.Goals as goal

pub loop-block-preserved : goal.loop-block-preserved
loop-block-preserved c =
    let l = c.loop-block in
    let s = c.in-Some.ensures.steps in
    let p = block_passed c.args.bytes.now c.in-Some.block.now c.next.new.self.rest.now l.passed l.invariant.0 (sym l.invariant.1 ∙ s.1.0) (s.1.1 ∙ l.invariant.2) (sym c.all_letters.ensures ∙ c.if-not-all_letters.false) in
    (p.0, p.1, s.0 ∙ l.invariant.2)
