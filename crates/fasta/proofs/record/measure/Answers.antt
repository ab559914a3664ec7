use borrow.Author.Rules.{rules}
use Rattle.fasta.proofs.Body.{bad_or_else, measured_none, measured_more, measured_all}
use Rattle.fasta.proofs.record.measure.Goals as goal

pub loop-line-init : goal.loop-line-init
loop-line-init c = measured_none c.args.file.now c.args.from c.requires

pub loop-line-preserved : goal.loop-line-preserved
loop-line-preserved c =
    let l = c.in-Some.ensures in
    measured_more c.loop-line.invariant l.0 l.2 (bad_or_else c.loop-line.bad c.or_else-bad.result c.or_else-bad.ensures (λ h. search rules))

pub returns : goal.returns
returns c = measured_all c.loop-line.invariant c.in_default.ensures
