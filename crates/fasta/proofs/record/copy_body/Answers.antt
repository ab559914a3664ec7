use mathlib.Core.Path.{refl}
use Rattle.fasta.proofs.Body.{copied_more}
use Rattle.fasta.proofs.record.copy_body.Goals as goal

pub loop-line-preserved : goal.loop-line-preserved
loop-line-preserved c =
    let l = c.in-Some.ensures in
    copied_more c.loop-line.invariant l.0 l.2 c.copy.ensures refl
