use native.Mathlib.Omega.{arith}
use Rattle.matching.specs.Path.{FromBases}
use Rattle.matching.proofs.Standing.{written_more, from_same}
use Rattle.matching.proofs.letters.mixed_rows.Goals as goal

pub loop-s-preserved : goal.loop-s-preserved
loop-s-preserved c =
    let a = c.args in
    let l = c.loop-s in
    let i = l.invariant in
    let o = c.mixed_slot.ensures in
    written_more (FromBases a.standing.now) a.standing.now l.s l.standing _ i o.standing_unchanged.0 (from_same a.standing.now l.standing l.s _ i.kept (omega (arith, l.auto.standing, c.requires)) o.from_bases)
