use mathlib.Core.Path.{sym, ◌∙◌}
use native.Mathlib.Omega.{arith}
use Rattle.legs.proofs.Kind.{up_go, up_drop, up_none, shorter_ok, rise_fits}
use Rattle.legs.proofs.step.Candidate.way_up.Goals as goal

pub overflow_add-number : goal.overflow_add-number
overflow_add-number c =
    let l = c.loop-letters in
    omega (arith, rise_fits _ c.args.self.plan.now.sound_template l.letters l.number (omega arith) l.invariant.0 l.invariant.1 (c.rises.ensures _ _) c.if-rises.true)

pub returns-then-rises : goal.returns-then-rises
returns-then-rises c =
    let l = c.loop-letters in
    λ good depth. l.invariant.2 good depth ∙ up_go _ good depth l.letters l.number (omega arith) (c.rises.ensures good depth) c.if-rises.true ∙ sym c.new.ensures

pub loop-letters-preserved : goal.loop-letters-preserved
loop-letters-preserved c =
    let l = c.loop-letters in
    let r = c.rises.ensures in (
      omega arith,
      shorter_ok _ l.letters l.number (omega arith) l.invariant.1 c.shorter-number.ensures,
      λ good depth. l.invariant.2 good depth ∙ up_drop _ good depth l.letters l.number (omega arith) (r good depth) c.if-rises.false c.shorter-number.ensures,
    )

pub returns : goal.returns
returns c =
    let l = c.loop-letters in
    λ good depth. l.invariant.2 good depth ∙ up_none _ good depth l.letters l.number (omega arith) ∙ sym c.ended.ensures
