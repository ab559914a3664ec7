-- The place after a candidate meets its contract: a letter more under a frequent one, and else the way up.
use mathlib.Core.Path.{sym, ◌∙◌}
use native.Mathlib.Omega.{arith}
use Rattle.legs.proofs.Kind.{next_down, next_last, next_bad, child_fits}
use Rattle.legs.proofs.step.Candidate.next_place.Goals as goal
use Rattle.legs.proofs.step.Candidate.next_place.Goals.{else-place-self-via-then-place-self+else-frequent, else-place-self-via-else-place-self}

pub overflow_mul-place : goal.overflow_mul-place
overflow_mul-place c =
    let p = c.args.self in
    let s = p.plan.now in
    omega (arith, child_fits s.search.template s.sound_template p.place.letters p.place.number (omega (arith, s.depth_value)) p.allowed c.base.ensures)

pub returns-then-frequent : goal.returns-then-frequent
returns-then-frequent c =
    let p = c.args.self in
    let s = p.plan.now in
    λ good e. next_down _ good _ _ _ s.depth_value (omega arith) p.allowed (e ∙ c.if-frequent.true) c.base.ensures ∙ sym c.new.ensures

pub returns-else-place-self : goal.returns-else-place-self
returns-else-place-self c =
    λ good e. elim c.else-place-self.branch [
      | else-place-self-via-then-place-self+else-frequent w ↦ next_bad _ good _ _ _ (e ∙ w.if-frequent.false)
      | else-place-self-via-else-place-self w ↦ next_last _ good _ _ _ (omega arith)
    ] ∙ c.way_up.ensures good _
