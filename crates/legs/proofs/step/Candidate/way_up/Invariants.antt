-- The way up from the start is the way up from where the loop stands, at letters that are allowed.
use Rattle.std.proofs.Common.{◌≡◌, Bool, true, ℕ, ◌≤◌}
use Rattle.rules.specs.Support.{valid}
use Rattle.rules.specs.Template.{size}
use Rattle.rules.specs.Walk.{up}
use Rattle.legs.specs.Kind.{walk_by}
use Rattle.legs.proofs.step.Candidate.way_up.Given as goal

abbrev pub invariant-loop-letters : goal.invariant-loop-letters
invariant-loop-letters l = (l.letters ≤ size l.plan.search.template) × (valid l.plan.search.template l.letters l.number ≡ true)
    × ((good : ℕ → ℕ → Bool) (depth : ℕ) → up (walk_by l.plan.search.template good depth) l.self.place.letters l.self.place.number ≡ up (walk_by l.plan.search.template good depth) l.letters l.number)
