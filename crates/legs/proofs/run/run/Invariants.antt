-- A leg's loop. Whenever its test is reached, what the leg comes to is what has been passed so far and then the leg from where
-- it stands (`Running`), and the slots hold the path to there (`Path`); each turn is one round of that.
use mathlib.Core.Path.{◌≡◌}
use Prim.Native.Nat.{◌-◌, ◌≤◌}
use lib.ListN.{length}
use Rattle.rules.proofs.Sound.{SoundSearch}
use Rattle.matching.specs.Path.{Path}
use Rattle.matching.specs.Weights.{Counted}
use Rattle.legs.specs.AcceptedLeg.{room_of}
use Rattle.legs.proofs.Round.{Running}
use Rattle.legs.proofs.run.run.Given as goal

abbrev pub invariant-loop-place : goal.invariant-loop-place
invariant-loop-place l = (o : SoundSearch l.weighing.made.plan.letters.now l.weighing.made.plan.layout.lengths.now l.weighing.made.plan.search) × Running l.weighing.made.plan.letters.now l.weighing.made.plan.layout.lengths.now l.weighing.made.plan.search o l.budget l.room l.initial.motifs l.initial.supports l.initial.weights l.motifs l.supports l.weights l.steps l.rows l.place
    × (1 ≤ l.place.letters → Path l.weighing.made.plan.search.template l.weighing.made.plan.layout.lengths.now l.weighing.made.plan.letters.now l.slots l.place.letters l.place.number) × Counted l.weighing.made.plan.search.template l.weighing.made.plan.layout.lengths.now l.weighing.made.plan.letters.now l.ways.counted l.ways.counts
    × (l.room ≡ room_of l.initial.motifs l.initial.supports l.initial.weights)
    × (length l.motifs ≡ length l.initial.motifs) × (length l.supports ≡ length l.initial.supports) × (length l.weights ≡ length l.initial.weights)

abbrev pub decreases-loop-place : goal.decreases-loop-place
decreases-loop-place l = l.budget - l.steps
