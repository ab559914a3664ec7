-- From component to component: the row of the prefix that ends one keeps the counts before it where the prefix stands, which are its
-- ways; with the gap after it opened they are the counts before the next one.
use mathlib.Core.Path.{◌≡◌}
use Prim.Native.Nat.{◌-◌, ◌/◌, ◌^◌, ◌≤◌}
use Rattle.rules.specs.Profile.{base_of}
use Rattle.rules.specs.Template as templates
use Rattle.rows.specs.NextLetter.{letters_before}
use Rattle.matching.specs.Weights.{LeadsTo}
use Rattle.matching.proofs.weights.count_ways.Given as goal

abbrev pub invariant-loop-c : goal.invariant-loop-c
invariant-loop-c l = (l.size ≡ letters_before (templates.components l.weighing.made.plan.search.template) (l.c - 1))
    × (2 ≤ l.c → LeadsTo l.weighing.made.plan.search.template l.weighing.made.plan.layout.lengths.now l.weighing.made.plan.letters.now (l.c - 1) (l.motif / base_of l.weighing.made.plan.search.template ^ (l.weighing.made.plan.depth - l.size)) l.ways)
