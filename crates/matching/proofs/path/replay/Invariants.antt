-- Letter by letter: each prefix of the place gives the slot of the next one.
use mathlib.Core.Path.{◌≡◌}
use Rattle.std.specs.Prelude.{Some, None}
use Prim.Native.Nat.{◌-◌, ◌/◌, ◌^◌, ◌≤◌}
use Rattle.rules.specs.Profile.{base_of}
use Rattle.rules.specs.Sequences.{sequences}
use Rattle.rules.specs.Support.{support, parts}
use Rattle.matching.specs.Path.{Path}
use Rattle.matching.proofs.path.replay.Given as goal

abbrev pub invariant-loop-d : goal.invariant-loop-d
invariant-loop-d l =
    Path l.made.plan.search.template l.made.plan.layout.lengths.now l.made.plan.letters.now l.slots l.d (l.made.plan.search.place.number / base_of l.made.plan.search.template ^ (l.made.plan.search.place.letters - l.d))
    × (l.d ≡ 1 → l.found ≡ None)
    × (2 ≤ l.d → l.found ≡ Some (support (parts l.made.plan.search.template (l.d - 1) (l.made.plan.search.place.number / base_of l.made.plan.search.template ^ (l.made.plan.search.place.letters - (l.d - 1)))) (sequences l.made.plan.letters.now l.made.plan.layout.lengths.now)))
