-- Prefix after prefix in two slots that take turns: each gives its support, and the slot of the next one.
use mathlib.Core.Path.{◌≡◌}
use Rattle.std.specs.Prelude.{Some, None}
use Prim.Native.Nat.{◌-◌, ◌/◌, ◌^◌, ◌≤◌}
use Rattle.rules.specs.Profile.{base_of}
use Rattle.rules.specs.Sequences.{sequences}
use Rattle.rules.specs.Support.{support, parts}
use Rattle.matching.specs.Path.{Slot}
use Rattle.matching.proofs.path.shorter.Given as goal

abbrev pub invariant-loop-d : goal.invariant-loop-d
invariant-loop-d l =
    Slot l.plan.search.template l.plan.layout.lengths.now l.plan.letters.now l.before (l.d - 1) (l.plan.search.place.number / base_of l.plan.search.template ^ (l.plan.search.place.letters - l.d) / base_of l.plan.search.template)
    × (l.d ≡ 1 → l.found ≡ None)
    × (2 ≤ l.d → l.found ≡ Some (support (parts l.plan.search.template (l.d - 1) (l.plan.search.place.number / base_of l.plan.search.template ^ (l.plan.search.place.letters - (l.d - 1)))) (sequences l.plan.letters.now l.plan.layout.lengths.now)))
