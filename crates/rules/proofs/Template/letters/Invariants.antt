-- The letters of the components passed and of the rest make K; those of one fit 16 bits.
use mathlib.Core.List.{map}
use mathlib.Core.Path.{◌≡◌}
use Prim.Native.Nat.{◌+◌, ◌*◌, ◌≤◌}
use lib.ListN.{drop}
use Rattle.rules.specs.Lists.{sum}
use Rattle.rules.proofs.Template.letters.Given as goal

abbrev pub invariant-loop-c : goal.invariant-loop-c
invariant-loop-c l =
    (l.k ≤ 65535 * l.c-index) × (l.k + sum (drop l.c-index (map (λ c. c.length) l.c-items)) ≡ sum (map (λ c. c.length) l.c-items))
