-- `numbers`: with each turn the numbers of a slot more.
use mathlib.Core.Path.{◌≡◌}
use Prim.Native.Nat.{◌*◌}
use lib.ListN.{length, take}
use Rattle.rules.specs.Lists.{each}
use Rattle.rules.specs.Template.{slots}
use Rattle.exports.specs.Shape.{numbers}
use Rattle.exports.proofs.shape.numbers.Given as goal

abbrev pub invariant-loop-i : goal.invariant-loop-i
invariant-loop-i l = record { long : length l.all ≡ 18; filled : take (3 * l.i) l.all ≡ each numbers (take l.i (slots l.fn.t)) }
