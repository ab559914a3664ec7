-- What the digits read so far make, ten times over for each digit that follows, and what those make, is the whole number.
use mathlib.Core.Path.{◌≡◌}
use Prim.Native.Nat.{◌+◌, ◌-◌, ◌*◌, ◌^◌, ◌<◌}
use lib.ListN.{length, drop}
use Rattle.rules.specs.Text.{digits}
use Rattle.text.proofs.parse.value.Given as goal

abbrev pub invariant-loop-digit : goal.invariant-loop-digit
invariant-loop-digit l = (l.value < 10 ^ l.digit-index)
    × (digits l.text ≡ l.value * 10 ^ (length l.text - l.digit-index) + digits (drop l.digit-index l.text))
