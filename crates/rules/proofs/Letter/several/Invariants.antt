-- After so many turns that many of the last letters are counted, and the rest is the number without them.
use mathlib.Core.Path.{◌≡◌}
use Prim.Native.Nat.{◌/◌, ◌^◌, ◌≤◌}
use Rattle.rules.specs.Limits.{letter_digits}
use Rattle.rules.specs.Motif.{spell}
use Rattle.rules.specs.Profile.{several}
use Rattle.rules.proofs.Letter.several.Given as goal

abbrev pub invariant-loop : goal.invariant-loop
invariant-loop l = (l.counter ≤ l.n) × (l.rest ≡ l.number / letter_digits ^ l.counter) × (l.found ≡ several (spell letter_digits l.counter l.number))
