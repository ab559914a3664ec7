-- `mixed_allows`: the last letters are looked at one by one, from the end. So far, `all` of them are among the fourteen.
use mathlib.Core.Bool.{Bool}
use mathlib.Core.Path.{◌≡◌}
use Prim.Native.Nat.{ℕ, ◌/◌, ◌^◌, ◌≤◌}
use lib.Dec.{ltb}
use Rattle.rules.specs.Limits.{letter_symbols, letter_digits}
use Rattle.rules.specs.Lists.{all_pass}
use Rattle.rules.specs.Motif.{spell}
use Rattle.checks.proofs.spelled.mixed_allows.Given as goal

-- one of the fourteen letters
abbrev pub fourteen : ℕ → Bool
fourteen x = ltb x letter_symbols

abbrev pub invariant-loop : goal.invariant-loop
invariant-loop l = (l.counter ≤ l.n) × (l.rest ≡ l.number / letter_digits ^ l.counter) × (l.all ≡ all_pass fourteen (spell letter_digits l.counter l.number))
