-- The places from `i` on have the sets of the last letters, and `rest` is the number of those before.
use mathlib.Core.List.{map}
use mathlib.Core.Path.{◌≡◌}
use Prim.Native.Nat.{ℕ, ◌-◌, ◌/◌, ◌^◌, ◌≤◌}
use lib.ListN.{length, drop, get_or}
use Rattle.rules.specs.Motif.{spell}
use Rattle.rules.specs.Profile.{profile_by, base_sets}
use Rattle.rules.proofs.Profile.spell.Given as goal

-- the bases that a letter stands for
abbrev pub stood_for : ℕ → ℕ
stood_for x = get_or base_sets x 0

abbrev pub invariant-loop-i : goal.invariant-loop-i
invariant-loop-i l =
    (l.i ≤ length l.initial.word)
    × (length l.word ≡ length l.initial.word)
    × (l.rest ≡ l.number / (profile_by l.self).base ^ (length l.initial.word - l.i))
    × (drop l.i l.word ≡ map stood_for (spell (profile_by l.self).base (length l.initial.word - l.i) l.number))
