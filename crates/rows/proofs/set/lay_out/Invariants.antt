-- Each turn adds one sequence's words and letters, and writes where the next begin.
use mathlib.Core.Path.{◌≡◌}
use Prim.Native.Nat.{◌≤◌}
use lib.ListN.{length}
use Rattle.rows.specs.Set.{first_word}
use Rattle.rows.proofs.Offsets.{offset_of, Short, Tabled}
use Rattle.rows.proofs.set.lay_out.Given as goal

abbrev pub invariant-loop-k : goal.invariant-loop-k
invariant-loop-k l = (l.k ≤ length l.lengths)
    × (length l.firsts ≡ length l.initial.firsts)
    × (length l.offsets ≡ length l.initial.offsets)
    × (l.first ≡ first_word l.lengths l.k)
    × (l.offset ≡ offset_of l.lengths l.k)
    × (Tabled (first_word l.lengths) l.k l.firsts)
    × (Tabled (offset_of l.lengths) l.k l.offsets)
    × (Short l.lengths l.k l.short)
