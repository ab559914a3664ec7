-- The loop's invariant: what is left of the word, and the sum so far with the counts that are left is that of all. So no sum on the way is
-- larger than the last.
use mathlib.Core.List.{List, [], ◌∷◌}
use mathlib.Core.Path.{◌≡◌}
use Prim.Native.Nat.{ℕ, ◌+◌}
use Rattle.rules.specs.Lists.{sum}
use Rattle.rows.specs.Bits.{held}
use Rattle.rows.specs.Flags.{masked}
use Rattle.rows.proofs.Adding.{left_from}
use Rattle.rows.proofs.Lowest.{Walk}
use Rattle.rows.proofs.counts.add_word.Given as goal

-- the sum so far, when those from place o on are left
abbrev pub Added : ℕ → List ℕ → ℕ → ℕ → Type 0
Added word counts total o = total + left_from word counts o ≡ sum (masked (held (word ∷ [])) counts)

abbrev pub invariant-loop-place : goal.invariant-loop-place
invariant-loop-place l = Walk (Added l.word l.counts l.total) l.word l.place-iterator.0
