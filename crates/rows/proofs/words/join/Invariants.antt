-- A turn writes the next word with the bits of both; the word that it reads is as it was. Word by word it is what the rule says of bits.
use mathlib.Core.Path.{◌≡◌}
use Prim.Native.Nat.{◌≤◌}
use lib.ListN.{length}
use Rattle.rules.specs.Lists.{over}
use Rattle.rows.specs.Words.{either_word}
use Rattle.rows.proofs.words.join.Given as goal

abbrev pub invariant-loop-q : goal.invariant-loop-q
invariant-loop-q l = (l.q ≤ length l.initial.row) × (length l.row ≡ length l.initial.row) × (length l.other ≡ length l.initial.row) × (l.row ≡ over (either_word l.initial.row l.other) l.q l.initial.row)
