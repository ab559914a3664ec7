-- A turn writes the next word, of two words of the row side by side.
use mathlib.Core.Path.{◌≡◌}
use Prim.Native.Nat.{◌≤◌, ◌<◌}
use lib.ListN.{length}
use Rattle.rules.specs.Lists.{over}
use Rattle.rows.specs.Words.{behind_word}
use Rattle.rows.proofs.words.shift_words.Given as goal

abbrev pub invariant-loop-q : goal.invariant-loop-q
invariant-loop-q l = (l.e < l.q) × (l.q ≤ length l.row) × (length l.out ≡ length l.initial.out) × (length l.initial.out ≡ length l.row) × (l.out ≡ over (behind_word l.e l.by.places l.row) l.q l.initial.out)
