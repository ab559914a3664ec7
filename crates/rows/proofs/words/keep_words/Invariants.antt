-- A turn writes the next word, and joins it to those before: all of them are 0 if none has a bit left. `low` is the word of the letter's
-- row that the turn stands at.
use mathlib.Core.Path.{◌≡◌}
use Prim.Native.Nat.{◌≤◌, ◌<◌}
use lib.ListN.{length, get_or}
use Rattle.rules.specs.Lists.{over, run}
use mathlib.Core.Bool.{not}
use mathlib.Core.List.{map}
use lib.Dec.{eqb}
use Rattle.rows.specs.Flags.{has_left}
use Rattle.rows.specs.Words.{extended_word}
use Rattle.rows.proofs.words.keep_words.Given as goal

abbrev pub invariant-loop-q : goal.invariant-loop-q
invariant-loop-q l = (l.q ≤ l.n) × (length l.out ≡ length l.initial.out) × (length l.initial.out ≡ length l.row) × (length l.letters ≡ length l.row) × (l.n < length l.row)
    × (eqb l.all 0 ≡ not (has_left (map (extended_word l.by.places l.letters l.row) (run 0 l.q))))
    × (l.out ≡ over (extended_word l.by.places l.letters l.row) l.q l.initial.out) × (l.low ≡ get_or l.letters l.q 0)
