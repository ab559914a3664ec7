-- A turn writes the next word, and joins it to those before: all of them are 0 if none has a bit left.
use mathlib.Core.Bool.{not}
use mathlib.Core.List.{map}
use mathlib.Core.Path.{◌≡◌}
use Prim.Native.Nat.{◌≤◌}
use lib.Dec.{eqb}
use lib.ListN.{length}
use Rattle.rules.specs.Lists.{over, run}
use Rattle.rows.specs.Flags.{has_left}
use Rattle.rows.specs.Words.{extended_word}
use Rattle.rows.proofs.words.keep_plain.Given as goal

abbrev pub invariant-loop-q : goal.invariant-loop-q
invariant-loop-q l = (l.q ≤ l.n) × (length l.out ≡ length l.initial.out) × (length l.initial.out ≡ length l.row) × (length l.letters ≡ length l.row) × (l.n ≤ length l.row)
    × (eqb l.all 0 ≡ not (has_left (map (extended_word 0 l.letters l.row) (run 0 l.q))))
    × (l.out ≡ over (extended_word 0 l.letters l.row) l.q l.initial.out)
