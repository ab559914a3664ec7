-- Each turn writes one word, the words of the four rows that the letter stands for joined.
use mathlib.Core.Path.{◌≡◌}
use Rattle.rules.specs.Lists.{over}
use Rattle.matching.proofs.Standing.{letter_word}
use Rattle.matching.proofs.letters.letter_row.Given as goal

abbrev pub invariant-loop-q : goal.invariant-loop-q
invariant-loop-q l = l.row ≡ over (letter_word l.x l.bases) l.q l.initial.row
