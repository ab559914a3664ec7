-- `pass_letters`: the bytes passed are letters, so the first that is none stands among the rest, which the blocks are cut from.
use mathlib.Core.Path.{◌≡◌}
use lib.ListN.{drop}
use Rattle.checks.specs.ScannedLetters.{LettersUpTo}
use Rattle.checks.proofs.pass_letters.Given as goal

abbrev pub invariant-loop-block : goal.invariant-loop-block
invariant-loop-block l = LettersUpTo l.bytes l.passed × (l.block-iterator.rest.now ≡ drop l.passed l.bytes) × (l.block-iterator.size ≡ 64)
