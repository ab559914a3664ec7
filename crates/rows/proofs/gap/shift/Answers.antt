-- A shift of the word is one of its bits; past 64 places none of them is left.
use borrow.Author.Rules.{rules}
use Rattle.rows.proofs.Opened.{shifted_word, shifted_out}
use Rattle.rows.proofs.gap.shift.Goals as goal

pub returns-then-d-lt64 : goal.returns-then-d-lt64
returns-then-d-lt64 c = shifted_word _ _

pub returns-else-d-lt64 : goal.returns-else-d-lt64
returns-else-d-lt64 c = shifted_out _ _ (search rules)
