-- The two words that give the word its bits, as the rule names them.
use mathlib.Core.Path.{◌∙◌}
use Rattle.rows.specs.Words.{behind_word}
use Rattle.rows.proofs.counts.shifted.Goals as goal

pub returns : goal.returns
unfolding behind_word
returns c = c.up.ensures ∙ rw (c.before-2.ensures, c.before-3.ensures)
