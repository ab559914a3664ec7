-- A word with a bit has its counts written; an empty one keeps none.
use borrow.Author.Rules.{rules}
use mathlib.Core.List.{[], ◌∷◌}
use mathlib.Core.Path.{sym, ap}
use lib.ListN.{length-replicate}
use Rattle.rows.specs.Bits.{held}
use Rattle.rows.specs.Flags.{masked}
use Rattle.rows.proofs.Ones.{none_kept}
use Rattle.rows.proofs.counts.ones_word.Goals as goal

pub returns-then-word-ne0 : goal.returns-then-word-ne0
returns-then-word-ne0 c =
    let a = c.args in
    ap (masked (held (a.word ∷ []))) (c.fill.ensures.after (λ _ e. e))

pub returns-else-word-ne0 : goal.returns-else-word-ne0
returns-else-word-ne0 c =
    let a = c.args in
    none_kept a.word a.counts.now _ (search rules) (sym (length-replicate _ 1))
