-- The loop makes all words but the last, past which there is none to shift bits in from. A row of no words has none to shift.
use borrow.Author.Rules.{rules}
use Rattle.rows.proofs.Shifted.{ahead_whole, ahead_empty}
use Rattle.rows.proofs.words.shift_down.Goals as goal

pub returns-then-n-eq0 : goal.returns-then-n-eq0
returns-then-n-eq0 c =
    ahead_empty _ _ (search rules) (λ q. (c.type_inv.row q).fits) _ (search rules) (search rules)

pub returns : goal.returns
returns c =
    let d = c.down_words in
    ahead_whole _ _ (search rules) (λ q. (c.type_inv.row q).fits) c.args.out.now (search rules) _ (search rules) d.ensures c.down.ensures
