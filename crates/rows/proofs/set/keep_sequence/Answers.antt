-- A sequence of one word is that word with one letter more; any other goes word by word.
use borrow.Author.Rules.{rules}
use Rattle.rows.proofs.Single.{alone_kept}
use Rattle.rows.proofs.set.keep_sequence.Goals as goal

pub returns-then-row-eq1 : goal.returns-then-row-eq1
returns-then-row-eq1 c =
    let a = c.args in
    let k = alone_kept a.by.places a.letter.now a.row.now a.out.now (search rules) (search rules) (search rules) (search rules) (c.type_inv.letter 0).fits (c.type_inv.row 0).fits in
    record { out_after = k.0; value = k.1 }
