-- The words before and behind those that are filled stay.
use Rattle.rows.proofs.Cleared.{part_cleared}
use Rattle.rows.proofs.set.clear_marks.Goals as goal

pub returns : goal.returns
returns c =
    let f = c.fill in
    let p = part_cleared c.args.n c.args.row.now c.requires.0 c.requires.1 f.new.self (f.ensures.after (λ _ e. e)) in
    record { by_index = p.0; row_unchanged = p.1 }
