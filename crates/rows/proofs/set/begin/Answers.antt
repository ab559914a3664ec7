-- Every word is filled, those of the marks are emptied, and then the first `n` marks are set.
use borrow.Author.Rules.{rules}
use mathlib.Core.Path.{◌∙◌}
use native.Mathlib.Omega.{arith}
use Rattle.rows.proofs.Start.{cleared_bits, cleared_past}
use Rattle.rows.proofs.set.begin.Goals as goal

pub mark_first-requires : goal.mark_first-requires
mark_first-requires c =
    let f = c.fill in
    let e = c.fill-2 in
    record {
      n_bound = c.requires;
      by_index = cleared_bits c.args.row.now 18446744073709551615 (search rules) f.new.self (f.ensures.after (λ _ e. e)) e.new.self (e.ensures.after (λ _ e. e));
    }

pub returns : goal.returns
returns c =
    let f = c.fill in
    let e = c.fill-2 in
    let m = c.mark_first.ensures in
    record {
      marked = m.marked;
      by_index = (λ q h l. m.by_index_2 q h ∙ cleared_past c.args.row.now 18446744073709551615 (search rules) f.new.self (f.ensures.after (λ _ e. e)) e.new.self (e.ensures.after (λ _ e. e)) q h (omega arith));
    }
