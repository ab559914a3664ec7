-- The first words get no bits, the next those of the first word alone, and the others, by the loop, those of two; a shift past all words leaves nothing.
use borrow.Author.Rules.{rules}
use Rattle.rows.proofs.WordByWord.{shift_begun, shift_length, shift_whole, shift_out}
use mathlib.Core.Path.{◌∙◌}
use Rattle.rules.proofs.Over.{over_again}
use Rattle.rows.proofs.words.shift_up.Goals as goal

pub returns-then-n-e : goal.returns-then-n-e
returns-then-n-e c =
    let a = c.args in
    shift_out _ _ a.out.now (search rules) (λ q. (c.type_inv.row q).fits) (search rules) (c.fill.ensures.after (λ _ e. e))

pub shift_words-requires : goal.shift_words-requires
shift_words-requires c =
    let a = c.args in
    let u = c.up in
    let f = c.fill-2 in record {
      out_len = (shift_length a.d a.row.now a.out.now (search rules) u.result (search rules) (f.ensures.after (λ _ e. e)) ∙ search rules, search rules);
      out_value = over_again _ _ _ (shift_begun _ _ a.out.now (search rules) (search rules) (f.ensures.after (λ _ e. e)) u.ensures);
    }

pub returns : goal.returns
returns c =
    let a = c.args in
    let u = c.up in
    let f = c.fill-2 in
    shift_whole _ _ a.out.now (search rules) (λ q. (c.type_inv.row q).fits) (search rules) (f.ensures.after (λ _ e. e)) u.ensures c.shift_words.ensures
