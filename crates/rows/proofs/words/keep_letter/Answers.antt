-- Where nothing is shifted the loop makes all words; else all but the last, past which there is none to shift bits in from. A row of no words
-- has none to keep.
use borrow.Author.Rules.{rules}
use mathlib.Core.Path.{refl}
use Prim.Native.Nat.{◌-◌}
use lib.ListN.{length}
use Rattle.rows.proofs.WordByWord.{kept_whole, kept_plain, kept_empty}
use Rattle.rows.proofs.words.keep_letter.Goals as goal

pub returns-then-n-eq0 : goal.returns-then-n-eq0
returns-then-n-eq0 c =
    let a = c.args in
    let k = kept_empty a.by.places a.letters.now a.row.now (search rules) (search rules) (λ q. (c.type_inv.letters q).fits) (λ q. (c.type_inv.row q).fits) a.out.now (search rules) (search rules) in
    record { out_after = k.0; value = k.1 }

pub returns-then-by-eq0 : goal.returns-then-by-eq0
returns-then-by-eq0 c =
    let k = c.keep_plain in
    let a = c.args in
    let w = kept_plain a.by.places a.letters.now a.row.now (search rules) (search rules) (λ q. (c.type_inv.letters q).fits) (λ q. (c.type_inv.row q).fits)
    a.out.now (search rules) (length a.out.now) k.result c.if-by-eq0.true (search rules) k.ensures.result_value k.ensures.out_after refl in
    record { out_after = w.0; value = w.1 }

pub returns : goal.returns
returns c =
    let k = c.keep_words-all in
    let a = c.args in
    let w = kept_whole a.by.places a.letters.now a.row.now (search rules) (search rules) (λ q. (c.type_inv.letters q).fits) (λ q. (c.type_inv.row q).fits)
    a.out.now (search rules) (length a.out.now - 1) k.result (search rules) k.ensures.result_value k.ensures.out_after c.down.ensures refl in
    record { out_after = w.0; value = w.1 }
