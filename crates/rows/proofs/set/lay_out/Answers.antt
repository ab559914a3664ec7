use borrow.Author.Rules.{rules}
use mathlib.Core.Path.{◌≡◌, refl, ◌∙◌}
use Prim.Native.Nat.{◌+◌, ◌<◌}
use native.Mathlib.Omega.{arith}
use lib.ListN.{length, length-set, get_or}
use Rattle.rows.specs.Set.{row_marks, first_word}
use Rattle.rows.proofs.Sets.{first_none, first_next}
use Rattle.rows.proofs.Offsets.{offset_of, offset_none, offset_next, offset_most, length_most, first_bound, short_none, short_more, tabled_first, tabled_more, tabled_offsets}
use Rattle.rows.proofs.set.lay_out.Goals as goal

pub loop-k-init : goal.loop-k-init
loop-k-init c = (
  search rules,
  refl,
  refl,
  first_none _,
  offset_none c.args.lengths.now,
  tabled_first _ c.args.firsts.now (first_none _) (search rules),
  tabled_first _ c.args.offsets.now (offset_none c.args.lengths.now) (search rules),
  short_none _,
)

pub words_of-words-requires : goal.words_of-words-requires
words_of-words-requires c =
    let l = c.loop-k in
    omega (arith, length_most c.args.lengths.now l.k (search rules), c.requires)

pub overflow_add-first : goal.overflow_add-first
overflow_add-first c =
    let l = c.loop-k in
    omega (arith, l.invariant.3, c.words_of-words.ensures, first_next c.args.lengths.now l.k (search rules), first_bound c.args.lengths.now (l.k + 1), c.requires)

pub overflow_add-offset : goal.overflow_add-offset
overflow_add-offset c =
    let l = c.loop-k in
    omega (arith, l.invariant.4, offset_next c.args.lengths.now l.k (search rules), offset_most c.args.lengths.now (l.k + 1), c.requires)

pub loop-k-preserved : goal.loop-k-preserved
loop-k-preserved c =
    let l = c.loop-k in
    let ns = c.args.lengths.now in
    let h : l.k < length ns = c.loop-k-test.true in
    let f : l.first + c.words_of-words.result ≡ first_word ns (l.k + 1) = omega (arith, l.invariant.3, c.words_of-words.ensures, first_next ns l.k h) in
    let o : l.offset + get_or ns l.k 0 ≡ offset_of ns (l.k + 1) = omega (arith, l.invariant.4, offset_next ns l.k h) in (
      search rules,
      length-set l.firsts (l.k + 1) (l.first + c.words_of-words.result) ∙ l.invariant.1,
      length-set l.offsets (l.k + 1) (l.offset + get_or ns l.k 0) ∙ l.invariant.2,
      f,
      o,
      tabled_more _ _ _ l.invariant.5 f (omega (arith, l.invariant.1, length-set c.args.firsts.now 0 row_marks, c.requires.lengths_in_bounds.0)),
      tabled_more _ _ _ l.invariant.6 o (omega (arith, l.invariant.2, length-set c.args.offsets.now 0 0, c.requires.lengths_in_bounds.1)),
      short_more _ _ _ l.invariant.7 c.words_of-words.ensures,
    )

-- the words of all sequences and the marks leave the last words of a row unused
pub invariant_of-result-clause-inside : goal.invariant_of-result-clause-inside
invariant_of-result-clause-inside c =
    let ns = c.args.lengths.now in
    omega (arith, first_bound ns (length ns), c.requires)

pub invariant_of-result-clause-ones : goal.invariant_of-result-clause-ones
invariant_of-result-clause-ones c = λ h k m. c.loop-k.invariant.7.one h k (omega arith)

pub returns : goal.returns
returns c =
    let l = c.loop-k in
    let ns = c.args.lengths.now in
    let o : length l.offsets ≡ length c.args.offsets.now = l.invariant.2 ∙ length-set c.args.offsets.now 0 0 in
    record {
      layout = refl;
      same_table = refl;
      inside = omega (arith, first_bound ns (length ns), c.requires);
      firsts_len_unchanged = l.invariant.1 ∙ length-set c.args.firsts.now 0 row_marks;
      offsets = tabled_offsets _ _ _ (search rules) (omega (arith, o, c.requires.lengths_in_bounds.1)) l.invariant.6;
      offsets_len_unchanged = o;
    }
