use mathlib.Core.Bool.{not}
use mathlib.Core.Path.{refl, sym, ◌∙◌}
use Prim.Native.Nat.{◌+◌, ◌*◌}
use native.Mathlib.Omega.{arith}
use Rattle.rows.specs.Set.{between}
use Rattle.rows.proofs.Sets.{kept_from, extended_is_at, bits_are_at, part_kept}
use Rattle.rows.proofs.Kept.{going_begin, lost_few, going_most, end_tallied, end_left, end_walked, going_next, going_turn}
use Rattle.rows.proofs.Marks.{mark_in}
use Rattle.rows.proofs.Tally.{bit_few, bit_from}
use Rattle.rows.proofs.MarksWalk.{Next, mark_left}
use Rattle.rows.proofs.set.keep_sequences.Given.{Over}
use Rattle.rows.proofs.set.keep_sequences.Goals as goal
use Rattle.rows.proofs.set.keep_sequences.Goals.{In-Some}

pub loop-place-init : goal.loop-place-init
loop-place-init g c =
    (refl, rw c.into_iter-place-iterator.ensures.into_iter_gives (going_begin c.args.by.places c.args.layout.now.lengths.now c.args.letter.now c.args.row.now c.args.w (c.type_inv.row c.args.w).fits c.args.out.now))

pub returns-then-most-lost : goal.returns-then-most-lost
returns-then-most-lost g c =
    let l = c.loop-place in
    let a = c.args in
    let fits = (c.type_inv.row a.w).fits in
    let over = c.if-most-lost.true in
    record {
      lost_bound = going_most a.by.places a.layout.now.lengths.now a.letter.now a.row.now a.w fits a.out.now l.out l.place-iterator.0 l.left l.lost l.invariant.1;
      b_value = λ h. absurd (omega (arith, h, over));
      out_unchanged = (l.invariant.1.so_far.walked.kept, l.invariant.0);
      out_after = λ h. absurd (omega (arith, h, over));
      lost_value = λ h. absurd (omega (arith, h, over));
    }

pub bounds-row-w : goal.bounds-row-w
bounds-row-w g c = mark_in _ _ refl refl refl c.requires.lengths_in_bounds.0 _ c.requires.w_bound

-- at a turn there is a next mark
turn : (g : Over) (c : In-Some g) → Next c.args.layout.now.lengths.now c.args.layout.now.firsts.now c.args.row.now c.args.w (c.args.w * 64 + c.loop-place.invariant.1.upto) (c.args.w * 64 + c.in-Some.place)
turn g c =
    let l = c.loop-place in
    let a = c.args in
    let p = c.requires in
    going_next a.by.places a.layout.now.lengths.now a.letter.now a.row.now a.w (c.type_inv.row a.w).fits a.out.now l.out l.place-iterator.0 l.left l.lost l.invariant.1 c.in-Some.ensures.steps a.layout.now.firsts.now p.bounded c.args.layout.now.laid p.w_bound

pub overflow_cast-at : goal.overflow_cast-at
overflow_cast-at g c = omega (arith, (turn g (goal.at.overflow_cast-at g c).In-Some).in_word)

pub overflow_add-at : goal.overflow_add-at
overflow_add-at g c = omega (arith, (turn g (goal.at.overflow_add-at g c).In-Some).in_word, c.requires.w_bound)

pub words-from-requires : goal.words-from-requires
words-from-requires g c = (omega arith, (turn g (goal.at.words-from-requires g c).In-Some).inside)

pub overflow_shl-left : goal.overflow_shl-left
overflow_shl-left g c = omega (arith, (turn g (goal.at.overflow_shl-left g c).In-Some).in_word)

pub overflow_add-lost : goal.overflow_add-lost
overflow_add-lost g c =
    let l = c.loop-place in
    let a = c.args in
    omega (arith, lost_few a.by.places a.layout.now.lengths.now a.letter.now a.row.now a.w (c.type_inv.row a.w).fits a.out.now l.out l.place-iterator.0 l.left l.lost l.invariant.1, bit_few (not c.keep_sequence-found.result) (bit_from _ c.from-lost.ensures))

pub loop-place-preserved : goal.loop-place-preserved
unfolding between
loop-place-preserved g c =
    let l = c.loop-place in
    let a = c.args in
    let p = c.requires in
    let f = c.keep_sequence-found in
    let n = turn g (goal.at.loop-place-preserved g c).In-Some in
    let k = c.words-from.ensures.place in
    let t = c.words-from.ensures.inside in
    let e = part_kept _ _ l.out t.0 (omega (arith, t.1, p.lengths_in_bounds, l.invariant.0)) f.new.out f.auto.out f.ensures.out_after f.ensures.value in
    let x = extended_is_at _ _ n.inside k.0 k.1 a.by.places a.letter.now a.row.now in (
      e.0.1 ∙ l.invariant.0,
      going_turn a.by.places a.layout.now.lengths.now a.letter.now a.row.now a.w (c.type_inv.row a.w).fits a.out.now l.out l.place-iterator.0 l.left l.lost l.invariant.1 c.in-Some.ensures.steps a.layout.now.firsts.now p.bounded c.args.layout.now.laid p.w_bound _ (kept_from _ _ k.0 e.0.0)
          (sym (bits_are_at _ _ n.inside k.0 k.1 _) ∙ e.1.0 ∙ x)
          (bit_from _ c.from.ensures) (mark_left _ _ _ _ _ n.marked e.1.1 x) (bit_from _ c.from-lost.ensures),
    )

pub returns : goal.returns
returns g c =
    let l = c.loop-place in
    let a = c.args in
    let fits = (c.type_inv.row a.w).fits in
    let none = c.in-None.ensures.steps in
    record {
      lost_bound = going_most a.by.places a.layout.now.lengths.now a.letter.now a.row.now a.w fits a.out.now l.out l.place-iterator.0 l.left l.lost l.invariant.1;
      b_value = λ h. end_left a.by.places a.layout.now.lengths.now a.letter.now a.row.now a.w fits a.out.now l.out l.place-iterator.0 l.left l.lost l.invariant.1 none;
      out_unchanged = (l.invariant.1.so_far.walked.kept, l.invariant.0);
      out_after = λ h. end_walked a.by.places a.layout.now.lengths.now a.letter.now a.row.now a.w fits a.out.now l.out l.place-iterator.0 l.left l.lost l.invariant.1 none;
      lost_value = λ h. end_tallied a.by.places a.layout.now.lengths.now a.letter.now a.row.now a.w fits a.out.now l.out l.place-iterator.0 l.left l.lost l.invariant.1 none;
    }
