use mathlib.Core.Path.{refl, ◌∙◌}
use Prim.Native.Nat.{ℕ, ◌+◌, ◌*◌, ◌<◌}
use native.Mathlib.Omega.{arith}
use lib.ListN.{length, length-set}
use Rattle.rows.specs.Set.{row_marks}
use Rattle.rows.proofs.Kept.{going_begin, end_left, end_walked, word_in, kept_turn}
use Rattle.rows.proofs.Lowest.{taken_in}
use Rattle.rows.proofs.Marks.{mark_in}
use Rattle.rows.proofs.Tally.{bit_from}
use Rattle.rows.proofs.set.keep_ones.Given.{Over}
use Rattle.rows.proofs.set.keep_ones.Goals as goal
use Rattle.rows.proofs.set.keep_ones.Goals.{In-Some}

pub loop-place-init : goal.loop-place-init
loop-place-init g c =
    let a = c.args in
    (refl, rw c.into_iter-place-iterator.ensures.into_iter_gives (record { lost = 0; going = going_begin a.by.places a.layout.now.lengths.now a.letter.now a.row.now a.w (c.type_inv.row a.w).fits a.out.now }))

pub bounds-row-w : goal.bounds-row-w
bounds-row-w g c = mark_in _ _ refl refl refl c.requires.lengths_in_bounds.0 _ c.requires.w_bound

-- at a turn there is a next mark, and the word of its sequence
in_word : (g : Over) (c : In-Some g) → c.in-Some.place < 64
in_word g c = taken_in c.loop-place.invariant.1.going.rests c.in-Some.ensures.steps

inside : (g : Over) (c : In-Some g) → row_marks + c.args.w * 64 + c.in-Some.place < length c.args.row.now
inside g c =
    let a = c.args in
    let p = c.requires in
    let l = c.loop-place in
    word_in a.by.places a.layout.now.lengths.now a.letter.now a.row.now a.w (c.type_inv.row a.w).fits a.out.now l.out l.place-iterator.0 l.marks l.invariant.1 c.in-Some.ensures.steps a.layout.now.firsts.now c.args.layout.now.laid (a.layout.now.ones p.short) p.bounded p.w_bound p.lengths_in_bounds.0 refl

pub overflow_add-at : goal.overflow_add-at
overflow_add-at g c = omega (arith, in_word g (goal.at.overflow_add-at g c).In-Some, c.requires.w_bound)

pub bounds-row-at : goal.bounds-row-at
bounds-row-at g c = omega (arith, inside g (goal.at.bounds-row-at g c).In-Some)

pub bounds-letter-at : goal.bounds-letter-at
bounds-letter-at g c = omega (arith, inside g (goal.at.bounds-letter-at g c).In-Some, c.requires.lengths_in_bounds)

pub bounds-out-at : goal.bounds-out-at
bounds-out-at g c = omega (arith, inside g (goal.at.bounds-out-at g c).In-Some, c.requires.lengths_in_bounds, c.loop-place.invariant.0)

pub overflow_shl-marks : goal.overflow_shl-marks
overflow_shl-marks g c = omega (arith, in_word g (goal.at.overflow_shl-marks g c).In-Some)

pub loop-place-preserved : goal.loop-place-preserved
loop-place-preserved g c =
    let a = c.args in
    let p = c.requires in
    let l = c.loop-place in
    let at : ℕ = row_marks + a.w * 64 + c.in-Some.place in (
      length-set l.out at _ ∙ l.invariant.0,
      kept_turn a.by.places a.layout.now.lengths.now a.letter.now a.row.now a.w (c.type_inv.row a.w).fits a.out.now l.out l.place-iterator.0 l.marks l.invariant.1 c.in-Some.ensures.steps a.layout.now.firsts.now c.args.layout.now.laid (a.layout.now.ones p.short) p.bounded p.w_bound p.lengths_in_bounds.0 refl
          a.by.in_word p.lengths_in_bounds.1 (l.invariant.0 ∙ p.lengths_in_bounds.2)
          (c.type_inv.letter at).fits (c.type_inv.row at).fits (bit_from _ c.from.ensures),
    )

pub returns : goal.returns
returns g c =
    let l = c.loop-place in
    let a = c.args in
    let g = l.invariant.1.going in
    let fits = (c.type_inv.row a.w).fits in
    let none = c.in-None.ensures.steps in
    record {
      by_index = end_left a.by.places a.layout.now.lengths.now a.letter.now a.row.now a.w fits a.out.now l.out l.place-iterator.0 l.marks _ g none;
      out_unchanged = (g.so_far.walked.kept, l.invariant.0);
      by_index_2 = end_walked a.by.places a.layout.now.lengths.now a.letter.now a.row.now a.w fits a.out.now l.out l.place-iterator.0 l.marks _ g none;
    }
