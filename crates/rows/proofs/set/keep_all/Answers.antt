use borrow.Author.Rules.{rules}
use mathlib.Core.Path.{◌≡◌, refl, ◌∙◌}
use Prim.Native.Nat.{◌≤◌}
use native.Mathlib.Omega.{arith}
use lib.ListN.{length-set}
use Rattle.rows.proofs.Marks.{marks_in, mark_in}
use Rattle.rows.proofs.Offsets.{words_marks}
use Rattle.rows.proofs.Possible.{possible_begin, stopped, ended, lost_most, possible_turn}
use Rattle.rows.proofs.set.keep_all.Goals as goal

pub count-possible-requires : goal.count-possible-requires
count-possible-requires g c =
    let m = words_marks _ c.args.layout.now.few c.words_of-used.ensures in
    (m.0, omega (arith, m.0, marks_in _ _ refl refl refl c.requires.lengths_in_bounds.0))

pub loop-w-init : goal.loop-w-init
loop-w-init g c =
    let m = words_marks _ c.args.layout.now.few c.words_of-used.ensures in
    (omega arith, m.0, refl, possible_begin c.args.by.places c.args.layout.now.lengths.now c.args.letter.now c.args.row.now c.requires.bounded _ m.1 c.args.quorum c.args.out.now m.0 (omega (arith, m.0, marks_in _ _ refl refl refl c.requires.lengths_in_bounds.0)) c.count-possible.ensures)

pub returns-then-possible-quorum : goal.returns-then-possible-quorum
returns-then-possible-quorum g c =
    let l = c.loop-w in
    let r = stopped c.args.by.places c.args.layout.now.lengths.now c.args.letter.now c.args.row.now c.args.quorum l.out l.possible l.w l.invariant.3 (omega (arith, l.invariant.0, l.invariant.1)) c.if-possible-quorum.true l.invariant.2 in
    record {
      lower_bound = r.0;
      value = r.1.0;
      marked = r.1.1.0;
      filled = r.1.1.1.0;
      out_len_unchanged = r.1.1.1.1;
    }

pub keep_sequences-kept-requires : goal.keep_sequences-kept-requires
keep_sequences-kept-requires g c =
    let l = c.loop-w in
    let p = c.requires in
    let rooms = p.lengths_in_bounds in
    (omega arith, (omega (arith, l.invariant.1, c.loop-w-test.true), (p.bounded, (rooms.0, rooms.1, l.invariant.2 ∙ rooms.2))))

pub bounds-out-w : goal.bounds-out-w
bounds-out-w g c =
    let l = c.loop-w in
    mark_in _ _ c.keep_sequences-kept.ensures.out_unchanged.1 l.invariant.2 c.requires.lengths_in_bounds.2 c.requires.lengths_in_bounds.0 _ (omega (arith, l.invariant.1, c.loop-w-test.true))

pub overflow_sub-possible-in-loop-w : goal.overflow_sub-possible-in-loop-w
overflow_sub-possible-in-loop-w g c =
    let l = c.loop-w in
    let k = c.keep_sequences-kept in
    let e = k.ensures in
    let h = c.if-possible-quorum.false in
    let i = c.loop-w-test.true in
    omega (arith, lost_most c.args.by.places c.args.layout.now.lengths.now c.args.letter.now c.args.row.now c.args.quorum l.out l.possible l.w l.invariant.3 (omega (arith, h)) (omega (arith, l.invariant.1, i)) k.result.lost e.lost_bound)

pub loop-w-preserved : goal.loop-w-preserved
loop-w-preserved g c =
    let l = c.loop-w in
    let k = c.keep_sequences-kept in
    let e = k.ensures in
    let h = c.if-possible-quorum.false in
    let i = c.loop-w-test.true in
    let long = marks_in _ _ e.out_unchanged.1 l.invariant.2 c.requires.lengths_in_bounds.2 c.requires.lengths_in_bounds.0 in (
      search rules,
      l.invariant.1,
      length-set k.new.out l.w k.result.left ∙ e.out_unchanged.1 ∙ l.invariant.2,
      possible_turn c.args.by.places c.args.layout.now.lengths.now c.args.letter.now c.args.row.now c.args.quorum l.out l.possible l.w l.invariant.3 (omega (arith, h)) (omega (arith, l.invariant.1, i)) k.result.lost e.lost_bound _ k.result.left e.out_unchanged.0 long e.b_value e.out_after,
    )

pub returns-then-possible-quorum-2 : goal.returns-then-possible-quorum-2
returns-then-possible-quorum-2 g c =
    let l = c.loop-w in
    let r = stopped c.args.by.places c.args.layout.now.lengths.now c.args.letter.now c.args.row.now c.args.quorum l.out l.possible l.w l.invariant.3 (omega (arith, l.invariant.0, l.invariant.1)) c.if-possible-quorum-2.true l.invariant.2 in
    record {
      lower_bound = r.0;
      value = r.1.0;
      marked = r.1.1.0;
      filled = r.1.1.1.0;
      out_len_unchanged = r.1.1.1.1;
    }

pub clear_marks-requires : goal.clear_marks-requires
clear_marks-requires g c =
    let l = c.loop-w in
    (l.invariant.1, marks_in _ _ refl l.invariant.2 c.requires.lengths_in_bounds.2 c.requires.lengths_in_bounds.0)

pub count-requires : goal.count-requires
count-requires g c =
    let l = c.loop-w in
    (l.invariant.1, omega (arith, l.invariant.1, marks_in _ _ c.clear_marks.ensures.row_unchanged.1 l.invariant.2 c.requires.lengths_in_bounds.2 c.requires.lengths_in_bounds.0))

pub returns : goal.returns
returns g c =
    let l = c.loop-w in
    let m = c.words_of-used in
    let e = c.clear_marks.ensures in
    let w : l.w ≡ m.result = omega (arith, l.invariant.0, c.loop-w-test.false) in
    let q : c.args.quorum ≤ l.possible = omega (arith, c.if-possible-quorum-2.false) in
    let wide = marks_in _ _ e.row_unchanged.1 l.invariant.2 c.requires.lengths_in_bounds.2 c.requires.lengths_in_bounds.0 in
    let r = ended c.args.by.places c.args.layout.now.lengths.now c.args.letter.now c.args.row.now c.args.quorum l.out l.possible l.w l.invariant.3 c.requires.bounded m.result (words_marks _ c.args.layout.now.few m.ensures).1 l.invariant.1 w q
    _ e.by_index.0 e.by_index.1 e.row_unchanged.0 (omega (arith, l.invariant.1, wide)) c.count.ensures (e.row_unchanged.1 ∙ l.invariant.2) in
    record {
      lower_bound = r.0;
      value = r.1.0;
      marked = r.1.1.0;
      filled = r.1.1.1.0;
      out_len_unchanged = r.1.1.1.1;
    }
