use borrow.Author.Rules.{rules}
use mathlib.Core.Path.{◌≡◌, refl, ◌∙◌}
use Prim.Native.Nat.{◌+◌, ◌*◌, ◌≤◌}
use native.Mathlib.Omega.{arith}
use lib.Bits.{bit_xor}
use lib.Count.{ones}
use lib.ListN.{length-set, get_or}
use Rattle.rows.specs.Set.{row_marks, is_marked, tally, is_extended_marked}
use Rattle.rows.proofs.Marks.{marks_in, mark_in}
use Rattle.rows.proofs.Possible.{ones_lost, possible_begin, stopped, ended, lost_most, possible_turn}
use Rattle.rows.proofs.set.keep_short.Goals as goal

pub count-able-requires : goal.count-able-requires
count-able-requires g c = (omega arith, marks_in _ _ refl refl refl c.requires.lengths_in_bounds.0)

pub loop-w-init : goal.loop-w-init
loop-w-init g c =
    (omega arith, refl, possible_begin c.args.by.places c.args.layout.now.lengths.now c.args.letter.now c.args.row.now c.requires.bounded 16 c.args.layout.now.few c.args.quorum c.args.out.now (omega arith) (marks_in _ _ refl refl refl c.requires.lengths_in_bounds.0) c.count-able.ensures)

pub returns-then-able-quorum : goal.returns-then-able-quorum
returns-then-able-quorum g c =
    let l = c.loop-w in
    let r = stopped c.args.by.places c.args.layout.now.lengths.now c.args.letter.now c.args.row.now c.args.quorum l.out l.able l.w l.invariant.2 l.invariant.0 c.if-able-quorum.true l.invariant.1 in
    record {
      lower_bound = r.0;
      value = r.1.0;
      marked = r.1.1.0;
      filled = r.1.1.1.0;
      out_len_unchanged = r.1.1.1.1;
    }

pub keep_ones-left-requires : goal.keep_ones-left-requires
keep_ones-left-requires g c =
    let p = c.requires in
    let rooms = p.lengths_in_bounds in
    (omega arith, (search rules, (p.short, (p.bounded, (rooms.0, rooms.1, c.loop-w.invariant.1 ∙ rooms.2)))))

pub bounds-out-w : goal.bounds-out-w
bounds-out-w g c = mark_in _ _ c.keep_ones-left.ensures.out_unchanged.1 c.loop-w.invariant.1 c.requires.lengths_in_bounds.2 c.requires.lengths_in_bounds.0 _ (search rules)

pub bounds-row-w : goal.bounds-row-w
bounds-row-w g c = mark_in _ _ refl refl refl c.requires.lengths_in_bounds.0 _ (search rules)

pub overflow_sub-able : goal.overflow_sub-able
overflow_sub-able g c =
    let l = c.loop-w in
    let h = c.if-able-quorum.false in
    let i = c.loop-w-test.true in
    let a = c.args in
    let k = c.keep_ones-left in
    let lost : tally (is_extended_marked a.by.places a.layout.now.lengths.now a.letter.now a.row.now) (l.w * 64) 64 + ones (bit_xor (get_or a.row.now l.w 0) k.result) ≤ tally (is_marked a.row.now) (l.w * 64) 64 =
    ones_lost a.by.places a.layout.now.lengths.now a.letter.now a.row.now l.w k.result (search rules) (c.type_inv.row l.w).fits k.ensures.by_index in
    lost_most c.args.by.places c.args.layout.now.lengths.now c.args.letter.now c.args.row.now c.args.quorum l.out l.able l.w l.invariant.2 (omega (arith, h)) i _ lost

pub loop-w-preserved : goal.loop-w-preserved
loop-w-preserved g c =
    let l = c.loop-w in
    let e = c.keep_ones-left.ensures in
    let h = c.if-able-quorum.false in
    let i = c.loop-w-test.true in
    let a = c.args in
    let k = c.keep_ones-left in
    let lost : tally (is_extended_marked a.by.places a.layout.now.lengths.now a.letter.now a.row.now) (l.w * 64) 64 + ones (bit_xor (get_or a.row.now l.w 0) k.result) ≤ tally (is_marked a.row.now) (l.w * 64) 64 =
    ones_lost a.by.places a.layout.now.lengths.now a.letter.now a.row.now l.w k.result (search rules) (c.type_inv.row l.w).fits k.ensures.by_index in
    let long = marks_in _ _ e.out_unchanged.1 l.invariant.1 c.requires.lengths_in_bounds.2 c.requires.lengths_in_bounds.0 in (
      search rules,
      length-set k.new.out l.w k.result ∙ e.out_unchanged.1 ∙ l.invariant.1,
      possible_turn c.args.by.places c.args.layout.now.lengths.now c.args.letter.now c.args.row.now c.args.quorum l.out l.able l.w l.invariant.2 (omega (arith, h)) i _ lost _ k.result e.out_unchanged.0 long (λ _. e.by_index) (λ _. e.by_index_2),
    )

pub returns-then-able-quorum-2 : goal.returns-then-able-quorum-2
returns-then-able-quorum-2 g c =
    let l = c.loop-w in
    let r = stopped c.args.by.places c.args.layout.now.lengths.now c.args.letter.now c.args.row.now c.args.quorum l.out l.able l.w l.invariant.2 l.invariant.0 c.if-able-quorum-2.true l.invariant.1 in
    record {
      lower_bound = r.0;
      value = r.1.0;
      marked = r.1.1.0;
      filled = r.1.1.1.0;
      out_len_unchanged = r.1.1.1.1;
    }

pub count-requires : goal.count-requires
count-requires g c = (omega arith, marks_in _ _ refl c.loop-w.invariant.1 c.requires.lengths_in_bounds.2 c.requires.lengths_in_bounds.0)

pub returns : goal.returns
returns g c =
    let l = c.loop-w in
    let w : l.w ≡ row_marks = omega (arith, l.invariant.0, c.loop-w-test.false) in
    let q : c.args.quorum ≤ l.able = omega (arith, c.if-able-quorum-2.false) in
    let r = ended c.args.by.places c.args.layout.now.lengths.now c.args.letter.now c.args.row.now c.args.quorum l.out l.able l.w l.invariant.2 c.requires.bounded 16 c.args.layout.now.few (omega arith) w q l.out (λ _ _. refl) (λ _ h g. absurd (omega (arith, h, g))) refl (marks_in _ _ refl l.invariant.1 c.requires.lengths_in_bounds.2 c.requires.lengths_in_bounds.0) c.count.ensures l.invariant.1 in
    record {
      lower_bound = r.0;
      value = r.1.0;
      marked = r.1.1.0;
      filled = r.1.1.1.0;
      out_len_unchanged = r.1.1.1.1;
    }
