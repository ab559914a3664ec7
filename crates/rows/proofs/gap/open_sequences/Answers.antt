use mathlib.Core.Path.{◌≡◌, refl, ◌∙◌}
use Prim.Native.Nat.{◌≤◌, ◌+◌, ◌*◌}
use native.Mathlib.Omega.{arith}
use lib.ListN.{length}
use borrow.Rule.Slice.PartMut.{mid_len, same_len_mid, drop_put}
use Rattle.rows.specs.Set.{between}
use Rattle.rows.proofs.Arrays.{words_fit}
use Rattle.rows.proofs.Sets.{window_is_at, part_opened}
use Rattle.rows.proofs.MarksWalk.{Next, walked_end, no_rest, next_taken}
use Rattle.rows.proofs.Lowest.{walk_begin, walk_take}
use Rattle.rows.proofs.RowsRewritten.{later_words, later_window, rewritten_none, rewritten_turn}
use Rattle.rows.proofs.gap.open_sequences.Goals as goal
use Rattle.rows.proofs.gap.open_sequences.Goals.{In-Some}

pub loop-place-init : goal.loop-place-init
loop-place-init c =
    let a = c.args in
    (refl, refl, rw c.into_iter-place-iterator.ensures.into_iter_gives (walk_begin _ _ (words_fit a.row.now c.type_inv.row a.w) (rewritten_none _ _ _ _ _ _ (omega arith))))

-- at a turn there is a next mark
turn : (c : In-Some) → Next c.args.layout.now.lengths.now c.args.layout.now.firsts.now c.args.row.now c.args.w (c.args.w * 64 + c.loop-place.invariant.2.upto) (c.args.w * 64 + c.in-Some.place)
turn c =
    let p = c.requires in
    next_taken c.args.row.now c.args.w c.loop-place.invariant.2.rests c.in-Some.ensures.steps c.args.layout.now.lengths.now c.args.layout.now.firsts.now p.bounded c.args.layout.now.laid p.w_bound

pub overflow_add-at : goal.overflow_add-at
overflow_add-at c = omega (arith, (turn (goal.at.overflow_add-at c).In-Some).in_word)

pub words-from-requires : goal.words-from-requires
words-from-requires c = (omega arith, (turn (goal.at.words-from-requires c).In-Some).inside)

pub loop-place-preserved : goal.loop-place-preserved
unfolding between
loop-place-preserved c =
    let a = c.args in
    let l = c.loop-place in
    let i = l.invariant in
    let g = i.2 in
    let o = c.open_sequence in
    let n = turn (goal.at.loop-place-preserved c).In-Some in
    let k = c.words-from.ensures.place in
    let t = c.words-from.ensures.inside in
    let inside : c.words-from.result.1 ≤ length l.row = omega (arith, t.1, c.args.layout.now.inside, i.1) in
    let e = part_opened _ _ l.row t.0 inside o.new.row o.auto.row o.ensures in
    let f = drop_put _ _ l.row o.new.row t.0 inside (o.auto.row ∙ mid_len _ _ l.row inside) in
    let x = window_is_at _ _ n.inside k.0 k.1 a.reach.apart.near a.reach.apart.count l.row ∙ later_window _ _ _ _ g.so_far.later a.reach.apart.near a.reach.apart.count _ n.later in
    let up : a.w * 64 + c.in-Some.place + 1 ≡ a.w * 64 + (c.in-Some.place + 1) = omega arith in (
      same_len_mid _ _ l.spare o.new.spare o.auto.spare ∙ i.0,
      e.1 ∙ i.1,
      walk_take _ _ g c.in-Some.ensures.steps (rw up at (rewritten_turn _ _ _ _ _ _ _ g.so_far _ n.skips _ (omega arith) n.later n.inside k.0 k.1 e.0 f (e.2 ∙ x))),
    )

pub returns : goal.returns
returns c =
    let a = c.args in
    let i = c.loop-place.invariant in
    let g = i.2 in
    let none = no_rest a.row.now a.w g.rests c.in-None.ensures.steps in record {
      row_unchanged = g.so_far.walked.kept;
      row_unchanged_2 = later_words _ _ _ _ g.so_far.later (a.w * 64 + 64) (omega (arith, g.high));
      by_index = walked_end _ _ _ _ _ _ _ g.so_far.walked (a.w * 64 + 64) none;
    }
