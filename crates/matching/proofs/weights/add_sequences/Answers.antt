use borrow.Author.Rules.{rules}
use mathlib.Core.Path.{ap}
use Prim.Native.Nat.{ℕ, ◌+◌, ◌*◌, ◌≤◌, ◌<◌}
use native.Mathlib.Omega.{arith}
use mathlib.Core.Path.{◌≡◌}
use lib.Count.{count_trailing_zeros}
use lib.ListN.{length, get_or}
use Rattle.matching.proofs.Leads.{counts_lie}
use Rattle.matching.proofs.Slots.{enough}
use Rattle.rows.proofs.Sets.{turn_lies}
use Rattle.matching.proofs.Totals.{weights_up, weights_next, weights_none, weights_word, words_cover, dark_past, own_sum}
use Rattle.rows.proofs.Lowest.{walk_begin, walk_turn}
use Rattle.rows.proofs.MarksWalk.{no_rest, next}
use Rattle.matching.proofs.weights.add_sequences.Goals as goal

pub loop-rest-init : goal.loop-rest-init
loop-rest-init c =
    let a = c.args in
    let s = a.weighing.now.made.plan in
    walk_begin _ _ (search rules) (omega (arith, weights_word s.layout.lengths.now a.row.now a.counts.now a.w (a.w * 64 + 0) (omega arith)))

pub slice_bounds-add-count : goal.slice_bounds-add-count
slice_bounds-add-count c =
    let l = c.loop-rest in
    let a = c.args in
    let p = c.requires in
    let s = c.args.weighing.now.made.plan in
    let some : 0 < l.rest = omega (arith, c.loop-rest-test.true) in
    let at : ℕ = a.w * 64 + count_trailing_zeros 64 l.rest in
    let n = next a.row.now a.w l.invariant.rests some s.layout.lengths.now s.layout.firsts.now p.bounded s.layout.laid p.w_bound in
    let q = c.words-from.ensures.place in
    let words = turn_lies s.layout.lengths.now at n.inside q.0 q.1 in
    words.0

pub slice_bounds-add-start : goal.slice_bounds-add-start
slice_bounds-add-start c =
    let l = c.loop-rest in
    let a = c.args in
    let p = c.requires in
    let s = c.args.weighing.now.made.plan in
    let some : 0 < l.rest = omega (arith, c.loop-rest-test.true) in
    let at : ℕ = a.w * 64 + count_trailing_zeros 64 l.rest in
    let n = next a.row.now a.w l.invariant.rests some s.layout.lengths.now s.layout.firsts.now p.bounded s.layout.laid p.w_bound in
    let q = c.words-from.ensures.place in
    let words = turn_lies s.layout.lengths.now at n.inside q.0 q.1 in
    words.0

pub slice_bounds-add-end : goal.slice_bounds-add-end
slice_bounds-add-end c =
    let l = c.loop-rest in
    let a = c.args in
    let p = c.requires in
    let s = c.args.weighing.now.made.plan in
    let some : 0 < l.rest = omega (arith, c.loop-rest-test.true) in
    let at : ℕ = a.w * 64 + count_trailing_zeros 64 l.rest in
    let n = next a.row.now a.w l.invariant.rests some s.layout.lengths.now s.layout.firsts.now p.bounded s.layout.laid p.w_bound in
    let q = c.words-from.ensures.place in
    let words = turn_lies s.layout.lengths.now at n.inside q.0 q.1 in
    omega (arith, words, p.lengths_in_bounds, enough s.letters.now s.layout.lengths.now s.sound_set)

pub slice_bounds-add-count-in-loop-rest : goal.slice_bounds-add-count-in-loop-rest
slice_bounds-add-count-in-loop-rest c =
    let l = c.loop-rest in
    let a = c.args in
    let p = c.requires in
    let s = c.args.weighing.now.made.plan in
    let some : 0 < l.rest = omega (arith, c.loop-rest-test.true) in
    let at : ℕ = a.w * 64 + count_trailing_zeros 64 l.rest in
    let n = next a.row.now a.w l.invariant.rests some s.layout.lengths.now s.layout.firsts.now p.bounded s.layout.laid p.w_bound in
    let begins = a.weighing.now.offsets_laid.same at (omega (arith, n.inside)) in
    let ends = a.weighing.now.offsets_laid.same (at + 1) (omega (arith, n.inside)) in
    let places = counts_lie s.layout.lengths.now at n.inside begins ends in
    places.0

pub slice_bounds-add-start-in-loop-rest : goal.slice_bounds-add-start-in-loop-rest
slice_bounds-add-start-in-loop-rest c =
    let l = c.loop-rest in
    let a = c.args in
    let p = c.requires in
    let s = c.args.weighing.now.made.plan in
    let some : 0 < l.rest = omega (arith, c.loop-rest-test.true) in
    let at : ℕ = a.w * 64 + count_trailing_zeros 64 l.rest in
    let n = next a.row.now a.w l.invariant.rests some s.layout.lengths.now s.layout.firsts.now p.bounded s.layout.laid p.w_bound in
    let begins = a.weighing.now.offsets_laid.same at (omega (arith, n.inside)) in
    let ends = a.weighing.now.offsets_laid.same (at + 1) (omega (arith, n.inside)) in
    let places = counts_lie s.layout.lengths.now at n.inside begins ends in
    places.0

pub slice_bounds-add-end-in-loop-rest : goal.slice_bounds-add-end-in-loop-rest
slice_bounds-add-end-in-loop-rest c =
    let l = c.loop-rest in
    let a = c.args in
    let p = c.requires in
    let s = c.args.weighing.now.made.plan in
    let some : 0 < l.rest = omega (arith, c.loop-rest-test.true) in
    let at : ℕ = a.w * 64 + count_trailing_zeros 64 l.rest in
    let n = next a.row.now a.w l.invariant.rests some s.layout.lengths.now s.layout.firsts.now p.bounded s.layout.laid p.w_bound in
    let begins = a.weighing.now.offsets_laid.same at (omega (arith, n.inside)) in
    let ends = a.weighing.now.offsets_laid.same (at + 1) (omega (arith, n.inside)) in
    let places = counts_lie s.layout.lengths.now at n.inside begins ends in
    omega (arith, places, p.lengths_in_bounds, enough s.letters.now s.layout.lengths.now s.sound_set)

pub add-total-requires-clause-row_in_bounds : goal.add-total-requires-clause-row_in_bounds
add-total-requires-clause-row_in_bounds c =
    let l = c.loop-rest in
    let a = c.args in
    let p = c.requires in
    let s = c.args.weighing.now.made.plan in
    let some : 0 < l.rest = omega (arith, c.loop-rest-test.true) in
    let at : ℕ = a.w * 64 + count_trailing_zeros 64 l.rest in
    let n = next a.row.now a.w l.invariant.rests some s.layout.lengths.now s.layout.firsts.now p.bounded s.layout.laid p.w_bound in
    let q = c.words-from.ensures.place in
    let begins = a.weighing.now.offsets_laid.same at (omega (arith, n.inside)) in
    let ends = a.weighing.now.offsets_laid.same (at + 1) (omega (arith, n.inside)) in
    let words = turn_lies s.layout.lengths.now at n.inside q.0 q.1 in
    let places = counts_lie s.layout.lengths.now at n.inside begins ends in
    let words_end : c.words-from.result.1 ≤ length a.row.now = omega (arith, words, p.lengths_in_bounds, enough s.letters.now s.layout.lengths.now s.sound_set) in
    let places_end : get_or a.weighing.now.offsets.now (at + 1) 0 ≤ length a.counts.now = omega (arith, places, p.lengths_in_bounds, enough s.letters.now s.layout.lengths.now s.sound_set) in
    words_cover s.layout.lengths.now a.row.now a.counts.now at n.inside begins ends q.0 q.1 words_end places_end

pub add-total-requires-clause-by_index : goal.add-total-requires-clause-by_index
add-total-requires-clause-by_index c =
    let l = c.loop-rest in
    let a = c.args in
    let p = c.requires in
    let s = c.args.weighing.now.made.plan in
    let some : 0 < l.rest = omega (arith, c.loop-rest-test.true) in
    let at : ℕ = a.w * 64 + count_trailing_zeros 64 l.rest in
    let n = next a.row.now a.w l.invariant.rests some s.layout.lengths.now s.layout.firsts.now p.bounded s.layout.laid p.w_bound in
    let q = c.words-from.ensures.place in
    let begins = a.weighing.now.offsets_laid.same at (omega (arith, n.inside)) in
    let ends = a.weighing.now.offsets_laid.same (at + 1) (omega (arith, n.inside)) in
    let words = turn_lies s.layout.lengths.now at n.inside q.0 q.1 in
    let places = counts_lie s.layout.lengths.now at n.inside begins ends in
    let words_end : c.words-from.result.1 ≤ length a.row.now = omega (arith, words, p.lengths_in_bounds, enough s.letters.now s.layout.lengths.now s.sound_set) in
    let places_end : get_or a.weighing.now.offsets.now (at + 1) 0 ≤ length a.counts.now = omega (arith, places, p.lengths_in_bounds, enough s.letters.now s.layout.lengths.now s.sound_set) in
    dark_past s.layout.lengths.now a.row.now a.counts.now at n.inside begins ends q.0 q.1 words_end places_end (p.by_index at n.inside n.marked)

pub add-total-requires-clause-counts_bound : goal.add-total-requires-clause-counts_bound
add-total-requires-clause-counts_bound c =
    let l = c.loop-rest in
    let a = c.args in
    let p = c.requires in
    let s = c.args.weighing.now.made.plan in
    let some : 0 < l.rest = omega (arith, c.loop-rest-test.true) in
    let at : ℕ = a.w * 64 + count_trailing_zeros 64 l.rest in
    let n = next a.row.now a.w l.invariant.rests some s.layout.lengths.now s.layout.firsts.now p.bounded s.layout.laid p.w_bound in
    let q = c.words-from.ensures.place in
    let begins = a.weighing.now.offsets_laid.same at (omega (arith, n.inside)) in
    let ends = a.weighing.now.offsets_laid.same (at + 1) (omega (arith, n.inside)) in
    let words = turn_lies s.layout.lengths.now at n.inside q.0 q.1 in
    let places = counts_lie s.layout.lengths.now at n.inside begins ends in
    let words_end : c.words-from.result.1 ≤ length a.row.now = omega (arith, words, p.lengths_in_bounds, enough s.letters.now s.layout.lengths.now s.sound_set) in
    let places_end : get_or a.weighing.now.offsets.now (at + 1) 0 ≤ length a.counts.now = omega (arith, places, p.lengths_in_bounds, enough s.letters.now s.layout.lengths.now s.sound_set) in
    let left = weights_next s.layout.lengths.now a.row.now a.counts.now (a.w * 64 + 64) (a.w * 64 + l.invariant.upto) at n.later n.in_word n.skips n.marked in
    let own = own_sum s.layout.lengths.now a.row.now a.counts.now at n.inside begins ends q.0 q.1 words_end places_end in
    omega (arith, own, left, l.invariant.so_far, p.w_bound_2)

pub overflow_add-total : goal.overflow_add-total
overflow_add-total c =
    let l = c.loop-rest in
    let a = c.args in
    let p = c.requires in
    let s = c.args.weighing.now.made.plan in
    let some : 0 < l.rest = omega (arith, c.loop-rest-test.true) in
    let at : ℕ = a.w * 64 + count_trailing_zeros 64 l.rest in
    let n = next a.row.now a.w l.invariant.rests some s.layout.lengths.now s.layout.firsts.now p.bounded s.layout.laid p.w_bound in
    let q = c.words-from.ensures.place in
    let begins = a.weighing.now.offsets_laid.same at (omega (arith, n.inside)) in
    let ends = a.weighing.now.offsets_laid.same (at + 1) (omega (arith, n.inside)) in
    let words = turn_lies s.layout.lengths.now at n.inside q.0 q.1 in
    let places = counts_lie s.layout.lengths.now at n.inside begins ends in
    let words_end : c.words-from.result.1 ≤ length a.row.now = omega (arith, words, p.lengths_in_bounds, enough s.letters.now s.layout.lengths.now s.sound_set) in
    let places_end : get_or a.weighing.now.offsets.now (at + 1) 0 ≤ length a.counts.now = omega (arith, places, p.lengths_in_bounds, enough s.letters.now s.layout.lengths.now s.sound_set) in
    let left = weights_next s.layout.lengths.now a.row.now a.counts.now (a.w * 64 + 64) (a.w * 64 + l.invariant.upto) at n.later n.in_word n.skips n.marked in
    let own = own_sum s.layout.lengths.now a.row.now a.counts.now at n.inside begins ends q.0 q.1 words_end places_end in
    omega (arith, c.add-total.ensures, own, left, l.invariant.so_far, p.w_bound_2)

pub loop-rest-preserved : goal.loop-rest-preserved
loop-rest-preserved c =
    let l = c.loop-rest in
    let a = c.args in
    let p = c.requires in
    let s = c.args.weighing.now.made.plan in
    let some : 0 < l.rest = omega (arith, c.loop-rest-test.true) in
    let at : ℕ = a.w * 64 + count_trailing_zeros 64 l.rest in
    let n = next a.row.now a.w l.invariant.rests some s.layout.lengths.now s.layout.firsts.now p.bounded s.layout.laid p.w_bound in
    let q = c.words-from.ensures.place in
    let begins = a.weighing.now.offsets_laid.same at (omega (arith, n.inside)) in
    let ends = a.weighing.now.offsets_laid.same (at + 1) (omega (arith, n.inside)) in
    let words = turn_lies s.layout.lengths.now at n.inside q.0 q.1 in
    let places = counts_lie s.layout.lengths.now at n.inside begins ends in
    let words_end : c.words-from.result.1 ≤ length a.row.now = omega (arith, words, p.lengths_in_bounds, enough s.letters.now s.layout.lengths.now s.sound_set) in
    let places_end : get_or a.weighing.now.offsets.now (at + 1) 0 ≤ length a.counts.now = omega (arith, places, p.lengths_in_bounds, enough s.letters.now s.layout.lengths.now s.sound_set) in
    let left = weights_next s.layout.lengths.now a.row.now a.counts.now (a.w * 64 + 64) (a.w * 64 + l.invariant.upto) at n.later n.in_word n.skips n.marked in
    let own = own_sum s.layout.lengths.now a.row.now a.counts.now at n.inside begins ends q.0 q.1 words_end places_end in
    let forth : at + 1 ≡ a.w * 64 + (count_trailing_zeros 64 l.rest + 1) = omega arith in
    let up = ap (weights_up s.layout.lengths.now a.row.now a.counts.now (a.w * 64 + 64)) forth in
    walk_turn _ _ l.invariant some (omega (arith, c.add-total.ensures, own, left, l.invariant.so_far, up))

pub returns : goal.returns
returns c =
    let l = c.loop-rest in
    let a = c.args in
    let s = a.weighing.now.made.plan in
    let g = l.invariant in
    let none = no_rest a.row.now a.w g.rests (omega (arith, c.loop-rest-test.false)) in
    omega (arith, weights_none s.layout.lengths.now a.row.now a.counts.now (a.w * 64 + 64) (a.w * 64 + g.upto) none, g.so_far)

pub bounds-offsets-at : goal.bounds-offsets-at
bounds-offsets-at c =
    let l = c.loop-rest in
    let a = c.args in
    let p = c.requires in
    let s = c.args.weighing.now.made.plan in
    let some : 0 < l.rest = omega (arith, c.loop-rest-test.true) in
    let n = next a.row.now a.w l.invariant.rests some s.layout.lengths.now s.layout.firsts.now p.bounded s.layout.laid p.w_bound in
    omega (arith, n.inside, a.weighing.now.offsets_laid.long)

pub bounds-offsets-at-in-loop-rest : goal.bounds-offsets-at-in-loop-rest
bounds-offsets-at-in-loop-rest c =
    let l = c.loop-rest in
    let a = c.args in
    let p = c.requires in
    let s = c.args.weighing.now.made.plan in
    let some : 0 < l.rest = omega (arith, c.loop-rest-test.true) in
    let n = next a.row.now a.w l.invariant.rests some s.layout.lengths.now s.layout.firsts.now p.bounded s.layout.laid p.w_bound in
    omega (arith, n.inside, a.weighing.now.offsets_laid.long)

pub words-from-requires : goal.words-from-requires
words-from-requires c =
    let l = c.loop-rest in
    let a = c.args in
    let p = c.requires in
    let s = c.args.weighing.now.made.plan in
    let some : 0 < l.rest = omega (arith, c.loop-rest-test.true) in
    (omega arith, (next a.row.now a.w l.invariant.rests some s.layout.lengths.now s.layout.firsts.now p.bounded s.layout.laid p.w_bound).inside)

pub offset_bounds-row-from : goal.offset_bounds-row-from
offset_bounds-row-from c = let s = c.args.weighing.now.made.plan in omega (arith, c.words-from.ensures.inside, enough s.letters.now s.layout.lengths.now s.sound_set)
