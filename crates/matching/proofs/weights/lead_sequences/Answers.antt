use mathlib.Core.Bool.{Bool}
use mathlib.Core.List.{List}
use mathlib.Core.Path.{◌≡◌, sym, ap, ◌∙◌}
use Prim.Native.Nat.{ℕ, ◌+◌, ◌*◌, ◌<◌}
use native.Mathlib.Omega.{arith}
use lib.ListN.{length, take, get_or}
use Rattle.rules.specs.Lists.{sum}
use Rattle.rows.specs.Bits.{held}
use Rattle.rows.specs.Flags.{added, masked}
use Rattle.rows.specs.Set.{first_word, between}
use Rattle.matching.specs.Weights.{counts_at, counted_from, begun_counts}
use Rattle.matching.proofs.Leads.{led_end, led_turn, begun_are_at, begun_same, counts_lie, counts_room}
use Rattle.matching.proofs.Slots.{enough}
use Rattle.rows.proofs.Sets.{bits_are_at, turn_lies}
use Rattle.rows.proofs.Lowest.{walk_take}
use Rattle.rows.proofs.MarksWalk.{Next, no_rest, next_taken}
use Rattle.matching.proofs.weights.lead_sequences.Goals as goal
use Rattle.matching.proofs.weights.lead_sequences.Goals.{In-Some}

-- the counts of the sequence at the next mark, which are still as they were
own : (first : Bool) (ns row x y : List ℕ) (at : ℕ) → at < length ns → {a e from to : ℕ} → a ≡ sum (take at ns) → e ≡ sum (take (at + 1) ns)
    → from ≡ first_word ns at → to ≡ first_word ns (at + 1) → counts_at ns at y ≡ counts_at ns at x
    → masked (held (between from to row)) (counted_from first (between a e y)) ≡ begun_counts first ns row x at
own first ns row x y at h begins ends starts stops q = begun_are_at ns at h begins ends first starts stops row y ∙ begun_same first ns row x y at q

-- at a turn there is a next mark
turn : (c : In-Some) → Next c.args.weighing.now.made.plan.layout.lengths.now c.args.weighing.now.made.plan.layout.firsts.now c.args.lead.now.row.now c.args.w (c.args.w * 64 + c.loop-place.invariant.upto) (c.args.w * 64 + c.in-Some.place)
turn c =
    let s = c.args.weighing.now.made.plan in
    next_taken c.args.lead.now.row.now c.args.w c.loop-place.invariant.rests c.in-Some.ensures.steps s.layout.lengths.now s.layout.firsts.now c.requires.bounded s.layout.laid c.requires.w_bound

pub words-from-requires : goal.words-from-requires
words-from-requires c = (omega arith, (turn (goal.at.words-from-requires c).In-Some).inside)

pub lead_between-requires-clause-from_le_to : goal.lead_between-requires-clause-from_le_to
lead_between-requires-clause-from_le_to c =
    let l = c.loop-place in
    let a = c.args in
    let p = c.requires in
    let s = c.args.weighing.now.made.plan in
    let n = turn (goal.at.lead_between-requires-clause-from_le_to c).In-Some in
    let at : ℕ = a.w * 64 + c.in-Some.place in
    let q = c.words-from.ensures.place in
    let begins = a.weighing.now.offsets_laid.same at (omega (arith, n.inside)) in
    let ends = a.weighing.now.offsets_laid.same (at + 1) (omega (arith, n.inside)) in
    let u = turn_lies s.layout.lengths.now at n.inside q.0 q.1 in
    let v = counts_lie s.layout.lengths.now at n.inside begins ends in
    let m = counts_room s.layout.lengths.now at n.inside begins ends q.0 q.1 in
    (u.0, omega (arith, u.1, enough s.letters.now s.layout.lengths.now s.sound_set), v.0, omega (arith, v.1, p.lengths_in_bounds, l.auto.counts), m)

pub lead_between-requires-clause-by_index : goal.lead_between-requires-clause-by_index
lead_between-requires-clause-by_index c =
    let l = c.loop-place in
    let a = c.args in
    let s = c.args.weighing.now.made.plan in
    let n = turn (goal.at.lead_between-requires-clause-by_index c).In-Some in
    let at : ℕ = a.w * 64 + c.in-Some.place in
    let q = c.words-from.ensures.place in
    let begins = a.weighing.now.offsets_laid.same at (omega (arith, n.inside)) in
    let ends = a.weighing.now.offsets_laid.same (at + 1) (omega (arith, n.inside)) in
    let k = own a.lead.now.first s.layout.lengths.now a.lead.now.row.now a.counts.now l.counts at n.inside begins ends q.0 q.1 (l.invariant.so_far.later at n.later n.inside) in
    λ i. rw k (c.requires.by_index at (omega arith) n.inside n.marked i)

pub lead_between-requires-clause-by_index_2 : goal.lead_between-requires-clause-by_index_2
lead_between-requires-clause-by_index_2 c =
    let l = c.loop-place in
    let a = c.args in
    let s = c.args.weighing.now.made.plan in
    let n = turn (goal.at.lead_between-requires-clause-by_index_2 c).In-Some in
    let at : ℕ = a.w * 64 + c.in-Some.place in
    let q = c.words-from.ensures.place in
    let begins = a.weighing.now.offsets_laid.same at (omega (arith, n.inside)) in
    let ends = a.weighing.now.offsets_laid.same (at + 1) (omega (arith, n.inside)) in
    let k = own a.lead.now.first s.layout.lengths.now a.lead.now.row.now a.counts.now l.counts at n.inside begins ends q.0 q.1 (l.invariant.so_far.later at n.later n.inside) in
    λ i z. rw k (c.requires.by_index_2 at (omega arith) n.inside n.marked i (sym (ap (λ (ks : List ℕ). get_or ks i 0) (bits_are_at s.layout.lengths.now at n.inside q.0 q.1 a.lead.now.opened.now)) ∙ z))

pub loop-place-preserved : goal.loop-place-preserved
loop-place-preserved c =
    let l = c.loop-place in
    let a = c.args in
    let s = c.args.weighing.now.made.plan in
    let n = turn (goal.at.loop-place-preserved c).In-Some in
    let at : ℕ = a.w * 64 + c.in-Some.place in
    let q = c.words-from.ensures.place in
    let begins = a.weighing.now.offsets_laid.same at (omega (arith, n.inside)) in
    let ends = a.weighing.now.offsets_laid.same (at + 1) (omega (arith, n.inside)) in
    let k = own a.lead.now.first s.layout.lengths.now a.lead.now.row.now a.counts.now l.counts at n.inside begins ends q.0 q.1 (l.invariant.so_far.later at n.later n.inside) in
    let g = l.invariant in
    let e = c.lead_between.ensures in
    let forth : at + 1 ≡ a.w * 64 + (c.in-Some.place + 1) = omega arith in
    walk_take _ _ g c.in-Some.ensures.steps (rw forth at (led_turn _ _ _ _ _ _ _ _ g.so_far _ n.skips _ (omega arith) n.later n.inside begins ends e.counts_unchanged.0 e.counts_unchanged.1 q.0 q.1 (e.counts_after ∙ ap (added _ _) k)))

pub returns-clause-by_index_3 : goal.returns-clause-by_index_3
returns-clause-by_index_3 c =
    let a = c.args in
    let g = c.loop-place.invariant in
    led_end _ _ _ _ _ _ _ _ g.so_far (a.w * 64 + 64) (no_rest a.lead.now.row.now a.w g.rests c.in-None.ensures.steps)

pub bounds-offsets-at : goal.bounds-offsets-at
bounds-offsets-at c =
    omega (arith, (turn (goal.at.bounds-offsets-at c).In-Some).inside, c.args.weighing.now.offsets_laid.long)

pub bounds-offsets-at-in-loop-place : goal.bounds-offsets-at-in-loop-place
bounds-offsets-at-in-loop-place c =
    omega (arith, (turn (goal.at.bounds-offsets-at-in-loop-place c).In-Some).inside, c.args.weighing.now.offsets_laid.long)
