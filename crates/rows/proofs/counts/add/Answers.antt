use mathlib.Core.List.{◌++◌}
use mathlib.Core.Path.{◌≡◌, sym, ap, ◌∙◌}
use native.Mathlib.Nat.{zero-add}
use native.Mathlib.Omega.{arith}
use lib.ListN.{length, length-append}
use Rattle.std.proofs.lemmas.List.{take-append-drop}
use Rattle.rows.proofs.Adding.{Parts, counted_part, counted_rest, sum_parts}
use Rattle.rows.proofs.counts.add.Goals as goal
use Rattle.rows.proofs.counts.add.Goals.{After-split_at}

pub loop-stretch-init : goal.loop-stretch-init
loop-stretch-init c =
    let p = c.requires in
    (record { most = p.row_in_bounds.0; least = p.row_in_bounds.1; dark = p.by_index }, zero-add _)

-- a turn takes a stretch and its counts
parts : (c : After-split_at) → Parts c.loop-stretch.row.now c.in-Some.stretch.now c.in-Some.others.now c.loop-stretch.counts.now c.split_at.result.0.now c.split_at.result.1.now 16
parts c =
    let s = c.in-Some.ensures.cases in
    let k = c.split_at.ensures in
    let words : c.loop-stretch.row.now ≡ c.in-Some.stretch.now ++ c.in-Some.others.now = rw (s.0, s.1) (sym (take-append-drop 16 c.loop-stretch.row.now)) in
    let long = ap length words ∙ length-append c.in-Some.stretch.now c.in-Some.others.now in
    record {
      words = words;
      same = rw (k.front, k.back) (sym (take-append-drop c.min.result c.loop-stretch.counts.now));
      n = omega (arith, long, s.2);
      m = omega (arith, k.front_len, c.min.ensures);
    }

pub invariant_of-add_stretch : goal.invariant_of-add_stretch
invariant_of-add_stretch c =
    let i = c.loop-stretch.invariant in
    let q = parts (goal.at.invariant_of-add_stretch c).After-split_at in
    let w = counted_part q i.0 in
    record {
      most = w.most;
      least = w.least;
      dark = w.dark;
      small = omega (arith, sum_parts q i.0, i.1, c.requires.counts_bound);
    }

pub overflow_add-total : goal.overflow_add-total
overflow_add-total c =
    let i = c.loop-stretch.invariant in
    omega (arith, sum_parts (parts (goal.at.overflow_add-total c).After-split_at) i.0, i.1, c.requires.counts_bound)

pub loop-stretch-smaller : goal.loop-stretch-smaller
loop-stretch-smaller c = omega (arith, c.in-Some.ensures.cases.2)

pub loop-stretch-preserved : goal.loop-stretch-preserved
loop-stretch-preserved c =
    let i = c.loop-stretch.invariant in
    let q = parts (goal.at.loop-stretch-preserved c).After-split_at in
    (counted_rest q i.0, omega (arith, sum_parts q i.0, i.1))
