use borrow.Author.Rules.{rules}
use mathlib.Core.Path.{◌≡◌, refl, sym, ◌∙◌}
use Prim.Native.Nat.{ℕ, ◌-◌, ◌*◌, ◌/◌, ◌≤◌, ◌<◌}
use native.Mathlib.Omega.{arith}
use lib.ListN.{length, take, get_or}
use lib.Seq.{length-take-le}
use Rattle.rows.specs.Bits.{held}
use Rattle.rows.specs.Flags.{recent, masked}
use Rattle.rows.proofs.Leading.{handed_length, handed_most, handed_recent, handed_dark, turn_front, turn_written, lead_begin, lead_end}
use Rattle.rows.proofs.counts.lead.Goals as goal

pub loop-to-init : goal.loop-to-init
loop-to-init c =
    let a = c.args in
    (search rules, refl, refl, lead_begin a.row.now a.opened.now a.counts.now a.reach.apart.near a.reach.apart.count, c.sum_past-total.ensures)

pub slice_bounds-lead_word-end-in-loop-to : goal.slice_bounds-lead_word-end-in-loop-to
slice_bounds-lead_word-end-in-loop-to c = sym (length-take-le _ _ (search rules))

-- a turn hands over the counts before its place, still as they were
pub lead_word-total-requires : goal.lead_word-total-requires
lead_word-total-requires c =
    let p = c.requires in
    let i = c.loop-to.invariant in
    let row = c.args.row.now in
    let opened = c.args.opened.now in
    let l = c.args.counts.now in
    let d = c.args.reach.apart.near in
    let n = c.args.reach.apart.count in
    let to = c.loop-to.to in
    let x = c.loop-to.counts in
    let many : length (take to x) ≡ to = handed_length row opened l d n to c.args.reach.near_bound.0 i.0 x i.1 i.2 in
    let most : (k : ℕ) → get_or (masked (held row) (take to x)) k 0 ≤ get_or (masked (held row) l) k 0 = handed_most row opened l d n to c.args.reach.near_bound.0 i.0 x i.1 i.2 in
    let sums : (o : ℕ) → o ≤ to → recent (masked (held row) (take to x)) o d n ≡ recent (masked (held row) l) o d n = handed_recent row opened l d n to c.args.reach.near_bound.0 i.0 x i.1 i.2 in
    let w : (to - 1) / 64 * 64 / 64 ≡ (to - 1) / 64 = omega arith in
    let total : 0 < get_or opened ((to - 1) / 64 * 64 / 64) 0 → c.loop-to.total ≡ recent (masked (held row) (take to x)) (length (take to x)) d n =
    λ h. i.4 (rw w at h) ∙ rw many (sym (sums to (omega arith))) in record {
      from_in_bounds = (omega (arith, many), omega arith, omega (arith, many), omega (arith, many));
      total_value = total;
      by_index = λ k. omega (arith, most k, p.by_index k);
      by_index_2 = handed_dark row opened l d n to c.args.reach.near_bound.0 i.0 x i.1 i.2 c.args.reach.count_bound.0 p.by_index_2;
    }

pub loop-to-preserved : goal.loop-to-preserved
loop-to-preserved c =
    let p = c.requires in
    let i = c.loop-to.invariant in
    let r = c.lead_word-total.ensures in
    let row = c.args.row.now in
    let opened = c.args.opened.now in
    let l = c.args.counts.now in
    let d = c.args.reach.apart.near in
    let n = c.args.reach.apart.count in
    let to = c.loop-to.to in
    let x = c.loop-to.counts in
    let sums : (o : ℕ) → o ≤ to → recent (masked (held row) (take to x)) o d n ≡ recent (masked (held row) l) o d n = handed_recent row opened l d n to c.args.reach.near_bound.0 i.0 x i.1 i.2 in
    let from : ℕ = (to - 1) / 64 * 64 in (
      search rules,
      search rules,
      turn_front row opened l d n to c.args.reach.near_bound.0 i.0 x i.1 i.2 i.3 from (omega arith) _ r.counts_unchanged r.counts_after,
      turn_written row opened l d n to c.args.reach.near_bound.0 i.0 x i.1 i.2 i.3 from (omega arith) _ r.counts_unchanged r.counts_after,
      (λ _. r.value ∙ sums from (omega arith)),
    )

pub returns : goal.returns
returns c =
    let a = c.args in
    let k = c.loop-to in
    lead_end a.row.now a.opened.now a.counts.now k.counts a.reach.apart.near a.reach.apart.count k.to a.reach.count_bound.0 (search rules) k.invariant.3
