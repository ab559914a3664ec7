use mathlib.Core.List.{List}
use mathlib.Core.Path.{◌≡◌, ◌∙◌}
use Prim.Native.Nat.{ℕ, ◌+◌, ◌-◌, ◌/◌, ◌%◌, ◌^◌, ◌≤◌, ◌<◌}
use lib.Dec.{eqb}
use native.Mathlib.Omega.{arith}
use lib.Bits.{bit_and}
use lib.ListN.{length, get_or}
use borrow.Author.Rules.{rules}
use Rattle.rules.specs.Lists.{if}
use Rattle.rows.specs.Bits.{held}
use Rattle.rows.specs.Flags.{count_most, ago, recent, around, back, masked}
use Rattle.rows.specs.Words.{behind_word}
use Rattle.rows.proofs.Back.{back_none, back_put, back_keeps, ago_kept}
use Rattle.rows.proofs.Gaps.{back_least, back_bound, recent_back}
use Rattle.rows.proofs.Sliding.{count_read, still_sum, still_written}
use Rattle.rows.proofs.counts.slide.Goals as goal

-- what a turn reads `k` places before its own: the counts there are not written yet
reads : (row counts x : List ℕ) (from d n o k word v r : ℕ) → ((q : ℕ) → get_or row q 0 < 2 ^ 64) → from % 64 ≡ 0 → o ≤ length counts → from < o → o ≤ from + 64
    → x ≡ back (around (masked (held row) counts) d n) o counts → 1 ≤ k → word ≡ behind_word ((k - 1) / 64) ((k - 1) % 64) row (from / 64)
    → v ≡ ago x o k → r ≡ if (eqb (bit_and (word / 2 ^ (o - 1 - from)) 1) 1) v 0 → r ≡ ago (masked (held row) counts) o k
reads row counts x from d n o k word v r fits whole within past few kept near e b w =
    count_read row fits counts from whole k near e o past few (b ∙ ago_kept counts x o k (back_keeps (around (masked (held row) counts) d n) counts o kept within) near) w

pub returns-then-come-gone-eq0 : goal.returns-then-come-gone-eq0
returns-then-come-gone-eq0 c =
    let row = c.args.row.now in
    let f : (q : ℕ) → get_or row q 0 < 2 ^ 64 = λ q. omega (arith, c.type_inv.row q) in
    let p = c.requires in
    let come = c.shifted-come.ensures in
    let gone = c.shifted-gone.ensures in record {
      value = still_sum row f c.args.counts.now c.args.from p.from_in_bounds.1 c.args.reach.apart.near c.args.reach.apart.count c.args.reach.near_bound.0 p.from_in_bounds.0 p.from_in_bounds.2 come gone c.if-come-gone-eq0.true p.total_value;
      counts_after = still_written row f c.args.counts.now c.args.from p.from_in_bounds.1 c.args.reach.apart.near c.args.reach.apart.count c.args.reach.near_bound.0 p.from_in_bounds.0 p.from_in_bounds.2 come gone c.if-come-gone-eq0.true p.total_value (c.fill.ensures.after (λ _ e. e));
    }

pub loop-o-init : goal.loop-o-init
loop-o-init c = (search rules, search rules, back_none _ _, c.requires.total_value, search rules)

pub overflow_add-sum : goal.overflow_add-sum
overflow_add-sum c =
    let a = c.args in
    let l = c.loop-o in
    let i = l.invariant in
    let f : (q : ℕ) → get_or a.row.now q 0 < 2 ^ 64 = λ q. omega (arith, c.type_inv.row q) in
    let u : l.o - 1 + 1 ≡ l.o = omega arith in
    let comes = reads a.row.now a.counts.now l.counts a.from a.reach.apart.near a.reach.apart.count l.o (a.reach.apart.near + a.reach.apart.count) _ _ _ f c.requires.from_in_bounds.1 i.0 (omega arith) (omega arith) i.2 (omega arith) c.shifted-gone.ensures (rw u at c.before-in-loop-o.ensures) c.when.ensures in
    omega (arith, comes, back_bound (masked (held a.row.now) a.counts.now) l.o a.reach.apart.near a.reach.apart.count i.3 count_most c.requires.by_index)

pub overflow_sub-sum : goal.overflow_sub-sum
overflow_sub-sum c =
    let a = c.args in
    let l = c.loop-o in
    let i = l.invariant in
    let f : (q : ℕ) → get_or a.row.now q 0 < 2 ^ 64 = λ q. omega (arith, c.type_inv.row q) in
    let u : l.o - 1 + 1 ≡ l.o = omega arith in
    let comes = reads a.row.now a.counts.now l.counts a.from a.reach.apart.near a.reach.apart.count l.o (a.reach.apart.near + a.reach.apart.count) _ _ _ f c.requires.from_in_bounds.1 i.0 (omega arith) (omega arith) i.2 (omega arith) c.shifted-gone.ensures (rw u at c.before-in-loop-o.ensures) c.when.ensures in
    let goes = reads a.row.now a.counts.now l.counts a.from a.reach.apart.near a.reach.apart.count l.o a.reach.apart.near _ _ _ f c.requires.from_in_bounds.1 i.0 (omega arith) (omega arith) i.2 a.reach.near_bound.0 c.shifted-come.ensures (rw u at c.before-in-loop-o-2.ensures) c.when-in-loop-o.ensures in
    omega (arith, comes, goes, back_least (masked (held a.row.now) a.counts.now) l.o a.reach.apart.near a.reach.apart.count i.3)

pub loop-o-preserved : goal.loop-o-preserved
loop-o-preserved c =
    let a = c.args in
    let l = c.loop-o in
    let i = l.invariant in
    let f : (q : ℕ) → get_or a.row.now q 0 < 2 ^ 64 = λ q. omega (arith, c.type_inv.row q) in
    let u : l.o - 1 + 1 ≡ l.o = omega arith in
    let comes = reads a.row.now a.counts.now l.counts a.from a.reach.apart.near a.reach.apart.count l.o (a.reach.apart.near + a.reach.apart.count) _ _ _ f c.requires.from_in_bounds.1 i.0 (omega arith) (omega arith) i.2 (omega arith) c.shifted-gone.ensures (rw u at c.before-in-loop-o.ensures) c.when.ensures in
    let goes = reads a.row.now a.counts.now l.counts a.from a.reach.apart.near a.reach.apart.count l.o a.reach.apart.near _ _ _ f c.requires.from_in_bounds.1 i.0 (omega arith) (omega arith) i.2 a.reach.near_bound.0 c.shifted-come.ensures (rw u at c.before-in-loop-o-2.ensures) c.when-in-loop-o.ensures in
    let r : l.sum + c.when.result - c.when-in-loop-o.result ≡ recent (masked (held a.row.now) a.counts.now) (l.o - 1) a.reach.apart.near a.reach.apart.count =
    omega (arith, comes, goes, recent_back (masked (held a.row.now) a.counts.now) l.o a.reach.apart.near a.reach.apart.count i.3 (omega arith)) in
    (search rules, search rules, back_put _ _ _ i.2 r (search rules) (search rules), r, search rules)

pub returns : goal.returns
returns c =
    let i = c.loop-o.invariant in
    let e : c.loop-o.o ≡ c.args.from = search rules in
    record {
      value = i.3 ∙ rw e;
      counts_after = i.2 ∙ rw e;
    }
