-- The two callees write the counts from `a` up to `e`, one after the other, and no others.
use mathlib.Core.Bool.{Bool}
use mathlib.Core.List.{List}
use mathlib.Core.Path.{◌≡◌, ap, ◌∙◌}
use Prim.Native.Nat.{ℕ, ◌+◌, ◌-◌, ◌≤◌}
use lib.ListN.{length}
use borrow.Rule.Slice.PartMut.{mid_of, put_mid}
use Rattle.rows.specs.Bits.{held}
use Rattle.rows.specs.Flags.{added, masked}
use Rattle.rows.specs.Set.{between}
use Rattle.matching.specs.Weights.{counted_from}
use Rattle.matching.proofs.Leads.{part_first, part_led}
use Rattle.matching.proofs.weights.lead_between.Goals as goal

-- what the row keeps after the first of them
kept : (first : Bool) (part : List ℕ) (a e : ℕ) (x y : List ℕ) → a ≤ e → e ≤ length x → length y ≡ length (mid_of a (e - a) x)
    → masked (held part) y ≡ masked (held part) (counted_from first (mid_of a (e - a) x))
    → masked (held part) (mid_of a (e - a) (put_mid a (e - a) x y)) ≡ masked (held part) (counted_from first (between a e x))
unfolding between
kept first part a e x y h g n q = ap (masked (held part)) (part_first a e x y h g n) ∙ q

pub lead-requires-clause-by_index : goal.lead-requires-clause-by_index
unfolding between
lead-requires-clause-by_index c =
    let p = c.requires in
    let a = c.args in
    let k = kept a.lead.now.first (between a.from a.to a.lead.now.row.now) a.a.0 a.e.0 a.counts.now c.begin.new.counts p.from_le_to.2 p.from_le_to.3 c.begin.auto.counts c.begin.ensures in
    λ i. rw k (p.by_index i)

pub lead-requires-clause-by_index_2 : goal.lead-requires-clause-by_index_2
unfolding between
lead-requires-clause-by_index_2 c =
    let p = c.requires in
    let a = c.args in
    let k = kept a.lead.now.first (between a.from a.to a.lead.now.row.now) a.a.0 a.e.0 a.counts.now c.begin.new.counts p.from_le_to.2 p.from_le_to.3 c.begin.auto.counts c.begin.ensures in
    λ i z. rw k (p.by_index_2 i z)

pub returns-clause-counts_unchanged : goal.returns-clause-counts_unchanged
unfolding between
returns-clause-counts_unchanged c =
    let p = c.requires in
    let a = c.args in
    let m = c.begin in
    let r = c.lead in
    let q = part_led a.a.0 a.e.0 a.counts.now m.new.counts p.from_le_to.2 p.from_le_to.3 m.auto.counts r.new.counts r.auto.counts in
    q.0

pub returns-clause-counts_after : goal.returns-clause-counts_after
unfolding between
returns-clause-counts_after c =
    let p = c.requires in
    let a = c.args in
    let m = c.begin in
    let r = c.lead in
    let k = kept a.lead.now.first (between a.from a.to a.lead.now.row.now) a.a.0 a.e.0 a.counts.now m.new.counts p.from_le_to.2 p.from_le_to.3 m.auto.counts m.ensures in
    let q = part_led a.a.0 a.e.0 a.counts.now m.new.counts p.from_le_to.2 p.from_le_to.3 m.auto.counts r.new.counts r.auto.counts in
    ap (masked (held (between a.from a.to a.lead.now.opened.now))) q.1 ∙ r.ensures ∙ ap (added a.lead.now.reach.apart.near (a.lead.now.reach.apart.near + a.lead.now.reach.apart.count - 1)) k
