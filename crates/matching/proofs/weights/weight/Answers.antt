-- Either `ways` was counted for the same prefix, or it is counted anew; then the counts that the motif's row keeps add up to its weight.
use borrow.Author.Rules.{rules}
use mathlib.Core.List.{List}
use mathlib.Core.Path.{◌≡◌, sym, ap, ◌∙◌}
use Prim.Native.Nat.{ℕ}
use native.Mathlib.Omega.{arith}
use lib.ListN.{length}
use Rattle.rules.specs.declared.Template.{Template}
use Rattle.matching.specs.Weights.{prefix_of, Leads}
use Rattle.rows.proofs.ByFlags.{row_bounded}
use Rattle.matching.proofs.Steps.{prefix_long}
use Rattle.matching.proofs.Weighed.{bits_past, weighed, weighed_small}
use Rattle.matching.proofs.weights.weight.Goals as goal
use Rattle.matching.proofs.weights.weight.Goals.{then-stale, else-stale}

-- the same counts, the same prefix
as_ways : {t : Template} {ns l xs ys : List ℕ} {p : ℕ} → xs ≡ ys → Leads t ns l p ys → Leads t ns l p xs
as_ways e h = rw e h

as_number : {t : Template} {ns l xs : List ℕ} {p q : ℕ} → p ≡ q → Leads t ns l q xs → Leads t ns l p xs
as_number e h = rw e h

pub add_all-requires-clause-bounded : goal.add_all-requires-clause-bounded
add_all-requires-clause-bounded c =
    let a = c.args in
    let s = a.weighing.now.made.plan in
    let p = c.requires in
    let o = s.sound_set in
    row_bounded _ _ o.adds o.few _ (prefix_long s.search.template _ _) _ p.row

pub add_all-requires-clause-lengths_in_bounds : goal.add_all-requires-clause-lengths_in_bounds
add_all-requires-clause-lengths_in_bounds c =
    let a = c.args in
    let s = a.weighing.now.made.plan in
    let p = c.requires in
    let j = c.if-stale in
    let ways_long : length j.ways ≡ length a.ways.now =
    elim j.branch [
      | then-stale w ↦ ap length w.ways-is ∙ w.count_ways.ensures.ways_len_unchanged
      | else-stale w ↦ ap length w.ways-is
    ] in
    let o = s.sound_set in
    omega (arith, o.adds, p.letters_in_bounds, ways_long)

pub add_all-requires-clause-by_index : goal.add_all-requires-clause-by_index
add_all-requires-clause-by_index c =
    let a = c.args in
    let s = a.weighing.now.made.plan in
    let p = c.requires in
    let o = s.sound_set in
    bits_past s.search.template s.sound_template _ _ o _ _ s.depth_value _ p.row

pub add_all-requires-clause-counts_bound : goal.add_all-requires-clause-counts_bound
add_all-requires-clause-counts_bound c =
    let a = c.args in
    let s = a.weighing.now.made.plan in
    let p = c.requires in
    let j = c.if-stale in
    let leads : Leads s.search.template s.layout.lengths.now s.letters.now (prefix_of s.search.template a.motif) j.ways =
    elim j.branch [
      | then-stale w ↦ as_ways w.ways-is w.count_ways.ensures.leads
      | else-stale w ↦ as_ways w.ways-is (as_number (sym p.motif_bound.1) (p.counted.leads a.prefix (search rules)))
    ] in
    let o = s.sound_set in
    weighed_small s.search.template s.sound_template _ _ o a.motif _ s.depth_value _ p.row _ leads

pub returns-clause-value : goal.returns-clause-value
returns-clause-value c =
    let a = c.args in
    let s = a.weighing.now.made.plan in
    let p = c.requires in
    let j = c.if-stale in
    let leads : Leads s.search.template s.layout.lengths.now s.letters.now (prefix_of s.search.template a.motif) j.ways =
    elim j.branch [
      | then-stale w ↦ as_ways w.ways-is w.count_ways.ensures.leads
      | else-stale w ↦ as_ways w.ways-is (as_number (sym p.motif_bound.1) (p.counted.leads a.prefix (search rules)))
    ] in
    weighed s.search.template s.sound_template _ _ s.sound_set a.motif _ s.depth_value _ p.row _ leads c.add_all.ensures

pub returns-clause-leads : goal.returns-clause-leads
returns-clause-leads c =
    let p = c.requires in
    elim c.if-stale.branch [
      | then-stale w ↦ as_ways w.ways-is (as_number p.motif_bound.1 w.count_ways.ensures.leads)
      | else-stale w ↦ as_ways w.ways-is (p.counted.leads c.args.prefix (search rules))
    ]
