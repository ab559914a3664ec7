use mathlib.Core.Path.{◌≡◌, refl, sym, ◌∙◌}
use Prim.Native.Nat.{◌+◌, ◌≤◌, ◌<◌}
use native.Mathlib.Omega.{arith}
use lib.Dec.{eqb}
use borrow.Author.Tests.{eqb-true}
use Rattle.rules.specs.declared.Stop.TheVariants.{Ended, Spent, Full}
use Rattle.rules.specs.Profile.{base_of}
use Rattle.rules.specs.Sequences.{sequences}
use Rattle.rules.specs.Support.{frequent}
use Rattle.rules.proofs.Sound.{search_sound}
use Rattle.rules.proofs.Tests.{both}
use Rattle.matching.specs.Weights.{Counted}
use Rattle.legs.specs.AcceptedLeg.{room_of}
use Rattle.legs.proofs.Follow.{follow_ended, follow_spent, follow_full}
use Rattle.legs.proofs.Round.{Running, run_start, run_depth, run_valid, run_below, run_passes, run_listed, row_free, run_done, motif_is, next_is, frequent_is, hit_reaches, good_reaches, run_lengths}
use Rattle.legs.proofs.Rowed.{path_first}
use Rattle.legs.proofs.Turn.{none_counted, hit_whole, below_whole, path_on}
use Rattle.legs.proofs.run.run.Goals as goal
use Rattle.legs.proofs.run.run.Goals.{then-hit, else-hit}

pub loop-place-init : goal.loop-place-init
loop-place-init c =
    let s = c.args.weighing.now.made.plan in
    let o = search_sound s.letters.now s.layout.lengths.now s.search c.requires.s_value in
    let e : c.min-room.result ≡ room_of c.args.motifs.now c.args.supports.now c.args.weights.now = omega (arith, c.min-room.ensures, c.min.ensures) in
    (o, run_start _ _ _ o _ _ _ _ _, c.requires.path, none_counted _ _ _ _, e, refl, refl, refl)

pub returns-then-steps-budget : goal.returns-then-steps-budget
returns-then-steps-budget c =
    let i = c.loop-place.invariant in
    let d = run_done _ _ _ i.0 _ _ _ _ _ i.1 Spent (follow_spent _ _ _ _ _ _ _ _ _ i.1.follow (omega arith) c.if-steps-budget.true) c.stopped.ensures i.4 in
    record { result_value = d.0; motifs_after = d.1.0; supports_after = d.1.1.0; weights_after = d.1.1.1 }

pub examine-found-requires-clause-le_size : goal.examine-found-requires-clause-le_size
examine-found-requires-clause-le_size c =
    let i = c.loop-place.invariant in
    (c.loop-place-test.true, omega (arith, run_depth _ _ _ i.0 _ _ _ _ _ i.1, c.args.weighing.now.made.plan.depth_value))

-- at a candidate within the budget, once it is known whether it is listed
pub returns-then-hit-rows : goal.returns-then-hit-rows
returns-then-hit-rows c =
    let s = c.args.weighing.now.made.plan in
    let l = c.loop-place in
    let i = l.invariant in
    let v = c.examine-found.ensures in
    let some : 1 ≤ l.place.letters = c.loop-place-test.true in
    let less : l.steps < c.args.budget = omega (arith, i.1.follow.steps, c.if-steps-budget.false) in
    let good = frequent_is s.letters.now s.layout.lengths.now s.search l.place some v.lower_bound v.value refl in
    let t = (both _ _).0 c.if-hit-rows.true in
    let listed = motif_is s.letters.now s.layout.lengths.now s.search l.place _ _ _ s.depth_value good refl in
    let d = run_done _ _ _ i.0 _ _ _ _ _ i.1 Full (follow_full _ _ _ _ _ _ _ _ _ i.1.follow some less (listed ∙ t.0) (eqb-true _ _ t.1)) c.stopped-then-hit-rows.ensures i.4 in
    record { result_value = d.0; motifs_after = d.1.0; supports_after = d.1.1.0; weights_after = d.1.1.1 }

pub list-rows-requires-clause-motif_bound : goal.list-rows-requires-clause-motif_bound
list-rows-requires-clause-motif_bound c =
    let s = c.args.weighing.now.made.plan in
    let l = c.loop-place in
    let i = l.invariant in
    let below = run_below _ _ _ i.0 _ _ _ _ _ i.1 in
    (below_whole (base_of s.search.template) l.place.letters l.place.number (hit_whole l.place.letters _ _ refl c.if-hit.true) below, c.prefix-prefix.ensures ∙ c.last_letters-last.ensures.0 l.place.number)

pub invariant_of-candidate : goal.invariant_of-candidate
invariant_of-candidate c =
    let i = c.loop-place.invariant in
    record { some = c.loop-place-test.true; few = run_depth _ _ _ i.0 _ _ _ _ _ i.1; allowed = run_valid _ _ _ i.0 _ _ _ _ _ i.1 }

pub loop-place-preserved : goal.loop-place-preserved
loop-place-preserved c =
    let s = c.args.weighing.now.made.plan in
    let l = c.loop-place in
    let i = l.invariant in
    let v = c.examine-found.ensures in
    -- the slots as the examination leaves them
    let x = c.examine-found.new in
    let some : 1 ≤ l.place.letters = c.loop-place-test.true in
    let less : l.steps < c.args.budget = omega (arith, i.1.follow.steps, c.if-steps-budget.false) in
    let good = frequent_is s.letters.now s.layout.lengths.now s.search l.place some v.lower_bound v.value refl in
    let listed = motif_is s.letters.now s.layout.lengths.now s.search l.place _ _ _ s.depth_value good refl in
    let e = c.next_place-place.ensures (frequent s.search.template s.search.quorum (sequences s.letters.now s.layout.lengths.now)) (sym good) in
    let q = next_is s.letters.now s.layout.lengths.now s.search _ l.place s.depth_value e in
    let n : Running s.letters.now s.layout.lengths.now s.search i.0 c.args.budget c.min-room.result c.args.motifs.now c.args.supports.now c.args.weights.now
    c.if-hit.motifs c.if-hit.supports c.if-hit.weights (l.steps + 1) c.if-hit.rows c.next_place-place.result =
    elim c.if-hit.branch [
      | then-hit h ↦ (let r = h.list-rows.ensures in
          -- what was found of a listed one reaches the quorum
          let reaches = hit_reaches (eqb l.place.letters s.depth) s.search.quorum _ refl refl h.if-hit.true in
          rw (h.motifs-is, h.supports-is, h.weights-is, h.rows-is, r.value)
          (run_listed s.letters.now s.layout.lengths.now s.search i.0 _ _ _ _ _ i.1 some less q (listed ∙ h.if-hit.true) (row_free _ l.rows _ c.if-hit-rows.false h.if-hit.true)
          (omega (arith, i.4)) (omega (arith, i.4)) (omega (arith, i.4)) (v.value reaches) r.motifs_after r.supports_after r.weights_after))
      | else-hit h ↦ rw (h.motifs-is, h.supports-is, h.weights-is, h.rows-is) (run_passes s.letters.now s.layout.lengths.now s.search i.0 _ _ _ _ _ i.1 some less q (listed ∙ h.if-hit.false))
    ] in
    let t = run_lengths s.letters.now s.layout.lengths.now s.search i.0 _ _ _ _ _ n i.4 in
    let counted : Counted s.search.template s.layout.lengths.now s.letters.now c.if-hit.ways.counted c.if-hit.ways.counts =
    elim c.if-hit.branch [
      | then-hit h ↦ rw h.ways-is h.list-rows.ensures.counted_2
      | else-hit h ↦ rw h.ways-is i.3
    ] in (
      i.0,
      n,
      λ h. path_on s.search.template s.layout.lengths.now s.letters.now l.place {slots = x.slots} _ _ s.depth_value (run_valid _ _ _ i.0 _ _ _ _ _ i.1) v.path_3 (λ g h. path_first {t = s.search.template} {ns = s.layout.lengths.now} {l = s.letters.now} {slots = x.slots} {j = l.place.letters + 1} l.place.number (v.path_2 (good_reaches s.search.quorum _ refl (good ∙ g)) h)) e,
      counted,
      i.4,
      t.0,
      t.1,
      t.2,
    )

pub returns : goal.returns
returns c =
    let i = c.loop-place.invariant in
    let d = run_done _ _ _ i.0 _ _ _ _ _ i.1 Ended (follow_ended _ _ _ _ _ _ _ _ _ i.1.follow (omega arith)) c.stopped-2.ensures i.4 in
    record { result_value = d.0; motifs_after = d.1.0; supports_after = d.1.1.0; weights_after = d.1.1.1 }
