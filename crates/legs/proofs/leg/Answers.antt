-- 13 decides, the checks before it having found nothing: it refuses no search that has ended. Of another a leg is refused where 13 refuses,
-- and else runs, as its rule has it, on from the path that 13 has made.
use mathlib.Core.Path.{refl, sym, ap, ◌∙◌}
use native.Mathlib.Omega.{arith}
use borrow.Author.Tests.{eqb-true}
use Rattle.places.proofs.ChecksInTurn.{told_13, left_to_13, set_is, template_is, rule_is}
use Rattle.places.proofs.Through.{passes_none}
use Rattle.rules.proofs.EachKind.{base_most}
use Rattle.rules.proofs.Tests.{both}
use Rattle.legs.proofs.Ruled.{declined, accepted, at_end}
use Rattle.rules.specs.Told.{told_leg}
use Rattle.legs.proofs.leg.Goals as goal

pub returns-then-ended : goal.returns-then-ended
returns-then-ended c =
    let a = c.args in
    let ended = (both _ _).0 c.if-ended.true in
    let none = eqb-true a.search.place.letters 0 ended.0 in
    let fine = left_to_13 _ _ _ (sym c.requires) (told_13 _ _ _ (passes_none _ _ _ none) (rw (ended.1) refl)) in
    let r = accepted _ _ _ a.budget _ _ _ fine (at_end _ _ a.search a.budget _ _ _ none) in
    record { result_value = ap told_leg c.stopped.ensures ∙ r.0; motifs_after = r.1.0; supports_after = r.1.1.0; weights_after = r.1.1.1 }

pub invariant_of-task : goal.invariant_of-task
invariant_of-task c =
    let a = c.args in
    let e = sym c.requires in
    record { sound_template = template_is _ _ _ e; sound_set = set_is a.set.now.letters.now a.set.now.lengths.now a.search e }

pub make-weighing-requires : goal.make-weighing-requires
make-weighing-requires c =
    let a = c.args in
    let e = sym c.requires in
    let set = set_is a.set.now.letters.now a.set.now.lengths.now a.search e in
    let template = template_is _ _ _ e in
    record { template_in_bounds = (template.deep, omega (arith, set.few), omega (arith, set.few), omega (arith, base_most a.search.template), omega arith) }

pub check_passes-requires : goal.check_passes-requires
check_passes-requires c = record { place_value = rw c.make-weighing.ensures.plan.0 (rule_is _ _ _ (sym c.requires)) }

pub run-requires-clause-s_value : goal.run-requires-clause-s_value
run-requires-clause-s_value c =
    let a = c.args in
    let e = c.make-weighing.ensures.plan in
    rw (e.0, e.1, e.2) (sym (left_to_13 a.set.now.letters.now a.set.now.lengths.now a.search (sym c.requires) (rw (e.0, e.1, e.2) at c.in-Ok.ensures.result_value)))

pub returns-in-Err : goal.returns-in-Err
returns-in-Err c =
    let a = c.args in
    let e = c.make-weighing.ensures.plan in
    let r = declined a.set.now.letters.now a.set.now.lengths.now a.search a.budget _ _ _ (left_to_13 a.set.now.letters.now a.set.now.lengths.now a.search (sym c.requires) (rw (e.0, e.1, e.2) at c.in-Err.ensures.result_value)) in
    record { result_value = ap told_leg c.refused.ensures ∙ r.0; motifs_after = r.1.0; supports_after = r.1.1.0; weights_after = r.1.1.1 }

pub returns-in-Ok : goal.returns-in-Ok
returns-in-Ok c =
    let a = c.args in
    let e = c.make-weighing.ensures.plan in
    let n = c.run.ensures in
    let r = accepted a.set.now.letters.now a.set.now.lengths.now a.search a.budget _ _ _ (left_to_13 a.set.now.letters.now a.set.now.lengths.now a.search (sym c.requires) (rw (e.0, e.1, e.2) at c.in-Ok.ensures.result_value))
    (rw (e.0, e.1, e.2) at n.result_value, (rw (e.0, e.1, e.2) at n.motifs_after, (rw (e.0, e.1, e.2) at n.supports_after, rw (e.0, e.1, e.2) at n.weights_after))) in
    record { result_value = r.0; motifs_after = r.1.0; supports_after = r.1.1.0; weights_after = r.1.1.1 }
