-- 13: refused exactly if the search does not pass through its place. By the letters of the place, as `Through` has it; the path to a place
-- with letters is made on the way.
use mathlib.Core.Path.{◌≡◌, ◌∙◌}
use native.Mathlib.Omega.{arith}
use Rattle.rules.specs.Refusals.{is_passing}
use Rattle.places.proofs.ChecksInTurn.{told_13}
use Rattle.places.proofs.Through.{passes_none, passes_by}
use Rattle.rules.proofs.Spells.{place_rule_says}
use Rattle.places.proofs.check_passes.Goals as goal
use Rattle.places.proofs.check_passes.Goals.{in-0, in_default}

pub replay-requires : goal.replay-requires
replay-requires c =
    let s = c.args.made.now.plan.search in
    let rule = (place_rule_says s.template s.place).0 c.requires.place_value in
    record { le_letters = (omega (arith, c.in_default), rule.most, rule.spells.below) }

pub returns-clause-result_value : goal.returns-clause-result_value
returns-clause-result_value c =
    let s = c.args.made.now.plan in
    let passing : c.match-search.through ≡ is_passing s.letters.now s.layout.lengths.now s.search =
    elim c.match-search.branch [
      | in-0 w ↦ w.through-is ∙ passes_none _ _ _ w.in-0.is
      | in_default w ↦ (let r = w.replay.ensures in
          let f = w.frequent-through.ensures in
          w.through-is ∙ passes_by s.letters.now s.layout.lengths.now s.search c.requires.place_value (omega (arith, w.in_default)) (λ h. f.none (r.none h)) (λ h. f.some _ (r.value h)))
    ] in
    told_13 _ _ _ passing c.when.ensures
