-- 13: refused exactly if the search does not pass through its place. By the letters of the place: with none it is the ended place or no
-- place of the search, and with one it is a candidate.
use mathlib.Core.Path.{◌≡◌, ◌∙◌}
use Rattle.rules.specs.Refusals.{is_passing}
use Rattle.places.proofs.ChecksInTurn.{told_13}
use Rattle.places.proofs.Through.{passes_none, passes_one}
use Rattle.places.proofs.check_13.Goals as goal
use Rattle.places.proofs.check_13.Goals.{in-0, in-1, in_default}

pub returns : goal.returns
returns c =
    let passing : c.match-size.alone ≡ is_passing c.args.set.now.letters.now c.args.set.now.lengths.now c.args.s =
    elim c.match-size.branch [
      | in-0 w ↦ w.alone-is ∙ passes_none _ _ _ w.in-0.is
      | in-1 w ↦ w.alone-is ∙ passes_one _ _ _ c.requires.place_value w.in-1.is
      | in_default w ↦ w.alone-is ∙ w.candidate_alone-alone.ensures
    ] in told_13 _ _ _ passing c.when.ensures
