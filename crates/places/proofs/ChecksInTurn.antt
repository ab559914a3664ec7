-- The checks of a search in turn: those before 13, and then 13, whose work the earlier ones make sound.
use mathlib.Core.Path.{◌≡◌, sym, ◌∙◌}
use mathlib.Core.Bool.{Bool, true, not}
use mathlib.Core.List.{List}
use Prim.Native.Nat.{ℕ}
use Rattle.checks.specs.CheckOrders.{template_checks, value_checks_before_13}
use Rattle.places.specs.SearchOrder.{before_13}
use Rattle.rules.specs.Lists.{if}
use Rattle.rules.specs.Refusals.{◌else◌, first, check13, is_passing, set_checks, search_checks}
use Rattle.rules.specs.Saved.{meets_place_rule}
use Rattle.rules.specs.Sound.{SoundSet, SoundTemplate}
use Rattle.rules.specs.Told.{Verdict, fine, refused}
use Rattle.rules.specs.declared.Search.{Search}
use Rattle.rules.proofs.EachCheck.{check23_fine}
use Rattle.rules.proofs.Sound.{set_sound, template_sound}
use Rattle.rules.proofs.Verdicts.{else_assoc, else_fine, else_both, none_of, all_fine}

module _ (letters lengths : List ℕ) (s : Search) where
  -- 13 from its test
  pub told_13 : {b : Bool} {v : Verdict} → b ≡ is_passing letters lengths s → v ≡ if (not b) (refused 13 0) fine → v ≡ check13 letters lengths s
  unfolding check13
  told_13 e f = f ∙ rw e

  pub in_turn : first (search_checks letters lengths s) ≡ before_13 letters lengths s else check13 letters lengths s
  unfolding search_checks first before_13
  in_turn = simp (else_assoc, else_fine)

  -- a refusal before 13 is the one given
  pub refused_before : {n p : ℕ} → refused n p ≡ before_13 letters lengths s → refused n p ≡ first (search_checks letters lengths s)
  unfolding ◌else◌
  refused_before e = rw (in_turn, ← e)

  module _ (e : fine ≡ before_13 letters lengths s) where
    -- and where there is none 13 decides
    pub left_to_13 : {v : Verdict} → v ≡ check13 letters lengths s → v ≡ first (search_checks letters lengths s)
    unfolding ◌else◌
    left_to_13 f = f ∙ rw (in_turn, ← e)

    fine_set : first (set_checks letters lengths) ≡ fine
    unfolding before_13
    fine_set = ((else_both _ _).0 (sym e)).0

    fine_value : first (value_checks_before_13 letters lengths s) ≡ fine
    unfolding before_13
    fine_value = ((else_both _ _).0 (sym e)).1

    pub set_is : SoundSet letters lengths
    set_is = set_sound letters lengths fine_set

    pub template_is : SoundTemplate s.template
    template_is =
        let c = none_of (value_checks_before_13 letters lengths s) fine_value in let t = s.template in
        template_sound t (all_fine (template_checks t) (c 0, (c 2, (c 3, (c 4, (c 5, tt))))))

    pub rule_is : meets_place_rule s.template s.place ≡ true
    rule_is = (check23_fine s).0 (none_of (value_checks_before_13 letters lengths s) fine_value 1)
