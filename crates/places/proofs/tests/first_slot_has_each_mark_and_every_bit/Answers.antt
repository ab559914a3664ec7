-- The sequences and the template pass the checks, as these compute.
use mathlib.Core.List.{[], ◌∷◌}
use mathlib.Core.Path.{refl}
use Rattle.rules.specs.Letters.{value, is_letter}
use Rattle.rules.specs.Lists.{keep, has_some, sum}
use Rattle.rules.specs.Profile.{exactly, profile_by}
use Rattle.rules.specs.Refusals.{◌else◌, first, first_bad, check1, check2, check3, check4, check5, check6, check7, check8, check24}
use Rattle.rules.specs.Template.{component, components, size, with_slots}
use Rattle.rules.specs.declared.Component.{Component}
use Rattle.rules.specs.declared.Profile.TheVariants.{Exact}
use Rattle.rules.proofs.Sound.{set_sound, template_sound}
use Rattle.places.proofs.tests.first_slot_has_each_mark_and_every_bit.Goals as goal

abbrev one : Component
one = component 1 0 0

pub invariant_of-task : goal.invariant_of-task
unfolding value is_letter keep has_some sum exactly profile_by ◌else◌ first first_bad check1 check2 check3 check4 check5 check6 check7 check8 check24 components size
invariant_of-task g c = record {
  sound_template = template_sound (with_slots Exact 2 one (component 1 0 1) one one one one) refl;
  sound_set = set_sound (65 ∷ 67 ∷ 71 ∷ 84 ∷ 65 ∷ 67 ∷ 65 ∷ 71 ∷ 71 ∷ 84 ∷ 65 ∷ 84 ∷ []) (5 ∷ 5 ∷ 2 ∷ []) refl;
}
