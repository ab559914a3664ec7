-- A template comes back from its profile, its count, its shape and its allowances, and a search from the numbers that a restore tells.
use mathlib.Core.Path.{◌≡◌, refl, ap}
use Rattle.rules.specs.Lists.{each}
use Rattle.rules.specs.Profile.{profile_number, numbered_profile}
use Rattle.rules.specs.declared.Profile.{Profile}
use Rattle.rules.specs.declared.Profile.TheVariants.{Exact, Mixed}
use Rattle.rules.specs.declared.Search.{Search}
use Rattle.rules.specs.declared.Template.{Template}
use Rattle.exports.specs.Exported.{search_of}
use Rattle.exports.specs.Shape.{slot_at, shaped_template, shape_of, allowances_of}

profile_back : (p : Profile) → numbered_profile (profile_number p) ≡ p
profile_back Exact = refl
profile_back Mixed = refl

pub template_back : (t : Template) → shaped_template (profile_number t.profile) t.count (shape_of t) (allowances_of t) ≡ t
unfolding shaped_template slot_at shape_of allowances_of each
template_back t =
    ap (λ p. record { profile = p; count = t.count; c1 = t.c1; c2 = t.c2; c3 = t.c3; c4 = t.c4; c5 = t.c5; c6 = t.c6 })
    (profile_back t.profile)

pub search_back : (s : Search)
    → search_of (profile_number s.template.profile) s.template.count (shape_of s.template) (allowances_of s.template) s.quorum s.set.sequences s.set.letters s.place.letters s.place.number
    ≡ s
search_back s = rw (template_back s.template)
