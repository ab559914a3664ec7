-- Parts of the orders in which the calls check, where a call makes them in one go.
use Rattle.std.specs.Prelude.{List, [], ◌∷◌, ℕ}
use Rattle.rules.specs.Refusals.{check5, check6, check7, check8, check9, check12, check23, check24}
use Rattle.rules.specs.Told.{Verdict}
use Rattle.rules.specs.declared.Search.{Search}
use Rattle.rules.specs.declared.Template.{Template}

-- 5 to 8, 24
abbrev pub template_checks : Template → List Verdict
template_checks t = check5 t ∷ check6 t ∷ check7 t ∷ check8 t ∷ check24 t ∷ []

-- 23, 6, 7, 8, 24, 12, 9: the end of what is checked of a search before 13
abbrev pub end_before_13 : List ℕ → List ℕ → Search → List Verdict
end_before_13 letters lengths s =
    check23 s ∷ check6 s.template ∷ check7 s.template ∷ check8 s.template ∷ check24 s.template ∷ check12 letters lengths s
    ∷ check9 lengths s.quorum ∷ []

-- 5, 23, 6, 7, 8, 24, 12, 9: what a leg or a save checks of its search before 13
abbrev pub value_checks_before_13 : List ℕ → List ℕ → Search → List Verdict
value_checks_before_13 letters lengths s = check5 s.template ∷ end_before_13 letters lengths s
