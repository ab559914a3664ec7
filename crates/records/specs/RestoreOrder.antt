-- A restore's order before 13, which is checked last and only where nothing was found before.
use Rattle.std.specs.Prelude.{List, [], ◌∷◌, ◌++◌, ℕ}
use Rattle.rules.specs.Refusals.{check5, check6, check7, check8, check9, check10, check11, check12, check21, check22, check23, check24, set_checks}
use Rattle.rules.specs.Saved.{read_search}
use Rattle.rules.specs.Told.{Verdict}

-- 10, 5, 11, 21, 22, 23, 6, 7, 8, 24, 12, 9
abbrev pub saved_checks_before_13 : List ℕ → List ℕ → List ℕ → List Verdict
saved_checks_before_13 letters lengths bs =
    let s = read_search bs in
    check10 bs ∷ check5 s.template ∷ check11 bs ∷ check21 bs ∷ check22 bs ∷ check23 s ∷ check6 s.template ∷ check7 s.template ∷ check8 s.template
    ∷ check24 s.template ∷ check12 letters lengths s ∷ check9 lengths s.quorum ∷ []

-- 1 to 4, and then these
abbrev pub restore_checks_before_13 : List ℕ → List ℕ → List ℕ → List Verdict
restore_checks_before_13 letters lengths bs = set_checks letters lengths ++ saved_checks_before_13 letters lengths bs
