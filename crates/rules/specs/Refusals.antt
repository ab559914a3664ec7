-- What each call refuses: its checks in the paper's order, of which the first that applies is given.
use Rattle.std.specs.Prelude.{Bool, ◌&&◌, ◌||◌, not, List, [], ◌∷◌, ◌++◌, ℕ, suc, ltb, eqb, length}
use Rattle.rules.specs.Join.{is_rising}
use Rattle.rules.specs.Letters.{is_letter}
use Rattle.rules.specs.Limits.{template_components, template_length, template_gap, sequence_set_sequences, sequence_set_letters}
use Rattle.rules.specs.Lists.{if, keep, has_some, sum}
use Rattle.rules.specs.Profile.{profile_of}
use Rattle.rules.specs.Recovery.{whole_list}
use Rattle.rules.specs.Saved.{bytes, is_sized, component_count, read_profile, saved_records, has_kind, is_unnamed_blank, adds_up, meets_place_rule, read_search}
use Rattle.rules.specs.Sequences.{sequences}
use Rattle.rules.specs.Support.{valid}
use Rattle.rules.specs.Template.{allowance_in, components, size}
use Rattle.rules.specs.Told.{Verdict, fine, refused}
use Rattle.rules.specs.Walk.{walk_of, candidate}
use Rattle.rules.specs.declared.Component.{Component}
use Rattle.rules.specs.declared.Profile as declared
use Rattle.rules.specs.declared.Search.{Search}
use Rattle.rules.specs.declared.Template.{Template}

-- the first of two that refuses, and of a list
infixr 20 ◌else◌
unfoldable pub ◌else◌ : Verdict → Verdict → Verdict
fine else w = w
(refused n p) else w = refused n p

unfoldable pub first : List Verdict → Verdict
first [] = fine
first (v ∷ vs) = v else first vs

-- refusal n, with no place to tell, if a test says so
abbrev pub refuse_if : Bool → ℕ → Verdict
refuse_if b n = if b (refused n 0) fine

-- refusal n at the first of a list that is bad, counted from i
module _ {A : Type 0} (n : ℕ) (bad : ℕ → A → Bool) where
  unfoldable pub first_bad : ℕ → List A → Verdict
  first_bad i [] = fine
  first_bad i (x ∷ xs) = if (bad i x) (refused n i) (first_bad (suc i) xs)

-- a number outside low to high
abbrev pub outside : ℕ → ℕ → ℕ → Bool
outside low high x = ltb x low || ltb high x

-- THE CHECKS, by their numbers. The sequences:
unfoldable pub check1 : List ℕ → Verdict
check1 lengths = refuse_if (outside 1 sequence_set_sequences (length lengths)) 1

unfoldable pub check2 : List ℕ → Verdict
check2 letters = refuse_if (ltb sequence_set_letters (length letters)) 2

unfoldable pub check3 : List ℕ → List ℕ → Verdict
check3 letters lengths = refuse_if (not (eqb (sum lengths) (length letters))) 3

abbrev pub bad_byte : ℕ → ℕ → Bool
bad_byte o b = not (is_letter b)

unfoldable pub check4 : List ℕ → Verdict
check4 letters = first_bad 4 bad_byte 0 letters

-- the template:
unfoldable pub check5 : Template → Verdict
check5 t = refuse_if (outside 1 template_components t.count) 5

abbrev pub bad_length : ℕ → Component → Bool
bad_length i c = outside 1 template_length c.length

unfoldable pub check6 : Template → Verdict
check6 t = first_bad 6 bad_length 1 (components t)

unfoldable pub check7 : Template → Verdict
check7 t = refuse_if (ltb (profile_of t).most (size t)) 7

-- a range must have low ≤ high ≤ 255, and the first component's be 0, 0
abbrev pub bad_range : ℕ → ℕ → Bool
bad_range low high = ltb high low || ltb template_gap high

abbrev pub bad_gap : ℕ → Component → Bool
bad_gap i c = bad_range c.low c.high || (eqb i 1 && not (eqb c.low 0 && eqb c.high 0))

unfoldable pub check8 : Template → Verdict
check8 t = first_bad 8 bad_gap 1 (components t)

-- an allowance above the length
abbrev pub bad_allowance : declared.Profile → Component → Bool
bad_allowance p c = ltb c.length (allowance_in p c)

unfoldable pub check24 : Template → Verdict
check24 t = refuse_if (has_some (keep (bad_allowance t.profile) (components t))) 24

-- the quorum:
unfoldable pub check9 : List ℕ → ℕ → Verdict
check9 lengths quorum = refuse_if (outside 1 (length lengths) quorum) 9

-- saved bytes:
unfoldable pub check10 : List ℕ → Verdict
check10 bs = refuse_if (not (is_sized bs)) 10

-- a record that has not its kind, or not its number
abbrev pub bad_kind : ℕ → ℕ → List ℕ → Bool
bad_kind n i r = not (has_kind n i r)

unfoldable pub check11 : List ℕ → Verdict
check11 bs = first_bad 11 (bad_kind (component_count bs)) 0 (saved_records bs)

-- one with a byte that must be 0 and is not
abbrev pub bad_blank : declared.Profile → ℕ → ℕ → List ℕ → Bool
bad_blank p n i r = not (is_unnamed_blank p n i r)

unfoldable pub check21 : List ℕ → Verdict
check21 bs = first_bad 21 (bad_blank (read_profile bs) (component_count bs)) 0 (saved_records bs)

-- K stands in the size record, record 0
unfoldable pub check22 : List ℕ → Verdict
check22 bs = if (not (adds_up bs)) (refused 22 0) fine

-- a search, in saved bytes or as a value: its place record comes after the size record and those of its components
unfoldable pub check23 : Search → Verdict
check23 s = if (not (meets_place_rule s.template s.place)) (refused 23 (suc s.template.count)) fine

unfoldable pub check12 : List ℕ → List ℕ → Search → Verdict
check12 letters lengths s = refuse_if (not (eqb s.set.sequences (length lengths) && eqb s.set.letters (length letters))) 12

-- a place is a candidate of the search, or the ended place
unfoldable pub is_passing : List ℕ → List ℕ → Search → Bool
is_passing letters lengths s =
    (eqb s.place.letters 0 && eqb s.place.number 0)
    || candidate (walk_of letters lengths s) s.place.letters s.place.number

unfoldable pub check13 : List ℕ → List ℕ → Search → Verdict
check13 letters lengths s = refuse_if (not (is_passing letters lengths s)) 13

-- a recovery:
unfoldable pub check14 : Template → ℕ → Verdict
check14 t m = refuse_if (not (valid t (size t) m)) 14

unfoldable pub check15 : List ℕ → List ℕ → Template → ℕ → ℕ → Verdict
check15 letters lengths t m f = refuse_if (ltb (length (whole_list t (sequences letters lengths) m)) f) 15

-- a join, whose head and range are those of a first component:
unfoldable pub check6_head : ℕ → Verdict
check6_head head = if (outside 1 template_length head) (refused 6 1) fine

unfoldable pub check8_range : ℕ → ℕ → Verdict
check8_range low high = if (bad_range low high) (refused 8 1) fine

unfoldable pub check16 : List ℕ → List ℕ → Verdict
check16 xs ys = refuse_if (not (is_rising 0 xs && is_rising 0 ys)) 16

-- room for a save, or for what a join may keep:
unfoldable pub check17 : ℕ → List ℕ → Verdict
check17 needed out = refuse_if (ltb (length out) needed) 17

-- THE ORDERS. 1 to 4
abbrev pub set_checks : List ℕ → List ℕ → List Verdict
set_checks letters lengths = check1 lengths ∷ check2 letters ∷ check3 letters lengths ∷ check4 letters ∷ []

-- new search: 1 to 8, 24, 9
unfoldable pub new_checks : List ℕ → List ℕ → Template → ℕ → List Verdict
new_checks letters lengths t quorum = set_checks letters lengths ++ (check5 t ∷ check6 t ∷ check7 t ∷ check8 t ∷ check24 t ∷ check9 lengths quorum ∷ [])

-- 23, 6, 7, 8, 24, 12, 9, 13: the end of a restore's order, which is of the search
abbrev pub value_checks : List ℕ → List ℕ → Search → List Verdict
value_checks letters lengths s =
    check23 s ∷ check6 s.template ∷ check7 s.template ∷ check8 s.template ∷ check24 s.template ∷ check12 letters lengths s ∷ check9 lengths s.quorum ∷ check13 letters lengths s ∷ []

-- restore: 1 to 4, 10, 5, 11, 21, 22, 23, 6, 7, 8, 24, 12, 9, 13
unfoldable pub restore_checks : List ℕ → List ℕ → List ℕ → List Verdict
restore_checks letters lengths bs =
    set_checks letters lengths ++ (check10 bs ∷ check5 (read_search bs).template ∷ check11 bs ∷ check21 bs ∷ check22 bs ∷ value_checks letters lengths (read_search bs))

-- leg, and save before its 17: restore's order without 10, and without 11, 21 and 22, which bytes alone can break
unfoldable pub search_checks : List ℕ → List ℕ → Search → List Verdict
search_checks letters lengths s = set_checks letters lengths ++ (check5 s.template ∷ value_checks letters lengths s)

unfoldable pub save_checks : List ℕ → List ℕ → Search → List ℕ → List Verdict
save_checks letters lengths s out = search_checks letters lengths s ++ (check17 (length (bytes s)) out ∷ [])

-- recovery: 1 to 8, 24, 14, 15
unfoldable pub recover_checks : List ℕ → List ℕ → Template → ℕ → ℕ → List Verdict
recover_checks letters lengths t m f =
    set_checks letters lengths ++ (check5 t ∷ check6 t ∷ check7 t ∷ check8 t ∷ check24 t ∷ check14 t m ∷ check15 letters lengths t m f ∷ [])

-- join: 6, 8, 16, 17
unfoldable pub join_checks : List ℕ → List ℕ → ℕ → ℕ → ℕ → List ℕ → List Verdict
join_checks xs ys head low high out = check6_head head ∷ check8_range low high ∷ check16 xs ys ∷ check17 (length xs) out ∷ []
