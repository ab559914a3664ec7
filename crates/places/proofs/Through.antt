-- When a search passes through a place that keeps its rule: with no letter it must have ended there, and with letters the prefix that is
-- one shorter must be frequent, in every kind of search.
use mathlib.Core.Path.{◌≡◌, refl, sym, ap, ◌∙◌}
use mathlib.Core.Bool.{Bool, true, false, ◌||◌}
use mathlib.Core.List.{List}
use Prim.Native.Nat.{ℕ, zero, suc, ◌-◌, ◌/◌, ◌^◌, ◌≤◌}
use native.Mathlib.Decide.{dec_lt}
use native.Mathlib.Omega.{arith}
use lib.Dec.{eqb, leb, ltb}
use borrow.Author.Tests.{ne_eqb}
use Rattle.rules.specs.Profile.{profile_of, base_of}
use Rattle.rules.specs.Refusals.{is_passing}
use Rattle.rules.specs.Saved.{meets_place_rule}
use Rattle.rules.specs.Sequences.{sequences}
use Rattle.rules.specs.Support.{support, allowed_in, parts, valid, reaches, frequent}
use Rattle.rules.specs.Walk.{walk_in, walk_over, spelled, candidate}
use Rattle.rules.specs.declared.Search.{Search}
use Rattle.rules.specs.declared.Template.{Template}
use Rattle.rules.proofs.EachKind.{kind_proper, frequent_support}
use Rattle.rules.proofs.Profiles.{spelled_in}
use Rattle.rules.proofs.Spells.{valid_says, place_rule_says}
use Rattle.rules.proofs.Tests.{both}

or_false : (b : Bool) → b || false ≡ b
or_false true = refl
or_false false = refl

-- letters that are allowed are a candidate's if those before the last are frequent
candidate_valid : (t : Template) (quorum : ℕ) (ss : List (List ℕ)) (j m : ℕ) → valid t (suc j) m ≡ true
    → frequent t quorum ss j (m / base_of t) ≡ candidate (walk_over t quorum ss) (suc j) m
unfolding walk_in spelled candidate
candidate_valid t quorum ss j m e =
    let P = profile_of t in
    let W = walk_over t quorum ss in
    let a = ((both (ltb m (P.base ^ suc j)) (allowed_in P t (suc j) m)).0 e).1 in
    let s = (both (W.may (suc j) m) (spelled W j (m / P.base))).0 (spelled_in P (kind_proper t.profile) t quorum ss j m ∙ a) in
    rw (s.0, s.1)

module _ (letters lengths : List ℕ) (s : Search) where
  pub passes_none : s.place.letters ≡ 0 → eqb s.place.number 0 ≡ is_passing letters lengths s
  unfolding is_passing candidate
  passes_none e = rw e (sym (or_false (eqb s.place.number 0)))

  module _ (rule : meets_place_rule s.template s.place ≡ true) (h : 1 ≤ s.place.letters) where
    passes_some : frequent s.template s.quorum (sequences letters lengths) (s.place.letters - 1) (s.place.number / base_of s.template) ≡ is_passing letters lengths s
    unfolding is_passing
    passes_some = rw (ne_eqb s.place.letters 0 (omega arith)) (go s.place.letters h ((valid_says _ _ _).1 ((place_rule_says _ _).0 rule).spells))
      where
        t : Template
        t = s.template

        ss : List (List ℕ)
        ss = sequences letters lengths

        go : (j : ℕ) → 1 ≤ j → valid t j s.place.number ≡ true
            → frequent t s.quorum ss (j - 1) (s.place.number / base_of t) ≡ candidate (walk_over t s.quorum ss) j s.place.number
        go zero h e = absurd (omega arith)
        go (suc j) h e = let z : suc j - 1 ≡ j = omega arith in rw z (candidate_valid t s.quorum ss j s.place.number e)

    -- the test of a place with letters: the prefix of no letters is frequent, and another if its support reaches the quorum
    pub passes_by : {r : Bool} → (s.place.letters ≡ 1 → r ≡ true)
        → (2 ≤ s.place.letters → r ≡ leb s.quorum (support (parts s.template (s.place.letters - 1) (s.place.number / base_of s.template)) (sequences letters lengths)))
        → r ≡ is_passing letters lengths s
    unfolding reaches
    passes_by {r} one more =
        elim (dec_lt 1 s.place.letters) [
          | no n ↦ (let z : s.place.letters - 1 ≡ 0 = omega arith in
              one (omega arith)
              ∙ sym (ap (λ (j : ℕ). frequent s.template s.quorum (sequences letters lengths) j (s.place.number / base_of s.template)) z)
              ∙ passes_some)
          | yes n ↦ (more n
              ∙ sym (frequent_support s.template s.quorum (sequences letters lengths) (s.place.letters - 1) (s.place.number / base_of s.template) (omega arith))
              ∙ passes_some)
        ]

  -- so a place of one letter is always a candidate
  pub passes_one : meets_place_rule s.template s.place ≡ true → s.place.letters ≡ 1 → true ≡ is_passing letters lengths s
  passes_one rule e = passes_by rule (omega (arith, e)) (λ _. refl) (λ h. absurd (omega (arith, e, h)))
