-- What is so of an exact search, in document 01's words: four letters, each of which stands for itself and may follow any; the
-- list is that of the motifs whose support reaches the quorum, and the steps are four for each frequent prefix.
use mathlib.Core.Path.{◌≡◌, refl, sym, ap, ◌∙◌}
use mathlib.Core.Logic.Iff
use mathlib.Core.Logic.{◌↔◌}
use mathlib.Core.Bool.{true, ◌&&◌}
use mathlib.Core.List.{List, [], ◌∷◌, Memᴰ}
use Prim.Native.Nat.{ℕ, ◌*◌, ◌^◌, ◌≤◌, ◌<◌}
use native.Mathlib.Omega.{arith}
use lib.Dec.{leb, ltb}
use lib.ListN.{drop}
use borrow.Author.Tests.{ltb-true, lt-ltb}
use Rattle.rules.specs.Limits.{letter_bases, template_letters}
use Rattle.rules.specs.Motif.{spell}
use Rattle.rules.specs.Occurrence.{Occurs, OccursExactly}
use Rattle.rules.specs.Profile.{allowed, exactly, profile_by, profile_of, base_of}
use Rattle.rules.specs.Refused.{Spells}
use Rattle.rules.specs.Relay.{frequent_motifs, whole_steps}
use Rattle.rules.specs.Saved.{meets_place_rule}
use Rattle.rules.specs.Sound.{SoundTemplate}
use Rattle.rules.specs.Support.{support, counted, parts, parts_in, allowed_in, valid}
use Rattle.rules.specs.Template.{Part, components, size, cut}
use Rattle.rules.specs.Walk.{walk_in, walk_over, goods}
use Rattle.rules.specs.declared.Component.{Component}
use Rattle.rules.specs.declared.Place.{Place}
use Rattle.rules.specs.declared.Profile.TheVariants.{Exact}
use Rattle.rules.specs.declared.Template.{Template}
use Rattle.rules.proofs.Sentence.{occurs_exactly}
use Rattle.rules.proofs.Plain.{tries_plain}
use Rattle.rules.proofs.Searches.{list_holds}
use Rattle.rules.proofs.Spells.{valid_says}
use Rattle.rules.proofs.Tests.{and_true}

-- what the template of an exact search asks for
pub exact_search : (t : Template) → t.profile ≡ Exact → profile_of t ≡ exactly
unfolding profile_by
exact_search t e = ap profile_by e

allowed_all : (cs : List Component) (w : List ℕ) → allowed (λ c w. true) cs w ≡ true
unfolding allowed
allowed_all [] w = refl
allowed_all (c ∷ cs) [] = refl
allowed_all (c ∷ cs) (x ∷ w) = allowed_all cs (drop c.length (x ∷ w))

module _ (t : Template) (e : profile_of t ≡ exactly) where
  pub exact_base : base_of t ≡ letter_bases
  unfolding exactly
  exact_base = ap (λ P. P.base) e

  pub exact_most : (profile_of t).most ≡ template_letters
  unfolding exactly
  exact_most = ap (λ P. P.most) e

  pub exact_parts : (j m : ℕ) → parts t j m ≡ cut (components t) (spell letter_bases j m)
  unfolding parts_in exactly
  exact_parts j m = rw e

  -- every letter is allowed
  pub exact_allowed : (j m : ℕ) → allowed_in (profile_of t) t j m ≡ true
  unfolding allowed_in exactly
  exact_allowed j m = rw e (allowed_all (components t) (spell letter_bases j m))

  -- so any number below 4 to the power of j is one of j letters, and the place rule is one of numbers
  pub exact_valid : (j m : ℕ) → valid t j m ≡ ltb m (letter_bases ^ j)
  exact_valid j m = rw (exact_allowed j m, exact_base) (and_true _)

  pub exact_place : (p : Place) → meets_place_rule t p ≡ leb p.letters (size t) && ltb p.number (letter_bases ^ p.letters)
  unfolding meets_place_rule
  exact_place p = ap (λ b. leb p.letters (size t) && b) (exact_valid p.letters p.number)

  -- sequences are counted
  pub exact_counted : (cs : List Part) (ss : List (List ℕ)) → counted (profile_of t).basis cs ss ≡ support cs ss
  unfolding exactly
  exact_counted cs ss = ap (λ P. counted P.basis cs ss) e

  -- an occurrence is the paper's
  pub exact_occurs : (j m : ℕ) (s ps : List ℕ) → Occurs (parts t j m) s ps ↔ OccursExactly (components t) (spell letter_bases j m) s ps
  exact_occurs j m s ps = rw (exact_parts j m) (occurs_exactly (components t) (spell letter_bases j m) s ps)

  module _ (quorum : ℕ) (ss : List (List ℕ)) where
    pub exact_may : (j m : ℕ) → (walk_over t quorum ss).may j m ≡ true
    unfolding walk_in
    exact_may j m = exact_allowed j m

    -- the list: the motifs whose support reaches the quorum
    pub exact_motifs : SoundTemplate t → (m : ℕ) → Memᴰ m (frequent_motifs t quorum ss) ↔ ((m < letter_bases ^ size t) × (quorum ≤ support (parts t (size t) m) ss))
    exact_motifs o m =
        let h = list_holds t quorum ss o m in
        let c = exact_counted (parts t (size t) m) ss in (
          λ k. let r = h.0 k in (ltb-true m _ (sym (exact_valid (size t) m) ∙ r.0), omega (arith, r.1)),
          λ k. h.1 (exact_valid (size t) m ∙ lt-ltb m _ k.0, omega (arith, k.1)),
        )

    -- the count: four for each frequent prefix shorter than a motif
    pub exact_steps : whole_steps t quorum ss ≡ letter_bases * goods (walk_over t quorum ss) (size t)
    unfolding whole_steps walk_in
    exact_steps = tries_plain (walk_over t quorum ss) exact_may (size t) ∙ ap (λ b. b * goods (walk_over t quorum ss) (size t)) exact_base

-- a number spells letters of an exact search if it lies below 4 to the power of how many
pub exact_spells : (t : Template) → t.profile ≡ Exact → (j m : ℕ) → Spells t j m ↔ (m < letter_bases ^ j)
exact_spells t e j m = Iff.trans (Iff.symm (valid_says t j m)) (rw (exact_valid t (exact_search t e) j m) (ltb-true m _, lt-ltb m _))
