-- What is so of a mixed search, in request 5's words: numbers are base 16, K is at most 16, a letter fits each base that it stands for,
-- and no more letters of a component than its allowance stand for several.
use mathlib.Core.Path.{◌≡◌, refl, sym, ap, subst}
use mathlib.Core.Logic.Iff
use mathlib.Core.Logic.{◌↔◌, ◌⊎◌, inl, inr}
use mathlib.Core.Bool.{Bool, true, false, false≢true}
use mathlib.Core.List.Memᴰ
use mathlib.Core.List.{List, [], ◌∷◌, Memᴰ}
use Prim.Native.Nat.{ℕ, ◌^◌, ◌≤◌, ◌<◌}
use lib.Dec.{eqb}
use lib.ListN.{length, get_or}
use borrow.Author.Tests.{eqb-true, eqb-false}
use Rattle.rules.specs.Limits.{letter_digits, template_mixed}
use Rattle.rules.specs.Lists.{if, is_member}
use Rattle.rules.specs.Motif.{spell}
use Rattle.rules.specs.Occurrence.{Occurs, OccursBy}
use Rattle.rules.specs.Profile.{mixed, profile_by, profile_of, base_of, bases, stands_for}
use Rattle.rules.specs.Refused.{letters_in, Allows, Spells}
use Rattle.rules.specs.Relay.{frequent_motifs}
use Rattle.rules.specs.Sound.{SoundTemplate}
use Rattle.rules.specs.Support.{support, parts, parts_in}
use Rattle.rules.specs.Template.{none, components, size}
use Rattle.rules.specs.declared.Profile as declared
use Rattle.rules.specs.declared.Profile.TheVariants.{Mixed}
use Rattle.rules.specs.declared.Template.{Template}
use Rattle.rules.proofs.Searches.{list_spells}
use Rattle.rules.proofs.Sentence.{occurs_by}

-- what the template of a mixed search asks for
pub mixed_search : (t : Template) → t.profile ≡ Mixed → profile_of t ≡ mixed (λ c. c.allowance)
unfolding profile_by
mixed_search t e = ap profile_by e

-- the test of membership
member_says : (x : ℕ) (l : List ℕ) → (is_member x l ≡ true) ↔ Memᴰ x l
unfolding is_member
member_says x [] = (λ e. absurd (false≢true e), λ m. absurd (Memᴰ.not-nil m))
member_says x (y ∷ l) = go (eqb x y) refl (member_says x l)
  where
    at : eqb x y ≡ false → (x ≡ y) ⊎ Memᴰ x l → Memᴰ x l
    at q (inl e) = absurd (eqb-false x y q e)
    at q (inr m) = m

    go : (b : Bool) → eqb x y ≡ b → (is_member x l ≡ true) ↔ Memᴰ x l → (if b true (is_member x l) ≡ true) ↔ Memᴰ x (y ∷ l)
    go true q ih = (λ e. Memᴰ.head (eqb-true x y q), λ m. refl)
    go false q ih = (λ e. Memᴰ.tail (ih.0 e), λ m. ih.1 (at q (Memᴰ.cases_cons m)))

-- y is one of the bases that x stands for
abbrev pub StandsFor : ℕ → ℕ → Type 0
StandsFor x y = Memᴰ y (get_or bases x [])

pub stands_for_says : (x y : ℕ) → (stands_for x y ≡ true) ↔ StandsFor x y
unfolding stands_for
stands_for_says x y = member_says y (get_or bases x [])

module _ (t : Template) (e : t.profile ≡ Mixed) where
  pub mixed_base : base_of t ≡ letter_digits
  unfolding mixed
  mixed_base = ap (λ P. P.base) (mixed_search t e)

  pub mixed_most : (profile_of t).most ≡ template_mixed
  unfolding mixed
  mixed_most = ap (λ P. P.most) (mixed_search t e)

  -- an occurrence: each letter stands for the base there
  pub mixed_occurs : (j m : ℕ) (s ps : List ℕ) → Occurs (parts t j m) s ps ↔ OccursBy StandsFor (components t) (spell letter_digits j m) s ps
  unfolding parts_in mixed
  mixed_occurs j m s ps = rw (mixed_search t e) (occurs_by _ (λ c. refl) StandsFor stands_for_says (components t) (spell letter_digits j m) s ps)

  -- a number is that of letters that each component allows
  pub mixed_spells : (j m : ℕ)
      → Spells t j m ↔ ((m < letter_digits ^ j) × ((i : ℕ) → i < length (components t) → Allows Mixed (get_or (components t) i none) (letters_in t i (spell letter_digits j m))))
  unfolding profile_by mixed
  mixed_spells j m = (
    λ h. (rw mixed_base at h.below, λ i l. subst (at i) e (h.each i l)),
    λ h. record { below = rw mixed_base h.0; each = λ i l. subst (at i) (sym e) (h.1 i l) },
  )
    where
      at : ℕ → declared.Profile → Type 0
      at i p = Allows p (get_or (components t) i none) (letters_in t i (spell (profile_by p).base j m))

  -- so the list holds exactly those whose support reaches the quorum
  pub mixed_motifs : SoundTemplate t → (quorum : ℕ) (ss : List (List ℕ)) (m : ℕ) → Memᴰ m (frequent_motifs t quorum ss)
      ↔ ((m < letter_digits ^ size t) × ((i : ℕ) → i < length (components t) → Allows Mixed (get_or (components t) i none) (letters_in t i (spell letter_digits (size t) m)))
      × (quorum ≤ support (parts t (size t) m) ss))
  mixed_motifs o quorum ss m =
      let k = mixed_spells (size t) m in
      Iff.trans (list_spells t quorum ss o m) (λ h. ((k.0 h.0).0, (k.0 h.0).1, h.1), λ h. (k.1 (h.0, h.1), h.2))
