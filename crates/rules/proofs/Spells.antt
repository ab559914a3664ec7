-- A number is that of letters which a template allows, exactly if it lies below the base to the power of their number, and the letters of
-- each component are those that the kind of search asks for: the letters are dealt out one component after the other, as the test goes.
use mathlib.Core.Path.{◌≡◌, refl, sym}
use mathlib.Core.Logic.Iff
use mathlib.Core.Logic.{◌↔◌}
use mathlib.Core.Bool.{true, ◌&&◌}
use mathlib.Core.List.{List, [], ◌∷◌, map}
use Prim.Native.Nat.{ℕ, zero, suc, ◌<◌}
use native.Mathlib.Omega.{arith}
use lib.Dec.{ltb}
use lib.ListN.{length, take, drop, get_or}
use lib.Seq.{take-nil, drop-nil, drop-drop}
use borrow.Author.Tests.{leb-true, ltb-true, le-leb, lt-ltb}
use Rattle.rules.specs.Limits.{letter_symbols}
use Rattle.rules.specs.Lists.{all_pass, sum}
use Rattle.rules.specs.Motif.{spell}
use Rattle.rules.specs.Profile.{allowed, exactly, mixed, within, several, profile_by, base_of}
use Rattle.rules.specs.Refused.{Allows, Spells, PlaceRule}
use Rattle.rules.specs.Saved.{meets_place_rule}
use Rattle.rules.specs.Support.{allowed_in, valid}
use Rattle.rules.specs.Template.{none, components, size}
use Rattle.rules.specs.declared.Component.{Component}
use Rattle.rules.specs.declared.Place.{Place}
use Rattle.rules.specs.declared.Profile.{Profile}
use Rattle.rules.specs.declared.Profile.TheVariants.{Exact, Mixed}
use Rattle.rules.specs.declared.Template.{Template}
use Rattle.rules.proofs.EachKind.{kind_proper}
use Rattle.rules.proofs.Profiles.{allowed_nil}
use Rattle.rules.proofs.Tests.{two}

-- all letters are below n exactly if each of them is
all_below : (n : ℕ) (w : List ℕ) → (all_pass (λ x. ltb x n) w ≡ true) ↔ ((i : ℕ) → i < length w → get_or w i 0 < n)
unfolding all_pass
all_below n [] = (λ e i h. absurd (omega arith), λ f. refl)
all_below n (x ∷ w) =
    Iff.trans (two _ _ (ltb-true x n, lt-ltb x n) (all_below n w))
    (λ h. each h.0 h.1, λ f. (f 0 (omega arith), λ i h. f (suc i) (omega arith)))
  where
    each : x < n → ((i : ℕ) → i < length w → get_or w i 0 < n) → (i : ℕ) → i < length (x ∷ w) → get_or (x ∷ w) i 0 < n
    each h f zero l = h
    each h f (suc i) l = f i (omega arith)

-- a kind of search allows a component letters exactly if they are what it asks for
allows_says : (p : Profile) (c : Component) (w : List ℕ) → ((profile_by p).allows c w ≡ true) ↔ Allows p c w
unfolding profile_by exactly mixed within
allows_says Exact c w = (λ e. tt, λ u. refl)
allows_says Mixed c w = two _ _ (all_below letter_symbols w) (leb-true (several w) c.allowance, le-leb (several w) c.allowance)

-- the first component takes the first letters, also where there are none
allowed_cons : (p : Profile) (c : Component) (cs : List Component) (w : List ℕ)
    → allowed (profile_by p).allows (c ∷ cs) w ≡ (profile_by p).allows c (take c.length w) && allowed (profile_by p).allows cs (drop c.length w)
unfolding allowed
allowed_cons p c cs [] = rw (take-nil {A = ℕ} c.length, drop-nil {A = ℕ} c.length, (kind_proper p).none c) (sym (allowed_nil (profile_by p).allows cs))
allowed_cons p c cs (x ∷ w) = refl

-- letters are allowed exactly if each component's are
abbrev letters_of : List Component → ℕ → List ℕ → List ℕ
letters_of cs i w = take (get_or cs i none).length (drop (sum (map (λ c. c.length) (take i cs))) w)

allowed_says : (p : Profile) (cs : List Component) (w : List ℕ)
    → (allowed (profile_by p).allows cs w ≡ true) ↔ ((i : ℕ) → i < length cs → Allows p (get_or cs i none) (letters_of cs i w))
unfolding allowed sum
allowed_says p [] w = (λ e i h. absurd (omega arith), λ f. refl)
allowed_says p (c ∷ cs) w =
    rw (allowed_cons p c cs w)
    (Iff.trans (two _ _ (allows_says p c (take c.length w)) (allowed_says p cs (drop c.length w)))
    (λ h. each h.0 h.1, λ f. (f 0 (omega arith), λ i h. rw (drop-drop _ c.length w) (f (suc i) (omega arith)))))
  where
    each : Allows p c (take c.length w) → ((i : ℕ) → i < length cs → Allows p (get_or cs i none) (letters_of cs i (drop c.length w)))
        → (i : ℕ) → i < length (c ∷ cs) → Allows p (get_or (c ∷ cs) i none) (letters_of (c ∷ cs) i w)
    each h f zero l = h
    each h f (suc i) l = rw (drop-drop _ c.length w) at (f i (omega arith))

-- so a test of a number says what it spells,
pub valid_says : (t : Template) (j m : ℕ) → (valid t j m ≡ true) ↔ Spells t j m
unfolding allowed_in
valid_says t j m =
    Iff.trans (two _ _ (ltb-true m _, lt-ltb m _) (allowed_says t.profile (components t) (spell (base_of t) j m)))
    (λ h. record { below = h.0; each = h.1 }, λ h. (h.below, h.each))

-- and the place rule is that place is 0 to K, and the number that of so many letters
pub place_rule_says : (t : Template) (p : Place) → (meets_place_rule t p ≡ true) ↔ PlaceRule t p
unfolding meets_place_rule
place_rule_says t p =
    Iff.trans (two _ _ (leb-true p.letters (size t), le-leb p.letters (size t)) (valid_says t p.letters p.number))
    (λ h. record { most = h.0; spells = h.1 }, λ h. (h.most, h.spells))
