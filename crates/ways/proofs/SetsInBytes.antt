-- Base sets and bytes in the place of letters and values: a letter fits a base, as its kind of search reads it, exactly if its base set has
-- that base; so parts have as many ways in the bytes of a sequence as in its values.
use mathlib.Core.Path.{◌≡◌, refl, sym, ◌∙◌}
use mathlib.Core.Bool.{Bool, true, false}
use mathlib.Core.List.{List, [], ◌∷◌, map}
use Prim.Native.Nat.{ℕ, zero, suc, ◌+◌, ◌<◌}
use lib.Dec.{eqb}
use lib.ListN.{length, take, drop, get_or, length-map}
use lib.Seq.{get_or-drop}
use borrow.Author.Tests.{eqb-true, eqb-false, eq-eqb, ne_eqb}
use Rattle.rules.specs.Letters.{value}
use Rattle.rules.specs.Lists.{run}
use Rattle.rules.specs.Occurrence.{front_by, stands_by, found, reach, ways}
use Rattle.rules.specs.Profile.{base_sets, exactly, mixed, profile_by}
use Rattle.rules.specs.Template.{Part, deal}
use Rattle.rules.specs.declared.Component.{Component}
use Rattle.rules.specs.declared.Profile.{Profile}
use Rattle.rules.specs.declared.Profile.TheVariants.{Exact, Mixed}
use Rattle.rules.proofs.BaseSets.{value_most, stands_for_has, base_alone}
use Rattle.rules.proofs.EachKind.{kind_proper, kind_tight}
use Rattle.rules.proofs.Tables.{map_same, map_take, map_drop}
use Rattle.ways.specs.Counts.{fits_byte, by_bases, counts}

-- ---- one letter

eqb_comm : (x y : ℕ) → eqb x y ≡ eqb y x
eqb_comm x y = go (eqb y x) refl
  where
    go : (t : Bool) → eqb y x ≡ t → eqb x y ≡ t
    go true e = eq-eqb x y (sym (eqb-true y x e))
    go false e = ne_eqb x y (λ w. eqb-false y x e (sym w))

-- the bases that a letter stands for
abbrev pub base_set : ℕ → ℕ
base_set x = get_or base_sets x 0

-- it fits these, in either kind of search
pub fits_set : (p : Profile) (x b : ℕ) → x < (profile_by p).base → (profile_by p).reading.fits x (value b) ≡ fits_byte (base_set x) b
unfolding profile_by exactly mixed
fits_set Exact x b h = eqb_comm x (value b) ∙ sym (base_alone x (value b) h) ∙ stands_for_has x (value b) (value_most b)
fits_set Mixed x b h = stands_for_has x (value b) (value_most b)

-- ---- parts

-- a part with the base sets of its letters
abbrev with_sets : Part → Part
with_sets c = record { near = c.near; far = c.far; word = map base_set c.word; fits = fits_byte; slack = 0 }

-- parts that stand in the values of a sequence where those with the base sets stand in its bytes
unfoldable Same : List Part → Type 0
Same [] = Unit
Same (c ∷ cs) = ((s : List ℕ) (o : ℕ) → found (with_sets c) s o ≡ found c (map value s) o) × Same cs

ways_sets : (cs : List Part) (s : List ℕ) → Same cs → (o : ℕ) → ways (map with_sets cs) s o ≡ ways cs (map value s) o
unfolding ways Same
ways_sets [] s h o = refl
ways_sets (c ∷ []) s h o = rw (h.0 s o)
ways_sets (c ∷ d ∷ ds) s h o = rw (h.0 s o, map_same _ _ (ways_sets (d ∷ ds) s h.1) (reach d.near d.far o))

-- ---- letters of a kind of search, each below its base

module _ (p : Profile) where
  abbrev Digits : List ℕ → Type 0
  Digits w = (i : ℕ) → get_or w i 0 < (profile_by p).base

  digits_take : (n : ℕ) (w : List ℕ) → Digits w → Digits (take n w)
  digits_take zero w h i = (kind_proper p).pos
  digits_take (suc n) [] h i = (kind_proper p).pos
  digits_take (suc n) (x ∷ w) h zero = h 0
  digits_take (suc n) (x ∷ w) h (suc i) = digits_take n w (λ i. h (suc i)) i

  digits_drop : (n : ℕ) (w : List ℕ) → Digits w → Digits (drop n w)
  digits_drop n w h i = rw (get_or-drop n w i 0) (h (n + i))

  front_sets : (w s : List ℕ) → Digits w → front_by fits_byte 0 (map base_set w) s ≡ front_by (profile_by p).reading.fits 0 w (map value s)
  unfolding front_by
  front_sets [] s h = refl
  front_sets (x ∷ w) [] h = refl
  front_sets (x ∷ w) (y ∷ s) h = rw (fits_set p x y (h 0), front_sets w s (λ i. h (suc i)))

  -- none may fail to fit
  stands_sets : (c : Component) (w s : List ℕ) → Digits w → (o : ℕ)
      → stands_by fits_byte 0 (map base_set w) s o ≡ stands_by (profile_by p).reading.fits ((profile_by p).reading.slack c) w (map value s) o
  unfolding stands_by
  stands_sets c w s h zero = refl
  stands_sets c w s h (suc o) = rw (kind_tight p c, map_drop value o s) (front_sets w (drop o s) h)

  deal_same : (n : ℕ) (cs : List Component) (w : List ℕ) → Digits w → Same (deal (profile_by p).reading n cs w)
  unfolding deal Same
  deal_same n [] w h = tt
  deal_same n (c ∷ cs) [] h = tt
  deal_same n (c ∷ cs) (x ∷ w) h = (
    λ s. stands_sets c (take c.length (x ∷ w)) s (digits_take c.length (x ∷ w) h),
    deal_same c.length cs (drop c.length (x ∷ w)) (digits_drop c.length (x ∷ w) h),
  )

  deal_sets : (n : ℕ) (cs : List Component) (w : List ℕ) → deal by_bases n cs (map base_set w) ≡ map with_sets (deal (profile_by p).reading n cs w)
  unfolding deal
  deal_sets n [] w = refl
  deal_sets n (c ∷ cs) [] = refl
  deal_sets n (c ∷ cs) (x ∷ w) = rw (map_take base_set c.length (x ∷ w), map_drop base_set c.length (x ∷ w), deal_sets c.length cs (drop c.length (x ∷ w)))

  -- the counts of their base sets in the bytes of a sequence are theirs in its values
  pub counts_sets : (n : ℕ) (cs : List Component) (w s : List ℕ) → Digits w
      → counts (deal by_bases n cs (map base_set w)) s ≡ counts (deal (profile_by p).reading n cs w) (map value s)
  unfolding counts
  counts_sets n cs w s h =
      rw (deal_sets n cs w, length-map s value) (map_same _ _ (ways_sets (deal (profile_by p).reading n cs w) s (deal_same n cs w h)) (run 1 (length s)))
