-- The row that a candidate's last letter is tested by. From the table of a leg: for one of the places that the rows are kept for it is
-- shifted already and used as it is, and for a later one the letter's own row is shifted as it is used. Or it is made from the rows of the
-- four letters of a sequence, and shifted as it is used.
use mathlib.Core.Bool.{true}
use mathlib.Core.List.{List, map}
use mathlib.Core.Path.{◌≡◌, refl, ap, ◌∙◌}
use Prim.Native.Nat.{ℕ, ◌+◌, ◌-◌, ◌*◌, ◌/◌, ◌%◌, ◌≤◌, ◌<◌}
use native.Mathlib.Nat.{mod-lt}
use native.Mathlib.Omega.{arith}
use lib.ListN.{length, get_or}
use Rattle.rules.specs.Letters.{value}
use Rattle.rules.specs.Profile.{exactly, mixed, profile_by, profile_of, base_of}
use Rattle.rules.specs.Sound.{SoundSet, SoundTemplate}
use Rattle.rules.specs.declared.Profile as declared
use Rattle.rules.specs.declared.Profile.TheVariants.{Exact, Mixed}
use Rattle.rules.specs.declared.Template.{Template}
use Rattle.rows.specs.Rows.{ahead}
use Rattle.rows.specs.Set.{bits_at, lettered_at, lettered_on, Filled}
use Rattle.rows.proofs.Shifted.{ahead_none, lettered_first}
use Rattle.matching.specs.declared.made.Spot.{Spot}
use Rattle.matching.specs.Path.{spot, row_slot, kept_places, Inside, BaseRows, FromBases, Letters, Tests, TestsLast}
use Rattle.matching.proofs.Extend.{inside_letter}
use Rattle.matching.proofs.Fits.{stood_row}
use Rattle.matching.proofs.Slots.{some_base}

-- THE SLOT of letter x for place i stands in the table
slot_inside : (t : Template) (standing : List (List ℕ)) (x i : ℕ) → x < base_of t → i < kept_places t standing → i * base_of t + x < length standing
unfolding profile_by exactly mixed
slot_inside t standing x i = go t.profile
  where
    go : (p : declared.Profile) → x < (profile_by p).base → i < length standing / (profile_by p).base → i * (profile_by p).base + x < length standing
    go Exact h u = omega arith
    go Mixed h u = omega arith

-- and the rows are kept for one place at least
kept_some : (t : Template) (standing : List (List ℕ)) → base_of t ≤ length standing → 0 < kept_places t standing
unfolding profile_by exactly mixed
kept_some t standing = go t.profile
  where
    go : (p : declared.Profile) → (profile_by p).base ≤ length standing → 0 < length standing / (profile_by p).base
    go Exact h = omega arith
    go Mixed h = omega arith

-- place i is among them where the table has room for its rows
pub kept_there : (t : Template) (standing : List (List ℕ)) (i : ℕ) {b : ℕ} → b ≡ base_of t → (i + 1) * b ≤ length standing → i < kept_places t standing
unfolding profile_by exactly mixed
kept_there t standing i e h = go t.profile (rw e at h)
  where
    go : (p : declared.Profile) → (i + 1) * (profile_by p).base ≤ length standing → i < length standing / (profile_by p).base
    go Exact u = omega arith
    go Mixed u = omega arith

module _ (t : Template) (ns l : List ℕ) (x : ℕ) where
  -- the letter's own row, shifted as it is used
  own_tests : (i : ℕ) (row : List ℕ) → Filled (λ _. true) (lettered_at (profile_of t).reading.fits x ns (map value l)) ns row (length ns) → Tests t ns l x i row i
  unfolding lettered_on
  own_tests i row q = record { same = λ k h. ap (ahead i) (q.same k h refl) }

  -- made from the rows of the four letters
  made_tests : (bases : List (List ℕ)) (row : List ℕ) → SoundSet l ns → BaseRows ns l bases → x < base_of t → FromBases bases x row → (i : ℕ) → Tests t ns l x i row i
  made_tests bases row set is small q i = own_tests i row (stood_row t ns l x small row (q ns l set is))

  -- THE TABLE of a leg
  module _ (standing : List (List ℕ)) (letters : Letters t ns l standing) (small : x < base_of t) where
    near_tests : (i : ℕ) → i < kept_places t standing → Tests t ns l x i (row_slot (i * base_of t + x) standing) 0
    near_tests i u = record { same = λ k h. ahead_none (bits_at ns k (row_slot (i * base_of t + x) standing)) ∙ (letters.rows x i small u).same k h refl }

    far_tests : (i : ℕ) → Tests t ns l x i (row_slot x standing) i
    far_tests i =
        let z : 0 * base_of t + x ≡ x = omega arith in
        let some = kept_some t standing letters.long in
        own_tests i (row_slot x standing)
        (record { same = λ k h o. (rw z at ((letters.rows x 0 small some).same k h o)) ∙ lettered_first (profile_of t).reading.fits x ns (map value l) k })

-- OF A CANDIDATE of j letters with the number m, whose last letter's place in its component the table `inside` has
module _ (t : Template) (sound : SoundTemplate t) (inside : List Spot) (placed : Inside t inside) (j m : ℕ) where
  abbrev place : ℕ
  place = (get_or inside (j - 1) (spot 0 0)).letter

  abbrev last : ℕ
  last = m % base_of t

  last_small : last < base_of t
  last_small = mod-lt m (some_base t)

  last_tests : (ns l letter : List ℕ) (by : ℕ) → Tests t ns l last place letter by → TestsLast t ns l j m letter by
  last_tests ns l letter by q k i a = rw (inside_letter t inside placed (j - 1) k i a) at q

  pub made_last : (ns l : List ℕ) (bases : List (List ℕ)) (row : List ℕ) → SoundSet l ns → BaseRows ns l bases → FromBases bases last row → TestsLast t ns l j m row place
  made_last ns l bases row set is q = last_tests ns l row place (made_tests t ns l last bases row set is last_small q place)

  module _ (standing : List (List ℕ)) where
    -- shifted already
    module _ (u : place < kept_places t standing) {x b : ℕ} (e : x ≡ last) (f : b ≡ base_of t) where
      pub near_inside : place * b + x < length standing
      near_inside = rw (e, f) (slot_inside t standing last place last_small u)

      pub near_last : (ns l : List ℕ) → Letters t ns l standing → TestsLast t ns l j m (row_slot (place * b + x) standing) 0
      near_last ns l letters = rw (e, f) (last_tests ns l (row_slot (place * base_of t + last) standing) 0 (near_tests t ns l last standing letters last_small place u))

    -- and not
    module _ {x : ℕ} (e : x ≡ last) where
      pub far_last : (ns l : List ℕ) → Letters t ns l standing → TestsLast t ns l j m (row_slot x standing) place
      far_last ns l letters = rw e (last_tests ns l (row_slot last standing) place (far_tests t ns l last standing letters last_small place))
