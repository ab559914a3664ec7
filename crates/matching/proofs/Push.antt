-- A slot more of the path: the row of a prefix, or that row with the gap opened, is what the next letter is added to.
use mathlib.Core.List.{List, [], ◌++◌}
use mathlib.Core.Path.{◌≡◌, refl, sym, ◌∙◌}
use Prim.Native.Nat.{ℕ, zero, suc, ◌+◌, ◌-◌, ◌*◌, ◌/◌, ◌≤◌, ◌<◌}
use native.Mathlib.Omega.{arith}
use lib.ListN.{length, take, get_or, set}
use lib.Seq.{get_or-take}
use Rattle.std.proofs.Common.{take_at}
use Rattle.std.proofs.lemmas.List.{get_or-append_right, get_or-set_same}
use Rattle.rules.proofs.Components.{components_length}
use Rattle.rules.specs.Profile.{base_of}
use Rattle.rules.specs.Sound.{SoundSet, SoundTemplate}
use Rattle.rules.specs.Support.{parts_in}
use Rattle.rules.specs.Template.{size, components, span}
use Rattle.rules.specs.declared.Component.{Component}
use Rattle.rules.specs.declared.Template.{Template}
use Rattle.rows.specs.Flags.{reached}
use Rattle.matching.specs.declared.made.Spot.{Spot}
use Rattle.matching.specs.Path.{spot, row_slot, prefix_starts, before_next, gap_near, gap_far, Slot, Path, Inside}
use Rattle.rows.specs.NextLetter.{letters_before, At, before_letter}
use Rattle.rows.specs.Set.{is_marked, window_at, Filled, Marked, Row}
use Rattle.rows.proofs.ByFlags.{row_source, gap_source, source_same}
use Rattle.matching.proofs.Extend.{Somewhere, letter_at, inside_letter, inside_component}
use Rattle.matching.proofs.Slots.{slot_kept, parent, stayed, pushed, slot_at}
use Rattle.matching.proofs.Steps.{prefix_long}

-- WHICH LETTER COMES NEXT. Past the first letter of all, the first of a component follows another component
first_component : (cs : List Component) (j i : ℕ) → At cs j 0 i → j ≡ i
unfolding letters_before
first_component cs j i a = omega (arith, a.counted)

module _ (t : Template) (sound : SoundTemplate t) (j : ℕ) (some : 1 ≤ j) (deep : j < size t) (inside : List Spot) (placed : Inside t inside) where
  here : Somewhere (components t) j
  here = letter_at t j deep

  letter_is : (get_or inside j (spot 0 0)).letter ≡ here.letter
  letter_is = inside_letter t inside placed j here.component here.letter here.at

  component_is : (get_or inside j (spot 0 0)).component ≡ here.component
  component_is = inside_component t inside placed j here.component here.letter here.at

  pub component_there : (get_or inside j (spot 0 0)).letter ≡ 0 → (1 ≤ (get_or inside j (spot 0 0)).component) × ((get_or inside j (spot 0 0)).component < t.count)
  component_there z =
      let e : here.letter ≡ 0 = sym letter_is ∙ z in
      let one : 1 ≤ here.component = go here.component here.letter here.at e in
      (omega (arith, component_is), omega (arith, component_is, here.at.there, components_length t sound.few))
    where
      go : (k i : ℕ) → At (components t) j k i → i ≡ 0 → 1 ≤ k
      go zero i a e = absurd (omega (arith, first_component (components t) j i a))
      go (suc k) i a e = omega arith

  module _ (l ns : List ℕ) (set : SoundSet l ns) (m : ℕ) (row : List ℕ) (is : Row (prefix_starts t j m) ns l row) where
    inside_is : (k i : ℕ) → 1 ≤ i → (s : List ℕ) → prefix_starts t j m s ≡ before_next reached t k i j m s
    unfolding before_letter parts_in
    inside_is k zero h s = absurd (omega arith)
    inside_is k (suc i) h s = refl

    first_is : (k : ℕ) → 1 ≤ k → (s : List ℕ) → reached (gap_near t k) (gap_far t k) (prefix_starts t j m s) ≡ before_next reached t k 0 j m s
    unfolding before_letter parts_in
    first_is zero h s = absurd (omega arith)
    first_is (suc k) h s = let e : suc k - 1 ≡ k = omega arith in rw e

    -- a further letter of a component is added to the row itself
    pub filled_row : 0 < (get_or inside j (spot 0 0)).letter → Slot t ns l row j m
    filled_row i =
        slot_at t ns l row j m here.component here.letter here.at
        (source_same ns l set.adds set.few (prefix_starts t j m) _ row (row_source ns l set.adds set.few (prefix_starts t j m) (prefix_long t j m) row is) (inside_is here.component here.letter (omega (arith, letter_is))))

    -- the first of a component to the row with the gap opened
    pub filled_gap : (get_or inside j (spot 0 0)).letter ≡ 0 → (slot : List ℕ) → (let k = (get_or inside j (spot 0 0)).component in
        Marked (is_marked row) slot 1024 → Filled (is_marked row) (window_at (gap_near t k) (span (gap_near t k) (gap_far t k)) ns row) ns slot (length ns)
        → Slot t ns l slot j m)
    filled_gap z slot q f =
        let k = (get_or inside j (spot 0 0)).component in
        let a : At (components t) j k 0 = rw (component_is, ← (sym letter_is ∙ z)) here.at in
        slot_at t ns l slot j m k 0 a
        (source_same ns l set.adds set.few _ _ slot
        (gap_source ns l set.adds set.few (prefix_starts t j m) (prefix_long t j m) row is (gap_near t k) (gap_far t k) slot q f)
        (first_is k (component_there z).0))

-- THE SLOT IN ITS TABLE, of which the part before it is cut off: that slot, and the path once the next one is filled
module _ (t : Template) (ns l : List ℕ) (slots : List (List ℕ)) (j m : ℕ) (path : Path t ns l slots j m) (x : List (List ℕ)) (front : x ≡ take j slots) where
  pub before_cut : 1 ≤ j → Slot t ns l (row_slot (j - 1) x) (j - 1) (m / base_of t)
  before_cut some = rw (front, get_or-take j slots (j - 1) [] (omega arith)) (parent t ns l slots j m path some)

  module _ (z : List (List ℕ)) (s : List ℕ) (long : length x ≡ j) (room : 0 < length z) where
    abbrev filled : List (List ℕ)
    filled = x ++ set z 0 s

    pub path_stays : Path t ns l filled j m
    path_stays = stayed t ns l slots filled j m path (λ i h. slot_kept j i slots filled h (take_at x (set z 0 s) j long ∙ front))

    filled_here : row_slot j filled ≡ s
    filled_here =
        let e : j - j ≡ 0 = omega arith in
        get_or-append_right x (set z 0 s) j j [] long (omega arith) ∙ rw e (get_or-set_same z 0 s [] room)

    pub path_goes_on : Slot t ns l s j m → (c : ℕ) → c < base_of t → Path t ns l filled (j + 1) (m * base_of t + c)
    path_goes_on is c h =
        let e : j + 1 ≡ suc j = omega arith in
        rw e (pushed t ns l filled j m c h path_stays (rw filled_here is))
