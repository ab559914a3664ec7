-- One candidate over the slot below it: that and the row of its last letter give its row, and the marks of that its support.
use mathlib.Core.List.{List, [], ◌∷◌, map}
use mathlib.Core.Path.{◌≡◌, ap, ◌∙◌}
use Prim.Native.Nat.{ℕ, suc, ◌-◌, ◌/◌, ◌≤◌, ◌<◌}
use native.Mathlib.Decide.{dec_lt}
use native.Mathlib.Omega.{arith}
use lib.ListN.{length, get_or}
use Rattle.rules.specs.Lists.{sum}
use Rattle.rules.specs.Profile.{base_of}
use Rattle.rules.specs.Sequences.{sequences}
use Rattle.rules.specs.Sound.{SoundSet, SoundTemplate}
use Rattle.rules.specs.Support.{support, parts}
use Rattle.rules.specs.Template.{size, components}
use Rattle.rules.specs.declared.Component.{Component}
use Rattle.rules.specs.declared.Template.{Template}
use Rattle.rows.specs.Flags.{reached}
use Rattle.matching.specs.Path.{prefix_starts, before_next, spot, Slot, Inside, TestsLast}
use Rattle.matching.specs.declared.made.Spot.{Spot}
use Rattle.rows.specs.NextLetter.{At, letters_before}
use Rattle.rows.specs.Set.{is_marked, tally, extended_at, is_extended_marked, Filled, Marked, Bounded, Row, Source}
use Rattle.matching.proofs.Counted.{left_support}
use Rattle.matching.proofs.Slots.{enough}
use Rattle.matching.proofs.Steps.{small_letter, candidate_row, candidate_tally}

-- each letter stands somewhere
pub record Somewhere (cs : List Component) (d : ℕ) : Type 0 where
  pub component : ℕ
  pub letter : ℕ
  pub at : At cs d component letter

somewhere : (cs : List Component) → (d : ℕ) → d < sum (map (λ c. c.length) cs) → Somewhere cs d
unfolding sum letters_before
somewhere [] d h = absurd (omega arith)
somewhere (c ∷ cs) d h =
    elim (dec_lt d c.length) [
      | yes l ↦ record { component = 0; letter = d; at = record { there = omega arith; inside = l; counted = omega arith } }
      | no n ↦ (let r = somewhere cs (d - c.length) (omega arith) in
          record { component = suc r.component; letter = r.letter; at = record { there = omega (arith, r.at.there); inside = r.at.inside; counted = omega (arith, r.at.counted) } })
    ]

pub letter_at : (t : Template) (d : ℕ) → d < size t → Somewhere (components t) d
unfolding size
letter_at t d h = somewhere (components t) d h

-- its place in its component, and its component, from the table that has both
pub inside_letter : (t : Template) (inside : List Spot) → Inside t inside → (d k i : ℕ) → At (components t) d k i → (get_or inside d (spot 0 0)).letter ≡ i
inside_letter t inside q d k i a = ap (λ s. s.letter) (q.same d k i a)

pub inside_component : (t : Template) (inside : List Spot) → Inside t inside → (d k i : ℕ) → At (components t) d k i → (get_or inside d (spot 0 0)).component ≡ k
inside_component t inside q d k i a = ap (λ s. s.component) (q.same d k i a)

-- and the place is less than 16
pub letter_small : (t : Template) → SoundTemplate t → (inside : List Spot) → Inside t inside → (d : ℕ) → d < size t → (get_or inside d (spot 0 0)).letter < 16
letter_small t sound inside q d h =
    let s = letter_at t d h in
    omega (arith, inside_letter t inside q d s.component s.letter s.at, small_letter t sound d s.component s.letter s.at)

module _ (t : Template) (sound : SoundTemplate t) (l ns : List ℕ) (set : SoundSet l ns) (j m : ℕ) (some : 1 ≤ j) (deep : j ≤ size t)
    (slot : List ℕ) (below : Slot t ns l slot (j - 1) (m / base_of t)) where
  here : Somewhere (components t) (j - 1)
  here = letter_at t (j - 1) (omega arith)

  source : Source (before_next reached t here.component here.letter (j - 1) (m / base_of t)) ns l slot
  source = below.held here.component here.letter here.at

  -- no sequence past the last has a mark in the slot below
  pub below_bounded : Bounded ns slot
  below_bounded = record { none = source.past }

  module _ (long : length slot ≡ 2072) (letter : List ℕ) (by : ℕ) (tests : TestsLast t ns l j m letter by) where
    pub kept_row : (out : List ℕ) → Filled (is_marked slot) (extended_at by ns letter slot) ns out (length ns)
        → Marked (is_extended_marked by ns letter slot) out 1024 → Row (prefix_starts t j m) ns l out
    kept_row out =
        candidate_row t sound j m here.component here.letter some here.at l ns set slot source (omega (arith, long, enough l ns set)) letter by
        (tests here.component here.letter here.at) out

    -- the new marks, written or not, are as many as the support
    pub kept_support : tally (is_extended_marked by ns letter slot) 0 1024 ≡ support (parts t j m) (sequences l ns)
    kept_support =
        candidate_tally t sound j m here.component here.letter some here.at l ns set slot source (omega (arith, long, enough l ns set)) letter by
        (tests here.component here.letter here.at)
        ∙ left_support t sound j m some (sequences l ns)
