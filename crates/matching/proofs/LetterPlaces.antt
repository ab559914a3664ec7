-- Which component each letter of a motif belongs to, and its place there: written component by component, each after those before it.
use mathlib.Core.List.{List, [], ◌∷◌, map}
use mathlib.Core.Path.{◌≡◌, refl, sym, ap, ◌∙◌}
use Prim.Native.Nat.{ℕ, zero, suc, ◌+◌, ◌≤◌, ◌<◌}
use native.Mathlib.Decide.{dec_lt}
use native.Mathlib.Omega.{arith}
use lib.ListN.{length, take, get_or}
use lib.Seq.{get_or-take}
use Rattle.rules.proofs.Components.{components_length}
use Rattle.rules.specs.Lists.{sum}
use Rattle.rules.specs.Sound.{SoundTemplate}
use Rattle.rules.specs.Template.{none, slots, size, components}
use Rattle.rules.specs.declared.Component.{Component}
use Rattle.rules.specs.declared.Template.{Template}
use Rattle.matching.specs.Path.{spot, Inside}
use Rattle.matching.specs.declared.made.Spot.{Spot}
use Rattle.rows.specs.NextLetter.{letters_before, At}

-- ONE COMPONENT: its first n letters are written, from `from` on
pub record Coded (k from n : ℕ) (l : List Spot) : Type 0 where
  pub same : (i : ℕ) → i < n → get_or l (from + i) (spot 0 0) ≡ spot k i

-- WHERE A COMPONENT'S LETTERS BEGIN
pub letters_none : (cs : List Component) → 0 ≡ letters_before cs 0
unfolding letters_before
letters_none cs = refl

letters_next : (cs : List Component) (k : ℕ) → k < length cs → letters_before cs (k + 1) ≡ letters_before cs k + (get_or cs k none).length
unfolding letters_before
letters_next [] k h = absurd (omega arith)
letters_next (c ∷ cs) zero h = omega arith
letters_next (c ∷ cs) (suc k) h =
    let e = letters_next cs k (omega arith) in
    let z : suc k + 1 ≡ suc (k + 1) = omega arith in
    rw z (omega arith)

letters_least : (cs : List Component) (k m : ℕ) → k ≤ m → letters_before cs k ≤ letters_before cs m
unfolding letters_before
letters_least cs zero m h = omega arith
letters_least [] (suc k) m h = omega arith
letters_least (c ∷ cs) (suc k) zero h = absurd (omega arith)
letters_least (c ∷ cs) (suc k) (suc m) h = omega (arith, letters_least cs k m (omega arith))

letters_most : (cs : List Component) (k : ℕ) → letters_before cs k ≤ sum (map (λ c. c.length) cs)
unfolding letters_before sum
letters_most cs zero = omega arith
letters_most [] (suc k) = omega arith
letters_most (c ∷ cs) (suc k) = omega (arith, letters_most cs k)

-- ALL COMPONENTS: the letters of the first n are written
pub record Placed (cs : List Component) (n : ℕ) (l : List Spot) : Type 0 where
  pub same : (d k i : ℕ) → k < n → At cs d k i → get_or l d (spot 0 0) ≡ spot k i

pub placed_none : (cs : List Component) (n : ℕ) (l : List Spot) → n ≡ 0 → Placed cs n l
placed_none cs n l z = record { same = λ d k i h a. absurd (omega arith) }

module _ (cs : List Component) (n : ℕ) (h : n < length cs) (x y : List Spot) (before : Placed cs n x) where
  placed_more : {from m : ℕ} → from ≡ letters_before cs n → m ≡ (get_or cs n none).length → take from y ≡ take from x
      → ((i : ℕ) → i < m → get_or y (from + i) (spot 0 0) ≡ spot n i) → Placed cs (n + 1) y
  placed_more {from} {m} e f left here = record { same = one }
    where
      one : (d k i : ℕ) → k < n + 1 → At cs d k i → get_or y d (spot 0 0) ≡ spot k i
      one d k i u a =
          elim (dec_lt k n) [
            | yes v ↦ (let w : d < from = omega (arith, a.inside, a.counted, letters_next cs k a.there, letters_least cs (k + 1) n (omega arith)) in
                sym (get_or-take from y d (spot 0 0) w) ∙ ap (λ (z : List Spot). get_or z d (spot 0 0)) left ∙ get_or-take from x d (spot 0 0) w ∙ before.same d k i v a)
            | no v ↦ last d k i (omega arith) a
          ]
        where
          last : (d k i : ℕ) → k ≡ n → At cs d k i → get_or y d (spot 0 0) ≡ spot k i
          last d k i z a =
              let b : At cs d n i = rw (← z) a in
              let w : d ≡ from + i = omega (arith, b.counted) in
              rw (w, z) (here i (omega (arith, b.inside)))

-- AS THE CODE HAS THEM: the slots of a template, as many of them as it counts
module _ (t : Template) (sound : SoundTemplate t) (read : List Component) (is : read ≡ slots t) {count : ℕ} (counts : count ≡ t.count) where
  read_components : take count read ≡ components t
  unfolding components
  read_components = rw (is, counts)

  read_count : length (take count read) ≡ count
  read_count = ap length read_components ∙ components_length t sound.few ∙ sym counts

  module _ (k : ℕ) (h : k < count) where
    there : k < length (take count read)
    there = omega (arith, read_count)

    long_is : (get_or read k none).length ≡ (get_or (take count read) k none).length
    long_is = ap (λ c. c.length) (sym (get_or-take count read k none h))

    pub read_short : (get_or read k none).length ≤ 12
    read_short = rw is (sound.each k (omega arith)).short

    -- a turn: the next component's letters begin where those of this one end, and that is within a motif's
    module _ {from : ℕ} (begins : from ≡ letters_before (take count read) k) where
      pub read_next : from + (get_or read k none).length ≡ letters_before (take count read) (k + 1)
      read_next = omega (arith, long_is, letters_next (take count read) k there)

      pub read_most : from + (get_or read k none).length ≤ size t
      unfolding size
      read_most =
          let m = letters_most (take count read) (k + 1) in
          let e = ap (λ cs. sum (map (λ c. c.length) cs)) read_components in
          omega (arith, read_next)

      pub read_placed : (x y : List Spot) → Placed (take count read) k x → take from y ≡ take from x
          → ((i : ℕ) → i < (get_or read k none).length → get_or y (from + i) (spot 0 0) ≡ spot k i) → Placed (take count read) (k + 1) y
      read_placed x y q left here = placed_more (take count read) k there x y q begins long_is left here

  pub placed_end : (n : ℕ) (l : List Spot) → n ≡ count → size t ≤ length l → Placed (take count read) n l → Inside t l
  placed_end n l e h q = record {
    long = h;
    same = λ d k i a. (rw read_components at q).same d k i (omega (arith, a.there, components_length t sound.few)) a;
  }
