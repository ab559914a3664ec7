-- One turn of the count of ways before the last component: the letters of one component more, the row of the prefix that ends it, and the
-- gap after it.
use mathlib.Core.Bool.{Bool, true, false}
use mathlib.Core.List.{List, ◌++◌}
use mathlib.Core.Path.{◌≡◌, refl, sym, ap, ◌∙◌}
use Prim.Native.Nat.{ℕ, suc, ◌+◌, ◌-◌, ◌/◌, ◌^◌, ◌≤◌, ◌<◌}
use native.Mathlib.Nat.{add-zero}
use native.Mathlib.Omega.{arith}
use lib.ListN.{length, take, drop, get_or, replicate}
use lib.Seq.{length-take-le}
use Rattle.rules.proofs.Apart.{Apart, sound_apart}
use Rattle.rules.proofs.Components.{components_at, components_length}
use Rattle.rules.specs.Lists.{sum}
use Rattle.rules.specs.Profile.{base_of}
use Rattle.rules.specs.Sound.{SoundSet, SoundComponent, SoundTemplate}
use Rattle.rules.specs.Template.{none, slots, size, components, after}
use Rattle.rules.specs.declared.Component.{Component}
use Rattle.rules.specs.declared.Distances.{Distances}
use Rattle.rules.specs.declared.Template.{Template}
use Rattle.rows.specs.Flags.{count_most, reached, added}
use Rattle.matching.specs.Path.{row_slot, Path, prefix_starts, before_next}
use Rattle.rows.specs.NextLetter.{At, letters_before}
use Rattle.rows.specs.Set.{bits_at, is_marked, Row, Source}
use Rattle.matching.specs.Weights.{HoldsCounts, begun_counts, LeadsTo, Leads}
use Rattle.matching.proofs.Led.{number_less, prefix_path, letters_next, letters_size, led_none, led_small, led_dark, led_more}

-- before the first turn there are no letters
pub begin_letters : (cs : List Component) → 0 ≡ letters_before cs 0
unfolding letters_before
begin_letters cs = refl

-- of the counts x, as many as there are letters are set to 1
module _ (l x : List ℕ) (room : length l ≤ length x) where
  pub begin_part : length l ≡ length (take (length l) x)
  begin_part = sym (length-take-le (length l) x room)

  module _ (y : List ℕ) (ones : y ≡ replicate (length (take (length l) x)) 1) where
    ones_are : y ≡ replicate (length l) 1
    ones_are = ones ∙ ap (λ (n : ℕ). replicate n 1) (sym begin_part)

    -- which for an only component is all
    pub only_led : (t : Template) → SoundTemplate t → (ns : List ℕ) → SoundSet l ns → (p : ℕ) → t.count ≡ 1 → Leads t ns l p (y ++ drop (length l) x)
    only_led t sound ns set p one =
        let z : t.count - 1 ≡ 0 = omega arith in
        rw (z, ones_are) (led_none t sound l ns set p (length l) (drop (length l) x) (omega (arith, set.adds)))

-- A TURN, at component c, after n letters; the components as the slots have them
pub record Turn (t : Template) (depth : ℕ) (cs : List Component) (c n : ℕ) : Type 0 where
  pub sound : SoundTemplate t
  pub whole : depth ≡ size t
  pub is : cs ≡ slots t
  pub one : 1 ≤ c
  pub less : c < t.count
  pub far : n ≡ letters_before (components t) (c - 1)

pub turn : {t : Template} {depth : ℕ} {cs : List Component} {c n : ℕ} → SoundTemplate t → depth ≡ size t → cs ≡ slots t → 1 ≤ c → c < t.count
    → n ≡ letters_before (components t) (c - 1) → Turn t depth cs c n
turn sound whole is one less far = record { sound = sound; whole = whole; is = is; one = one; less = less; far = far }

module _ {t : Template} {depth : ℕ} {cs : List Component} {c n : ℕ} (turn : Turn t depth cs c n) where
  abbrev behind : Component
  behind = get_or cs (c - 1) none

  abbrev here : Component
  here = get_or cs c none

  abbrev next : ℕ
  next = n + behind.length

  at : (k : ℕ) → k < t.count → get_or cs k none ≡ get_or (components t) k none
  at k h = ap (λ (l : List Component). get_or l k none) turn.is ∙ sym (components_at t k h)

  pub behind_sound : SoundComponent behind
  behind_sound = rw turn.is (turn.sound.each (c - 1) (omega arith))

  here_sound : SoundComponent here
  here_sound = rw turn.is (turn.sound.each c turn.less)

  pub turn_apart : {apart : Distances} → apart ≡ after here behind → Apart apart
  turn_apart e = rw e (sound_apart behind_sound here_sound)

  pub next_letters : next ≡ letters_before (components t) c
  next_letters =
      let z : suc (c - 1) ≡ c = omega arith in
      let e : letters_before (components t) c ≡ letters_before (components t) (c - 1) + (get_or (components t) (c - 1) none).length = rw z at (letters_next t turn.sound (c - 1) (omega arith)) in
      omega (arith, e, ap (λ x. x.length) (at (c - 1) (omega arith)))

  pub next_some : 1 ≤ next
  next_some = omega (arith, behind_sound.some)

  pub next_deep : next ≤ depth
  next_deep = omega (arith, next_letters, letters_size t turn.sound c)

  -- the path to the prefix
  pub next_path : (m : ℕ) {p : ℕ} → p ≡ m / base_of t ^ (depth - next) → (ns l : List ℕ) (slots : List (List ℕ)) → Path t ns l slots depth m → Path t ns l slots next p
  next_path m e ns l slots p = rw e (prefix_path t m ns l slots depth next p next_deep)

  -- whose slot is among the others
  pub next_less : next < depth
  next_less =
      let some : 1 ≤ (get_or (components t) c none).length = rw (← (at c turn.less)) here_sound.some in
      omega (arith, next_letters, letters_next t turn.sound c turn.less, letters_size t turn.sound (suc c), turn.whole)

  module _ (l ns : List ℕ) (set : SoundSet l ns) (m : ℕ) (row counts : List ℕ) (first : Bool) (begins : first ≡ true → c ≡ 1)
      (goes : first ≡ false → LeadsTo t ns l (c - 1) (m / base_of t ^ (depth - n)) counts) (room : sum ns ≤ length counts)
      (prefix : ℕ) (is : prefix ≡ m / base_of t ^ (depth - next)) (of : Row (prefix_starts t next prefix) ns l row) where
    begins_here : first ≡ true → c - 1 ≡ 0
    begins_here e = omega (arith, begins e)

    goes_here : first ≡ false → LeadsTo t ns l (c - 1) (prefix / base_of t ^ (get_or (components t) (c - 1) none).length) counts
    goes_here f =
        let e : depth - next + (get_or (components t) (c - 1) none).length ≡ depth - n = omega (arith, next_deep, ap (λ x. x.length) (at (c - 1) (omega arith))) in
        rw (is, number_less t m (depth - next) (get_or (components t) (c - 1) none).length, e) (goes f)

    row_here : Row (prefix_starts t (letters_before (components t) (suc (c - 1))) prefix) ns l row
    row_here =
        let z : suc (c - 1) ≡ c = omega arith in
        rw (z, ← next_letters) of

    -- no count that its row keeps is large
    pub next_small : (k : ℕ) → k < length ns → is_marked row k ≡ true → (i : ℕ) → get_or (begun_counts first ns row counts k) i 0 ≤ count_most
    next_small = led_small t turn.sound l ns set (c - 1) prefix (omega arith) row row_here counts first begins_here goes_here room

    -- by the distances of the next component
    module _ {apart : Distances} (from : apart ≡ after here behind) where
      abbrev d : ℕ
      d = apart.near

      abbrev w : ℕ
      w = apart.count

      same : apart ≡ after (get_or (components t) (suc (c - 1)) none) (get_or (components t) (c - 1) none)
      same =
          let z : suc (c - 1) ≡ c = omega arith in
          from ∙ rw (z, at (c - 1) (omega arith), at c turn.less)

      near : d ≡ (after (get_or (components t) (suc (c - 1)) none) (get_or (components t) (c - 1) none)).near
      near = ap (λ x. x.near) same

      wide : w ≡ (after (get_or (components t) (suc (c - 1)) none) (get_or (components t) (c - 1) none)).count
      wide = ap (λ x. x.count) same

      -- where the prefix's slot has no bit there is none
      pub next_dark : (slots : List (List ℕ)) → Path t ns l slots depth m → (k : ℕ) → k < length ns → is_marked row k ≡ true
          → (i : ℕ) → get_or (bits_at ns k (row_slot next slots)) i 0 ≡ 0 → get_or (added d (d + w - 1) (begun_counts first ns row counts k)) i 0 ≡ 0
      next_dark slots path =
          let z : suc (c - 1) ≡ c = omega arith in
          let some : 1 ≤ (get_or (components t) c none).length = rw (← (at c turn.less)) here_sound.some in
          let a : At (components t) next c 0 = record {
            there = omega (arith, components_length t turn.sound.few, turn.less);
            inside = some;
            counted = next_letters ∙ sym (add-zero (letters_before (components t) c));
          } in
          let source : Source (before_next reached t (suc (c - 1)) 0 (letters_before (components t) (suc (c - 1))) prefix) ns l (row_slot next slots) =
          rw (is, z, ← next_letters) (path.held_at next c 0 next_less a) in
          led_dark t turn.sound l ns set (c - 1) prefix (omega arith) row row_here counts first begins_here goes_here room (omega arith) d w near wide (row_slot next slots) source

      -- and with the gap opened they are those before the next component
      pub next_led : (opened out : List ℕ) → HoldsCounts (is_marked row) (λ k. added d (d + w - 1) (begun_counts first ns row counts k)) ns opened out (length ns) → LeadsTo t ns l c (m / base_of t ^ (depth - next)) out
      next_led opened out all =
          let z : suc (c - 1) ≡ c = omega arith in
          rw (z, is) at (led_more t turn.sound l ns set (c - 1) prefix (omega arith) row row_here counts first begins_here goes_here room (omega arith) d w near wide opened out all)
