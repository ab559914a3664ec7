-- The step of either kind of search, as the code takes it. The code looks at the last letter alone, and at how many letters of its
-- component before it stand for several bases; `Rises` of rules says that this is enough.
use mathlib.Core.Path.{◌≡◌, refl, ap}
use mathlib.Core.Bool.{Bool, true, false, ◌&&◌}
use mathlib.Core.List.{List, [], ◌∷◌}
use Prim.Native.Nat.{ℕ, zero, suc, ◌+◌, ◌-◌, ◌*◌, ◌/◌, ◌%◌, ◌^◌, ◌≤◌, ◌<◌}
use native.Mathlib.Numerals.{add-one}
use native.Mathlib.Omega.{arith}
use borrow.Author.Tests.{lt-ltb, le-ltb}
use lib.Dec.{ltb}
use lib.ListN.{get_or}
use Rattle.rules.specs.Limits.{letter_bases, letter_digits}
use Rattle.rules.specs.Lists.{if, sum}
use Rattle.rules.specs.Motif.{spell}
use Rattle.rules.specs.Profile.{several, base_of}
use Rattle.rules.specs.Sound.{SoundTemplate}
use Rattle.rules.specs.Support.{valid}
use Rattle.rules.specs.Template.{none, slots, components, size}
use Rattle.rules.specs.Walk.{place, up, next, children, choose}
use Rattle.rules.specs.declared.Component.{Component}
use Rattle.rules.specs.declared.Profile.TheVariants.{Exact, Mixed}
use Rattle.rules.specs.declared.Template.{Template}
use Rattle.rules.proofs.Components.{components_at, components_length}
use Rattle.rules.proofs.Rises.{letters_to, shorter_valid, child_valid, valid_fits, first_child, risen_valid, exact_rises, rises_past_t, rises_not_t}
use Rattle.rows.specs.NextLetter.{At, letters_before}
use Rattle.matching.specs.declared.made.Spot.{Spot}
use Rattle.matching.specs.Path.{spot, Inside}
use Rattle.matching.proofs.Extend.{letter_at, inside_letter, inside_component}
use Rattle.legs.specs.Kind.{walk_by, Rises}

-- ---- which letter of which component the last one is, as `inside` has it

module _ (t : Template) (sound : SoundTemplate t) (inside : List Spot) (code : Inside t inside) (j : ℕ) where
  pub code_component : 1 ≤ j → j ≤ size t → (get_or inside (j - 1) (spot 0 0)).component < 6
  code_component h l =
      let s = letter_at t (j - 1) (omega arith) in
      omega (arith, inside_component t inside code (j - 1) s.component s.letter s.at, s.at.there, components_length t sound.few, sound.few)

  pub room_is : (m : ℕ) {cs : List Component} {n : ℕ} → cs ≡ slots t → n ≡ several (spell letter_digits ((get_or inside (j - 1) (spot 0 0)).letter) (m / letter_digits)) → (k i : ℕ) → At (components t) (j - 1) k i
      → ltb n (get_or cs ((get_or inside (j - 1) (spot 0 0)).component) none).allowance ≡ ltb (several (spell letter_digits i (m / letter_digits))) (get_or (components t) k none).allowance
  room_is m e f k i a =
      rw (e, f, inside_component t inside code (j - 1) k i a, inside_letter t inside code (j - 1) k i a, components_at t k (omega (arith, a.there, components_length t sound.few)))

-- ---- the last letter goes up

-- the letters before a component, as both have them
letters_same : (cs : List Component) (k : ℕ) → letters_before cs k ≡ letters_to cs k
unfolding letters_before sum
letters_same cs zero = refl
letters_same [] (suc k) = refl
letters_same (c ∷ cs) (suc k) = ap (λ (n : ℕ). c.length + n) (letters_same cs k)

module _ (t : Template) where
  pub exact_rise : t.profile ≡ Exact → (good : ℕ → ℕ → Bool) (depth j m : ℕ) → Rises (walk_by t good depth) j m (ltb (m % letter_bases) 3)
  exact_rise e good depth j m = exact_rises t good depth e j m

  module _ (is : t.profile ≡ Mixed) (good : ℕ → ℕ → Bool) (depth : ℕ) where
    -- past T where there is room for a letter that stands for several bases
    pub mixed_rise_t : (j m : ℕ) {r : Bool} → 1 ≤ j → j ≤ size t → valid t j m ≡ true → m % letter_digits ≡ 3
        → ((k i : ℕ) → At (components t) (j - 1) k i → r ≡ ltb (several (spell letter_digits i (m / letter_digits))) (get_or (components t) k none).allowance)
        → Rises (walk_by t good depth) j m r
    mixed_rise_t zero m h l v e room = absurd (omega arith)
    mixed_rise_t (suc j) m h l v e room =
        let z : suc j - 1 ≡ j = omega arith in
        let s = letter_at t j l in
        let a = s.at in
        rw (room s.component s.letter (rw z a))
        (rises_past_t t good depth is j m v s.component s.letter a.there a.inside (rw (letters_same (components t) s.component) at a.counted) e)

    -- and else up to V
    pub mixed_rise : (j m : ℕ) → 1 ≤ j → j ≤ size t → valid t j m ≡ true → (m % letter_digits ≡ 3 → ⊥) → Rises (walk_by t good depth) j m (ltb (m % letter_digits) 13)
    mixed_rise zero m h l v e = absurd (omega arith)
    mixed_rise (suc j) m h l v e = rises_not_t t good depth is j m v l e

module _ (t : Template) (good : ℕ → ℕ → Bool) (depth : ℕ) where
  -- THE WAY UP from a candidate that rises, and from one that does not
  pub up_go : (j m : ℕ) {r : Bool} → 1 ≤ j → Rises (walk_by t good depth) j m r → r ≡ true → up (walk_by t good depth) j m ≡ place j (m + 1)
  unfolding up
  up_go zero m h g e = absurd (omega arith)
  up_go (suc j) m h g e = rw (g _, e, add-one)

  pub up_drop : (j m : ℕ) {r : Bool} {n : ℕ} → 1 ≤ j → Rises (walk_by t good depth) j m r → r ≡ false → n ≡ m / base_of t → up (walk_by t good depth) j m ≡ up (walk_by t good depth) (j - 1) n
  unfolding up
  up_drop zero m h g e q = absurd (omega arith)
  up_drop (suc j) m h g e q = let z : suc j - 1 ≡ j = omega arith in rw (z, q, g _, e)

  pub up_none : (j m : ℕ) → j ≡ 0 → up (walk_by t good depth) j m ≡ place 0 0
  unfolding up
  up_none j m e = rw e

  -- THE NEXT PLACE
  pub next_down : (j m : ℕ) {b : ℕ} → depth ≡ size t → j < depth → valid t j m ≡ true → good j m ≡ true → b ≡ base_of t → next (walk_by t good depth) (place j m) ≡ place (j + 1) (m * b)
  unfolding next
  next_down j m d h v g e = rw (lt-ltb j depth h, g, e, add-one) (first_child t good depth j m (omega arith) v _)

  pub next_last : (j m : ℕ) → depth ≤ j → next (walk_by t good depth) (place j m) ≡ up (walk_by t good depth) j m
  unfolding next
  next_last j m h = rw (le-ltb j depth h)

  pub next_bad : (j m : ℕ) → good j m ≡ false → next (walk_by t good depth) (place j m) ≡ up (walk_by t good depth) j m
  unfolding next
  next_bad j m g = go (ltb j depth)
    where
      go : (b : Bool) → if (b && good j m) (choose (up (walk_by t good depth) j m) (suc j) (children (walk_by t good depth) j m)) (up (walk_by t good depth) j m) ≡ up (walk_by t good depth) j m
      go true = rw g
      go false = refl

-- ---- numbers

module _ (t : Template) where
  -- without its last letter
  pub shorter_ok : (j m : ℕ) {n : ℕ} → 1 ≤ j → valid t j m ≡ true → n ≡ m / base_of t → valid t (j - 1) n ≡ true
  shorter_ok zero m h v e = absurd (omega arith)
  shorter_ok (suc j) m h v e = let z : suc j - 1 ≡ j = omega arith in rw (z, e) (shorter_valid t j m v)

  module _ (sound : SoundTemplate t) where
    -- one more, where it rises, and a letter more fit 64 bits
    pub rise_fits : (j m : ℕ) {r : Bool} → 1 ≤ j → j ≤ size t → valid t j m ≡ true → Rises (walk_by t (λ _ _. true) 0) j m r → r ≡ true → m + 1 < 2 ^ 64
    rise_fits zero m h l v g e = absurd (omega arith)
    rise_fits (suc j) m h l v g e = rw add-one (valid_fits t sound (suc j) (suc m) l (risen_valid t (λ _ _. true) 0 j m (rw e at g) v))

    pub child_fits : (j m : ℕ) {b : ℕ} → j < size t → valid t j m ≡ true → b ≡ base_of t → m * b < 2 ^ 64
    child_fits j m l v e = rw e (valid_fits t sound (suc j) (m * base_of t) l (child_valid t j m l v))
