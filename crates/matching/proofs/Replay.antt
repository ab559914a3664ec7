-- The path made afresh, letter by letter, from the first slot: the prefixes of a place by their numbers.
use mathlib.Core.List.{List}
use mathlib.Core.Path.{◌≡◌, sym, ap, ◌∙◌}
use Prim.Native.Nat.{ℕ, suc, ◌+◌, ◌-◌, ◌*◌, ◌/◌, ◌%◌, ◌^◌, ◌≤◌, ◌<◌}
use native.Mathlib.Nat.{pow-suc, pow-zero, one-mul, div-one, div-div-eq-div-mul, div-eq_of_lt, div-add-mod', mod-lt}
use native.Mathlib.Omega.{arith}
use Rattle.rules.specs.Profile.{base_of}
use Rattle.rules.specs.declared.Template.{Template}
use Rattle.matching.specs.Path.{row_slot, Slot, Path}
use Rattle.matching.proofs.Slots.{some_base, begun}

-- a letter dropped
dropped : (base m a : ℕ) → m / base ^ a / base ≡ m / base ^ suc a
dropped base m a = div-div-eq-div-mul m (base ^ a) base ∙ ap (λ (p : ℕ). m / p) (sym (pow-suc base a))

module _ (t : Template) (j m : ℕ) where
  abbrev prefix : ℕ → ℕ
  prefix d = m / base_of t ^ (j - d)

  -- the prefix of one letter, and nothing before it
  begin_none : 1 ≤ j → m < base_of t ^ j → prefix 1 / base_of t ≡ 0
  begin_none some h = let z : suc (j - 1) ≡ j = omega arith in dropped (base_of t) m (j - 1) ∙ ap (λ (n : ℕ). m / base_of t ^ n) z ∙ div-eq_of_lt h

  -- the prefix before the next letter
  next_before : (d : ℕ) → d < j → prefix (d + 1) / base_of t ≡ prefix d
  next_before d h = let z : suc (j - (d + 1)) ≡ j - d = omega arith in dropped (base_of t) m (j - (d + 1)) ∙ ap (λ (n : ℕ). m / base_of t ^ n) z

  -- and before the last
  pub last_prefix : (d : ℕ) → d ≡ j → 1 ≤ d → prefix (d - 1) ≡ m / base_of t
  last_prefix d e h =
      let z : j - (d - 1) ≡ 1 = omega arith in
      rw (z, pow-suc (base_of t) 0, pow-zero (base_of t), one-mul (base_of t))

  -- and the letter
  split : (q : ℕ) {p : ℕ} → q / base_of t ≡ p → p * base_of t + q % base_of t ≡ q
  split q e = rw (← e) (div-add-mod' q (base_of t))

  module _ (ns l : List ℕ) (slots : List (List ℕ)) where
    pub replay_begin : 1 ≤ j → m < base_of t ^ j → Slot t ns l (row_slot 0 slots) 0 0 → Path t ns l slots 1 (prefix 1)
    replay_begin some h s =
        let e : prefix 1 % base_of t ≡ prefix 1 = omega (arith, split (prefix 1) (begin_none some h)) in
        begun t ns l slots s (prefix 1) (rw e at (mod-lt (prefix 1) (some_base t)))

    -- the next letter of the place
    pub replay_more : (d : ℕ) → d < j → ((x : ℕ) → x < base_of t → Path t ns l slots (d + 1) (prefix d * base_of t + x))
        → Path t ns l slots (d + 1) (prefix (d + 1))
    replay_more d h p = rw (split (prefix (d + 1)) (next_before d h)) at (p (prefix (d + 1) % base_of t) (mod-lt (prefix (d + 1)) (some_base t)))

    pub replay_end : (d : ℕ) → d ≡ j → Path t ns l slots d (prefix d) → Path t ns l slots j m
    replay_end d e p =
        let z : j - j ≡ 0 = omega arith in
        rw (div-one m) at (rw (z, pow-zero (base_of t)) at (rw e at p))

  -- THE SAME IN ONE SLOT, that of the prefix a letter shorter: what the last letter of the prefix of d letters is added to
  module _ (ns l slot : List ℕ) where
    pub slot_begin : 1 ≤ j → m < base_of t ^ j → Slot t ns l slot 0 0 → Slot t ns l slot (1 - 1) (prefix 1 / base_of t)
    slot_begin some h s = rw (begin_none some h) s

    pub slot_more : (d : ℕ) → d < j → Slot t ns l slot d (prefix d) → Slot t ns l slot (d + 1 - 1) (prefix (d + 1) / base_of t)
    slot_more d h s =
        let y : d + 1 - 1 ≡ d = omega arith in
        rw (y, next_before d h) s
