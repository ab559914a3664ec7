-- The row of a letter: bit by bit, and past the sequence none.
use mathlib.Core.Bool.{Bool, true, false}
use mathlib.Core.List.{List}
use mathlib.Core.Path.{◌≡◌, refl, ◌∙◌}
use Prim.Native.Nat.{ℕ, zero, suc, ◌/◌, ◌%◌, ◌≤◌, ◌<◌}
use lib.ListN.{length, get_or, replicate, drop_of_length-le}
use lib.Seq.{drop-cons}
use Rattle.rules.specs.Lists.{if}
use Rattle.rules.specs.Occurrence.{front_by, stands_by}
use Rattle.rows.specs.Flags.{bit}
use Rattle.rows.specs.Bits.{held}
use Rattle.rows.specs.Rows.{letter_at}
use Rattle.rows.proofs.Bits.{held_at, digit_none}

module _ (f : ℕ → ℕ → Bool) (x : ℕ) (s : List ℕ) where
  pub letter_in : (p : ℕ) → p < length s → bit (f x (get_or s p 0)) ≡ letter_at f x s p
  unfolding letter_at stands_by front_by
  letter_in p h = rw (drop-cons s p 0 h) (elim (f x (get_or s p 0)) as (λ b. bit b ≡ bit (if b true false)) [ true ↦ refl | false ↦ refl ])

  pub letter_out : (p : ℕ) → length s ≤ p → letter_at f x s p ≡ 0
  unfolding letter_at stands_by front_by
  letter_out p h = rw (drop_of_length-le s {i = p} h)

pub zero_word : (n q : ℕ) → ◌≡◌ {A = ℕ} (get_or (replicate n 0) q 0) 0
zero_word zero q = refl
zero_word (suc n) zero = refl
zero_word (suc n) (suc q) = zero_word n q

pub zero_bit : (n p : ℕ) → get_or (held (replicate n 0)) p 0 ≡ 0
zero_bit n p = held_at (replicate n 0) p ∙ rw (zero_word n (p / 64)) (digit_none (p % 64))
