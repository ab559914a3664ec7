-- A gap opened in one word: its digits are the bits, so a shift of the word is a shift of the bits, and what leaves the word is lost.
use mathlib.Core.List.{[], ◌∷◌, map}
use mathlib.Core.Path.{◌≡◌, sym, ap, ◌∙◌}
use Prim.Native.Nat.{ℕ, ◌+◌, ◌-◌, ◌*◌, ◌%◌, ◌^◌, ◌≤◌, ◌<◌}
use native.Mathlib.Decide.{dec_lt}
use native.Mathlib.Omega.{arith}
use lib.Bits.{bit_or}
use lib.ListN.{get_or}
use Rattle.rules.specs.Lists.{run}
use Rattle.rows.specs.Bits.{held}
use Rattle.rows.specs.Flags.{ago}
use Rattle.rows.specs.Rows.{either, behind_at, behind}
use Rattle.rows.specs.Words.{either_word}
use Rattle.rows.proofs.Bits.{digit_none, getd_held, held_run, either_row}
use Rattle.rows.proofs.Digits.{digit, digit_mod, digit_shl_in, digit_shl_out}
use Rattle.rows.proofs.Gaps.{ago_in, ago_out}
use Rattle.rows.proofs.Held.{length_held}

pub joined_word : (w v : ℕ) → held (bit_or w v ∷ []) ≡ either (held (w ∷ [])) (held (v ∷ []))
unfolding either_word run
joined_word w v = either_row (w ∷ []) (v ∷ [])

first_bit : (w b : ℕ) → b < 64 → get_or (held (w ∷ [])) b 0 ≡ digit w b
first_bit w b h = let e : 0 * 64 + b ≡ b = omega arith in ap (λ (x : ℕ). get_or (held (w ∷ [])) x 0) (sym e) ∙ getd_held (w ∷ []) 0 b h

-- a word whose digits are those of another so many places before
word_behind : (v w d : ℕ) → ((b : ℕ) → b < 64 → digit v b ≡ ago (held (w ∷ [])) b d) → held (v ∷ []) ≡ behind d (held (w ∷ []))
unfolding behind behind_at run
word_behind v w d h =
    held_run (λ _. v) (behind_at d (held (w ∷ []))) 1 (λ q b l k. let e : q * 64 + b ≡ b = omega arith in h b k ∙ ap (λ (x : ℕ). ago (held (w ∷ [])) x d) (sym e))
    ∙ ap (λ (n : ℕ). map (behind_at d (held (w ∷ []))) (run 0 n)) (sym (length_held (w ∷ [])))

pub shifted_word : (w d : ℕ) → held (w * 2 ^ d % 2 ^ 64 ∷ []) ≡ behind d (held (w ∷ []))
shifted_word w d = word_behind (w * 2 ^ d % 2 ^ 64) w d (λ b h.
    digit_mod 64 (w * 2 ^ d) b h
    ∙ elim (dec_lt b d) [
      | yes l ↦ (digit_shl_out w d b l ∙ sym (ago_out (held (w ∷ [])) b d l))
      | no n ↦ (digit_shl_in w d b (omega arith) ∙ sym (ago_in (held (w ∷ [])) b d (omega arith) ∙ first_bit w (b - d) (omega arith)))
    ])

pub shifted_out : (w d : ℕ) → 64 ≤ d → held (0 ∷ []) ≡ behind d (held (w ∷ []))
shifted_out w d h = word_behind 0 w d (λ b l. digit_none b ∙ sym (ago_out (held (w ∷ [])) b d (omega arith)))
