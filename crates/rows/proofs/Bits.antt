-- The bits of a list of words: a bit is a digit of its word, and two lists of bits are the same if their digits are.
use mathlib.Core.Bool.{Bool, true, false}
use mathlib.Core.List.{List, [], ◌∷◌, map}
use mathlib.Core.Path.{◌≡◌, refl, sym, ap, ◌∙◌}
use Prim.Native.Nat.{ℕ, zero, suc, ◌+◌, ◌-◌, ◌*◌, ◌/◌, ◌%◌, ◌^◌, ◌≤◌, ◌<◌}
use native.Mathlib.Decide.{dec_lt}
use native.Mathlib.Nat.{zero-mod, zero-div, div-one, zero-add}
use native.Mathlib.Omega.{arith}
use lib.ListN.{length, get_or, get_or-append}
use lib.Seq.{get_or-append-add, ext_get_or}
use lib.Dec.{leb}
use Rattle.rules.specs.Lists.{if, run}
use Rattle.rules.proofs.Over.{getd_map_run, length_map_run}
use Rattle.rows.specs.Flags.{bit, ago}
use Rattle.rows.specs.Bits.{binary_digits, held}
use Rattle.rows.proofs.Held.{length_held}
use Rattle.rows.proofs.Gaps.{ago_in, ago_out}
use Rattle.rows.specs.Rows.{both_at, both, either_at, either, ahead_at, ahead, behind_at, behind, extended}
use Rattle.rows.specs.Words.{shifted_down, extended_word, ahead_word, behind_word, either_word}
use Rattle.rows.proofs.Digits.{digit, digit_and, digit_or, digit_shr, down_low, down_high, up_low, up_high}

pub digit_none : (b : ℕ) → digit 0 b ≡ 0
unfolding digit
digit_none b = rw (zero-div, zero-mod)

length_digits : (k w : ℕ) → length (binary_digits k w) ≡ k
unfolding binary_digits
length_digits zero w = refl
length_digits (suc k) w = ap suc (length_digits k (w / 2))

getd_digits : (k w b : ℕ) → b < k → get_or (binary_digits k w) b 0 ≡ digit w b
unfolding binary_digits digit
getd_digits zero w b h = absurd (omega arith)
getd_digits (suc k) w zero h = rw div-one
getd_digits (suc k) w (suc b) h =
    let e : 1 + b ≡ suc b = omega arith in
    getd_digits k (w / 2) b (omega arith) ∙ digit_shr w 1 b ∙ ap (digit w) e

-- bit b of word q
pub getd_held : (ws : List ℕ) (q b : ℕ) → b < 64 → get_or (held ws) (q * 64 + b) 0 ≡ digit (get_or ws q 0) b
unfolding held
getd_held [] q b h = sym (digit_none b)
getd_held (w ∷ ws) zero b h =
    let e : 0 * 64 + b ≡ b = omega arith in
    let l : b < length (binary_digits 64 w) = rw length_digits h in
    rw e (get_or-append (binary_digits 64 w) (held ws) 0 b l ∙ getd_digits 64 w b h)
getd_held (w ∷ ws) (suc q) b h =
    let e : suc q * 64 + b ≡ length (binary_digits 64 w) + (q * 64 + b) = rw length_digits (omega arith) in
    rw e (get_or-append-add (binary_digits 64 w) (held ws) (q * 64 + b) 0 ∙ getd_held ws q b h)

pub held_at : (ws : List ℕ) (p : ℕ) → get_or (held ws) p 0 ≡ digit (get_or ws (p / 64) 0) (p % 64)
held_at ws p = let e : p ≡ p / 64 * 64 + p % 64 = omega arith in ap (λ (x : ℕ). get_or (held ws) x 0) e ∙ getd_held ws (p / 64) (p % 64) (omega arith)

pub word_bit : (w b : ℕ) → b < 64 → get_or (held (w ∷ [])) b 0 ≡ digit w b
word_bit w b h = let e : b ≡ 0 * 64 + b = omega arith in ap (λ (x : ℕ). get_or (held (w ∷ [])) x 0) e ∙ getd_held (w ∷ []) 0 b h

-- words that a loop made one by one: their bits, if each word has the digits that g says
pub held_run : (f g : ℕ → ℕ) (n : ℕ) → ((q b : ℕ) → q < n → b < 64 → digit (f q) b ≡ g (q * 64 + b)) → held (map f (run 0 n)) ≡ map g (run 0 (64 * n))
held_run f g n h =
    ext_get_or 0 (held (map f (run 0 n))) (map g (run 0 (64 * n)))
    (rw (length_held, length_map_run, length_map_run))
    (λ p l.
    let k : p < 64 * n = rw (length_held, length_map_run) at l in
    let e : 0 + (p / 64 * 64 + p % 64) ≡ 0 + p = omega arith in
    let z : 0 + p / 64 ≡ p / 64 = omega arith in
    held_at (map f (run 0 n)) p
    ∙ rw (getd_map_run f 0 0 n (p / 64) (omega arith), z, h (p / 64) (p % 64) (omega arith) (omega arith))
    (sym (getd_map_run g 0 0 (64 * n) p k ∙ ap g (sym e ∙ zero-add (p / 64 * 64 + p % 64)))))

-- a bit is 0 or 1
pub bit_small : (ws : List ℕ) (p : ℕ) → get_or (held ws) p 0 ≤ 1
unfolding digit
bit_small ws p = rw (held_at ws p) (omega arith)

pub bit_most : (b : Bool) → bit b ≤ 1
bit_most true = omega arith
bit_most false = omega arith

-- two rows joined
pub either_row : (ws vs : List ℕ) → held (map (either_word ws vs) (run 0 (length ws))) ≡ either (held ws) (held vs)
unfolding either
either_row ws vs =
    held_run (either_word ws vs) (either_at (held ws) (held vs)) (length ws) (λ q b _ h. at q b h)
    ∙ ap (λ (n : ℕ). map (either_at (held ws) (held vs)) (run 0 n)) (sym (length_held ws))
  where
    at : (q b : ℕ) → b < 64 → digit (either_word ws vs q) b ≡ either_at (held ws) (held vs) (q * 64 + b)
    at q b h = unfold either_word either_at in digit_or (get_or ws q 0) (get_or vs q 0) b ∙ rw (getd_held ws q b h, getd_held vs q b h)

-- A SHIFT DOWN, of words that fit
module _ (i : ℕ) (small : i < 64) (ls : List ℕ) (fits : (q : ℕ) → get_or ls q 0 < 2 ^ 64) where
  down_at : (q b : ℕ) → b < 64 → digit (shifted_down i (get_or ls q 0) (get_or ls (q + 1) 0)) b ≡ get_or (held ls) (q * 64 + b + i) 0
  down_at q b h =
      elim (dec_lt (b + i) 64) [
        | yes l ↦ (let e : q * 64 + (b + i) ≡ q * 64 + b + i = omega arith in
            down_low i (get_or ls q 0) (get_or ls (q + 1) 0) b small h l ∙ sym (getd_held ls q (b + i) l) ∙ ap (λ (x : ℕ). get_or (held ls) x 0) e)
        | no n ↦ (let e : (q + 1) * 64 + (b + i - 64) ≡ q * 64 + b + i = omega arith in
            down_high i (get_or ls q 0) (get_or ls (q + 1) 0) b small h (fits q) (omega arith)
            ∙ sym (getd_held ls (q + 1) (b + i - 64) (omega arith)) ∙ ap (λ (x : ℕ). get_or (held ls) x 0) e)
      ]

  -- a row shifted down
  pub ahead_row : held (map (ahead_word i ls) (run 0 (length ls))) ≡ ahead i (held ls)
  unfolding ahead ahead_word ahead_at
  ahead_row =
      held_run (ahead_word i ls) (ahead_at i (held ls)) (length ls) (λ q b _ h. down_at q b h)
      ∙ ap (λ (n : ℕ). map (ahead_at i (held ls)) (run 0 n)) (sym (length_held ls))

  -- a row with one letter more
  module _ (ws : List ℕ) (same : length ls ≡ length ws) where
    extended_at : (q b : ℕ) → q < length ws → b < 64 → digit (extended_word i ls ws q) b ≡ both_at (held ws) (ahead i (held ls)) (q * 64 + b)
    unfolding extended_word both_at ahead ahead_at
    extended_at q b k h =
        let n : q * 64 + b < length (held ls) = rw length_held (omega arith) in
        let z : 0 + (q * 64 + b) ≡ q * 64 + b = omega arith in
        digit_and (get_or ws q 0) (shifted_down i (get_or ls q 0) (get_or ls (q + 1) 0)) b
        ∙ rw (getd_held ws q b h, getd_map_run (ahead_at i (held ls)) 0 0 (length (held ls)) (q * 64 + b) n, z, down_at q b h)

    pub extended_row : held (map (extended_word i ls ws) (run 0 (length ws))) ≡ extended i (held ls) (held ws)
    unfolding extended both
    extended_row =
        held_run (extended_word i ls ws) (both_at (held ws) (ahead i (held ls))) (length ws) extended_at
        ∙ ap (λ (n : ℕ). map (both_at (held ws) (ahead i (held ls))) (run 0 n)) (sym (length_held ws))

-- A SHIFT UP
module _ (e i : ℕ) (small : i < 64) (ws : List ℕ) (fits : (q : ℕ) → get_or ws q 0 < 2 ^ 64) where
  ago_fits : (q d : ℕ) → ago ws q d < 2 ^ 64
  unfolding ago
  ago_fits q d = elim (leb d q) as (λ t. if t (get_or ws (q - d) 0) 0 < 2 ^ 64) [ true ↦ fits (q - d) | false ↦ omega arith ]

  pub behind_bit : (q b : ℕ) → b < 64 → digit (behind_word e i ws q) b ≡ ago (held ws) (q * 64 + b) (e * 64 + i)
  unfolding behind_word
  behind_bit q b h =
      elim (dec_lt b i) [
        | no n ↦ (up_high i (ago ws q (e + 1)) (ago ws q e) b small h (ago_fits q (e + 1)) (omega arith)
            ∙ elim (dec_lt q e) [
              | no m ↦ (let z : (q - e) * 64 + (b - i) ≡ q * 64 + b - (e * 64 + i) = omega arith in
                  ap (λ (x : ℕ). digit x (b - i)) (ago_in ws q e (omega arith)) ∙ sym (getd_held ws (q - e) (b - i) (omega arith))
                  ∙ ap (λ (x : ℕ). get_or (held ws) x 0) z ∙ sym (ago_in (held ws) (q * 64 + b) (e * 64 + i) (omega arith)))
              | yes m ↦ (ap (λ (x : ℕ). digit x (b - i)) (ago_out ws q e m) ∙ digit_none (b - i) ∙ sym (ago_out (held ws) (q * 64 + b) (e * 64 + i) (omega arith)))
            ])
        | yes n ↦ (up_low i (ago ws q (e + 1)) (ago ws q e) b small h n
            ∙ elim (dec_lt q (e + 1)) [
              | no m ↦ (let z : (q - (e + 1)) * 64 + (64 - i + b) ≡ q * 64 + b - (e * 64 + i) = omega arith in
                  ap (λ (x : ℕ). digit x (64 - i + b)) (ago_in ws q (e + 1) (omega arith)) ∙ sym (getd_held ws (q - (e + 1)) (64 - i + b) (omega arith))
                  ∙ ap (λ (x : ℕ). get_or (held ws) x 0) z ∙ sym (ago_in (held ws) (q * 64 + b) (e * 64 + i) (omega arith)))
              | yes m ↦ (ap (λ (x : ℕ). digit x (64 - i + b)) (ago_out ws q (e + 1) m) ∙ digit_none (64 - i + b) ∙ sym (ago_out (held ws) (q * 64 + b) (e * 64 + i) (omega arith)))
            ])
      ]

  pub behind_row : held (map (behind_word e i ws) (run 0 (length ws))) ≡ behind (e * 64 + i) (held ws)
  unfolding behind behind_at
  behind_row =
      held_run (behind_word e i ws) (behind_at (e * 64 + i) (held ws)) (length ws) (λ q b _ h. behind_bit q b h)
      ∙ ap (λ (n : ℕ). map (behind_at (e * 64 + i) (held ws)) (run 0 n)) (sym (length_held ws))
