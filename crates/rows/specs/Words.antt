-- What the loops write: each word of a row from the words of other rows, as the code computes it.
use Rattle.std.specs.Prelude.{List, ℕ, ◌+◌, ◌-◌, ◌*◌, ◌/◌, ◌%◌, ◌^◌, get_or}
use Rattle.std.specs.Int.Bits.{bit_and, bit_or}
use Rattle.rows.specs.Flags.{ago}

-- the 64 bits from bit i of two words on
unfoldable pub shifted_down : ℕ → ℕ → ℕ → ℕ
shifted_down i low high = bit_or (low / 2 ^ i) (((high * 2) % 2 ^ 64 * 2 ^ (63 - i)) % 2 ^ 64)

-- the upper of two words, shifted up by b bits, with those that come in from the lower
unfoldable pub shifted_up : ℕ → ℕ → ℕ → ℕ
shifted_up b low high = bit_or ((high * 2 ^ b) % 2 ^ 64) (low / 2 / 2 ^ (63 - b))

-- word q of a row with one letter more
unfoldable pub extended_word : ℕ → List ℕ → List ℕ → ℕ → ℕ
extended_word i ls ws q = bit_and (get_or ws q 0) (shifted_down i (get_or ls q 0) (get_or ls (q + 1) 0))

-- word q of a row shifted down by i bits
unfoldable pub ahead_word : ℕ → List ℕ → ℕ → ℕ
ahead_word i ws q = shifted_down i (get_or ws q 0) (get_or ws (q + 1) 0)

-- word q of a row shifted up by e words and b bits
unfoldable pub behind_word : ℕ → ℕ → List ℕ → ℕ → ℕ
behind_word e b ws q = shifted_up b (ago ws q (e + 1)) (ago ws q e)

-- word q of two rows joined
unfoldable pub either_word : List ℕ → List ℕ → ℕ → ℕ
either_word ws vs q = bit_or (get_or ws q 0) (get_or vs q 0)

-- word q of a row
abbrev pub word_at : List ℕ → ℕ → ℕ
word_at ws q = get_or ws q 0
