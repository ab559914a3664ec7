-- Bits in words: 64 to a word, the first in the lowest digit. The code has the size under the same name (`BITS` of src/lib.rt).
use Rattle.std.specs.Prelude.{List, [], ◌∷◌, ◌++◌, ℕ, zero, suc, ◌/◌, ◌%◌}

abbrev pub word_bits : ℕ
word_bits = 64

-- the k lowest binary digits of a number, the lowest first
unfoldable pub binary_digits : ℕ → ℕ → List ℕ
binary_digits zero w = []
binary_digits (suc k) w = w % 2 ∷ binary_digits k (w / 2)

-- the bits that some words hold
unfoldable pub held : List ℕ → List ℕ
held [] = []
held (w ∷ ws) = binary_digits word_bits w ++ held ws
