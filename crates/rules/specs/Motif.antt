-- Motifs: a motif is its letters, and its number reads them as digits, the first letter the highest. The base is 4 for the
-- letters A, C, G, T.
use Rattle.std.specs.Prelude.{List, [], ◌∷◌, ℕ, zero, suc, ◌+◌, ◌*◌, ◌/◌, ◌%◌, ◌^◌, length}

-- the number of some letters: in base 4 that of AG (0, 2) is 2
unfoldable pub number : ℕ → List ℕ → ℕ
number base [] = 0
number base (x ∷ w) = x * base ^ length w + number base w

-- the j letters of a number
unfoldable pub spell : ℕ → ℕ → ℕ → List ℕ
spell base zero m = []
spell base (suc j) m = (m / base ^ j) % base ∷ spell base j m
