-- Letters: the bytes A, C, G and T, and the value of each.
use Rattle.std.specs.Prelude.{Bool, not, ℕ, eqb}
use Rattle.rules.specs.Limits.{letter_mark}
use Rattle.rules.specs.Lists.{if}

-- the values
abbrev pub A : ℕ
A = 0

abbrev pub C : ℕ
C = 1

abbrev pub G : ℕ
G = 2

abbrev pub T : ℕ
T = 3

-- the value of a byte: A 0, C 1, G 2, T 3, and every other byte the mark (65, 67, 71 and 84 are the bytes of A, C, G and T)
unfoldable pub value : ℕ → ℕ
value b =
    if (eqb b 65) A
    (if (eqb b 67) C
    (if (eqb b 71) G
    (if (eqb b 84) T
    letter_mark)))

unfoldable pub is_letter : ℕ → Bool
is_letter b = not (eqb (value b) letter_mark)

-- the letter that has a value, as a byte
unfoldable pub letter : ℕ → ℕ
letter v = if (eqb v A) 65 (if (eqb v C) 67 (if (eqb v G) 71 84))
