-- Rows: the bits of one sequence, one for each of its positions, 64 to a word, the first in the lowest digit: `held` of the
-- words. Here is what each operation makes of such a list of bits. Positions count from 0; past the last word every bit is 0.
use Rattle.std.specs.Prelude.{Bool, List, [], ◌∷◌, ◌++◌, map, ℕ, suc, ◌+◌, ◌-◌, min, max, length, get_or, replicate}
use Rattle.rules.specs.Lists.{run}
use Rattle.rules.specs.Occurrence.{stands_by}
use Rattle.rows.specs.Flags.{bit, ago, near}

-- set in both
unfoldable pub both_at : List ℕ → List ℕ → ℕ → ℕ
both_at ks ls p = min (get_or ks p 0) (get_or ls p 0)

unfoldable pub both : List ℕ → List ℕ → List ℕ
both ks ls = map (both_at ks ls) (run 0 (length ks))

-- set in one of them
unfoldable pub either_at : List ℕ → List ℕ → ℕ → ℕ
either_at ks ls p = max (get_or ks p 0) (get_or ls p 0)

unfoldable pub either : List ℕ → List ℕ → List ℕ
either ks ls = map (either_at ks ls) (run 0 (length ks))

-- shifted towards lower positions: what stands i places on
unfoldable pub ahead_at : ℕ → List ℕ → ℕ → ℕ
ahead_at i ks p = get_or ks (p + i) 0

unfoldable pub ahead : ℕ → List ℕ → List ℕ
ahead i ks = map (ahead_at i ks) (run 0 (length ks))

-- shifted towards higher positions: what stood d places before
unfoldable pub behind_at : ℕ → List ℕ → ℕ → ℕ
behind_at d ks p = ago ks p d

unfoldable pub behind : ℕ → List ℕ → List ℕ
behind d ks = map (behind_at d ks) (run 0 (length ks))

-- set where one of n bits is, the nearest of them d places before
unfoldable pub window : ℕ → ℕ → List ℕ → List ℕ
window d n ks = map (near ks d n) (run 0 (length ks))

-- one letter more, the i-th of its part: those bits at which the letter, given by its own row, fits what is i places on
unfoldable pub extended : ℕ → List ℕ → List ℕ → List ℕ
extended i ls ks = both ks (ahead i ls)

-- where the letter x fits, by f: which letters of a sequence each letter fits. By `eqb` it is where x stands
unfoldable pub letter_at : (ℕ → ℕ → Bool) → ℕ → List ℕ → ℕ → ℕ
letter_at f x s p = bit (stands_by f 0 (x ∷ []) s (suc p))

-- its row, of n bits
unfoldable pub lettered : (ℕ → ℕ → Bool) → ℕ → List ℕ → ℕ → List ℕ
lettered f x s n = map (letter_at f x s) (run 0 n)

-- flags with bits after them, up to n in all, none of them set
unfoldable pub padded : ℕ → List ℕ → List ℕ
padded n ks = ks ++ replicate (n - length ks) 0
