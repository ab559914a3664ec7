-- The places of a word's set bits, the lowest first. An iterator over them is seen as the word that has those which are left.
use Rattle.std.specs.Prelude.{◌≡◌, Option, MatchOption, ℕ, ◌-◌, ◌<◌}
use Rattle.std.specs.Int.{trailing_zeros, w64}
use Rattle.std.specs.Int.Bits.{bit_and}
use Rattle.rows.specs.declared.set_bits.SetBits.{SetBits}

-- the lowest set bit of a word, at `place`, is taken off: `left` is the word without it
pub record Taken (word place left : ℕ) : Type 0 where
  pub some : 0 < word
  pub lowest : place ≡ trailing_zeros w64 word
  pub off : left ≡ bit_and word (word - 1)

-- a step gives that place; nothing where no bit is left
abbrev pub TakesLowest : SetBits → Option ℕ → SetBits → Type 0
TakesLowest s result t = MatchOption result (s.0 ≡ 0) (λ place. Taken s.0 place t.0)
