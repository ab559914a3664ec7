-- The values of the letters lie below the mark, so what has another value than the mark has a smaller one.
use mathlib.Core.Bool.{Bool, true, false, not}
use mathlib.Core.Path.{◌≡◌, refl}
use Prim.Native.Nat.{ℕ}
use lib.Dec.{eqb, ltb}
use Rattle.rules.specs.Letters.{A, C, G, T, value, is_letter}
use Rattle.rules.specs.Limits.{letter_mark}
use Rattle.rules.specs.Lists.{if}
use Rattle.rules.proofs.Letter.is_letter.Goals as goal

below_the_mark : (b : ℕ) → ltb (value b) letter_mark ≡ is_letter b
unfolding value is_letter
below_the_mark b = go (eqb b 65) (eqb b 67) (eqb b 71) (eqb b 84)
  where
    go : (a c g t : Bool) → ltb (if a A (if c C (if g G (if t T letter_mark)))) letter_mark ≡ not (eqb (if a A (if c C (if g G (if t T letter_mark)))) letter_mark)
    go true c g t = refl
    go false true g t = refl
    go false false true t = refl
    go false false false true = refl
    go false false false false = refl

pub returns : goal.returns
returns c = rw c.value.ensures (below_the_mark c.args.b)
