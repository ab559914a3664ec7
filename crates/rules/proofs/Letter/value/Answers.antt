-- The four comparisons are those of the definition. There the first that holds decides, here the last: no byte meets two of them, so
-- it is the same.
use mathlib.Core.Bool.{Bool, true, false}
use mathlib.Core.Path.{◌≡◌, ◌∙◌, refl, sym}
use Prim.Native.Nat.{ℕ}
use native.Mathlib.Omega.{arith}
use lib.Dec.{eqb}
use borrow.Author.Tests.{eqb-true}
use Rattle.rules.specs.Letters.{A, C, G, T, value}
use Rattle.rules.specs.Limits.{letter_mark}
use Rattle.rules.specs.Lists.{if}
use Rattle.rules.proofs.Letter.value.Goals as goal

last_decides : (b : ℕ) → if (eqb b 84) T (if (eqb b 71) G (if (eqb b 67) C (if (eqb b 65) A letter_mark))) ≡ value b
unfolding value
last_decides b = go (eqb b 65) (eqb b 67) (eqb b 71) (eqb b 84) refl refl refl refl
  where
    both : (x y : ℕ) → eqb b x ≡ true → eqb b y ≡ true → x ≡ y
    both x y p q = sym (eqb-true b x p) ∙ eqb-true b y q

    go : (a c g t : Bool) → eqb b 65 ≡ a → eqb b 67 ≡ c → eqb b 71 ≡ g → eqb b 84 ≡ t → if t T (if g G (if c C (if a A letter_mark))) ≡ if a A (if c C (if g G (if t T letter_mark)))
    go false false false t p q r s = refl
    go false false true false p q r s = refl
    go false true false false p q r s = refl
    go true false false false p q r s = refl
    go true true g t p q r s = absurd (omega (arith, both 65 67 p q))
    go true false true t p q r s = absurd (omega (arith, both 65 71 p r))
    go true false false true p q r s = absurd (omega (arith, both 65 84 p s))
    go false true true t p q r s = absurd (omega (arith, both 67 71 q r))
    go false true false true p q r s = absurd (omega (arith, both 67 84 q s))
    go false false true true p q r s = absurd (omega (arith, both 71 84 r s))

pub returns : goal.returns
returns c = rw (c.when.ensures, c.when-v-3.ensures, c.when-v-2.ensures, c.when-v.ensures) (last_decides c.args.b)
