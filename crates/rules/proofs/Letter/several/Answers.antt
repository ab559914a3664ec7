use mathlib.Core.Bool.{Bool, true, false}
use mathlib.Core.List.{List, ◌∷◌}
use mathlib.Core.Path.{◌≡◌, refl}
use Prim.Native.Nat.{ℕ, ◌+◌, ◌/◌, ◌%◌, ◌^◌, ◌≤◌}
use native.Mathlib.Numerals.{add-one}
use native.Mathlib.Omega.{arith}
use lib.Dec.{leb}
use lib.ListN.{length}
use Rattle.std.specs.Int.{from_bool}
use Rattle.rules.specs.Limits.{letter_bases, letter_digits}
use Rattle.rules.specs.Lists.{if, keep}
use Rattle.rules.specs.Motif.{spell}
use Rattle.rules.specs.Profile.{several}
use Rattle.rules.proofs.Lists.{keep_few}
use Rattle.rules.proofs.Spelling.{length_spell, rest_more}
use Rattle.rules.proofs.Letter.several.Goals as goal

-- no more are counted than there are
several_few : (i m : ℕ) → several (spell letter_digits i m) ≤ i
unfolding several
several_few i m = omega (arith, keep_few (leb letter_bases) (spell letter_digits i m), length_spell letter_digits i m)

-- one letter more
several_more : (m i : ℕ) {rest found one : ℕ} → rest ≡ m / letter_digits ^ i → found ≡ several (spell letter_digits i m) → one ≡ from_bool (leb letter_bases (rest % letter_digits))
    → found + one ≡ several (spell letter_digits (i + 1) m)
unfolding several spell keep
several_more m i {rest} {found} {one} left e o = rw (add-one, ← left) (go (leb letter_bases (rest % letter_digits)) o)
  where
    w : List ℕ
    w = keep (leb letter_bases) (spell letter_digits i m)

    go : (b : Bool) → one ≡ from_bool b → found + one ≡ length (if b (rest % letter_digits ∷ w) w)
    go true o = omega arith
    go false o = omega arith

pub loop-init : goal.loop-init
unfolding several spell keep
loop-init c = (omega arith, omega arith, refl)

pub overflow_add-found : goal.overflow_add-found
overflow_add-found c =
    let l = c.loop in
    let number = c.args.number in
    omega (arith, several_more number l.counter l.invariant.1 l.invariant.2 c.from-found.ensures, several_few (l.counter + 1) number)

pub loop-preserved : goal.loop-preserved
loop-preserved c =
    let l = c.loop in
    let number = c.args.number in
    (omega arith, rest_more letter_digits number l.counter l.invariant.1, several_more number l.counter l.invariant.1 l.invariant.2 c.from-found.ensures)
