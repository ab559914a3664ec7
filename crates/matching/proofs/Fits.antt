-- What a letter of a motif fits: the bases that it stands for, and in an exact search, where it stands for itself alone, the same letter.
-- So its row is the same by either.
use mathlib.Core.Bool.{Bool, true, false}
use mathlib.Core.List.{List, [], map}
use mathlib.Core.Path.{◌≡◌, refl, sym, ap, ◌∙◌}
use Prim.Native.Nat.{ℕ, ◌*◌, ◌<◌}
use native.Mathlib.Decide.{dec_lt}
use native.Mathlib.Omega.{arith}
use lib.Dec.{eqb}
use lib.ListN.{length, get_or}
use borrow.Author.Tests.{eqb-true, eqb-false, eq-eqb, ne_eqb}
use Rattle.rules.proofs.BaseSets.{base_alone}
use Rattle.rules.proofs.EachKind.{base_least}
use Rattle.rules.proofs.Tables.{map_same}
use Rattle.rules.specs.Letters.{letter, value}
use Rattle.rules.specs.Lists.{run}
use Rattle.rules.specs.Profile.{stands_for, exactly, mixed, profile_by, profile_of, base_of}
use Rattle.rules.specs.Sequences.{split}
use Rattle.rules.specs.declared.Profile as declared
use Rattle.rules.specs.declared.Profile.TheVariants.{Exact, Mixed}
use Rattle.rules.specs.declared.Template.{Template}
use Rattle.rows.specs.Flags.{bit}
use Rattle.rows.specs.Rows.{letter_at, lettered}
use Rattle.rows.specs.Set.{words_of, lettered_at, Filled}
use Rattle.rows.proofs.LetterRow.{letter_in, letter_out}
use Rattle.matching.proofs.BaseRows.{at_bytes}

eqb_comm : (x y : ℕ) → eqb x y ≡ eqb y x
eqb_comm x y = go (eqb y x) refl
  where
    go : (b : Bool) → eqb y x ≡ b → eqb x y ≡ b
    go true e = eq-eqb x y (sym (eqb-true y x e))
    go false e = ne_eqb x y (λ z. eqb-false y x e (sym z))

-- of whichever kind a search is, a letter fits what it stands for
fits_alike : (t : Template) (x y : ℕ) → x < base_of t → stands_for x y ≡ (profile_of t).reading.fits x y
unfolding profile_by exactly mixed
fits_alike t x y = go t.profile
  where
    go : (p : declared.Profile) → x < (profile_by p).base → stands_for x y ≡ (profile_by p).reading.fits x y
    go Exact h = base_alone x y h ∙ eqb_comm y x
    go Mixed h = refl

-- where it fits the same, its row is the same
module _ (f g : ℕ → ℕ → Bool) (x : ℕ) (same : (y : ℕ) → f x y ≡ g x y) where
  letter_same : (s : List ℕ) (p : ℕ) → letter_at f x s p ≡ letter_at g x s p
  letter_same s p =
      elim (dec_lt p (length s)) [
        | yes h ↦ (sym (letter_in f x s p h) ∙ ap bit (same (get_or s p 0)) ∙ letter_in g x s p h)
        | no h ↦ (letter_out f x s p (omega arith) ∙ sym (letter_out g x s p (omega arith)))
      ]

  row_same : (ns s : List ℕ) (k : ℕ) → lettered_at f x ns s k ≡ lettered_at g x ns s k
  unfolding lettered_at lettered
  row_same ns s k = map_same (letter_at f x (get_or (split ns s) k [])) (letter_at g x (get_or (split ns s) k [])) (letter_same (get_or (split ns s) k [])) (run 0 (64 * words_of (get_or ns k 0)))

module _ (t : Template) (ns l : List ℕ) (x : ℕ) where
  -- the row of what it stands for
  pub stood_row : x < base_of t → (row : List ℕ) → Filled (λ _. true) (lettered_at stands_for x ns (map value l)) ns row (length ns)
      → Filled (λ _. true) (lettered_at (profile_of t).reading.fits x ns (map value l)) ns row (length ns)
  stood_row h row q = record { same = λ k u e. q.same k u e ∙ row_same stands_for (profile_of t).reading.fits x (λ y. fits_alike t x y h) ns (map value l) k }

  -- that of one of the four letters of a sequence, by the bytes
  pub own_row : x < 4 → (row : List ℕ) → Filled (λ _. true) (lettered_at eqb (letter x) ns l) ns row (length ns)
      → Filled (λ _. true) (lettered_at (profile_of t).reading.fits x ns (map value l)) ns row (length ns)
  own_row h row q =
      stood_row (omega (arith, base_least t)) row
      (record { same = λ k u e. q.same k u e ∙ at_bytes ns l x h k ∙ row_same eqb stands_for x (λ y. eqb_comm x y ∙ sym (base_alone x y h)) ns (map value l) k })
