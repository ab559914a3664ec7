-- At the most letters that a kind of search takes, every 64-bit number lies below the base to the power of them: 4 to the power of 32
-- and 16 to the power of 16 are 2 to the power of 64, which no 64-bit number reaches. So in an exact search each is a motif, and keeps
-- the place rule there; in a mixed one its letters alone decide.
use mathlib.Core.Path.{◌≡◌, ◌∙◌}
use mathlib.Core.Logic.Iff
use mathlib.Core.Logic.{◌↔◌}
use mathlib.Core.Bool.{true}
use Prim.Native.Nat.{ℕ, ◌^◌, ◌<◌}
use native.Mathlib.Omega.{arith}
use lib.ListN.{length, get_or}
use borrow.Author.Tests.{le-leb, lt-ltb}
use Rattle.rules.specs.Limits.{letter_bases, letter_digits}
use Rattle.rules.specs.Motif.{spell}
use Rattle.rules.specs.Profile.{exactly, profile_of}
use Rattle.rules.specs.Refusals.{check14}
use Rattle.rules.specs.Refused.{letters_in, Allows, Spells}
use Rattle.rules.specs.Saved.{meets_place_rule}
use Rattle.rules.specs.Template.{none, components, size}
use Rattle.rules.specs.Told.{fine}
use Rattle.rules.specs.Walk.{place}
use Rattle.rules.specs.declared.Profile.TheVariants.{Mixed}
use Rattle.rules.specs.declared.Template.{Template}
use Rattle.rules.proofs.EachCheck.{check14_fine}
use Rattle.rules.proofs.Exact.{exact_valid, exact_place}
use Rattle.rules.proofs.Mixed.{mixed_spells}
use Rattle.rules.proofs.Spells.{valid_says, place_rule_says}
use Rattle.rules.proofs.Tests.{both}

module _ (t : Template) (x : profile_of t ≡ exactly) (m : ℕ) (e : size t ≡ 32) (h : m < 2 ^ 64) where
  -- as the place of a search it keeps the rule
  pub wide_place : meets_place_rule t (place 32 m) ≡ true
  wide_place = rw (exact_place t x (place 32 m)) ((both _ _).1 (le-leb 32 (size t) (omega arith), lt-ltb m (letter_bases ^ 32) (omega arith)))

  -- as a motif it is not refused
  pub wide_motif : check14 t m ≡ fine
  wide_motif = (check14_fine t m).1 (exact_valid t x (size t) m ∙ lt-ltb m _ (rw e (omega arith)))

module _ (t : Template) (x : t.profile ≡ Mixed) (m : ℕ) (e : size t ≡ 16) (h : m < 2 ^ 64) where
  -- each component allows its letters
  abbrev AllAllowed : Type 0
  AllAllowed = (i : ℕ) → i < length (components t) → Allows Mixed (get_or (components t) i none) (letters_in t i (spell letter_digits 16 m))

  spells_16 : Spells t 16 m ↔ AllAllowed
  spells_16 = Iff.trans (mixed_spells t x 16 m) (λ k. k.1, λ k. (omega arith, k))

  pub wide_mixed_place : (meets_place_rule t (place 16 m) ≡ true) ↔ AllAllowed
  wide_mixed_place = Iff.trans (place_rule_says t (place 16 m)) (λ k. spells_16.0 k.spells, λ k. record { most = omega arith; spells = spells_16.1 k })

  pub wide_mixed_motif : (check14 t m ≡ fine) ↔ AllAllowed
  wide_mixed_motif = Iff.trans (check14_fine t m) (Iff.trans (valid_says t (size t) m) (rw e spells_16))
