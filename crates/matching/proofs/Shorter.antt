-- A prefix that is left in a sequence leaves every shorter prefix there: where no flag is left, a letter more and a gap leave none.
use mathlib.Core.Bool.{Bool, true, false, false≢true}
use mathlib.Core.List.{List, [], ◌∷◌, ◌++◌}
use mathlib.Core.Path.{◌≡◌, refl, sym, ap, ◌∙◌}
use Prim.Native.Nat.{ℕ, zero, suc, ◌+◌, ◌-◌, ◌/◌, ◌%◌, ◌^◌, ◌≤◌}
use native.Mathlib.Nat.{zero-add, suc-add, pow-zero, pow-suc, div-one, div-div-eq-div-mul, mul_comm}
use native.Mathlib.Omega.{arith}
use lib.ListN.{length}
use lib.Pow.{pow-add}
use Rattle.rules.proofs.Spelling.{length_spell}
use Rattle.rules.specs.Motif.{spell}
use Rattle.rules.specs.Profile.{profile_of, base_of}
use Rattle.rules.specs.Sound.{SoundTemplate}
use Rattle.rules.specs.Support.{parts_in}
use Rattle.rules.specs.Template.{Reading, size, components, deal}
use Rattle.rules.specs.declared.Component.{Component}
use Rattle.rules.specs.declared.Template.{Template}
use Rattle.rows.specs.Flags.{reached, last_by, last_starts, has_left}
use Rattle.matching.specs.Path.{prefix_starts}
use Rattle.rows.specs.NextLetter.{letters_before, At, before_letter}
use Rattle.rows.proofs.Dark.{kept_dark, reached_dark}
use Rattle.matching.proofs.Extend.{letter_at}
use Rattle.matching.proofs.Steps.{more}

-- ---- the letters of a number, its first and its last

pub spell_split : (base a b m : ℕ) → spell base (a + b) m ≡ spell base a (m / base ^ b) ++ spell base b m
unfolding spell
spell_split base zero b m = rw zero-add
spell_split base (suc a) b m =
    let e : m / base ^ b / base ^ a ≡ m / base ^ (a + b) = div-div-eq-div-mul m (base ^ b) (base ^ a) ∙ rw (mul_comm (base ^ b) (base ^ a), ← (pow-add base a b)) in
    rw (suc-add, e, spell_split base a b m)

-- ---- one letter

-- what a letter is added to has no flag where the prefix has none
before_dark : (R : Reading) (cs : List Component) (k i : ℕ) (w s : List ℕ) → At cs (length w) k i → has_left (last_starts (deal R 0 cs w) s) ≡ false → has_left (before_letter reached R cs k i w s) ≡ false
unfolding before_letter last_by letters_before deal
before_dark R cs k (suc i) w s a e = e
before_dark R cs (suc k) zero w s a e = reached_dark (last_starts (deal R 0 cs w) s) e _ _
before_dark R [] zero zero w s a e = e
before_dark R (c ∷ cs) zero zero [] s a e = e
before_dark R (c ∷ cs) zero zero (x ∷ w) s a e = absurd (omega (arith, a.counted))

module _ (t : Template) (sound : SoundTemplate t) (s : List ℕ) where
  letter_dark : (j m : ℕ) → suc j ≤ size t → has_left (prefix_starts t j (m / base_of t) s) ≡ false → has_left (prefix_starts t (suc j) m s) ≡ false
  unfolding parts_in
  letter_dark j m h e =
      let o = letter_at t j (omega arith) in
      let z : suc j - 1 ≡ j = omega arith in
      let w = spell (base_of t) j (m / base_of t) in
      let a : At (components t) (length w) o.component o.letter = rw (length_spell (base_of t) j (m / base_of t)) o.at in
      sym (ap has_left (more t sound (suc j) m o.component o.letter (omega arith) (rw z o.at) reached s))
      ∙ kept_dark _ (rw z (before_dark (profile_of t).reading (components t) o.component o.letter w s a e)) (profile_of t).reading.fits (m % base_of t) o.letter s

  letter_less : (j m : ℕ) → suc j ≤ size t → has_left (prefix_starts t (suc j) m s) ≡ true → has_left (prefix_starts t j (m / base_of t) s) ≡ true
  letter_less j m h e = go (has_left (prefix_starts t j (m / base_of t) s)) refl
    where
      go : (b : Bool) → has_left (prefix_starts t j (m / base_of t) s) ≡ b → has_left (prefix_starts t j (m / base_of t) s) ≡ true
      go true f = f
      go false f = absurd (false≢true (sym (letter_dark j m h f) ∙ e))

  -- THE LAW. d letters less
  pub left_shorter : (j d m : ℕ) → j + d ≤ size t → has_left (prefix_starts t (j + d) m s) ≡ true → has_left (prefix_starts t j (m / base_of t ^ d) s) ≡ true
  left_shorter j zero m h e =
      let z : j + 0 ≡ j = omega arith in
      let o : m / base_of t ^ 0 ≡ m = rw pow-zero (div-one m) in
      rw o (rw z at e)
  left_shorter j (suc d) m h e =
      let z : j + suc d ≡ suc (j + d) = omega arith in
      let o : m / base_of t / base_of t ^ d ≡ m / base_of t ^ suc d = div-div-eq-div-mul m (base_of t) (base_of t ^ d) ∙ rw (pow-suc (base_of t) d, mul_comm (base_of t ^ d) (base_of t)) in
      rw o at (left_shorter j d (m / base_of t) (omega arith) (letter_less (j + d) m (omega arith) (rw z at e)))
