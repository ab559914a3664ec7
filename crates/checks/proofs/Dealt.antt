-- The letters of a number, dealt out to the components in turn: each gets the first of those that are left, as many as it has, and the
-- others stay the letters of the same number. The last letters are looked at one by one, from the end.
use mathlib.Core.Bool.{Bool, true, ◌&&◌, and_assoc, and_comm}
use mathlib.Core.List.{List, [], ◌∷◌}
use mathlib.Core.Path.{◌≡◌, ◌∙◌, refl, sym, ap}
use Prim.Native.Nat.{ℕ, zero, suc, ◌+◌, ◌-◌, ◌/◌, ◌%◌, ◌^◌, ◌≤◌, ◌<◌, min}
use native.Mathlib.Nat.{zero-min, min-zero, suc-min-suc, sub-zero, suc-sub-suc, div-div-eq-div-mul}
use native.Mathlib.Numerals.{add-one}
use native.Mathlib.Omega.{arith}
use lib.ListN.{length, take, drop, get_or, drop_of_length-le}
use lib.Pow.{pow-add}
use lib.Seq.{drop-cons}
use Rattle.rules.specs.Limits.{template_components}
use Rattle.rules.specs.Lists.{all_pass}
use Rattle.rules.specs.Motif.{spell}
use Rattle.rules.specs.Profile.{allowed, profile_by, profile_of}
use Rattle.rules.specs.Support.{allowed_in}
use Rattle.rules.specs.Template.{slots}
use Rattle.rules.specs.declared.Component.{Component}
use Rattle.rules.specs.declared.Profile as declared
use Rattle.rules.specs.declared.Template.{Template}
use Rattle.rules.proofs.EachKind.{kind_proper}
use Rattle.rules.proofs.Profiles.{allowed_nil}
use Rattle.rules.proofs.Tests.{and_true}
use Rattle.checks.proofs.Laws.{held_slots}

-- ONE BY ONE. A letter more, before the last i
pub all_more : (base m i : ℕ) {rest : ℕ} → rest ≡ m / base ^ i → (f : ℕ → Bool) {all : Bool} → all ≡ all_pass f (spell base i m) → all && f (rest % base) ≡ all_pass f (spell base (i + 1) m)
unfolding all_pass spell
all_more base m i e f h = rw (e, h, add-one) (and_comm (all_pass f (spell base i m)) _)

-- IN TURN. The first n letters of j, or all of them if there are fewer; and the others
module _ (base m : ℕ) where
  first_letters : (n j : ℕ) → take n (spell base j m) ≡ spell base (min n j) (m / base ^ (j - min n j))
  unfolding spell
  first_letters zero j = rw zero-min
  first_letters (suc n) zero = rw min-zero
  first_letters (suc n) (suc j) =
      let k : j - min n j + min n j ≡ j = omega arith in
      rw (suc-min-suc, suc-sub-suc, div-div-eq-div-mul, ← pow-add, k, first_letters n j)

  other_letters : (n j : ℕ) → drop n (spell base j m) ≡ spell base (j - min n j) m
  unfolding spell
  other_letters zero j = rw (zero-min, sub-zero)
  other_letters (suc n) zero = rw min-zero
  other_letters (suc n) (suc j) = rw (suc-min-suc, suc-sub-suc) (other_letters n j)

-- some letters are allowed if the first component allows its own, and the others theirs
module _ (f : Component → List ℕ → Bool) (none : (c : Component) → f c [] ≡ true) (base m : ℕ) where
  dealt : (c : Component) (cs : List Component) (left : ℕ) {n : ℕ} → n ≡ min c.length left
      → allowed f (c ∷ cs) (spell base left m) ≡ f c (spell base n (m / base ^ (left - n))) && allowed f cs (spell base (left - n) m)
  unfolding allowed spell
  dealt c cs zero e = rw (e, min-zero, none c, allowed_nil f cs)
  dealt c cs (suc j) e = rw (e, ← first_letters base m c.length (suc j), ← other_letters base m c.length (suc j))

-- how far the dealing is: c of the components have been given their letters, which are allowed or not, and so many are left
pub record Given (p : declared.Profile) (number letters : ℕ) (cs : List Component) (left : ℕ) (all : Bool) (c : ℕ) : Type 0 where
  pub rest : allowed (profile_by p).allows cs (spell (profile_by p).base letters number) ≡ all && allowed (profile_by p).allows (drop c cs) (spell (profile_by p).base left number)

pub none_given : (p : declared.Profile) (number letters : ℕ) (cs : List Component) → Given p number letters cs letters true 0
none_given p number letters cs = record { rest = refl }

pub one_given : (p : declared.Profile) (number letters : ℕ) (d : Component) {cs : List Component} {left : ℕ} {all : Bool} {c n word : ℕ} {ok : Bool}
    → Given p number letters cs left all c → c < length cs → n ≡ min (get_or cs c d).length left → word ≡ number / (profile_by p).base ^ (left - n)
    → ok ≡ (profile_by p).allows (get_or cs c d) (spell (profile_by p).base n word)
    → Given p number letters cs (left - n) (all && ok) (c + 1)
one_given p number letters d {cs} {left} {all} {c} g l en ew eo = record {
  rest =
      g.rest ∙ rw (drop-cons cs c d l, eo, ew, add-one, and_assoc)
      (ap (λ b. all && b) (dealt (profile_by p).allows (kind_proper p).none (profile_by p).base number (get_or cs c d) _ left en));
}

module _ (t : Template) {cs : List Component} {h : ℕ} (s : cs ≡ slots t) (e : h ≡ min t.count template_components) (number letters : ℕ) where
  pub all_given : {left : ℕ} {all : Bool} {c : ℕ} → Given t.profile number letters (take h cs) left all c → length (take h cs) ≤ c → all ≡ allowed_in (profile_of t) t letters number
  unfolding allowed_in allowed
  all_given {left} {all} {c} g l =
      sym (rw (drop_of_length-le (take h cs) {i = c} l, and_true, held_slots t s e) at g.rest)
