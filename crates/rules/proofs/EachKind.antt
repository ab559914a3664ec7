-- What holds of every kind of search that a template can ask for, by looking at each: no letter may fail to fit, and sequences are
-- counted.
use mathlib.Core.Path.{◌≡◌, refl, ap}
use Prim.Native.Nat.{ℕ, zero, suc, ◌≤◌}
use native.Mathlib.Omega.{arith}
use mathlib.Core.List.{List}
use lib.Dec.{leb}
use Rattle.rules.specs.Motif.{spell}
use Rattle.rules.specs.Profile.{by-sequence, Proper, to_come, exactly, mixed, profile_by, base_of}
use Rattle.rules.specs.Support.{support, counted_with, parts, frequent, reaches, measure}
use Rattle.rules.specs.Template.{components}
use Rattle.rules.specs.declared.Component.{Component}
use Rattle.rules.specs.declared.Profile as declared
use Rattle.rules.specs.declared.Profile.TheVariants.{Exact, Mixed}
use Rattle.rules.specs.declared.Template.{Template}
use Rattle.rules.proofs.Profiles.{exactly_proper, mixed_proper}

pub kind_proper : (p : declared.Profile) → Proper (profile_by p)
unfolding profile_by
kind_proper Exact = exactly_proper
kind_proper Mixed = mixed_proper (λ c. c.allowance)

-- every letter must fit
pub kind_tight : (p : declared.Profile) (c : Component) → (profile_by p).reading.slack c ≡ 0
unfolding profile_by exactly mixed
kind_tight Exact c = refl
kind_tight Mixed c = refl

pub kind_counts : (p : declared.Profile) → (profile_by p).basis ≡ by-sequence
unfolding profile_by exactly mixed
kind_counts Exact = refl
kind_counts Mixed = refl

-- the base is at least 4 and at most 16, and a number below the base to the power of a motif's letters fits 64 bits
pub base_least : (t : Template) → 4 ≤ base_of t
unfolding profile_by exactly mixed
base_least t = go t.profile
  where
    go : (p : declared.Profile) → 4 ≤ (profile_by p).base
    go Exact = omega arith
    go Mixed = omega arith

pub base_most : (t : Template) → base_of t ≤ 16
unfolding profile_by exactly mixed
base_most t = go t.profile
  where
    go : (p : declared.Profile) → (profile_by p).base ≤ 16
    go Exact = omega arith
    go Mixed = omega arith

-- a prefix with a letter is frequent by its support
pub frequent_support : (t : Template) (quorum : ℕ) (ss : List (List ℕ)) (j m : ℕ) → 1 ≤ j → frequent t quorum ss j m ≡ leb quorum (support (parts t j m) ss)
unfolding reaches measure
frequent_support t quorum ss zero m h = absurd (omega arith)
frequent_support t quorum ss (suc j) m h = ap (λ a. leb quorum (counted_with a (parts t (suc j) m) (to_come (components t) (spell (base_of t) (suc j) m)) ss)) (kind_counts t.profile)
