-- The sequences in which a flag is left are as many as the support.
use mathlib.Core.List.{List, [], ◌∷◌, map}
use mathlib.Core.Path.{◌≡◌, refl, ap}
use Prim.Native.Nat.{ℕ, ◌≤◌}
use lib.ListN.{length, drop}
use Rattle.rules.specs.Lists.{keep, has_some}
use Rattle.rules.specs.Motif.{spell}
use Rattle.rules.specs.Occurrence.{occurrences}
use Rattle.rules.specs.Profile.{profile_of, base_of}
use Rattle.rules.specs.Sound.{SoundTemplate}
use Rattle.rules.specs.Support.{marks, support, parts, parts_in}
use Rattle.rules.specs.Template.{Reading, components, deal}
use Rattle.rules.specs.declared.Component.{Component}
use Rattle.rules.specs.declared.Template.{Template}
use Rattle.rules.proofs.EachKind.{kind_tight}
use Rattle.rules.proofs.Occurs.{parts_worded, parts_some}
use Rattle.rows.specs.Flags.{has_left}
use Rattle.matching.specs.Path.{prefix_starts}
use Rattle.rows.proofs.CountsAddUp.{Tight, left_occurs}

deal_tight : (R : Reading) → ((c : Component) → R.slack c ≡ 0) → (n : ℕ) (cs : List Component) (w : List ℕ) → Tight (deal R n cs w)
unfolding deal
deal_tight R h n [] w = tt
deal_tight R h n (c ∷ cs) [] = tt
deal_tight R h n (c ∷ cs) (x ∷ w) = (h c, deal_tight R h c.length cs (drop c.length (x ∷ w)))

-- no letter of a motif may fail to fit, of whichever kind a search is
pub parts_tight : (t : Template) (j m : ℕ) → Tight (parts t j m)
unfolding parts_in
parts_tight t j m = deal_tight (profile_of t).reading (kind_tight t.profile) 0 (components t) (spell (base_of t) j m)

-- a flag is left in as many sequences as a prefix occurs in
pub left_support : (t : Template) → SoundTemplate t → (j m : ℕ) → 1 ≤ j → (ss : List (List ℕ))
    → length (keep (λ b. b) (map (λ s. has_left (prefix_starts t j m s)) ss)) ≡ support (parts t j m) ss
unfolding support marks
left_support t sound j m h ss = ap (λ bs. length (keep (λ b. b) bs)) (each ss)
  where
    each : (ss : List (List ℕ)) → map (λ s. has_left (prefix_starts t j m s)) ss ≡ map (λ s. has_some (occurrences (parts t j m) s)) ss
    each [] = refl
    each (s ∷ ss) = rw (left_occurs (parts t j m) s (parts_worded t sound j m) (parts_tight t j m) (parts_some t sound j m h), each ss)
