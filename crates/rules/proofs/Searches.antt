-- The walk of every search, whatever its template asks for: it is lawful, and its list is what the quorum asks.
use mathlib.Core.Path.{◌≡◌, ap}
use mathlib.Core.Logic.Iff
use mathlib.Core.Logic.{◌↔◌}
use mathlib.Core.Bool.{true}
use mathlib.Core.List.{List, Memᴰ}
use Prim.Native.Nat.{ℕ, ◌≤◌}
use native.Mathlib.Omega.{arith}
use Rattle.rules.specs.Order.{Rising}
use Rattle.rules.specs.Profile.{Proper, profile_of}
use Rattle.rules.specs.Refused.{Spells}
use Rattle.rules.specs.Relay.{frequent_motifs}
use Rattle.rules.specs.Sound.{SoundTemplate}
use Rattle.rules.specs.Support.{support, counted, valid, parts}
use Rattle.rules.specs.Template.{size}
use Rattle.rules.specs.Walk.{walk_in, Lawful, walk_over}
use Rattle.rules.specs.declared.Template.{Template}
use Rattle.rules.proofs.EachKind.{kind_proper, kind_counts}
use Rattle.rules.proofs.Profiles.{lawful_in}
use Rattle.rules.proofs.Spells.{valid_says}
use Rattle.rules.proofs.WalkDemands.{motifs_rise, profile_demands}

-- THE PROFILE of every template is proper
pub profile_proper : (t : Template) → Proper (profile_of t)
profile_proper t = kind_proper t.profile

module _ (t : Template) (quorum : ℕ) (ss : List (List ℕ)) where
  pub walk_pos : 1 ≤ (walk_over t quorum ss).base
  unfolding walk_in
  walk_pos = (profile_proper t).pos

  -- the list is in letter order
  pub list_rises : Rising (frequent_motifs t quorum ss)
  unfolding frequent_motifs
  list_rises = motifs_rise (walk_over t quorum ss)

  module _ (sound : SoundTemplate t) where
    pub walk_lawful : Lawful (walk_over t quorum ss)
    walk_lawful = lawful_in (profile_of t) (profile_proper t) t quorum ss sound

    -- and holds exactly the motifs of which enough is counted
    pub list_holds : (m : ℕ) → Memᴰ m (frequent_motifs t quorum ss)
        ↔ ((valid t (size t) m ≡ true) × (quorum ≤ counted (profile_of t).basis (parts t (size t) m) ss))
    unfolding frequent_motifs
    list_holds = (profile_demands (profile_of t) (profile_proper t) t sound quorum ss).list

    -- which are those of K allowed letters whose support reaches the quorum
    pub list_spells : (m : ℕ) → Memᴰ m (frequent_motifs t quorum ss) ↔ (Spells t (size t) m × (quorum ≤ support (parts t (size t) m) ss))
    list_spells m =
        let v = valid_says t (size t) m in
        let c = ap (λ a. counted a (parts t (size t) m) ss) (kind_counts t.profile) in
        Iff.trans (list_holds m) (λ h. (v.0 h.0, omega (arith, h.1, c)), λ h. (v.1 h.0, omega (arith, h.1, c)))
