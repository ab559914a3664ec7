-- Demands 2 and 3 of a walk, and so of a kind of search, by its profile. proofs/WalkDemands.antt proves them of every walk that is lawful,
-- and of the four kinds of search.
use Rattle.std.specs.Prelude.{◌≡◌, ◌↔◌, ◌⊎◌, true, ℕ, ◌≤◌, ◌<◌, ◌^◌, length}
use mathlib.Core.List.{List, Memᴰ}
use Rattle.rules.specs.Legs.{Grant, AmpleGrants, leg, legs, Passed}
use Rattle.rules.specs.declared.Stop.TheVariants.{Ended}
use Rattle.rules.specs.Order.{Rising}
use Rattle.rules.specs.Profile.{Profile, exactly, mixed, repeated, substituted}
use Rattle.rules.specs.Sound.{SoundTemplate}
use Rattle.rules.specs.Support.{counted, parts_in, valid_in}
use Rattle.rules.specs.Template.{size}
use Rattle.rules.specs.Walk.{walk_in, from, start, ended_place, listed, Walk, spelled, motifs, tries, Passing}
use Rattle.rules.specs.declared.Component.{Component}
use Rattle.rules.specs.declared.Place.{Place}
use Rattle.rules.specs.declared.Template.{Template}

-- WHAT IS ASKED OF A WALK
pub record WalkDemands (W : Walk) : Type 0 where
  -- 2: the list holds exactly the good motifs, each once, in letter order; the search lists it in as many steps as there are
  -- candidates; and so does one leg that has budget and room for it
  pub holds : (m : ℕ) → Memᴰ m (motifs W) ↔ ((m < W.base ^ W.depth) × (spelled W W.depth m ≡ true) × (W.good W.depth m ≡ true))
  pub rises : Rising (motifs W)
  pub lists_it : listed W (from W (start W)) ≡ motifs W
  pub steps : length (from W (start W)) ≡ tries W W.depth
  pub one_leg : (b r : ℕ) → tries W W.depth ≤ b → length (motifs W) ≤ r → (leg W b r (start W)).stop ≡ Ended
  -- 3: legs laid end to end are that list once one answers ended; they end; and each passes what lies between its places
  pub end_to_end : (gs : List Grant) → (legs W gs (start W)).stop ≡ Ended → ((legs W gs (start W)).motifs ≡ motifs W) × ((legs W gs (start W)).steps ≡ tries W W.depth)
  pub ends : (gs : List Grant) → AmpleGrants gs → tries W W.depth ≤ length gs → (legs W gs (start W)).stop ≡ Ended
  pub between : (b r : ℕ) (p : Place) → p.letters ≤ W.depth → Passed W p (leg W b r p)
  -- a place that the search passes through is a candidate or the ended place, and a leg leads from one to another
  pub through : (p : Place) → Passing W p ↔ ((p ≡ ended_place) ⊎ Memᴰ p (from W (start W)))
  pub leads : (b r : ℕ) (p : Place) → Passing W p → Passing W (leg W b r p).at
  -- from such a place every leg, ended or not, lists good motifs alone
  pub lists_only : (b r : ℕ) (p : Place) → Passing W p → (m : ℕ) → Memᴰ m (leg W b r p).motifs → Memᴰ m (motifs W)

-- WHAT IS ASKED OF A SEARCH OF A PROFILE: of its walk; and its list holds exactly the motifs, by their numbers, of which as much is
-- counted as the quorum asks
pub record ProfileDemands (P : Profile) (t : Template) (quorum : ℕ) (ss : List (List ℕ)) : Type 0 where
  pub walk : WalkDemands (walk_in P t quorum ss)
  pub list : (m : ℕ) → Memᴰ m (motifs (walk_in P t quorum ss)) ↔ ((valid_in P t (size t) m ≡ true) × (quorum ≤ counted P.basis (parts_in P t (size t) m) ss))

-- EVERY KIND OF SEARCH keeps these: exact, of mixed letters, of repeats and of substitutions, whatever number f allows a component
pub record EveryKind : Type 0 where
  pub exact : (t : Template) → SoundTemplate t → (quorum : ℕ) (ss : List (List ℕ)) → ProfileDemands exactly t quorum ss
  pub mixed_letters : (f : Component → ℕ) (t : Template) → SoundTemplate t → (quorum : ℕ) (ss : List (List ℕ)) → ProfileDemands (mixed f) t quorum ss
  pub repeats : (t : Template) → SoundTemplate t → (quorum : ℕ) (ss : List (List ℕ)) → ProfileDemands repeated t quorum ss
  pub substitutions : (f : Component → ℕ) (t : Template) → SoundTemplate t → (quorum : ℕ) (ss : List (List ℕ)) → ProfileDemands (substituted f) t quorum ss
