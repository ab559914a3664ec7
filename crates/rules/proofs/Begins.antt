-- What a new search that is accepted gives: a search that stands at the first candidate, that every later call accepts, and
-- whose template reads as the one given.
use mathlib.Core.Path.{◌≡◌, refl}
use mathlib.Core.Logic.{inr}
use mathlib.Core.List.{List, [], ◌∷◌}
use Prim.Native.Nat.{ℕ}
use Rattle.rules.specs.Calls.{begun, begin_rule}
use Rattle.rules.specs.Refusals.{first, new_checks}
use Rattle.rules.specs.Relay.{Lent, Roomy}
use Rattle.rules.specs.Sequences.{sequences}
use Rattle.rules.specs.Sound.{SoundTemplate}
use Rattle.rules.specs.Template.{trimmed}
use Rattle.rules.specs.Told.{gives}
use Rattle.rules.specs.Walk.{walk_over, walk_of, first_place}
use Rattle.rules.specs.declared.Search.{Search}
use Rattle.rules.specs.declared.Template.{Template}
use Rattle.rules.proofs.Candidates.{first_candidate}
use Rattle.rules.proofs.Places.{passing_rule, passing_passes}
use Rattle.rules.proofs.Searches.{walk_lawful}
use Rattle.rules.proofs.Saves.{unless_gives}
use Rattle.rules.proofs.Sound.{SoundNew, SoundSearch, new_sound}
use Rattle.rules.proofs.Trimmed.{trimmed_twice, trimmed_sound, walk_trimmed}

-- buffers with room for a search's save have room for that of the search that is trimmed
roomy_trimmed : (t : Template) (gs : List Lent) → Roomy t gs → Roomy (trimmed t) gs
unfolding trimmed
roomy_trimmed t [] h = tt
roomy_trimmed t (g ∷ gs) h = (h.0, roomy_trimmed t gs h.1)

-- what begins
pub record Beginning (letters lengths : List ℕ) (t : Template) (quorum : ℕ) (s : Search) : Type 0 where
  pub is : s ≡ begun letters lengths t quorum
  pub sound : SoundSearch letters lengths s
  pub trim : trimmed s.template ≡ s.template
  pub at : s.place ≡ first_place
  pub walk : walk_of letters lengths s ≡ walk_over t quorum (sequences letters lengths)
  pub template : SoundTemplate t
  pub roomy : (gs : List Lent) → Roomy t gs → Roomy s.template gs

module _ (letters lengths : List ℕ) (t : Template) (quorum : ℕ) where
  begun_sound : SoundNew letters lengths t quorum → SoundSearch letters lengths (begun letters lengths t quorum)
  unfolding begun
  begun_sound o =
      let k = trimmed_sound t o.template in
      let ss = sequences letters lengths in
      let p = inr (first_candidate (walk_over (trimmed t) quorum ss) (walk_lawful (trimmed t) quorum ss k)) in
      record {
        set = o.set;
        template = k;
        place = passing_rule (trimmed t) quorum ss k first_place p;
        count = refl;
        total = refl;
        some = o.some;
        most = o.most;
        passes = passing_passes letters lengths (begun letters lengths t quorum) first_place p;
      }

  pub begins : (s : Search) → begin_rule letters lengths t quorum ≡ gives s → Beginning letters lengths t quorum s
  unfolding begin_rule begun
  begins s e =
      let u = unless_gives (first (new_checks letters lengths t quorum)) (begun letters lengths t quorum) s e in
      let o = new_sound letters lengths t quorum u.0 in
      rw u.1 (the o)
    where
      the : SoundNew letters lengths t quorum → Beginning letters lengths t quorum (begun letters lengths t quorum)
      the o =
          record {
            is = refl;
            sound = begun_sound o;
            trim = trimmed_twice t;
            at = refl;
            walk = walk_trimmed t quorum (sequences letters lengths);
            template = o.template;
            roomy = roomy_trimmed t;
          }
