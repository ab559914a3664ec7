-- The place of a search that the checks accept is one that the uninterrupted search passes through; and at each such place
-- the same search is accepted.
use mathlib.Core.Path.{◌≡◌}
use mathlib.Core.Logic.{◌⊎◌, inl, inr}
use mathlib.Core.Bool.{true, ◌&&◌}
use mathlib.Core.List.{List}
use Prim.Native.Nat.{ℕ, ◌≤◌}
use native.Mathlib.Nat.{pow-zero}
use native.Mathlib.Omega.{arith}
use lib.Dec.{eqb}
use borrow.Author.Tests.{eqb-true, leb-true, ltb-true, le-leb, lt-ltb}
use Rattle.rules.specs.Calls.{moved}
use Rattle.rules.specs.Refusals.{is_passing}
use Rattle.rules.specs.Saved.{meets_place_rule}
use Rattle.rules.specs.Motif.{spell}
use Rattle.rules.specs.Sequences.{sequences}
use Rattle.rules.specs.Sound.{SoundTemplate}
use Rattle.rules.specs.Support.{allowed_in}
use Rattle.rules.specs.Template.{size}
use Rattle.rules.specs.Walk.{ended_place, walk_in, walk_over, walk_of, candidate, Passing}
use Rattle.rules.specs.declared.Place.{Place}
use Rattle.rules.specs.declared.Search.{Search}
use Rattle.rules.specs.declared.Template.{Template}
use Rattle.rules.proofs.Candidates.{candidate_may}
use Rattle.rules.proofs.Profiles.{allowed_nil}
use Rattle.rules.proofs.Searches.{walk_lawful}
use Rattle.rules.proofs.Sound.{SoundSearch}
use Rattle.rules.proofs.Tests.{both, or_cases, or_true}

-- places of as many letters with the same number are one
pub same_place : (p q : Place) → p.letters ≡ q.letters → p.number ≡ q.number → p ≡ q
same_place p q a b = λ i. record { letters = a i; number = b i }

-- the place rule holds wherever the search passes
pub passing_rule : (t : Template) (quorum : ℕ) (ss : List (List ℕ)) → SoundTemplate t → (p : Place) → Passing (walk_over t quorum ss) p → meets_place_rule t p ≡ true
unfolding meets_place_rule walk_in allowed_in spell
passing_rule t quorum ss o p (inl e) = rw (e, le-leb 0 (size t) (omega arith), pow-zero, allowed_nil)
passing_rule t quorum ss o p (inr c) = (both _ _).1 (le-leb p.letters (size t) c.most, (both _ _).1 (lt-ltb p.number _ c.below, candidate_may (walk_over t quorum ss) (walk_lawful t quorum ss o) p c))

module _ (letters lengths : List ℕ) (s : Search) where
  -- so does the test of 13
  pub passing_passes : (p : Place) → Passing (walk_of letters lengths s) p → is_passing letters lengths (moved s p) ≡ true
  unfolding is_passing
  passing_passes p (inl e) = rw e
  passing_passes p (inr c) = rw c.is (or_true (eqb p.letters 0 && eqb p.number 0))

  -- an accepted search stands where the uninterrupted one passes
  pub sound_passing : SoundSearch letters lengths s → Passing (walk_of letters lengths s) s.place
  unfolding is_passing meets_place_rule walk_in
  sound_passing o = go (or_cases _ _ o.passes)
    where
      go : (eqb s.place.letters 0 && eqb s.place.number 0 ≡ true) ⊎ (candidate (walk_of letters lengths s) s.place.letters s.place.number ≡ true) → Passing (walk_of letters lengths s) s.place
      go (inl e) = let h = (both _ _).0 e in inl (same_place s.place ended_place (eqb-true _ 0 h.0) (eqb-true _ 0 h.1))
      go (inr e) = let h = (both _ _).0 o.place in inr (record { most = leb-true _ _ h.0; below = ltb-true _ _ ((both _ _).0 h.1).0; is = e })

  -- and wherever that passes the search is accepted
  pub moved_sound : SoundSearch letters lengths s → (p : Place) → Passing (walk_of letters lengths s) p → SoundSearch letters lengths (moved s p)
  moved_sound o p c =
      record {
        set = o.set;
        template = o.template;
        place = passing_rule s.template s.quorum (sequences letters lengths) o.template p c;
        count = o.count;
        total = o.total;
        some = o.some;
        most = o.most;
        passes = passing_passes p c;
      }

  -- its place has at most K letters
  pub place_deep : SoundSearch letters lengths s → s.place.letters ≤ (walk_of letters lengths s).depth
  unfolding meets_place_rule walk_in
  place_deep o = leb-true _ _ ((both _ _).0 o.place).0
