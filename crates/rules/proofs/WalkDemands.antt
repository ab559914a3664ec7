-- DEMANDS 2 AND 3 OF EVERY WALK that is lawful (specs/WalkDemands.antt), proved once; and so of every kind of search, by its profile.
use mathlib.Core.Path.{◌≡◌, refl, subst}
use mathlib.Core.Logic.{◌↔◌}
use mathlib.Core.Bool.{true}
use mathlib.Core.List.{List, Memᴰ}
use Prim.Native.Nat.{ℕ, zero, suc, ◌/◌, ◌^◌, ◌≤◌, ◌<◌}
use native.Mathlib.Omega.{arith}
use lib.Dec.{ltb, eqb}
use borrow.Author.Tests.{leb-true, le-leb, eqb-true, ltb-true, lt-ltb}
use Rattle.rules.specs.Order.{Rising}
use Rattle.rules.specs.Profile.{Profile, Proper, exactly, mixed, repeated, substituted}
use Rattle.rules.specs.Sound.{SoundTemplate}
use Rattle.rules.specs.Support.{counted, allowed_in, valid_in, parts_in}
use Rattle.rules.specs.Template.{size}
use Rattle.rules.specs.Walk.{walk_in, Walk, Lawful, motif, spelled, candidate, motifs, Candidate}
use Rattle.rules.specs.WalkDemands.{WalkDemands, ProfileDemands, EveryKind}
use Rattle.rules.specs.declared.Place.{Place}
use Rattle.rules.specs.declared.Template.{Template}
use Rattle.rules.proofs.Legs.{leg_law}
use Rattle.rules.proofs.Members.{keep_run_in, keep_run_out}
use Rattle.rules.proofs.OccurrenceOrder.{keep_run_rising}
use Rattle.rules.proofs.Passing.{passing_leg, passing_lists, passing_from, from_passing}
use Rattle.rules.proofs.Prefix.{size_some}
use Rattle.rules.proofs.Profiles.{lawful_in, spelled_in, good_whole, exactly_proper, mixed_proper, repeated_proper, substituted_proper}
use Rattle.rules.proofs.Relay.{all_listed, all_tried, legs_enough, leg_enough}
use Rattle.rules.proofs.Tests.{both}
use Rattle.rules.proofs.Whole.{lists, tried}

-- the list of any walk
motifs_are : (W : Walk) (m : ℕ) → Memᴰ m (motifs W) ↔ ((m < W.base ^ W.depth) × (spelled W W.depth m ≡ true) × (W.good W.depth m ≡ true))
unfolding motifs
motifs_are W m = (
  λ h. let o = keep_run_out _ 0 (W.base ^ W.depth) m h in (omega (arith, o.1), ((both (spelled W W.depth m) _).0 o.2).0, ((both (spelled W W.depth m) _).0 o.2).1),
  λ h. keep_run_in _ 0 (W.base ^ W.depth) m (omega arith) (omega (arith, h.0)) ((both _ _).1 (h.1, h.2)),
)

pub motifs_rise : (W : Walk) → Rising (motifs W)
unfolding motifs
motifs_rise W = keep_run_rising _ 0 (W.base ^ W.depth)

-- each letter of a candidate is one that may stand there
candidate_spelled : (W : Walk) (j m : ℕ) → candidate W j m ≡ true → spelled W j m ≡ true
unfolding candidate spelled
candidate_spelled W zero m e = refl
candidate_spelled W (suc j) m e =
    let r = (both (W.may (suc j) m) _).0 e in
    (both (W.may (suc j) m) _).1 (r.0, ((both (spelled W j (m / W.base)) _).0 r.1).0)

-- a candidate that is a motif is in the walk's list
candidate_motif : (W : Walk) (q : Place) → Candidate W q → motif W q ≡ true → Memᴰ q.number (motifs W)
unfolding motif
candidate_motif W q c e =
    let h = (both (eqb q.letters W.depth) _).0 e in
    (motifs_are W q.number).1
    (subst (λ j. (q.number < W.base ^ j) × (spelled W j q.number ≡ true) × (W.good j q.number ≡ true)) (eqb-true q.letters W.depth h.0)
    (c.below, candidate_spelled W q.letters q.number c.is, h.1))

pub walk_demands : (W : Walk) → Lawful W → WalkDemands W
walk_demands W L =
    record {
      holds = motifs_are W;
      rises = motifs_rise W;
      lists_it = lists W L;
      steps = tried W L;
      one_leg = leg_enough W L;
      end_to_end = λ gs e. (all_listed W L gs e, all_tried W L gs e);
      ends = legs_enough W L;
      between = leg_law W L.pos;
      through = λ p. (passing_from W L p, from_passing W L p);
      leads = passing_leg W L;
      lists_only = λ b r p c m i. let q = passing_lists W L b r p c m i in rw q.3 (candidate_motif W q.0 q.1 q.2);
    }

-- ---- every kind of search

module _ (P : Profile) (proper : Proper P) (t : Template) (sound : SoundTemplate t) (quorum : ℕ) (ss : List (List ℕ)) where
  -- a whole motif is spelled if its letters are allowed
  spelled_whole : (k m : ℕ) → 1 ≤ k → spelled (walk_in P t quorum ss) k m ≡ allowed_in P t k m
  spelled_whole zero m h = absurd (omega arith)
  spelled_whole (suc k) m h = spelled_in P proper t quorum ss k m

  profile_list : (m : ℕ) → Memᴰ m (motifs (walk_in P t quorum ss)) ↔ ((valid_in P t (size t) m ≡ true) × (quorum ≤ counted P.basis (parts_in P t (size t) m) ss))
  unfolding walk_in
  profile_list m =
      let is = motifs_are (walk_in P t quorum ss) m in
      let s = spelled_whole (size t) m (size_some t sound) in
      let g = good_whole P t sound quorum ss m in (
        λ h. let o = is.0 h in ((both _ _).1 (lt-ltb m _ o.0, rw s at o.1), leb-true quorum _ (rw g at o.2)),
        λ h. let v = (both (ltb m (P.base ^ size t)) _).0 h.0 in is.1 (ltb-true m _ v.0, rw s v.1, rw g (le-leb quorum _ h.1)),
      )

  pub profile_demands : ProfileDemands P t quorum ss
  profile_demands = record { walk = walk_demands (walk_in P t quorum ss) (lawful_in P proper t quorum ss sound); list = profile_list }

pub each_kind : EveryKind
each_kind =
    record {
      exact = profile_demands exactly exactly_proper;
      mixed_letters = λ f. profile_demands (mixed f) (mixed_proper f);
      repeats = profile_demands repeated repeated_proper;
      substitutions = λ f. profile_demands (substituted f) (substituted_proper f);
    }
