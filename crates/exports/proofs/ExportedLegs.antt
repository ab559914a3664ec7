-- The legs of the exported calls are those of `relay`, the relay of the calls behind them, in which each leg is lent a buffer as long
-- as the bytes: both restore what the leg before left. So what demand 3 says of a relay holds of them.
use mathlib.Core.Path.{◌≡◌, refl, sym, ap, ◌∙◌}
use mathlib.Core.Bool.{Bool, true, false, false≢true}
use mathlib.Core.List.{List, [], ◌∷◌, ◌++◌, map, append-nil}
use Prim.Native.Nat.{ℕ, ◌+◌, ◌≤◌, min}
use native.Mathlib.Omega.{arith}
use lib.Dec.{eqb}
use lib.ListN.{length, take, length-map}
use borrow.Author.Tests.{eqb-true, eqb-false}
use Rattle.rules.specs.Calls.{begun, stretch, begin_rule, LegRule, leg_rule, save_rule, restore_rule}
use Rattle.rules.specs.Legs.{is_ended, leg}
use Rattle.rules.specs.declared.Stop.{Stop}
use Rattle.rules.specs.declared.Stop.TheVariants.{Ended, Spent, Full}
use Rattle.rules.specs.Lists.{if, each, sum}
use Rattle.rules.specs.Refusals.{first, check17, new_checks, search_checks, save_checks}
use Rattle.rules.specs.Relay.{whole_steps, Lent, Roomy, Ample, Relayed, stand, followed, relay}
use Rattle.rules.specs.Saved.{bytes}
use Rattle.rules.specs.Sequences.{sequences}
use Rattle.rules.specs.Template.{trimmed}
use Rattle.rules.specs.Told.{fine, gives}
use Rattle.rules.specs.Walk.{walk_of}
use Rattle.rules.specs.declared.Search.{Search}
use Rattle.rules.specs.declared.Template.{Template}
use Rattle.rules.proofs.Begins.{Beginning, begins}
use Rattle.rules.proofs.Demands.{demand3}
use Rattle.rules.proofs.Legs.{leg_law}
use Rattle.rules.proofs.Places.{place_deep}
use Rattle.rules.proofs.Records.{bytes_counted}
use Rattle.rules.proofs.Saves.{restore_saved, restored_passes}
use Rattle.rules.proofs.Searches.{walk_lawful}
use Rattle.rules.proofs.Sound.{search_sound, search_fine, save_fine}
use Rattle.rules.proofs.Tables.{put_front}
use Rattle.rules.proofs.Trimmed.{trimmed_same}
use Rattle.rules.proofs.Verdicts.{first_cons, first_both}
use Rattle.exports.specs.Exported.{LegOutcome, leg_of, leg_from, leg_outcome, begin_outcome, profile_check}
use Rattle.exports.specs.ExportedLegs.{Asked, LegLent, AmpleLegs, legs_run, one_ended, NoneRefused, steps_in, rows_in, begin_asked, legs_asked, template_asked, Brought, ExportedLegs}
use Rattle.exports.specs.Numbers.{stop_number, stopped_answer, leg_told, count_told}
use Rattle.exports.proofs.Resaved.{after_sound, after_long}
use Rattle.exports.proofs.MadeOfTwo.{checked_saves, leg_restores}
use Rattle.exports.proofs.Zero.{begin_zero}

-- LEGS BESIDE A RELAY that starts at a place of k letters: the same steps and rows, and where one ends so does the other
record Same (k : ℕ) (os : List LegOutcome) (r : Relayed) : Type 0 where
  answered : NoneRefused os
  steps_are : steps_in os ≡ r.steps
  motifs_are : rows_in (λ o. o.motifs) os ≡ r.motifs
  supports_are : rows_in (λ o. o.supports) os ≡ r.supports
  weights_are : rows_in (λ o. o.weights) os ≡ r.weights
  ended_too : one_ended os ≡ true → r.answer ≡ gives Ended
  ends_too : (k ≡ 0 → ⊥) → r.answer ≡ gives Ended → one_ended os ≡ true

-- what says that it ended, did
gives_ended : (st : Stop) → gives st ≡ gives Ended → is_ended st ≡ true
gives_ended st e = let q : st ≡ Ended = cc in rw q

same_as : {k : ℕ} {os ps : List LegOutcome} {r u : Relayed} → os ≡ ps → r ≡ u → Same k ps u → Same k os r
same_as e f m = rw (e, f) m

-- no leg: a search has not ended if its place has letters
still_there : (k : ℕ) → (k ≡ 0 → ⊥) → gives (if (eqb k 0) Ended Spent) ≡ gives Ended → ⊥
still_there k z = go (eqb k 0) refl
  where
    go : (b : Bool) → eqb k 0 ≡ b → gives (if b Ended Spent) ≡ gives Ended → ⊥
    go true e q = z (eqb-true k 0 e)
    go false e q = false≢true (gives_ended Spent q)

same_none : (s : Search) → Same s.place.letters [] (stand s)
unfolding steps_in rows_in one_ended each sum
same_none s =
    record {
      answered = tt;
      steps_are = refl;
      motifs_are = refl;
      supports_are = refl;
      weights_are = refl;
      ended_too = λ h. absurd (false≢true h);
      ends_too = λ z q. absurd (still_there s.place.letters z q);
    }

-- a leg that stops so, with its steps and its rows of three tables; and what is run after it
module _ (steps rows : ℕ) (saved motifs supports weights : List ℕ) where
  abbrev exported : Stop → LegOutcome
  exported st = leg_of (stopped_answer 0 0 (stop_number st) steps rows) saved motifs supports weights

  abbrev inner : Stop → Relayed
  inner st = record { answer = gives st; steps = steps; motifs = take rows motifs; supports = take rows supports; weights = take rows weights }

  module _ (k j : ℕ) (os : List LegOutcome) (r : Relayed) (m : Same j os r) where
    same_more : (st : Stop) → eqb (stop_number st) 1 ≡ false → (j ≡ 0 → ⊥) → Same k (exported st ∷ os) (followed (inner st) r)
    unfolding steps_in rows_in one_ended each sum
    same_more st h z =
        record {
          answered = (refl, m.answered);
          steps_are = ap (λ n. steps + n) m.steps_are;
          motifs_are = ap (λ xs. take rows motifs ++ xs) m.motifs_are;
          supports_are = ap (λ xs. take rows supports ++ xs) m.supports_are;
          weights_are = ap (λ xs. take rows weights ++ xs) m.weights_are;
          ended_too = rw h m.ended_too;
          ends_too = rw h (λ n. m.ends_too z);
        }

    same_on : (st : Stop) → is_ended st ≡ eqb j 0
        → Same k (exported st ∷ if (eqb (stop_number st) 1) [] os) (if (is_ended st) (inner st) (followed (inner st) r))
    unfolding steps_in rows_in one_ended each sum
    same_on Ended e =
        record {
          answered = (refl, tt);
          steps_are = omega arith;
          motifs_are = append-nil (take rows motifs);
          supports_are = append-nil (take rows supports);
          weights_are = append-nil (take rows weights);
          ended_too = λ h. refl;
          ends_too = λ z q. refl;
        }
    same_on Spent e = same_more Spent refl (eqb-false j 0 (sym e))
    same_on Full e = same_more Full refl (eqb-false j 0 (sym e))

module _ (letters lengths buffer : List ℕ) where
  -- what a leg of the relay is lent
  abbrev lent : LegLent → Lent
  lent g = record { budget = g.budget; motifs = g.motifs; supports = g.supports; weights = g.weights; buffer = buffer }

  -- A LEG on bytes that restore, and that are not longer than the buffer
  module _ (g : LegLent) (bs : List ℕ) (s : Search) (e : restore_rule letters lengths bs ≡ gives s) (h : length bs ≤ length buffer) where
    abbrev rule : LegRule
    rule = leg_rule letters lengths s g.budget g.motifs g.supports g.weights

    abbrev left : Search
    left = rule.told.search

    passes : first (search_checks letters lengths s) ≡ fine
    passes = restored_passes letters lengths bs s e

    -- why it stopped: whether it ended says whether it left a candidate
    stops : (st : Stop) × (rule.told.answer ≡ gives st) × (is_ended st ≡ eqb rule.told.search.place.letters 0)
    unfolding leg_rule stretch
    stops =
        let o = search_sound letters lengths s passes in
        let W = walk_of letters lengths s in
        let room = min (length g.motifs) (min (length g.supports) (length g.weights)) in
        let p = leg_law W (walk_lawful s.template s.quorum (sequences letters lengths) o.template).pos g.budget room s.place (place_deep letters lengths s o) in
        rw passes ((leg W g.budget room s.place).stop, refl, p.says)

    -- the exported call tells the same, and leaves the bytes of the search that it left,
    exported_is : (st : Stop) → rule.told.answer ≡ gives st
        → leg_outcome letters lengths bs g.budget g.motifs g.supports g.weights
        ≡ exported rule.told.steps rule.told.rows (bytes left) rule.motifs rule.supports rule.weights st
    unfolding leg_outcome leg_from leg_told
    exported_is st q = rw (e, q)

    -- which restore to it
    left_long : length (bytes left) ≡ length bs
    left_long = after_long letters lengths s g.budget g.motifs g.supports g.weights bs e

    left_restores : restore_rule letters lengths (bytes left) ≡ gives left
    unfolding leg_outcome leg_from
    left_restores = rw e at (leg_restores letters lengths bs g.budget g.motifs g.supports g.weights s e)

    -- and so does what the relay saves in its buffer
    left_saves : first (save_checks letters lengths left buffer) ≡ fine
    left_saves =
        let o = after_sound letters lengths s g.budget g.motifs g.supports g.weights passes in
        save_fine letters lengths left buffer o (omega (arith, left_long, h))

    relay_is : (gs : List Lent) (st : Stop) → rule.told.answer ≡ gives st
        → let i = inner rule.told.steps rule.told.rows (bytes left) rule.motifs rule.supports rule.weights st in
        relay letters lengths (lent g ∷ gs) s ≡ if (is_ended st) i (followed i (relay letters lengths gs left))
    unfolding relay save_rule
    relay_is gs Ended q = rw q
    relay_is gs Spent q = rw (q, left_saves, put_front (length (bytes left)) (bytes left) buffer refl, left_restores)
    relay_is gs Full q = rw (q, left_saves, put_front (length (bytes left)) (bytes left) buffer refl, left_restores)

  relay_none : (s : Search) → relay letters lengths [] s ≡ stand s
  unfolding relay
  relay_none s = refl

  -- LEGS, from such bytes on
  relays : (gs : List LegLent) (bs : List ℕ) (s : Search) → restore_rule letters lengths bs ≡ gives s → length bs ≤ length buffer
      → Same s.place.letters (legs_run letters lengths gs bs) (relay letters lengths (map lent gs) s)
  unfolding legs_run
  relays [] bs s e h = same_as refl (relay_none s) (same_none s)
  relays (g ∷ gs) bs s e h =
      let x = stops g bs s e h in
      let b = left g bs s e h in
      same_as
      (ap (λ (o : LegOutcome). o ∷ if (eqb o.numbers.stop 1) [] (legs_run letters lengths gs o.saved)) (exported_is g bs s e h x.0 x.1))
      (relay_is g bs s e h (map lent gs) x.0 x.1)
      (same_on _ _ _ _ _ _ s.place.letters b.place.letters _ _ (relays gs (bytes b) b (left_restores g bs s e h) (omega (arith, h, left_long g bs s e h))) x.0 x.2)

-- A BEGIN THAT ANSWERS 0, and legs on what it wrote
module _ (a : Asked) (z : (begin_asked a).numbers.number ≡ 0) where
  open a use {letters, lengths, profile, components, shape, allowances, quorum, room}

  abbrev t : Template
  t = template_asked a

  abbrev s : Search
  s = begun letters lengths t quorum

  -- nothing was refused, so it wrote the bytes of a new search,
  checked : (profile_check letters lengths profile t ≡ fine) × (first (new_checks letters lengths t quorum ++ (check17 (length (bytes s)) room ∷ [])) ≡ fine)
  checked = (first_cons _ _).0 ((begin_zero letters lengths profile components shape allowances quorum room).0 z)

  begins_so : begin_rule letters lengths t quorum ≡ gives s
  unfolding begin_rule
  begins_so = rw ((first_both (new_checks letters lengths t quorum) _).0 checked.1).0

  new : Beginning letters lengths t quorum s
  new = begins letters lengths t quorum s begins_so

  writes : take (begin_asked a).numbers.count (begin_asked a).table ≡ bytes s
  unfolding begin_outcome count_told
  writes =
      rw (checked_saves letters lengths (profile_check letters lengths profile t) t quorum room, checked.0, checked.1)
      (put_front (length (bytes s)) (bytes s) room refl)

  -- which restore to it; a buffer as long as they are has room for each save of the relay
  restores : restore_rule letters lengths (bytes s) ≡ gives s
  restores = restore_saved letters lengths s (search_fine letters lengths s new.sound) ∙ ap gives (trimmed_same s new.trim)

  abbrev lents : List LegLent → List Lent
  lents gs = map (lent letters lengths (bytes s)) gs

  roomy : (gs : List LegLent) → Roomy t (lents gs)
  unfolding begun trimmed
  roomy [] = tt
  roomy (g ∷ gs) = (omega (arith, bytes_counted s new.sound.template.few), roomy gs)

  ample : (gs : List LegLent) → AmpleLegs gs → Ample (lents gs)
  ample [] h = tt
  ample (g ∷ gs) h = (h.0, h.1, h.2, h.3, ample gs h.4)

  module _ (gs : List LegLent) where
    same : Same s.place.letters (legs_asked a gs) (relay letters lengths (lents gs) s)
    same = rw writes (relays letters lengths (bytes s) gs (bytes s) s restores (omega arith))

    brings : one_ended (legs_asked a gs) ≡ true → Brought a (legs_asked a gs)
    brings h =
        let c = demand3.end_to_end letters lengths t quorum s (lents gs) begins_so (same.ended_too h) in
        record {
          motifs_are = same.motifs_are ∙ c.motifs_are;
          supports_are = same.supports_are ∙ c.supports_are;
          weights_are = same.weights_are ∙ c.weights_are;
          steps_are = same.steps_are ∙ c.steps_are;
        }

    comes_to_end : AmpleLegs gs → whole_steps t quorum (sequences letters lengths) ≤ length gs → one_ended (legs_asked a gs) ≡ true
    unfolding begun
    comes_to_end h k =
        same.ends_too (λ q. omega (arith, q))
        (demand3.ends letters lengths t quorum s (lents gs) begins_so (roomy gs) (ample gs h) (omega (arith, k, length-map gs (lent letters lengths (bytes s)))))

pub exported_legs : ExportedLegs
exported_legs = record { end_to_end = λ a gs z. brings a z gs; ends = λ a gs z. comes_to_end a z gs; answers = λ a gs z. (same a z gs).answered }
