-- A new search run in legs, with a save and a restore between them, lists exactly the motifs of its walk: the walk's
-- laws, read of the search that begins.
use mathlib.Core.Path.{◌≡◌, sym, ap, ◌∙◌, fun_ext}
use mathlib.Core.List.{List, [], ◌∷◌, map}
use Prim.Native.Nat.{ℕ, ◌≤◌}
use native.Mathlib.Omega.{arith}
use lib.ListN.{length, take, length-map}
use Rattle.rules.specs.Calls.{begun, motif_parts, supports_of, weights_of, begin_rule, LegRule, leg_rule}
use Rattle.rules.specs.Legs.{Stretch, leg, legs, AmpleGrants}
use Rattle.rules.specs.declared.Stop.{Stop}
use Rattle.rules.specs.declared.Stop.TheVariants.{Ended}
use Rattle.rules.specs.Relay.{frequent_motifs, their_supports, their_weights, whole_steps, Complete, Lent, Roomy, Ample, Relayed, alone, then_more, relay}
use Rattle.rules.specs.Sequences.{sequences}
use Rattle.rules.specs.Support.{support, weight, parts}
use Rattle.rules.specs.Template.{Part, size}
use Rattle.rules.specs.Told.{Told, gives}
use Rattle.rules.specs.Walk.{Walk, Lawful, walk_in, walk_over, walk_of, start, motifs, tries}
use Rattle.rules.specs.declared.Search.{Search}
use Rattle.rules.specs.declared.Template.{Template}
use Rattle.rules.proofs.Begins.{Beginning, begins}
use Rattle.rules.proofs.Candidates.{start_first}
use Rattle.rules.proofs.Searches.{walk_lawful}
use Rattle.rules.proofs.Relay.{all_listed, all_tried, legs_enough, leg_enough}
use Rattle.rules.proofs.Relayed.{granted, rows_of, Unrefused, leg_answers, relay_legs}
use Rattle.rules.proofs.Sound.{search_fine}
use Rattle.rules.proofs.Trimmed.{trimmed_size, trimmed_parts}

gives_same : {A : Type 0} (a b : A) → gives a ≡ gives b → a ≡ b
gives_same a b e = cc

ample_granted : (gs : List Lent) → Ample gs → AmpleGrants (map granted gs)
ample_granted [] a = tt
ample_granted (g ∷ gs) a = (a.0, omega arith, ample_granted gs a.4)

-- after a leg that ended nothing comes
ended_alone : (a : Told Stop) (k m : Relayed) → a ≡ gives Ended → then_more a k m ≡ k
ended_alone a k m e = rw e

module _ (letters lengths : List ℕ) (t : Template) (quorum : ℕ) (s : Search) (e : begin_rule letters lengths t quorum ≡ gives s) where
  b : Beginning letters lengths t quorum s
  b = begins letters lengths t quorum s e

  ss : List (List ℕ)
  ss = sequences letters lengths

  W : Walk
  W = walk_over t quorum ss

  L : Lawful W
  unfolding W
  L = walk_lawful t quorum ss b.template

  -- the relay of a new search is legs of the walk from its start, unless a save is refused
  from_start : (gs : List Lent) → Unrefused t gs (relay letters lengths gs s) → relay letters lengths gs s ≡ rows_of letters lengths s (legs W (map granted gs) (start W))
  unfolding W ss
  from_start gs h = relay_legs letters lengths gs s b.sound b.trim (λ refused short. h refused (λ k. short (b.roomy gs k))) ∙ rw (b.walk, b.at, start_first W L)

  -- the search's template reads as the one given
  parts_same : (m : ℕ) → parts s.template (size s.template) m ≡ parts t (size t) m
  unfolding begun
  parts_same m = rw (b.is, trimmed_size t, trimmed_parts t (size t) m)

  column : (f : List Part → ℕ) (ms : List ℕ) → map (λ m. f (motif_parts s m)) ms ≡ map (λ m. f (parts t (size t) m)) ms
  column f ms = ap (λ g. map g ms) (fun_ext (λ m. ap f (parts_same m)))

  -- what ended is complete
  complete : (l : Stretch) → l.motifs ≡ motifs W → l.steps ≡ tries W W.depth
      → Complete t quorum ss l.steps l.motifs (supports_of letters lengths s l.motifs) (weights_of letters lengths s l.motifs)
  unfolding ss W supports_of weights_of frequent_motifs their_supports their_weights whole_steps walk_in
  complete l e f =
      record {
        motifs_are = e;
        supports_are = column (λ cs. support cs (sequences letters lengths)) l.motifs ∙ ap (map _) e;
        weights_are = column (λ cs. weight cs (sequences letters lengths)) l.motifs ∙ ap (map _) e;
        steps_are = f;
      }

  -- legs that end have listed exactly the walk's motifs, in as many steps as it has candidates
  pub relay_complete : (gs : List Lent) → (relay letters lengths gs s).answer ≡ gives Ended
      → let r = relay letters lengths gs s in Complete t quorum (sequences letters lengths) r.steps r.motifs r.supports r.weights
  unfolding W ss
  relay_complete gs a =
      let l = legs W (map granted gs) (start W) in
      let r : relay letters lengths gs s ≡ rows_of letters lengths s l = from_start gs (λ refused short. refused Ended a) in
      let q : l.stop ≡ Ended = gives_same _ _ (sym (ap (λ r. r.answer) r) ∙ a) in
      rw r (complete l (all_listed W L (map granted gs) q) (all_tried W L (map granted gs) q))

  -- legs with budget and room end, if there are as many as the whole search has steps
  pub relay_ends : (gs : List Lent) → Roomy t gs → Ample gs → whole_steps t quorum (sequences letters lengths) ≤ length gs → (relay letters lengths gs s).answer ≡ gives Ended
  unfolding W ss whole_steps walk_in
  relay_ends gs h a k =
      ap (λ r. r.answer) (from_start gs (λ refused short. short h)) ∙ ap gives (legs_enough W L (map granted gs) (ample_granted gs a) (omega (arith, k, length-map gs granted)))

  -- and no call on the way is refused
  pub relay_answers : (gs : List Lent) → Roomy t gs → (a : Stop) × ((relay letters lengths gs s).answer ≡ gives a)
  relay_answers gs h = ((legs W (map granted gs) (start W)).stop, ap (λ r. r.answer) (from_start gs (λ refused short. short h)))

  -- ONE LEG, after which nothing is saved
  module _ (budget : ℕ) (motifs supports weights : List ℕ) where
    lent : Lent
    lent = record { budget = budget; motifs = motifs; supports = supports; weights = weights; buffer = [] }

    -- where it ends it is all there is of the relay, and so complete
    pub leg_complete : (leg_rule letters lengths s budget motifs supports weights).told.answer ≡ gives Ended
        → let l = leg_rule letters lengths s budget motifs supports weights in let n = l.told.rows in
        Complete t quorum (sequences letters lengths) l.told.steps (take n l.motifs) (take n l.supports) (take n l.weights)
    unfolding relay lent
    leg_complete a =
        let l : LegRule = leg_rule letters lengths s budget motifs supports weights in
        let q : relay letters lengths (lent ∷ []) s ≡ alone l = ended_alone l.told.answer (alone l) _ a in
        rw q at (relay_complete (lent ∷ []) (ap (λ r. r.answer) q ∙ a))

    -- and it ends, if it has the budget and the room for all
    pub leg_ends : whole_steps t quorum (sequences letters lengths) ≤ budget → let n = length (frequent_motifs t quorum (sequences letters lengths)) in
        n ≤ length motifs → n ≤ length supports → n ≤ length weights → (leg_rule letters lengths s budget motifs supports weights).told.answer ≡ gives Ended
    unfolding W ss lent whole_steps frequent_motifs walk_in
    leg_ends h i j k =
        let q : leg (walk_of letters lengths s) budget (granted lent).room s.place ≡ leg W budget (granted lent).room (start W) = rw (b.walk, b.at, start_first W L) in
        leg_answers letters lengths s lent (search_fine letters lengths s b.sound)
        ∙ ap gives (ap (λ l. l.stop) q ∙ leg_enough W L budget (granted lent).room h (omega (arith, i, j, k)))
