-- A search run in legs, each with a budget and tables of its own, saved and restored over the same sequences between legs;
-- and what the user asks that it comes to. Then what a recovery answers of a row's motif, how bytes that were cut short are refused,
-- and which are restored.
use Rattle.std.specs.Prelude.{true, ◌⊎◌, ◌≡◌, ℕ, ◌+◌, ◌*◌, ◌≤◌, eqb, length, take}
use mathlib.Core.List.{List, [], ◌∷◌, ◌++◌, map, Memᴰ}
use Rattle.rules.specs.Calls.{on_refusal, LegRule, leg_rule, save_rule, restore_rule, recover_rule}
use Rattle.rules.specs.declared.Stop.{Stop}
use Rattle.rules.specs.declared.Stop.TheVariants.{Ended, Spent, Full}
use Rattle.rules.specs.Limits.{record_bytes, record_extra}
use Rattle.rules.specs.Lists.{if}
use Rattle.rules.specs.Refusals.{first, set_checks}
use Rattle.rules.specs.Saved.{is_sized, is_laid_out, read_search}
use Rattle.rules.specs.Sound.{SoundSet, SoundTemplate}
use Rattle.rules.specs.Support.{support, weight, parts}
use Rattle.rules.specs.Template.{size}
use Rattle.rules.specs.Told.{Told, gives, refuses}
use Rattle.rules.specs.Walk as walk
use Rattle.rules.specs.Walk.{ended_place, walk_over, walk_of, from, start}
use Rattle.rules.specs.declared.Search.{Search}
use Rattle.rules.specs.declared.Template.{Template}
use Rattle.rules.specs.declared.Recovered.{Recovered}

-- THE LIST: the motifs of the search's walk, which are those that reach the quorum, in letter order, with their supports and
-- weighted supports
unfoldable pub frequent_motifs : Template → ℕ → List (List ℕ) → List ℕ
frequent_motifs t quorum ss = walk.motifs (walk_over t quorum ss)

unfoldable pub their_supports : Template → ℕ → List (List ℕ) → List ℕ
their_supports t quorum ss = map (λ m. support (parts t (size t) m) ss) (frequent_motifs t quorum ss)

unfoldable pub their_weights : Template → ℕ → List (List ℕ) → List ℕ
their_weights t quorum ss = map (λ m. weight (parts t (size t) m) ss) (frequent_motifs t quorum ss)

-- THE COUNT: the candidates of the walk, which have 1 to K letters
unfoldable pub whole_steps : Template → ℕ → List (List ℕ) → ℕ
whole_steps t quorum ss = walk.tries (walk_over t quorum ss) (size t)

-- rows and steps that are those
pub record Complete (t : Template) (quorum : ℕ) (ss : List (List ℕ)) (steps : ℕ) (motifs supports weights : List ℕ) : Type 0 where
  pub motifs_are : motifs ≡ frequent_motifs t quorum ss
  pub supports_are : supports ≡ their_supports t quorum ss
  pub weights_are : weights ≡ their_weights t quorum ss
  pub steps_are : steps ≡ whole_steps t quorum ss

-- what a leg is lent: its budget, its three tables, and a buffer for the save after it
pub record Lent : Type 0 where
  pub budget : ℕ
  pub motifs : List ℕ
  pub supports : List ℕ
  pub weights : List ℕ
  pub buffer : List ℕ

-- each leg's buffer has room for a save of a search with this template: 16 bytes for each component, and 32
abbrev pub Roomy : Template → List Lent → Type 0
Roomy t [] = Unit {0}
Roomy t (g ∷ gs) = (record_bytes * (t.count + record_extra) ≤ length g.buffer) × Roomy t gs

-- each leg has a budget and room of at least one
abbrev pub Ample : List Lent → Type 0
Ample [] = Unit {0}
Ample (g ∷ gs) = (1 ≤ g.budget) × (1 ≤ length g.motifs) × (1 ≤ length g.supports) × (1 ≤ length g.weights) × Ample gs

-- what legs come to: the last answer, the steps added up, and the rows of all laid end to end
pub record Relayed : Type 0 where
  pub answer : Told Stop
  pub steps : ℕ
  pub motifs : List ℕ
  pub supports : List ℕ
  pub weights : List ℕ

-- no leg left
abbrev pub stand : Search → Relayed
stand s = record { answer = gives (if (eqb s.place.letters 0) Ended Spent); steps = 0; motifs = []; supports = []; weights = [] }

-- a leg alone: its rows are the first of its tables
abbrev pub alone : LegRule → Relayed
alone l =
    record {
      answer = l.told.answer;
      steps = l.told.steps;
      motifs = take l.told.rows l.motifs;
      supports = take l.told.rows l.supports;
      weights = take l.told.rows l.weights;
    }

-- one after another
abbrev pub followed : Relayed → Relayed → Relayed
followed a b =
    record {
      answer = b.answer;
      steps = a.steps + b.steps;
      motifs = a.motifs ++ b.motifs;
      supports = a.supports ++ b.supports;
      weights = a.weights ++ b.weights;
    }

-- what a call that was refused comes to
abbrev pub refused_with : ℕ → ℕ → Relayed
refused_with n p = record { answer = refuses n p; steps = 0; motifs = []; supports = []; weights = [] }

-- goes on with what a restore gives
abbrev pub go_on : Told Search → (Search → Relayed) → Relayed
go_on (gives s) f = f s
go_on (refuses n p) f = refused_with n p

-- restores what a save wrote to the front of a buffer
abbrev pub restored : List ℕ → List ℕ → Told ℕ → List ℕ → Told Search
restored letters lengths (gives n) out = restore_rule letters lengths (take n out)
restored letters lengths (refuses n p) out = refuses n p

-- after a leg: nothing where it ended or refused, and else what is left
abbrev pub then_more : Told Stop → Relayed → Relayed → Relayed
then_more (gives Ended) l more = l
then_more (gives Spent) l more = followed l more
then_more (gives Full) l more = followed l more
then_more (refuses n p) l more = l

module _ (letters lengths : List ℕ) where
  -- LEGS, until one ends: each saves the search it leaves and the next restores it
  unfoldable pub relay : List Lent → Search → Relayed
  relay [] s = stand s
  relay (g ∷ gs) s =
      let l = leg_rule letters lengths s g.budget g.motifs g.supports g.weights in
      let w = save_rule letters lengths l.told.search g.buffer in
      let more = go_on (restored letters lengths w.told w.out) (relay gs) in
      then_more l.told.answer (alone l) more

-- WHAT A RECOVERY OF THE MOTIF m ANSWERS, whichever first row up to w it is asked for: that the list has w rows
abbrev pub Recovers : List ℕ → List ℕ → Template → ℕ → ℕ → Type 0
Recovers letters lengths t m w = (f : ℕ) (out : List ℕ) → f ≤ w → (c : Recovered) × ((recover_rule letters lengths t m f out).told ≡ gives c) × (c.length ≡ w)

-- HOW BYTES THAT WERE CUT SHORT ARE REFUSED, whatever sequences are lent: as 1 to 4 refuse these, and with 10 where they pass
abbrev pub RefusedAsCut : List ℕ → Type 0
RefusedAsCut bs = (letters lengths : List ℕ) → restore_rule letters lengths bs ≡ on_refusal (first (set_checks letters lengths)) refuses (refuses 10 0)

-- WHICH BYTES ARE RESTORED: those that hold a search over the lent sequences, field by field, wherever it stands
pub record WellFormed (letters lengths bs : List ℕ) : Type 0 where
  pub set : SoundSet letters lengths
  pub sized : is_sized bs ≡ true
  pub laid_out : is_laid_out bs ≡ true
  pub template : SoundTemplate (read_search bs).template
  pub count : (read_search bs).set.sequences ≡ length lengths
  pub total : (read_search bs).set.letters ≡ length letters
  pub some : 1 ≤ (read_search bs).quorum
  pub most : (read_search bs).quorum ≤ length lengths

-- the uninterrupted search passes through the place of s, or has ended there
abbrev pub Through : List ℕ → List ℕ → Search → Type 0
Through letters lengths s = (s.place ≡ ended_place) ⊎ Memᴰ s.place (from (walk_of letters lengths s) (start (walk_of letters lengths s)))
