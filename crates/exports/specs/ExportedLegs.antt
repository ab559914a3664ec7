-- DEMAND 3 OF WHAT IS CALLED: C, Rust and the operators' program begin a search with `tulfasheq_begin` and run `tulfasheq_leg` on its
-- bytes, each time on those that the leg before left, until one stops with 1. What these legs have brought then is the whole list.
use Rattle.std.specs.Prelude.{Bool, true, false, ◌||◌, List, [], ◌∷◌, map, ◌≡◌, ℕ, ◌≤◌, eqb, length, take}
use Rattle.rules.specs.Lists.{if, each, sum}
use Rattle.rules.specs.Relay.{Complete, whole_steps}
use Rattle.rules.specs.Sequences.{sequences}
use Rattle.rules.specs.declared.Template.{Template}
use Rattle.exports.specs.Exported.{Outcome, begin_outcome, LegOutcome, leg_outcome}
use Rattle.exports.specs.Shape.{shaped_template}
use Rattle.exports.specs.declared.told.Count.{Count}

-- what a caller passes to a begin: `room` is the buffer that it lends
pub record Asked : Type 0 where
  pub letters : List ℕ
  pub lengths : List ℕ
  pub profile : ℕ
  pub components : ℕ
  pub shape : List ℕ
  pub allowances : List ℕ
  pub quorum : ℕ
  pub room : List ℕ

-- and to a leg, beside the sequences and the bytes
pub record LegLent : Type 0 where
  pub budget : ℕ
  pub motifs : List ℕ
  pub supports : List ℕ
  pub weights : List ℕ

-- each leg has a budget and room of at least one
abbrev pub AmpleLegs : List LegLent → Type 0
AmpleLegs [] = Unit {0}
AmpleLegs (g ∷ gs) = (1 ≤ g.budget) × (1 ≤ length g.motifs) × (1 ≤ length g.supports) × (1 ≤ length g.weights) × AmpleLegs gs

-- THE LEGS THAT ARE RUN from saved bytes on, each on the bytes that the one before left, until one stops with 1
module _ (letters lengths : List ℕ) where
  unfoldable pub legs_run : List LegLent → List ℕ → List LegOutcome
  legs_run [] saved = []
  legs_run (g ∷ gs) saved =
      let o = leg_outcome letters lengths saved g.budget g.motifs g.supports g.weights in
      let more = legs_run gs o.saved in
      o ∷ if (eqb o.numbers.stop 1) [] more

-- one of them stopped with 1
unfoldable pub one_ended : List LegOutcome → Bool
one_ended [] = false
one_ended (o ∷ os) = eqb o.numbers.stop 1 || one_ended os

-- each of them answered 0
abbrev pub NoneRefused : List LegOutcome → Type 0
NoneRefused [] = Unit {0}
NoneRefused (o ∷ os) = (o.numbers.number ≡ 0) × NoneRefused os

-- their steps, added up; and the rows of one of their tables, which are the first of it, laid end to end
unfoldable pub steps_in : List LegOutcome → ℕ
steps_in os = sum (map (λ o. o.numbers.steps) os)

unfoldable pub rows_in : (LegOutcome → List ℕ) → List LegOutcome → List ℕ
rows_in table os = each (λ o. take o.numbers.rows (table o)) os

-- A BEGIN, and legs that are run on as much of the buffer as it says that the save has
abbrev pub begin_asked : Asked → Outcome Count
begin_asked a = begin_outcome a.letters a.lengths a.profile a.components a.shape a.allowances a.quorum a.room

abbrev pub legs_asked : Asked → List LegLent → List LegOutcome
legs_asked a gs = let b = begin_asked a in legs_run a.letters a.lengths gs (take b.numbers.count b.table)

-- what is asked for, and what legs that have brought it hold: demand 2's list, its supports, its weighted supports and its steps
abbrev pub template_asked : Asked → Template
template_asked a = shaped_template a.profile a.components a.shape a.allowances

abbrev pub Brought : Asked → List LegOutcome → Type 0
Brought a os =
    Complete (template_asked a) a.quorum (sequences a.letters a.lengths) (steps_in os) (rows_in (λ o. o.motifs) os) (rows_in (λ o. o.supports) os) (rows_in (λ o. o.weights) os)

pub record ExportedLegs : Type 0 where
  -- a begin that answers 0, and then legs of which one stops with 1, have brought the whole list
  pub end_to_end : (a : Asked) (gs : List LegLent) → (begin_asked a).numbers.number ≡ 0 → one_ended (legs_asked a gs) ≡ true → Brought a (legs_asked a gs)
  -- one of them does, if each has a budget and room of at least one and there are as many as the whole search has steps
  pub ends : (a : Asked) (gs : List LegLent) → (begin_asked a).numbers.number ≡ 0 → AmpleLegs gs
      → whole_steps (template_asked a) a.quorum (sequences a.letters a.lengths) ≤ length gs → one_ended (legs_asked a gs) ≡ true
  -- and no leg after such a begin is refused
  pub answers : (a : Asked) (gs : List LegLent) → (begin_asked a).numbers.number ≡ 0 → NoneRefused (legs_asked a gs)
