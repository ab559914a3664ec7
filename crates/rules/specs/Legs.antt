-- A leg of a walk: from a place on, as far as a budget of steps and room for rows allow; and legs laid end to end.
use Rattle.std.specs.Prelude.{Bool, true, false, List, [], ◌∷◌, ◌++◌, ◌≡◌, ℕ, zero, suc, ◌+◌, ◌≤◌, eqb, length}
use Rattle.rules.specs.Lists.{if}
use Rattle.rules.specs.Walk.{Walk, next, motif, from, listed}
use Rattle.rules.specs.declared.Place.{Place}
use Rattle.rules.specs.declared.Stop.{Stop}
use Rattle.rules.specs.declared.Stop.TheVariants.{Ended, Spent, Full}

-- why a leg stopped: Ended, no candidate left; Spent, the budget used; or Full, a motif and no room for it
abbrev pub is_ended : Stop → Bool
is_ended Ended = true
is_ended Spent = false
is_ended Full = false

-- what a leg comes to: why it stopped, the candidates examined, the motifs listed, the place of the next candidate
pub record Stretch : Type 0 where
  pub stop : Stop
  pub steps : ℕ
  pub motifs : List ℕ
  pub at : Place

-- a leg that takes no step
abbrev pub halt : Stop → Place → Stretch
halt a p = record { stop = a; steps = 0; motifs = []; at = p }

-- one step, which lists ms, and then the leg l
abbrev pub then : List ℕ → Stretch → Stretch
then ms l = record { stop = l.stop; steps = suc l.steps; motifs = ms ++ l.motifs; at = l.at }

-- the leg k, and then l from where it stopped
abbrev pub on : Stretch → Stretch → Stretch
on k l = record { stop = l.stop; steps = k.steps + l.steps; motifs = k.motifs ++ l.motifs; at = l.at }

-- what a leg may use
pub record Grant : Type 0 where
  pub budget : ℕ
  pub room : ℕ

abbrev pub grant : ℕ → ℕ → Grant
grant b r = record { budget = b; room = r }

-- each leg may use at least one step and one row
abbrev pub AmpleGrants : List Grant → Type 0
AmpleGrants [] = Unit {0}
AmpleGrants (g ∷ gs) = (1 ≤ g.budget) × (1 ≤ g.room) × AmpleGrants gs

module _ (W : Walk) where
  -- before each candidate, in this order: none left, the budget used, a motif and no room for it; otherwise a step
  unfoldable pub leg : ℕ → ℕ → Place → Stretch
  leg zero room p = halt (if (eqb p.letters 0) Ended Spent) p
  leg (suc budget) room p =
      let lists : Stretch = elim room [ zero ↦ halt Full p | suc r ↦ then (p.number ∷ []) (leg budget r (next W p)) ] in
      let passes : Stretch = then [] (leg budget room (next W p)) in
      let tries : Stretch = if (motif W p) lists passes in
      if (eqb p.letters 0) (halt Ended p) tries

  -- legs one after another, until one ends
  unfoldable pub legs : List Grant → Place → Stretch
  legs [] p = halt (if (eqb p.letters 0) Ended Spent) p
  legs (g ∷ gs) p = let l = leg g.budget g.room p in let more = on l (legs gs l.at) in if (is_ended l.stop) l more

-- WHAT A LEG PASSED, from p on: the candidates between its old place and its new, one for each step; its motifs are those that are listed
-- among them; and it has ended exactly where no candidate is left
pub record Passed (W : Walk) (p : Place) (l : Stretch) : Type 0 where
  pub taken : List Place
  pub split : from W p ≡ taken ++ from W l.at
  pub counts : l.steps ≡ length taken
  pub lists : l.motifs ≡ listed W taken
  pub says : is_ended l.stop ≡ eqb l.at.letters 0
  pub fits : l.at.letters ≤ W.depth
