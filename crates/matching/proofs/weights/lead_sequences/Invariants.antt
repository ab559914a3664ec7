-- The sequences up to the next mark have none and are passed over; the one there gets its counts, and all others keep theirs.
use mathlib.Core.Bool.{Bool}
use mathlib.Core.List.{List}
use Prim.Native.Nat.{ℕ, ◌+◌, ◌*◌}
use lib.ListN.{get_or}
use Rattle.rows.specs.Set.{is_marked}
use Rattle.matching.proofs.Leads.{led_at, Led}
use Rattle.rows.proofs.Lowest.{Walk}
use Rattle.matching.proofs.weights.lead_sequences.Given as goal

-- the sequences of the first e marks of word w led on
abbrev pub Led_to : ℕ → List ℕ → List ℕ → List ℕ → Bool → ℕ → ℕ → List ℕ → List ℕ → ℕ → Type 0
Led_to w ns row opened first d n x y e = Led (is_marked row) (led_at first d n ns row x) ns opened (w * 64) (w * 64 + e) x y

abbrev pub invariant-loop-place : goal.invariant-loop-place
invariant-loop-place l = Walk (Led_to l.w l.weighing.made.plan.layout.lengths.now l.lead.row.now l.lead.opened.now l.lead.first l.lead.reach.apart.near l.lead.reach.apart.count l.initial.counts l.counts) (get_or l.lead.row.now l.w 0) l.place-iterator.0
