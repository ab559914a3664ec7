-- The sequences up to the next mark have none and are passed over; the one there is opened, and its words are still as they were.
use mathlib.Core.List.{List}
use mathlib.Core.Path.{◌≡◌}
use Prim.Native.Nat.{ℕ, ◌+◌, ◌*◌}
use lib.ListN.{length, get_or}
use Rattle.rows.specs.Set.{is_marked, window_at}
use Rattle.rows.proofs.Lowest.{Walk}
use Rattle.rows.proofs.RowsRewritten.{Rewritten}
use Rattle.rows.proofs.gap.open_sequences.Given as goal

-- the sequences of the first e marks of word w opened
abbrev pub Opened : ℕ → List ℕ → ℕ → ℕ → List ℕ → List ℕ → ℕ → Type 0
Opened w ns d count x y e = Rewritten (is_marked x) (window_at d count ns x) ns (w * 64) (w * 64 + e) x y

abbrev pub invariant-loop-place : goal.invariant-loop-place
invariant-loop-place l = (length l.spare ≡ length l.initial.spare)
    × (length l.row ≡ length l.initial.row)
    × (Walk (Opened l.w l.layout.lengths.now l.reach.apart.near l.reach.apart.count l.initial.row l.row) (get_or l.initial.row l.w 0) l.place-iterator.0)
