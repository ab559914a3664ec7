-- What the FASTA reader tells, as numbers; what is used of both tables can be moved on, since a record that is handed out fits.
use Prim.Native.Nat.{◌^◌}
use native.Mathlib.Omega.{arith}
use Rattle.exports.proofs.Found.{found_moves}
use Rattle.exports.proofs.tulfasheq_fasta.Goals as goal

pub overflow_add-used : goal.overflow_add-used
overflow_add-used c =
    omega (arith, (found_moves _ _ _ _ _ _ c.from-told.ensures c.next_at-step.ensures.handed_value (2 ^ 64)).0 (omega arith) c.well_formed.1.0.0)

pub overflow_add-count : goal.overflow_add-count
overflow_add-count c =
    omega (arith, (found_moves _ _ _ _ _ _ c.from-told.ensures c.next_at-step.ensures.handed_value (2 ^ 64)).1 (omega arith) c.well_formed.1.1.0.0)
