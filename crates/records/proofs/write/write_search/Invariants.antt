-- `write_search`: with each turn a record more stands at the front of the buffer, if that has room for all of them.
use mathlib.Core.Path.{◌≡◌}
use Prim.Native.Nat.{◌*◌, ◌≤◌}
use Rattle.rules.specs.Limits.{record_bytes}
use Rattle.rules.specs.Saved.{bytes}
use Rattle.records.proofs.Front.{front}
use Rattle.records.proofs.write.write_search.Given as goal

abbrev pub invariant-loop-i : goal.invariant-loop-i
invariant-loop-i l = (l.i ≤ l.n) × (l.out ≡ front (bytes l.s) l.initial.out (record_bytes * l.i))
