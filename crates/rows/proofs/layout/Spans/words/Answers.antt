use native.Mathlib.Omega.{arith}
use Prim.Native.Nat.{◌+◌}
use Rattle.rows.proofs.Sets.{turn_lies}
use Rattle.rows.proofs.layout.Spans.words.Goals as goal

-- said here, and not left to the search, so that a wrong place is refused as one
pub returns-clause-place : goal.returns-clause-place
returns-clause-place g c =
    let s = c.args.self.now in
    (s.laid.same c.args.k (omega arith), s.laid.same (c.args.k + 1) (omega arith))

pub returns-clause-inside : goal.returns-clause-inside
returns-clause-inside g c =
    let s = c.args.self.now in
    turn_lies _ _ c.requires (s.laid.same c.args.k (omega arith)) (s.laid.same (c.args.k + 1) (omega arith))
