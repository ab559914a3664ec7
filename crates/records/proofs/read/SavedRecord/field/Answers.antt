use Rattle.std.proofs.lemmas.Grind.{common_steps}
use Prim.Native.Nat.{◌+◌, ◌-◌}
use mathlib.Core.Path.{◌≡◌}
use lib.ListN.{get_or}
use native.Mathlib.Omega.{arith}
use Rattle.records.proofs.Fields.{read_next, read_all}
use Rattle.records.proofs.read.SavedRecord.field.Goals as goal

pub loop-j-preserved : goal.loop-j-preserved
loop-j-preserved c =
    let e : c.from.result ≡ get_or c.args.self.0.now (c.args.k + (c.loop-j.j - 1)) 0 = grind (arith, common_steps) in
    read_next _ _ _ _ _ c.from.result c.loop-j.invariant c.loop-j-test.true e (omega arith)

pub returns-clause-value : goal.returns-clause-value
returns-clause-value c = (read_all _ _ _ _ _ c.loop-j.invariant c.loop-j-test.false).0
