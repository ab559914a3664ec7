-- `emit` meets its contract: each of its three answers is a case of the definition.
use native.Mathlib.Omega.{arith}
use lib.ListN.{length}
use Rattle.descent.proofs.Buffer.{emit_written}
use Rattle.descent.proofs.Parts.{put_back}
use Rattle.descent.proofs.Page.emit.Goals as goal

pub returns-then-row-self-clause-written : goal.returns-then-row-self-clause-written
returns-then-row-self-clause-written c =
    let a = c.args in
    emit_written (length a.row.now) a.row.now a.self.now.progress a.self.now.out.now (omega arith) (omega arith) (put_back a.self.now.progress.at _ a.self.now.out.now (omega arith) c.copy_from_slice.ensures.after)
