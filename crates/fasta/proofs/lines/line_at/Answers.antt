-- The scan for byte 10 finds where the line ends, and what follows it is cut into lines from there on.
use mathlib.Core.Path.{refl}
use Prim.Native.Nat.{◌+◌}
use native.Mathlib.Omega.{arith}
use lib.ListN.{length}
use Rattle.text.proofs.Scan.{found_from, none_from}
use Rattle.fasta.proofs.FileLines.{line_more, line_last}
use Rattle.fasta.proofs.lines.line_at.Goals as goal

pub returns-in-Some : goal.returns-in-Some
returns-in-Some c =
    let a = c.args in
    let f = found_from 10 a.at a.file.now (omega (arith, c.requires)) c.in-Some.length c.in-Some.ensures in
    (refl, line_more a.file.now a.at (a.at + c.in-Some.length) f.0 c.requires f.1 c.without_return.ensures)

pub returns-in-None : goal.returns-in-None
returns-in-None c =
    let a = c.args in
    let f = none_from 10 a.at a.file.now (omega (arith, c.requires)) c.in-None.ensures in
    (refl, line_last a.file.now a.at (length a.file.now) f c.requires (omega arith) refl)
