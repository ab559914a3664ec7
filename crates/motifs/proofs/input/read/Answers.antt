-- A refused text is told as it was found, and leaves the tables.
use Rattle.std.proofs.Common.{refl, sym}
use Rattle.motifs.proofs.InputRead.{declined}
use Rattle.motifs.proofs.input.read.Goals as goal

pub returns-in-Err-clause-begun_value : goal.returns-in-Err-clause-begun_value
returns-in-Err-clause-begun_value c = rw (declined c.args.input.now c.args.tables.now.letters c.args.tables.now.lengths (sym c.in-Err.ensures)) refl

pub returns-in-Err-clause-letters_value : goal.returns-in-Err-clause-letters_value
returns-in-Err-clause-letters_value c = rw (declined c.args.input.now c.args.tables.now.letters c.args.tables.now.lengths (sym c.in-Err.ensures)) (refl, refl)

pub returns-in-Err-clause-letters_after : goal.returns-in-Err-clause-letters_after
returns-in-Err-clause-letters_after c = rw (declined c.args.input.now c.args.tables.now.letters c.args.tables.now.lengths (sym c.in-Err.ensures)) refl

pub returns-in-Err-clause-lengths_after : goal.returns-in-Err-clause-lengths_after
returns-in-Err-clause-lengths_after c = rw (declined c.args.input.now c.args.tables.now.letters c.args.tables.now.lengths (sym c.in-Err.ensures)) refl
