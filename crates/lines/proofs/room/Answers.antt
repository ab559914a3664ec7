-- So many zeros are so many.
use Rattle.std.proofs.Common.{sym, ◌+◌, ℕ}
use lib.ListN.{length-replicate}
use Rattle.rules.specs.Limits.{fasta_bytes}
use Rattle.text.specs.Printed.{line_room}
use Rattle.lines.proofs.room.Goals as goal

pub returns : goal.returns
returns c = sym (length-replicate {A = ℕ} (fasta_bytes + line_room) 0)
