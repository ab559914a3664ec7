-- The pieces so far are read, their components stand in the slots, and there are no more of them than bytes.
use Rattle.std.proofs.Common.{suc, ◌+◌, ◌≤◌, length}
use Rattle.rules.specs.Text.{pieces}
use Rattle.text.specs.Pieces.{pieces_left, bytes_left}
use Rattle.text.proofs.ComponentsByPiece.{Read}
use Rattle.text.proofs.parse.parse_template.Given as goal

abbrev pub invariant-loop-rest : goal.invariant-loop-rest
invariant-loop-rest l = (l.count + bytes_left l.rest ≤ suc (length l.text)) × Read (pieces 91 l.text) l.count l.slots (pieces_left 91 l.rest)

abbrev pub decreases-loop-rest : goal.decreases-loop-rest
decreases-loop-rest l = bytes_left l.rest
