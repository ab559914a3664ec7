-- What came is at the front of the buffer. Where that is all, the buffer is full or the input at its end; where it is not, there is room
-- for more.
use Rattle.std.proofs.Common.{◌≡◌, ◌≤◌, ◌<◌, ◌-◌, length, take, true, false}
use Rattle.std.specs.Io.KnownBytes.{Consumes, IsAtEnd}
use Rattle.rules.specs.Lists.{if}
use Rattle.stdin.proofs.read_all.Given as goal

abbrev pub invariant-loop-came : goal.invariant-loop-came
invariant-loop-came g l = (l.came.bytes ≤ length l.buffer)
    × (length l.buffer ≡ length l.initial.buffer)
    × (l.came.all ≡ false → l.came.bytes < length l.buffer)
    × (l.came.all ≡ true → l.came.bytes < length l.buffer → IsAtEnd (g.R.Read.remaining l.input))
    × Consumes (g.R.Read.remaining l.initial.input) (g.R.Read.remaining l.input) (take l.came.bytes l.buffer)

abbrev pub decreases-loop-came : goal.decreases-loop-came
decreases-loop-came g l = if l.came.all 0 (length l.buffer - l.came.bytes)
