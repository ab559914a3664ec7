-- What came of an input to the front of a buffer, read by read.
use Rattle.std.specs.Prelude.{◌||◌, ◌==◌, ℕ, ◌+◌, Result, Ok, Err}
use Rattle.stdin.specs.declared.Came.{Came}

-- AFTER ONE READ MORE behind the first n bytes, of a buffer that has room for so many. It answered how many it moved, and that is all
-- where it moved none, at the input's end, or filled the buffer; or an error, where it failed, which is not the end
abbrev pub came_after : {E : Type 0} → ℕ → ℕ → Result ℕ E → Result Came E
came_after room n (Ok k) = Ok (record { bytes = n + k; all = (k == 0 || n + k == room) })
came_after room n (Err e) = Err e
