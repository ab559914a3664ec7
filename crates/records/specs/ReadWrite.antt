-- What is read of a save before 13 is checked, and what is written of a search that passed its checks.
use Rattle.std.specs.Prelude.{List, ℕ, length}
use Rattle.rules.specs.Calls.{unless, Written, written_unless}
use Rattle.rules.specs.Refusals.{first, check17}
use Rattle.rules.specs.Saved.{bytes, read_search}
use Rattle.rules.specs.Told.{Told}
use Rattle.rules.specs.declared.Search.{Search}
use Rattle.records.specs.RestoreOrder.{restore_checks_before_13}

-- the search that the bytes hold, unless they are refused before 13
abbrev pub read_rule : List ℕ → List ℕ → List ℕ → Told Search
read_rule letters lengths bs = unless (first (restore_checks_before_13 letters lengths bs)) (read_search bs)

-- the bytes of a search, at the front of a buffer that has room for them
abbrev pub write_rule : Search → List ℕ → Written ℕ
write_rule s out = written_unless (check17 (length (bytes s)) out) (length (bytes s)) (bytes s) out
