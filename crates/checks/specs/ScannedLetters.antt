-- How far a search for the first byte that is no letter is, and what it tells.
use Rattle.std.specs.Prelude.{Option, Some, None, List, ◌≡◌, ℕ, ◌+◌, ◌≤◌, length, drop}
use Rattle.rules.specs.Refusals.{first_bad, bad_byte}
use Rattle.rules.specs.Told.{Verdict, fine, refused}

-- the first i bytes are letters: what 4 finds, wherever the bytes are counted from, it finds in the rest
abbrev pub LettersUpTo : List ℕ → ℕ → Type 0
LettersUpTo bytes i = (i ≤ length bytes) × ((o : ℕ) → first_bad 4 bad_byte o bytes ≡ first_bad 4 bad_byte (i + o) (drop i bytes))

-- what is told where the first bad one of a list, counted from o, was sought: nothing, or refusal n at its place
abbrev pub told_first : ℕ → ℕ → Option ℕ → Verdict
told_first n o None = fine
told_first n o (Some i) = refused n (i + o)
