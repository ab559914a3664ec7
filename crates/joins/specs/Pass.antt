-- What the inner functions of a join ask and promise.
use Rattle.std.specs.Prelude.{Bool, ◌&&◌, List, ℕ, ◌+◌, ◌≤◌, ◌<◌, leb, ltb, length, get_or}
use Rattle.rules.specs.Limits.{sequence_set_letters}
use Rattle.rules.specs.Lists.{keep, has_some, is_member, run}
use Rattle.rules.specs.Refusals.{first, join_checks}
use Rattle.rules.specs.Told.{Verdict}
use Rattle.rules.specs.declared.Distances.{Distances}

-- what the checks of a join find
abbrev pub verdict : List ℕ → List ℕ → ℕ → ℕ → ℕ → List ℕ → Verdict
verdict xs ys head low high out = first (join_checks xs ys head low high out)

-- a position that may come after another in a list
abbrev pub is_following : ℕ → ℕ → Bool
is_following last p = ltb last p && leb p sequence_set_letters

-- the first n of a list lie before a position
abbrev pub LieBefore : List ℕ → ℕ → ℕ → Type 0
LieBefore ys n from = (k : ℕ) → k < n → get_or ys k 0 < from

-- those of a list up to j lie before a position, and the one at j does not
pub record Reached (ys : List ℕ) (from j : ℕ) : Type 0 where
  pub inside : j ≤ length ys
  pub before : LieBefore ys j from
  pub next : j < length ys → from ≤ get_or ys j 0

-- a list has a position at j, and it is before `end`
unfoldable pub is_within : List ℕ → ℕ → ℕ → Bool
is_within ys j end = ltb j (length ys) && ltb (get_or ys j 0) end

-- a position has a partner in a list, at one of some distances
abbrev pub has_partner : List ℕ → Distances → ℕ → Bool
has_partner ys apart p = has_some (keep (λ q. is_member q (run (p + apart.near) apart.count)) ys)
