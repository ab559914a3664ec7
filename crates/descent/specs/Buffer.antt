-- How rows go out into a buffer: those before the first one asked for are passed over, then each is written behind the last as
-- long as a whole row fits.
use Rattle.std.specs.Prelude.{List, [], ◌∷◌, ◌++◌, map, ℕ, ◌+◌, ◌-◌, ◌≤◌, leb, ltb, length, take, drop}
use Rattle.descent.specs.declared.Progress.{Progress}
use Rattle.rules.specs.Lists.{if}

-- a buffer: how far the rows have come, and what it holds
pub record Buffer : Type 0 where
  pub progress : Progress
  pub table : List ℕ

abbrev pub buffer : Progress → List ℕ → Buffer
buffer g l = record { progress = g; table = l }

abbrev pub progress : ℕ → ℕ → ℕ → Progress
progress skip rows at = record { skip = skip; rows = rows; at = at }

-- the numbers written stand in a buffer of n, and no row was written without one
pub record InBuffer (g : Progress) (n : ℕ) : Type 0 where
  pub ends : g.at ≤ n
  pub some : g.rows ≤ g.at

-- a row of w numbers more: passed over, written, or left out for want of room
unfoldable pub emit : ℕ → List ℕ → Buffer → Buffer
emit w row s =
    let g = s.progress in
    let l = s.table in
    if (ltb 0 g.skip) (buffer (progress (g.skip - 1) g.rows g.at) l)
    (if (leb (g.at + w) (length l)) (buffer (progress g.skip (g.rows + 1) (g.at + w)) (take g.at l ++ (row ++ drop (g.at + w) l))) s)

-- rows more, one after the other
unfoldable pub emits : ℕ → List (List ℕ) → Buffer → Buffer
emits w [] s = s
emits w (row ∷ rows) s = emits w rows (emit w row s)

-- the rows that begin with some numbers
unfoldable pub with_front : List ℕ → List (List ℕ) → List (List ℕ)
with_front front rows = map (λ t. front ++ t) rows
