-- The occurrences as they are read off flags: a flag for each component and position says whether an occurrence of the
-- components from that one on starts there.
use Rattle.std.specs.Prelude.{Bool, false, ◌&&◌, List, [], ◌∷◌, map, ◌≡◌, ℕ, suc, ◌+◌, ◌-◌, ◌*◌, ◌≤◌, ◌<◌, leb, length, take, drop, get_or}
use Rattle.descent.specs.Buffer.{Buffer, emits, with_front}
use Rattle.rules.specs.Limits.{sequence_set_letters}
use Rattle.rules.specs.Lists.{run, if, each, has_some}
use Rattle.rules.specs.Occurrence.{reach, starts}
use Rattle.rules.specs.Template.{Part, none, slots, components, distance, after}
use Rattle.rules.specs.declared.Component.{Component}
use Rattle.rules.specs.declared.Distances.{Distances}
use Rattle.rules.specs.declared.Template.{Template}

-- the flag of component c, from 0, at position p of a sequence of n letters. Each component has room for the longest sequence
unfoldable pub flag : ℕ → List Bool → ℕ → ℕ → Bool
flag n flags c p = leb 1 p && leb p n && get_or flags (c * sequence_set_letters + (p - 1)) false

-- no position from a up to b has one
abbrev pub Unflagged : ℕ → List Bool → ℕ → ℕ → ℕ → Type 0
Unflagged n flags c a b = (p : ℕ) → a ≤ p → p < b → flag n flags c p ≡ false

-- the starts of some components, the first of them number c, whose first start is p: those with a flag
unfoldable pub paths : ℕ → List Bool → List Component → ℕ → ℕ → List (List ℕ)
paths n flags [] c p = []
paths n flags (x ∷ []) c p = if (flag n flags c p) ((p ∷ []) ∷ []) []
paths n flags (x ∷ y ∷ ys) c p =
    if (flag n flags c p) (map (λ t. p ∷ t) (each (paths n flags (y ∷ ys) (suc c)) (reach (distance x.length y.low) (distance x.length y.high) p))) []

-- how far the start of the component after c may lie from that of c
abbrev pub next_apart : Template → ℕ → Distances
next_apart t c = after (get_or (slots t) (c + 1) none) (get_or (slots t) c none)

-- a buffer after the rows whose numbers before component c stand in `row`, and whose start of c is one of those from a up to e
unfoldable pub handed : List Component → ℕ → List Bool → List ℕ → ℕ → ℕ → ℕ → Buffer → Buffer
handed xs n flags row c a e s = emits (suc (c + length xs)) (with_front (take (suc c) row) (each (paths n flags xs c) (run a (e - a)))) s

-- a buffer after all rows of the sequence with number i
abbrev pub listed_rows : Template → ℕ → List Bool → ℕ → Buffer → Buffer
listed_rows t n flags i s = emits (suc t.count) (with_front (i ∷ []) (each (paths n flags (components t) 0) (run 1 n))) s

-- the flags of the parts from number c on are set where an occurrence of them and those after them starts
abbrev pub Flagged : List Part → List ℕ → List Bool → ℕ → Type 0
Flagged cs s flags c = (i : ℕ) → c ≤ i → i < length cs → (p : ℕ) → 1 ≤ p → p ≤ length s → flag (length s) flags i p ≡ has_some (starts (drop i cs) s p)

-- the ways have, for each position of a sequence of n letters, how many rows are read off under it
abbrev pub WaysCounted : ℕ → List Bool → List Component → List ℕ → Type 0
WaysCounted n flags xs ways = (p : ℕ) → 1 ≤ p → p ≤ n → get_or ways (p - 1) 0 ≡ length (paths n flags xs 0 p)
