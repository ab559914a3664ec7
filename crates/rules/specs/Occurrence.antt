-- Occurrences of a motif, given as its parts, in one sequence. An occurrence is one start position for each part.
use Rattle.std.specs.Prelude.{Bool, true, false, List, [], ◌∷◌, map, ◌≡◌, ℕ, zero, suc, ◌+◌, ◌-◌, ◌≤◌, ◌<◌, eqb, length, drop, get_or}
use Rattle.rules.specs.Lists.{run, if, each, sum}
use Rattle.rules.specs.Template.{Part, part, none, span, cut}
use Rattle.rules.specs.declared.Component.{Component}

-- one of k used up: where there is none, a, and else what g makes of those left
abbrev pub spare : {A : Type 0} → ℕ → A → (ℕ → A) → A
spare zero a g = a
spare (suc k) a g = g k

-- the letters w fit the first of s, but for at most k of them
unfoldable pub front_by : (ℕ → ℕ → Bool) → ℕ → List ℕ → List ℕ → Bool
front_by f k [] s = true
front_by f k (x ∷ w) [] = false
front_by f k (x ∷ w) (y ∷ s) = if (f x y) (front_by f k w s) (spare k false (λ k. front_by f k w s))

-- they stand so in s at a position. Positions count from 1, so nothing stands at 0
unfoldable pub stands_by : (ℕ → ℕ → Bool) → ℕ → List ℕ → List ℕ → ℕ → Bool
stands_by f k w s zero = false
stands_by f k w s (suc o) = front_by f k w (drop o s)

-- exactly
abbrev pub front : List ℕ → List ℕ → Bool
front w s = front_by eqb 0 w s

abbrev pub stands : List ℕ → List ℕ → ℕ → Bool
stands w s p = stands_by eqb 0 w s p

-- a part stands at a position, as it is read
abbrev pub found : Part → List ℕ → ℕ → Bool
found c s p = stands_by c.fits c.slack c.word s p

-- where the next part may start if one starts at p: near to far positions on
unfoldable pub reach : ℕ → ℕ → ℕ → List ℕ
reach near far p = run (p + near) (span near far)

-- THE LIST. The occurrences of the parts whose first start is p: all later starts under it, rising
unfoldable pub starts : List Part → List ℕ → ℕ → List (List ℕ)
starts [] s p = []
starts (c ∷ []) s p = if (found c s p) ((p ∷ []) ∷ []) []
starts (c ∷ d ∷ ds) s p =
    if (found c s p)
    (map (λ t. p ∷ t) (each (starts (d ∷ ds) s) (reach d.near d.far p)))
    []

-- all occurrences in s, by first start, then by second, and so on
unfoldable pub occurrences : List Part → List ℕ → List (List ℕ)
occurrences cs s = each (starts cs s) (run 1 (length s))

-- the number of those whose first start is p, without making them: how many ways the later parts can follow
unfoldable pub ways : List Part → List ℕ → ℕ → ℕ
ways [] s p = 0
ways (c ∷ []) s p = if (found c s p) 1 0
ways (c ∷ d ∷ ds) s p = if (found c s p) (sum (map (ways (d ∷ ds) s) (reach d.near d.far p))) 0

-- THE SENTENCE. How many of the letters w do not fit those that s begins with
unfoldable pub misses : (ℕ → ℕ → Bool) → List ℕ → List ℕ → ℕ
misses f [] s = 0
misses f (x ∷ w) [] = 0
misses f (x ∷ w) (y ∷ s) = if (f x y) (misses f w s) (suc (misses f w s))

-- the letters w stand in s at position p: it has room for them, and at most k of them do not fit those there
pub record StandsBy (f : ℕ → ℕ → Bool) (k : ℕ) (w s : List ℕ) (p : ℕ) : Type 0 where
  pub counted : 1 ≤ p
  pub room : p + length w ≤ length s + 1
  pub close : misses f w (drop (p - 1) s) ≤ k

abbrev pub Found : Part → List ℕ → ℕ → Type 0
Found c s p = StandsBy c.fits c.slack c.word s p

-- the next part starts at q, near to far positions after the start p of one
pub record Follows (near far p q : ℕ) : Type 0 where
  pub least : p + near ≤ q
  pub most : q ≤ p + far

-- part i of some, from 0
abbrev pub nth : List Part → ℕ → Part
nth cs i = get_or cs i (part 0 0 [])

-- an occurrence: one start for each part, such that its letters stand there and each next start follows within its distances
pub record Occurs (cs : List Part) (s ps : List ℕ) : Type 0 where
  pub one_each : length ps ≡ length cs
  pub standing : (i : ℕ) → i < length cs → Found (nth cs i) s (get_or ps i 0)
  pub gaps : (i : ℕ) → suc i < length cs → Follows (nth cs (suc i)).near (nth cs (suc i)).far (get_or ps i 0) (get_or ps (suc i) 0)

-- THE PAPER'S OWN SENTENCE, where every letter must fit. The letters w stand in s at position p: each fits the one there
pub record Stands (Fits : ℕ → ℕ → Type 0) (w s : List ℕ) (p : ℕ) : Type 0 where
  pub counted : 1 ≤ p
  pub room : p + length w ≤ length s + 1
  pub each : (i : ℕ) → i < length w → Fits (get_or w i 0) (get_or s (p - 1 + i) 0)

-- the gap between a component of n letters that starts at p and the next at q lies in the range
pub record Gap (n low high p q : ℕ) : Type 0 where
  pub least : p + n + low ≤ q
  pub most : q ≤ p + n + high

-- letters w dealt out to components cs: one start for each, such that its letters stand there, and each next start minus the
-- previous start minus the previous length lies in its range
pub record OccursBy (Fits : ℕ → ℕ → Type 0) (cs : List Component) (w s ps : List ℕ) : Type 0 where
  pub one_each : length ps ≡ length (cut cs w)
  pub standing : (i : ℕ) → i < length (cut cs w) → Stands Fits (nth (cut cs w) i).word s (get_or ps i 0)
  pub gaps : (i : ℕ) → suc i < length (cut cs w)
      → Gap (get_or cs i none).length (get_or cs (suc i) none).low (get_or cs (suc i) none).high (get_or ps i 0) (get_or ps (suc i) 0)

-- exactly: each letter is the one there
abbrev pub OccursExactly : List Component → List ℕ → List ℕ → List ℕ → Type 0
OccursExactly cs w s ps = OccursBy (λ x y. y ≡ x) cs w s ps
