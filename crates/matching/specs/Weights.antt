-- Weighted supports over the set: for each place of each sequence, in one table as long as the letters, in how many ways the components
-- before the last can be placed so that the last may start there. Only where a row has a bit does it matter what the table holds.
use Rattle.std.specs.Prelude.{Bool, true, List, Option, Some, map, ◌≡◌, ℕ, ◌+◌, ◌-◌, ◌/◌, ◌^◌, ◌<◌, length, take, get_or, replicate}
use Rattle.rules.specs.Limits.{sequence_set_sequences}
use Rattle.rules.specs.Lists.{if, run, sum}
use Rattle.rules.specs.Profile.{base_of}
use Rattle.rules.specs.Template.{size, components}
use Rattle.rules.specs.declared.Template.{Template}
use Rattle.rows.specs.Flags.{reached, added, masked, has_left}
use Rattle.matching.specs.Path.{prefix_starts, before_next}
use Rattle.rows.specs.NextLetter.{letters_before}
use Rattle.rows.specs.Set.{between, bits_at, is_marked, sequence}

-- the counts of sequence k
unfoldable pub counts_at : List ℕ → ℕ → List ℕ → List ℕ
counts_at ns k counts = between (sum (take k ns)) (sum (take k ns) + get_or ns k 0) counts

-- those of them at which a row has a bit
unfoldable pub kept_counts : List ℕ → List ℕ → List ℕ → ℕ → List ℕ
kept_counts ns row counts k = masked (bits_at ns k row) (counts_at ns k counts)

-- the sum of them, if sequence k has a mark
unfoldable pub weight_at : List ℕ → List ℕ → List ℕ → ℕ → ℕ
weight_at ns row counts k = if (is_marked row k) (sum (kept_counts ns row counts k)) 0

-- and over all sequences
unfoldable pub weight_of : List ℕ → List ℕ → List ℕ → ℕ
weight_of ns row counts = sum (map (weight_at ns row counts) (run 0 sequence_set_sequences))

-- a table whose first n sequences, as far as they are on, have, where a row has a bit, the counts that g says
pub record HoldsCounts (on : ℕ → Bool) (g : ℕ → List ℕ) (ns row counts : List ℕ) (n : ℕ) : Type 0 where
  pub same : (k : ℕ) → k < n → on k ≡ true → kept_counts ns row counts k ≡ g k

-- what a component's ways are counted from: for the first one way everywhere, and else the counts there are
abbrev pub counted_from : Bool → List ℕ → List ℕ
counted_from first vs = if first (replicate (length vs) 1) vs

-- in sequence k, where a row has a bit
unfoldable pub begun_counts : Bool → List ℕ → List ℕ → List ℕ → ℕ → List ℕ
begun_counts first ns row counts k = masked (bits_at ns k row) (counted_from first (counts_at ns k counts))

-- BY A TEMPLATE. The letters before its last component, and the number of a motif's prefix of so many
abbrev pub before_last : Template → ℕ
before_last t = letters_before (components t) (t.count - 1)

abbrev pub prefix_of : Template → ℕ → ℕ
prefix_of t m = m / base_of t ^ (size t - before_last t)

-- the ways before component c after the prefix p of the letters before it, in each sequence that has the prefix: where the component may
-- start, for elsewhere there is none
pub record LeadsTo (t : Template) (ns l : List ℕ) (c p : ℕ) (counts : List ℕ) : Type 0 where
  pub same : (k : ℕ) → k < length ns → has_left (prefix_starts t (letters_before (components t) c) p (sequence ns l k)) ≡ true
      → masked (before_next reached t c 0 (letters_before (components t) c) p (sequence ns l k)) (counts_at ns k counts)
      ≡ before_next added t c 0 (letters_before (components t) c) p (sequence ns l k)

-- before the last component
abbrev pub Leads : Template → List ℕ → List ℕ → ℕ → List ℕ → Type 0
Leads t ns l p counts = LeadsTo t ns l (t.count - 1) p counts

-- where they are counted for a prefix, those after it
pub record Counted (t : Template) (ns l : List ℕ) (counted : Option ℕ) (counts : List ℕ) : Type 0 where
  pub leads : (p : ℕ) → counted ≡ Some p → Leads t ns l p counts
