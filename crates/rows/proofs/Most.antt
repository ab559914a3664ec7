-- A count is at most 2 ^ 40: a letter more makes none larger, and a gap adds at most 256 of them, of which there are at most five.
use mathlib.Core.Bool.{Bool, true, false}
use mathlib.Core.List.{List, [], ◌∷◌, map}
use mathlib.Core.Path.{◌≡◌}
use Prim.Native.Nat.{ℕ, zero, suc, ◌+◌, ◌-◌, ◌*◌, ◌^◌, ◌≤◌, ◌<◌}
use native.Mathlib.Nat.{le_trans, mul-one, pow-zero, pow-suc, pow-le-pow_right, mul-le-mul_right}
use native.Mathlib.Omega.{arith}
use lib.Dec.{leb}
use lib.ListN.{length, get_or, replicate, length-take}
use Rattle.rules.proofs.Bound.{Near, deal_few, dealt_near}
use Rattle.rules.specs.Lists.{if, run, sum}
use Rattle.rules.specs.Occurrence.{stands_by}
use Rattle.rules.specs.Sound.{SoundTemplate}
use Rattle.rules.specs.Template.{Part, Reading, span, slots, components, deal}
use Rattle.rules.specs.declared.Template.{Template}
use Rattle.rows.specs.Flags.{kept_at, kept_flags, matched, ago, recent, around, added, following, last_by, last_ways}

-- ---- each number of a row is at most b

abbrev Most : ℕ → List ℕ → Type 0
Most b ks = (o : ℕ) → get_or ks o 0 ≤ b

most_map : (b : ℕ) (f : ℕ → ℕ) → ((i : ℕ) → f i ≤ b) → (a n : ℕ) → Most b (map f (run a n))
unfolding run
most_map b f h a zero o = omega arith
most_map b f h a (suc n) zero = h a
most_map b f h a (suc n) (suc o) = most_map b f h (suc a) n o

most_if : (b : ℕ) (t : Bool) (x : ℕ) → x ≤ b → if t x 0 ≤ b
most_if b true x h = h
most_if b false x h = omega arith

most_ones : (n : ℕ) → Most 1 (replicate n 1)
most_ones zero o = omega arith
most_ones (suc n) zero = omega arith
most_ones (suc n) (suc o) = most_ones n o

most_matched : (b : ℕ) (f : ℕ → ℕ → Bool) (w : List ℕ) (j : ℕ) (s ks : List ℕ) → Most b ks → Most b (matched f w j s ks)
unfolding matched kept_flags kept_at
most_matched b f [] j s ks h = h
most_matched b f (x ∷ w) j s ks h =
    most_matched b f w (suc j) s (kept_flags f x j s ks) (most_map b (kept_at f x j s ks) (λ o. most_if b (stands_by f 0 (x ∷ []) s (suc (o + j))) (get_or ks o 0) (h o)) 0 (length s))

-- a gap adds n of them
most_recent : (b : ℕ) (ks : List ℕ) → Most b ks → (o d n : ℕ) → recent ks o d n ≤ n * b
unfolding recent ago run sum
most_recent b ks h o d zero = omega arith
most_recent b ks h o d (suc n) = omega (arith, most_if b (leb d o) (get_or ks (o - d) 0) (h (o - d)), most_recent b ks h o (suc d) n)

module _ (g : ℕ) where
  most_added : (b : ℕ) (least most : ℕ) (ks : List ℕ) → span least most ≤ g → Most b ks → Most (g * b) (added least most ks)
  unfolding added
  most_added b least most ks l h =
      most_map (g * b) (around ks least (span least most)) (λ o. le_trans (most_recent b ks h o least (span least most)) (mul-le-mul_right b l)) 0 (length ks)

  -- ---- parts, each at no more than g distances from the one before

  most_following : (b : ℕ) (cs : List Part) (s ks : List ℕ) → Near g cs → Most b ks → Most (g ^ length cs * b) (following added cs s ks)
  unfolding following
  most_following b [] s ks l h o = rw (pow-zero g) (omega (arith, h o))
  most_following b (c ∷ cs) s ks l h o =
      let e : g ^ suc (length cs) * b ≡ g ^ length cs * (g * b) = rw (pow-suc g (length cs)) (omega arith) in
      rw e
      (most_following (g * b) cs s (matched c.fits c.word 0 s (added c.near c.far ks)) (λ i k. l (suc i) (omega arith))
      (most_matched (g * b) c.fits c.word 0 s (added c.near c.far ks) (most_added b c.near c.far ks (l 0 (omega arith)) h))
      o)

  -- k gaps
  most_last : (cs : List Part) (s : List ℕ) (k : ℕ) → 0 < g → Near g cs → length cs ≤ suc k → Most (g ^ k) (last_ways cs s)
  unfolding last_by
  most_last [] s k some l h o = le_trans (most_ones (length s) o) (rw (pow-zero g) at (pow-le-pow_right {n = g} some {i = 0} {j = k} (omega arith)))
  most_last (c ∷ cs) s k some l h o =
      le_trans
      (rw (mul-one (g ^ length cs)) at (most_following 1 cs s (matched c.fits c.word 0 s (replicate (length s) 1)) (λ i k. l (suc i) (omega arith)) (most_matched 1 c.fits c.word 0 s (replicate (length s) 1) (most_ones (length s))) o))
      (pow-le-pow_right {n = g} some {i = length cs} {j = k} (omega arith))

-- ---- of a sound template

module _ (R : Reading) (t : Template) (sound : SoundTemplate t) where
  few : length (components t) ≤ t.count
  unfolding components
  few = omega (arith, length-take t.count (slots t))

  -- before the first letter of component k, each gap has been opened
  power : (k : ℕ) → k ≤ 5 → 256 ^ k ≤ 2 ^ 40
  power k l = le_trans (pow-le-pow_right {n = 256} (omega arith) {i = k} {j = 5} l) (omega arith)

  -- THE BOUND
  pub ways_bound : (w s : List ℕ) (o : ℕ) → get_or (last_ways (deal R 0 (components t) w) s) o 0 ≤ 2 ^ 40
  ways_bound w s o =
      le_trans (most_last 256 (deal R 0 (components t) w) s 5 (omega arith) (dealt_near R t sound w) (omega (arith, deal_few R 0 (components t) w, few, sound.few)) o) (power 5 (omega arith))
