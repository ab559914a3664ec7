-- Rows and flags: a row of bits holds the flags of a sequence, and past them none. One letter more, and a gap, do to it what
-- they do to the flags.
use mathlib.Core.Bool.{Bool, true, false}
use mathlib.Core.List.{List, [], ◌∷◌, ◌++◌, map}
use mathlib.Core.Path.{◌≡◌, refl, sym, ap, ◌∙◌}
use Prim.Native.Nat.{ℕ, zero, suc, ◌+◌, ◌-◌, ◌≤◌, ◌<◌, min}
use native.Mathlib.Decide.{dec_lt}
use native.Mathlib.Nat.{zero-add, min-zero}
use native.Mathlib.Omega.{arith}
use lib.ListN.{length, get_or, replicate, length-append, length-replicate, get_or-append, get_or-eq_default}
use lib.Seq.{ext_get_or, get_or-append-add}
use Rattle.rules.specs.Lists.{if, run, sum}
use Rattle.rules.specs.Occurrence.{stands_by}
use Rattle.rules.proofs.Over.{getd_map_run, length_map_run}
use Rattle.rows.specs.Flags.{bit, ago, recent, near, reached, has_left}
use Rattle.rows.proofs.Gaps.{ago_in, ago_out}
use Rattle.rows.specs.Flags.{kept_at, kept_flags}
use Rattle.rows.specs.Rows.{both_at, both, ahead_at, ahead, window, extended, letter_at, lettered, padded}
use Rattle.rows.proofs.Joined.{left_append}
use Rattle.rows.proofs.LetterRow.{zero_word, letter_out}

-- the first n bits of a row are these flags
abbrev pub Agree : ℕ → List ℕ → List ℕ → Type 0
Agree n K ks = (p : ℕ) → p < n → get_or K p 0 ≡ get_or ks p 0

module _ (n : ℕ) (ks : List ℕ) where
  pub padded_in : Agree (length ks) (padded n ks) ks
  unfolding padded
  padded_in p h = get_or-append ks (replicate (n - length ks) 0) 0 p h

  pub padded_out : (p : ℕ) → length ks ≤ p → get_or (padded n ks) p 0 ≡ 0
  unfolding padded
  padded_out p h =
      let e : p ≡ length ks + (p - length ks) = omega arith in
      ap (λ (x : ℕ). get_or (ks ++ replicate (n - length ks) 0) x 0) e ∙ get_or-append-add ks (replicate (n - length ks) 0) (p - length ks) 0 ∙ zero_word (n - length ks) (p - length ks)

  pub length_padded : length ks ≤ n → length (padded n ks) ≡ n
  unfolding padded
  length_padded h = simp (length-append, length-replicate) (omega arith)

left_zeros : (n : ℕ) → has_left (replicate n 0) ≡ false
unfolding has_left
left_zeros zero = refl
left_zeros (suc n) = left_zeros n

-- a bit is set where a flag is left
pub left_padded : (n : ℕ) (ks : List ℕ) → has_left (padded n ks) ≡ has_left ks
unfolding padded
left_padded n ks =
    left_append ks (replicate (n - length ks) 0)
    ∙ rw (left_zeros (n - length ks)) (elim (has_left ks) as (λ b. if b true false ≡ b) [ true ↦ refl | false ↦ refl ])

-- ONE LETTER MORE
lettered_at : (f : ℕ → ℕ → Bool) (x : ℕ) (s : List ℕ) (n q : ℕ) → length s ≤ n → get_or (lettered f x s n) q 0 ≡ letter_at f x s q
unfolding lettered
lettered_at f x s n q h =
    elim (dec_lt q n) [
      | yes l ↦ (getd_map_run (letter_at f x s) 0 0 n q l ∙ ap (letter_at f x s) (zero-add q))
      | no m ↦ (let k : length (map (letter_at f x s) (run 0 n)) ≤ q = rw length_map_run (omega arith) in
          get_or-eq_default (map (letter_at f x s) (run 0 n)) 0 k ∙ sym (letter_out f x s q (omega arith)))
    ]

length_lettered : (f : ℕ → ℕ → Bool) (x : ℕ) (s : List ℕ) (n : ℕ) → length (lettered f x s n) ≡ n
unfolding lettered
length_lettered f x s n = length_map_run (letter_at f x s) 0 n

min_bit : (k : ℕ) (b : Bool) → k ≤ 1 → min k (bit b) ≡ if b k 0
min_bit k true h = omega arith
min_bit k false h = min-zero k

module _ (s K ks : List ℕ) (small : (p : ℕ) → get_or K p 0 ≤ 1) (room : length s ≤ length K) (same : Agree (length s) K ks) (f : ℕ → ℕ → Bool) (x i : ℕ) where
  at : (p : ℕ) → p < length K → get_or (extended i (lettered f x s (length K)) K) p 0 ≡ min (get_or K p 0) (letter_at f x s (p + i))
  unfolding extended both both_at ahead ahead_at
  at p h =
      let L = lettered f x s (length K) in
      let l : p < length L = rw length_lettered h in
      let e : get_or (ahead i L) p 0 ≡ letter_at f x s (p + i) =
      getd_map_run (ahead_at i L) 0 0 (length L) p l ∙ ap (λ (q : ℕ). get_or L (q + i) 0) (zero-add p) ∙ lettered_at f x s (length K) (p + i) room in
      getd_map_run (both_at K (ahead i L)) 0 0 (length K) p h ∙ ap (both_at K (ahead i L)) (zero-add p) ∙ ap (min (get_or K p 0)) e

  kept_flag : (p : ℕ) → p < length s → min (get_or K p 0) (letter_at f x s (p + i)) ≡ get_or (kept_flags f x i s ks) p 0
  unfolding kept_flags kept_at letter_at
  kept_flag p h =
      min_bit (get_or K p 0) (stands_by f 0 (x ∷ []) s (suc (p + i))) (small p)
      ∙ ap (λ (k : ℕ). if (stands_by f 0 (x ∷ []) s (suc (p + i))) k 0) (same p h)
      ∙ sym (getd_map_run (kept_at f x i s ks) 0 0 (length s) p h ∙ ap (kept_at f x i s ks) (zero-add p))

  length_kept : length (kept_flags f x i s ks) ≡ length s
  unfolding kept_flags
  length_kept = length_map_run (kept_at f x i s ks) 0 (length s)

  -- the flags with one letter more
  pub extended_flags : extended i (lettered f x s (length K)) K ≡ padded (length K) (kept_flags f x i s ks)
  unfolding extended both
  extended_flags =
      ext_get_or 0 (extended i (lettered f x s (length K)) K) (padded (length K) (kept_flags f x i s ks))
      (length_map_run _ 0 (length K) ∙ sym (length_padded (length K) (kept_flags f x i s ks) (rw length_kept room)))
      (λ p l. one p (rw (length_map_run (both_at K (ahead i (lettered f x s (length K)))) 0 (length K)) at l))
    where
      one : (p : ℕ) → p < length K → get_or (extended i (lettered f x s (length K)) K) p 0 ≡ get_or (padded (length K) (kept_flags f x i s ks)) p 0
      one p l =
          at p l ∙ elim (dec_lt p (length s)) [
            | yes h ↦ (kept_flag p h ∙ sym (padded_in (length K) (kept_flags f x i s ks) p (rw length_kept h)))
            | no n ↦ (ap (min (get_or K p 0)) (letter_out f x s (p + i) (omega arith)) ∙ min-zero (get_or K p 0)
                ∙ sym (padded_out (length K) (kept_flags f x i s ks) p (rw length_kept (omega arith))))
          ]

-- A GAP
module _ (K ks : List ℕ) (same : Agree (length ks) K ks) where
  ago_same : (o d : ℕ) → o < length ks → ago K o d ≡ ago ks o d
  ago_same o d h =
      elim (dec_lt o d) [
        | yes l ↦ (ago_out K o d l ∙ sym (ago_out ks o d l))
        | no n ↦ (ago_in K o d (omega arith) ∙ same (o - d) (omega arith) ∙ sym (ago_in ks o d (omega arith)))
      ]

  recent_same : (o d n : ℕ) → o < length ks → recent K o d n ≡ recent ks o d n
  unfolding recent run sum
  recent_same o d zero h = refl
  recent_same o d (suc n) h = rw (ago_same o d h) (ap (λ (y : ℕ). ago ks o d + y) (recent_same o (suc d) n h))

  near_same : (d n o : ℕ) → o < length ks → near K d n o ≡ near ks d n o
  unfolding near
  near_same d n o h = rw (recent_same o d n h)

  -- the flags that a gap of n distances reaches, the least of them d
  pub window_flags : (a b : ℕ) → length ks ≤ length K → Agree (length ks) (window a (b + 1 - a) K) (reached a b ks)
  unfolding window reached
  window_flags a b h p l =
      getd_map_run (near K a (b + 1 - a)) 0 0 (length K) p (omega arith)
      ∙ ap (near K a (b + 1 - a)) (zero-add p)
      ∙ near_same a (b + 1 - a) p l
      ∙ sym (getd_map_run (near ks a (b + 1 - a)) 0 0 (length ks) p l ∙ ap (near ks a (b + 1 - a)) (zero-add p))
