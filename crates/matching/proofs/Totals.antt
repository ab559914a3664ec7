-- The weights of the sequences, added: a sequence with no mark adds nothing, so a walk over the marks adds up all of them.
use mathlib.Core.Bool.{true, false}
use mathlib.Core.List.{List, map}
use mathlib.Core.Path.{◌≡◌, ap, ◌∙◌}
use Prim.Native.Nat.{ℕ, suc, ◌+◌, ◌-◌, ◌*◌, ◌≤◌, ◌<◌}
use native.Mathlib.Omega.{arith}
use lib.ListN.{length, take, get_or}
use borrow.Rule.Slice.PartMut.{mid_of, mid_len}
use Rattle.rules.specs.Limits.{sequence_set_sequences}
use Rattle.rules.specs.Lists.{run, sum}
use Rattle.rows.specs.Bits.{held}
use Rattle.rows.specs.Flags.{masked}
use Rattle.rows.specs.Set.{words_of, first_word, between, bits_at, is_marked}
use Rattle.matching.specs.Weights.{kept_counts, weight_at, weight_of}
use Rattle.rows.proofs.Adding.{run_zeros, run_split, run_jump}
use Rattle.matching.proofs.Leads.{counts_many, words_many, kept_are_at}
use Rattle.rows.proofs.Offsets.{words_room, words_tight}
use Rattle.rows.proofs.Sets.{bits_are_at}

module _ (ns row counts : List ℕ) where
  weight_off : (k : ℕ) → is_marked row k ≡ false → weight_at ns row counts k ≡ 0
  unfolding weight_at
  weight_off k e = rw e

  weight_on : (k : ℕ) → is_marked row k ≡ true → weight_at ns row counts k ≡ sum (kept_counts ns row counts k)
  unfolding weight_at
  weight_on k e = rw e

  -- the weights of the sequences from k up to n
  unfoldable pub weights_up : ℕ → ℕ → ℕ
  weights_up n k = sum (map (weight_at ns row counts) (run k (n - k)))

  -- up to the next mark there is nothing to add
  pub weights_next : (n k at : ℕ) → k ≤ at → at < n → ((m : ℕ) → k ≤ m → m < at → is_marked row m ≡ false) → is_marked row at ≡ true
      → weights_up n k ≡ sum (kept_counts ns row counts at) + weights_up n (at + 1)
  unfolding weights_up
  weights_next n k at up in' skips on =
      let z : n - k ≡ (at - k) + suc (n - (at + 1)) = omega arith in
      let y : k + (at - k) ≡ at = omega arith in
      let j : sum (map (weight_at ns row counts) (run k ((at - k) + suc (n - (at + 1))))) ≡ weight_at ns row counts at + sum (map (weight_at ns row counts) (run (at + 1) (n - (at + 1)))) =
      rw y at (run_jump (weight_at ns row counts) k (at - k) (n - (at + 1)) (λ m l u. weight_off m (skips m l (omega arith)))) in
      rw (z, j, weight_on at on)

  -- nor past the last
  pub weights_none : (n k : ℕ) → ((m : ℕ) → k ≤ m → m < n → is_marked row m ≡ false) → weights_up n k ≡ 0
  unfolding weights_up
  weights_none n k off = run_zeros (weight_at ns row counts) k (n - k) (λ m l u. weight_off m (off m l (omega arith)))

  -- those of one word of marks
  pub weights_word : (w k : ℕ) → k ≡ w * 64 → weights_up (w * 64 + 64) k ≡ sum (map (weight_at ns row counts) (run (w * 64) 64))
  unfolding weights_up
  weights_word w k e = let z : w * 64 + 64 - w * 64 ≡ 64 = omega arith in rw (e, z)

  -- word after word
  pub weights_more : (n w : ℕ) → w * 64 + 64 ≤ n → weights_up n (w * 64) ≡ sum (map (weight_at ns row counts) (run (w * 64) 64)) + weights_up n ((w + 1) * 64)
  unfolding weights_up
  weights_more n w h =
      let z : n - w * 64 ≡ 64 + (n - (w + 1) * 64) = omega arith in
      let y : w * 64 + 64 ≡ (w + 1) * 64 = omega arith in
      ap (λ (m : ℕ). sum (map (weight_at ns row counts) (run (w * 64) m))) z
      ∙ run_split (weight_at ns row counts) (w * 64) 64 (n - (w + 1) * 64)
      ∙ ap (λ (m : ℕ). sum (map (weight_at ns row counts) (run (w * 64) 64)) + sum (map (weight_at ns row counts) (run m (n - (w + 1) * 64)))) y

  pub weights_all : weights_up sequence_set_sequences 0 ≡ weight_of ns row counts
  unfolding weights_up weight_of
  weights_all = let z : sequence_set_sequences - 0 ≡ sequence_set_sequences = omega arith in rw z

-- ONE SEQUENCE, by where its words and its counts begin and end
module _ (ns row counts : List ℕ) (k : ℕ) (h : k < length ns) {a e from to : ℕ} (begins : a ≡ sum (take k ns)) (ends : e ≡ sum (take (k + 1) ns))
    (starts : from ≡ first_word ns k) (stops : to ≡ first_word ns (k + 1)) (words : to ≤ length row) (places : e ≤ length counts) where
  many_words : length (mid_of from (to - from) row) ≡ words_of (get_or ns k 0)
  many_words = mid_len from to row words ∙ words_many ns k h begins ends starts stops

  many_places : length (mid_of a (e - a) counts) ≡ get_or ns k 0
  many_places = mid_len a e counts places ∙ counts_many ns k h begins ends

  pub words_cover : (64 * length (mid_of from (to - from) row) ≤ length (mid_of a (e - a) counts) + 63) × (length (mid_of a (e - a) counts) ≤ 64 * length (mid_of from (to - from) row))
  words_cover = (omega (arith, many_words, many_places, words_tight (get_or ns k 0)), omega (arith, many_words, many_places, words_room (get_or ns k 0)))

  pub dark_past : ((p : ℕ) → get_or ns k 0 ≤ p → get_or (bits_at ns k row) p 0 ≡ 0) → (p : ℕ) → length (mid_of a (e - a) counts) ≤ p → get_or (held (mid_of from (to - from) row)) p 0 ≡ 0
  unfolding between
  dark_past dark p l = ap (λ (ks : List ℕ). get_or ks p 0) (bits_are_at ns k h starts stops row) ∙ dark p (omega (arith, many_places))

  pub own_sum : sum (masked (held (mid_of from (to - from) row)) (mid_of a (e - a) counts)) ≡ sum (kept_counts ns row counts k)
  unfolding between
  own_sum = ap sum (kept_are_at ns k h begins ends starts stops row counts)
