-- Where a path begins: every sequence has a mark, and every bit of its words is set, so the first letter may come anywhere.
use mathlib.Core.Bool.{false, false≢true}
use mathlib.Core.List.{List}
use mathlib.Core.Path.{◌≡◌, refl, sym, ap, ◌∙◌}
use Prim.Native.Nat.{ℕ, suc, ◌+◌, ◌-◌, ◌*◌, ◌/◌, ◌%◌, ◌^◌, ◌≤◌, ◌<◌}
use native.Mathlib.Decide.{dec_lt}
use native.Mathlib.Nat.{pow-suc}
use native.Mathlib.Omega.{arith}
use lib.Dec.{ltb}
use lib.ListN.{length, get_or, replicate, get_or-replicate}
use lib.Pow.{pow_pos, ones_lt, ones_split, high}
use borrow.Author.Tests.{lt-ltb, le-ltb}
use Rattle.rules.proofs.Components.{components_length, components_some}
use Rattle.rules.specs.Sound.{SoundSet, SoundTemplate}
use Rattle.rules.specs.declared.Template.{Template}
use Rattle.rows.specs.Bits.{held}
use Rattle.rows.specs.Flags.{reached}
use Rattle.matching.specs.Path.{before_next, Slot}
use Rattle.rows.specs.NextLetter.{letters_before, before_letter}
use Rattle.rows.specs.Set.{row_marks, row_words, words_of, first_word, between, bits_at, is_marked, Marked, sequence, Source}
use Rattle.rows.proofs.Bits.{held_at}
use Rattle.rows.proofs.ByFlags.{long, left_past}
use Rattle.rows.proofs.Digits.{digit}
use Rattle.rows.proofs.Offsets.{words_room}
use Rattle.rows.proofs.Sets.{first_past, first_most}
use Rattle.matching.proofs.Slots.{enough, between_at, slot_at}
use Rattle.matching.proofs.Steps.{before_long}

-- EVERY DIGIT of a word that is all ones
odd : (n : ℕ) → 0 < n → (n * 2 - 1) % 2 ≡ 1
odd n h = omega arith

digit_all : (n b : ℕ) → b < n → digit (2 ^ n - 1) b ≡ 1
unfolding digit
digit_all n b h =
    let j = n - 1 - b in
    let z : n ≡ suc j + b = omega arith in
    let e : 2 ^ n - 1 ≡ (2 ^ suc j - 1) * 2 ^ b + (2 ^ b - 1) = ap (λ (m : ℕ). 2 ^ m - 1) z ∙ ones_split (suc j) b in
    ap (λ (m : ℕ). m / 2 ^ b % 2) e ∙ ap (λ (m : ℕ). m % 2) (high (2 ^ suc j - 1) b (ones_lt b)) ∙ ap (λ (m : ℕ). (m - 1) % 2) (pow-suc 2 j) ∙ odd (2 ^ j) (pow_pos j)

digit_ones : (b : ℕ) → b < 64 → digit (2 ^ 64 - 1) b ≡ 1
digit_ones b h = digit_all 64 b h

ones_at : (ws : List ℕ) (p : ℕ) → get_or ws (p / 64) 0 ≡ 2 ^ 64 - 1 → get_or (held ws) p 0 ≡ 1
ones_at ws p e = held_at ws p ∙ ap (λ (w : ℕ). digit w (p % 64)) e ∙ digit_ones (p % 64) (omega arith)

-- at the first letter of all there is one way everywhere
one_way : (t : Template) (s : List ℕ) → before_next reached t 0 0 0 0 s ≡ replicate (length s) 1
unfolding before_letter
one_way t s = refl

-- THE SLOT: the marks of all sequences, and then words that are all ones
module _ (l ns : List ℕ) (sound : SoundSet l ns) (row : List ℕ) (marks : Marked (λ k. ltb k (length ns)) row 1024)
    (words : (q : ℕ) → row_marks ≤ q → q < row_words → get_or row q 0 ≡ 2 ^ 64 - 1) where
  ones_bits : (k : ℕ) → k < length ns → (p : ℕ) → p < length (sequence ns l k) → get_or (bits_at ns k row) p 0 ≡ 1
  unfolding bits_at
  ones_bits k u p v =
      let a = first_word ns k in
      let y = words_of (get_or ns k 0) in
      let g : p < 64 * y = omega (arith, long ns l sound.adds sound.few k, words_room (get_or ns k 0)) in
      let i : a + p / 64 < 2072 = omega (arith, first_most ns k (length ns) u u, enough l ns sound) in
      ones_at (between a (a + y) row) p (between_at a (a + y) row (p / 64) (omega arith) ∙ words (a + p / 64) (omega (arith, first_past ns k)) i)

  past_marks : (k : ℕ) → length ns ≤ k → k < 1024 → is_marked row k ≡ false
  past_marks k h u = marks.same k u ∙ le-ltb k (length ns) h

  -- a sequence without a mark is none
  unmarked : (k : ℕ) → k < 1024 → is_marked row k ≡ false → length ns ≤ k
  unmarked k u e =
      elim (dec_lt k (length ns)) [
        | yes v ↦ absurd (false≢true (sym e ∙ marks.same k u ∙ lt-ltb k (length ns) v))
        | no v ↦ omega arith
      ]

  first_source : (t : Template) → Source (before_next reached t 0 0 0 0) ns l row
  first_source t = record {
    none = λ k u e. left_past ns l sound.adds sound.few (before_next reached t 0 0 0 0) (before_long t 0 0 0 0) k (unmarked k u e);
    past = past_marks;
    begin = λ k u e p v. ones_bits k u p v ∙ sym (ap (λ (ks : List ℕ). get_or ks p 0) (one_way t (sequence ns l k)) ∙ get_or-replicate (length (sequence ns l k)) p 1 0 v);
  }

  -- it is that of the prefix with no letters
  pub first_slot : (t : Template) → SoundTemplate t → Slot t ns l row 0 0
  unfolding letters_before
  first_slot t good =
      let n = components_length t good.few in
      slot_at t ns l row 0 0 0 0 (record { there = omega (arith, n, good.some); inside = components_some good 0 (omega (arith, n, good.some)); counted = refl }) (first_source t)
