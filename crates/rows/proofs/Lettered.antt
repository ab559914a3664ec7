-- The row of a letter, word by word: a word of the row is that of the 64 letters from its first on.
use mathlib.Core.Bool.{Bool}
use mathlib.Core.List.{List, [], ◌∷◌, map}
use mathlib.Core.Path.{◌≡◌, sym, ap, ◌∙◌}
use Prim.Native.Nat.{ℕ, ◌+◌, ◌-◌, ◌*◌, ◌<◌, min}
use native.Mathlib.Decide.{dec_lt}
use native.Mathlib.Nat.{zero-add}
use native.Mathlib.Omega.{arith}
use lib.ListN.{length, take, drop, get_or, set, length-take, length-drop}
use lib.Seq.{get_or-set_same, get_or-set_other, get_or-take, get_or-drop}
use Rattle.rules.specs.Lists.{run}
use Rattle.rules.proofs.Over.{getd_map_run}
use Rattle.rows.specs.Bits.{held}
use Rattle.rows.specs.Flags.{bit}
use Rattle.rows.specs.Rows.{letter_at, lettered}
use Rattle.rows.specs.Words.{word_at}
use Rattle.rows.proofs.Bits.{word_bit, held_run}
use Rattle.rows.proofs.Digits.{digit}
use Rattle.rows.proofs.Joined.{map_word}
use Rattle.rows.proofs.LetterRow.{letter_in, letter_out}

module _ (f : ℕ → ℕ → Bool) (x : ℕ) (s : List ℕ) where
  -- one word
  pub lettered_word : (w : ℕ) → ((b : ℕ) → b < 64 → digit w b ≡ letter_at f x s b) → held (w ∷ []) ≡ lettered f x s 64
  unfolding run lettered
  lettered_word w all = held_run (λ _. w) (letter_at f x s) 1 (λ q b k l. all b l ∙ ap (letter_at f x s) (omega arith))

  -- the first q words of a row are made
  abbrev pub Made : ℕ → List ℕ → Type 0
  Made q ws = (k b : ℕ) → k < q → b < 64 → digit (get_or ws k 0) b ≡ letter_at f x s (k * 64 + b)

  -- the letters of word q
  module _ (q to : ℕ) (e : to ≡ min (64 * q + 64) (length s)) where
    abbrev part : List ℕ
    part = take (to - 64 * q) (drop (64 * q) s)

    part_at : (b : ℕ) → b < 64 → letter_at f x part b ≡ letter_at f x s (q * 64 + b)
    part_at b l =
        let n : length part ≡ min (to - 64 * q) (length s - 64 * q) = simp (length-take, length-drop) in
        let z : 64 * q + b ≡ q * 64 + b = omega arith in
        elim (dec_lt (64 * q + b) (length s)) [
          | yes h ↦ (sym (letter_in f x part b (omega arith))
              ∙ ap (λ (y : ℕ). bit (f x y)) (get_or-take (to - 64 * q) (drop (64 * q) s) b 0 (omega arith) ∙ get_or-drop (64 * q) s b 0)
              ∙ letter_in f x s (64 * q + b) h ∙ ap (letter_at f x s) z)
          | no h ↦ (letter_out f x part b (omega arith) ∙ sym (letter_out f x s (q * 64 + b) (omega arith)))
        ]

    word_digit : (r : ℕ) → held (r ∷ []) ≡ lettered f x part 64 → (b : ℕ) → b < 64 → digit r b ≡ letter_at f x s (q * 64 + b)
    unfolding lettered
    word_digit r z b l =
        sym (word_bit r b l)
        ∙ ap (λ (y : List ℕ). get_or y b 0) z
        ∙ getd_map_run (letter_at f x part) 0 0 64 b l
        ∙ ap (letter_at f x part) (zero-add b)
        ∙ part_at b l

    -- a turn makes it
    pub made_more : (ws : List ℕ) (r : ℕ) → held (r ∷ []) ≡ lettered f x part 64 → q < length ws → Made q ws → Made (q + 1) (set ws q r)
    made_more ws r z h before k b m l =
        elim (dec_lt k q) [
          | yes o ↦ (ap (λ (y : ℕ). digit y b) (get_or-set_other ws q k r 0 (λ i. omega arith)) ∙ before k b o l)
          | no o ↦ (let i : q ≡ k = omega arith in
              ap (λ (y : ℕ). digit (get_or (set ws q r) y 0) b) (sym i) ∙ ap (λ (y : ℕ). digit y b) (get_or-set_same ws q r 0 h) ∙ word_digit r z b l
              ∙ ap (λ (y : ℕ). letter_at f x s (y * 64 + b)) i)
        ]

  -- after the last
  pub made_all : (n m : ℕ) (ws : List ℕ) → length ws ≡ m → n ≡ m → Made n ws → held ws ≡ lettered f x s (64 * m)
  unfolding lettered
  made_all n m ws z e all =
      ap held (sym (map_word ws) ∙ ap (λ (k : ℕ). map (word_at ws) (run 0 k)) z)
      ∙ held_run (word_at ws) (letter_at f x s) m (λ k b h l. all k b (omega arith) l)
