-- The rows of the four letters of a sequence: a byte is the letter x exactly if its value is x, so the row of the byte in the buffer is
-- that of the letter in the values. They are written in slots of one table, a word of each at a time.
use mathlib.Core.Bool.{true}
use mathlib.Core.List.{List, [], ◌∷◌, map}
use mathlib.Core.Path.{◌≡◌, refl, sym, ap, subst, ◌∙◌}
use Prim.Native.Nat.{ℕ, zero, suc, ◌+◌, ◌-◌, ◌*◌, ◌≤◌, ◌<◌, min}
use native.Mathlib.Omega.{arith}
use lib.Dec.{eqb}
use lib.ListN.{length, take, drop, get_or, set, length-take, length-drop}
use lib.Seq.{get_or-take, get_or-drop, take-set-le}
use Rattle.std.specs.Prelude.{◌≢◌}
use Rattle.std.proofs.lemmas.List.{length-set, get_or-set_same, get_or-set_other}
use borrow.Rule.Slice.PartMut.{mid_len}
use Rattle.rules.proofs.Bytes.{stands_bytes}
use Rattle.rules.proofs.Tables.{map_same, map_take, map_drop}
use Rattle.rules.specs.Letters.{letter, is_letter, value}
use Rattle.rules.specs.Lists.{run}
use Rattle.rules.specs.Sequences.{split}
use Rattle.rows.specs.Bases.{word_of}
use Rattle.rows.specs.Bits.{held}
use Rattle.rows.specs.Flags.{bit}
use Rattle.matching.specs.Path.{row_slot}
use Rattle.rows.specs.Rows.{letter_at, lettered}
use Rattle.rows.specs.Set.{row_words, words_of, first_word, between, shifted_at, lettered_at, Filled}
use Rattle.rows.specs.declared.words.Bases.{Bases}
use Rattle.rows.proofs.Lettered.{Made, made_more, made_all}
use Rattle.rows.proofs.Offsets.{offset_of, lettered_turn}
use Rattle.rows.proofs.Sets.{between_set}
use Rattle.rows.proofs.Sets.{filled_turn}

-- ONE LETTER
letter_bytes : (x : ℕ) → x < 4 → (s : List ℕ) (p : ℕ) → letter_at eqb (letter x) s p ≡ letter_at eqb x (map value s) p
unfolding letter_at
letter_bytes x h s p = ap bit (stands_bytes (x ∷ []) s below (suc p))
  where
    below : (i : ℕ) → get_or (x ∷ []) i 0 < 4
    below zero = h
    below (suc i) = omega arith

lettered_bytes : (x : ℕ) → x < 4 → (s : List ℕ) (n : ℕ) → lettered eqb (letter x) s n ≡ lettered eqb x (map value s) n
unfolding lettered
lettered_bytes x h s n = map_same (letter_at eqb (letter x) s) (letter_at eqb x (map value s)) (letter_bytes x h s) (run 0 n)

-- the values of sequence k
pub split_values : (ns l : List ℕ) (k : ℕ) → get_or (split ns (map value l)) k [] ≡ map value (get_or (split ns l) k [])
unfolding split
split_values [] l k = refl
split_values (n ∷ ns) l zero = map_take value n l
split_values (n ∷ ns) l (suc k) = rw (map_drop value n l) (split_values ns (drop n l) k)

-- in every sequence
pub at_bytes : (ns l : List ℕ) (x : ℕ) → x < 4 → (k : ℕ) → lettered_at eqb (letter x) ns l k ≡ lettered_at eqb x ns (map value l) k
unfolding lettered_at
at_bytes ns l x h k = rw (split_values ns l k) (lettered_bytes x h (get_or (split ns l) k []) (64 * words_of (get_or ns k 0)))

-- A part of a row is as long as it should be
between_long : (a e : ℕ) (row : List ℕ) → e ≤ row_words → length row ≡ row_words → length (between a e row) ≡ e - a
unfolding between
between_long a e row m n = mid_len a e row (omega arith)

-- A WORD WRITTEN in the row of each letter
abbrev put_word : ℕ → ℕ → ℕ → List (List ℕ) → List (List ℕ)
put_word y q v rows = set rows y (set (row_slot y rows) q v)

word_here : (y q v : ℕ) (rows : List (List ℕ)) → y < length rows → row_slot y (put_word y q v rows) ≡ set (row_slot y rows) q v
word_here y q v rows h = get_or-set_same rows y (set (row_slot y rows) q v) [] h

word_there : (x y q v : ℕ) (rows : List (List ℕ)) → x ≢ y → row_slot x (put_word y q v rows) ≡ row_slot x rows
word_there x y q v rows h = get_or-set_other rows y x (set (row_slot y rows) q v) [] h

put_long : (y q v : ℕ) (rows : List (List ℕ)) → 4 ≤ length rows → 4 ≤ length (put_word y q v rows)
put_long y q v rows h = rw (length-set rows y (set (row_slot y rows) q v)) h

module _ (q : ℕ) (w : Bases) (rows : List (List ℕ)) (long : 4 ≤ length rows) where
  abbrev with_a : List (List ℕ)
  with_a = put_word 0 q w.a rows

  abbrev with_c : List (List ℕ)
  with_c = put_word 1 q w.c with_a

  abbrev with_g : List (List ℕ)
  with_g = put_word 2 q w.g with_c

  long_c : 4 ≤ length with_c
  long_c = put_long 1 q w.c with_a (put_long 0 q w.a rows long)

  pub words_put : (x : ℕ) → x < 4 → row_slot x (put_word 3 q w.t with_g) ≡ set (row_slot x rows) q (word_of w x)
  unfolding word_of
  words_put zero o =
      word_there 0 3 q w.t with_g (omega arith) ∙ word_there 0 2 q w.g with_c (omega arith) ∙ word_there 0 1 q w.c with_a (omega arith)
      ∙ word_here 0 q w.a rows (omega arith)
  words_put (suc zero) o =
      word_there 1 3 q w.t with_g (omega arith) ∙ word_there 1 2 q w.g with_c (omega arith) ∙ word_here 1 q w.c with_a (omega (arith, put_long 0 q w.a rows long))
      ∙ ap (λ (r : List ℕ). set r q w.c) (word_there 1 0 q w.a rows (omega arith))
  words_put (suc (suc zero)) o =
      word_there 2 3 q w.t with_g (omega arith) ∙ word_here 2 q w.g with_c (omega (arith, long_c))
      ∙ ap (λ (r : List ℕ). set r q w.g) (word_there 2 1 q w.c with_a (omega arith) ∙ word_there 2 0 q w.a rows (omega arith))
  words_put (suc (suc (suc zero))) o =
      word_here 3 q w.t with_g (omega (arith, put_long 2 q w.g with_c long_c))
      ∙ ap (λ (r : List ℕ). set r q w.t)
      (word_there 3 2 q w.g with_c (omega arith) ∙ word_there 3 1 q w.c with_a (omega arith) ∙ word_there 3 0 q w.a rows (omega arith))
  words_put (suc (suc (suc (suc x)))) o = absurd (omega arith)

-- a part of letters is of letters
pub spelt_part : (l : List ℕ) → ((i : ℕ) → i < length l → is_letter (get_or l i 0) ≡ true) → (a e i : ℕ)
    → i < length (take (e - a) (drop a l)) → is_letter (get_or (take (e - a) (drop a l)) i 0) ≡ true
spelt_part l spelt a e i h =
    let n : length (take (e - a) (drop a l)) ≡ min (e - a) (length l - a) = simp (length-take, length-drop) in
    ap is_letter (get_or-take (e - a) (drop a l) i 0 (omega arith) ∙ get_or-drop a l i 0) ∙ spelt (a + i) (omega arith)

-- ONE SEQUENCE s, whose words are those from a up to e: of each letter's row the first q of them are made
module _ (a e : ℕ) (s : List ℕ) (old : List (List ℕ)) where
  pub record Begun (q : ℕ) (standing : List (List ℕ)) : Type 0 where
    pub long : (x : ℕ) → x < 4 → length (row_slot x standing) ≡ row_words
    pub kept : (x : ℕ) → x < 4 → take a (row_slot x standing) ≡ take a (row_slot x old)
    pub made : (x : ℕ) → x < 4 → Made eqb (letter x) s q (between a e (row_slot x standing))

  -- a turn makes a word in each
  pub begun_more : (q to : ℕ) (standing standing' : List (List ℕ)) (w : Bases) → to ≡ min (64 * q + 64) (length s)
      → a + q < e → e ≤ row_words
      → ((x : ℕ) → x < 4 → held (word_of w x ∷ []) ≡ lettered eqb (letter x) (take (to - 64 * q) (drop (64 * q) s)) 64)
      → ((x : ℕ) → x < 4 → row_slot x standing' ≡ set (row_slot x standing) (a + q) (word_of w x))
      → Begun q standing → Begun (q + 1) standing'
  begun_more q to standing standing' w ends h m words put before = record {
    long = λ x o. ap length (put x o) ∙ length-set (row_slot x standing) (a + q) (word_of w x) ∙ before.long x o;
    kept = λ x o. ap (take a) (put x o) ∙ take-set-le a (row_slot x standing) (a + q) (word_of w x) (omega arith) ∙ before.kept x o;
    made = λ x o.
        let e' : between a e (row_slot x standing') ≡ set (between a e (row_slot x standing)) q (word_of w x) =
        ap (between a e) (put x o) ∙ between_set a e q (word_of w x) (row_slot x standing) h in
        subst (Made eqb (letter x) s (q + 1)) (sym e')
        (made_more eqb (letter x) s q to ends (between a e (row_slot x standing)) (word_of w x) (words x o) (inside x o)
        (before.made x o));
  }
    where
      inside : (x : ℕ) → x < 4 → q < length (between a e (row_slot x standing))
      inside x o = omega (arith, between_long a e (row_slot x standing) m (before.long x o))

  pub begun_all : (q : ℕ) (standing : List (List ℕ)) → a ≤ e → q ≡ e - a → e ≤ row_words → Begun q standing
      → (x : ℕ) → x < 4 → held (between a e (row_slot x standing)) ≡ lettered eqb (letter x) s (64 * (e - a))
  begun_all q standing h z m all x o =
      made_all eqb (letter x) s q (e - a) (between a e (row_slot x standing)) (between_long a e (row_slot x standing) m (all.long x o)) z
      (all.made x o)

-- ALL SEQUENCES: those of the first n are in each letter's row
pub record Whole (ns l : List ℕ) (n : ℕ) (standing : List (List ℕ)) : Type 0 where
  pub rows : (x : ℕ) → x < 4 → Filled (λ _. true) (lettered_at eqb (letter x) ns l) ns (row_slot x standing) n

pub whole_more : (ns l : List ℕ) (k : ℕ) → k < length ns → {a e from to : ℕ}
    → a ≡ offset_of ns k → e ≡ offset_of ns (k + 1) → from ≡ first_word ns k → to ≡ first_word ns (k + 1)
    → {s : List ℕ} → s ≡ take (e - a) (drop a l)
    → (standing standing' : List (List ℕ)) → ((x : ℕ) → x < 4 → take from (row_slot x standing') ≡ take from (row_slot x standing))
    → ((x : ℕ) → x < 4 → held (between from to (row_slot x standing')) ≡ lettered eqb (letter x) s (64 * (to - from)))
    → Whole ns l k standing → Whole ns l (k + 1) standing'
unfolding between
whole_more ns l k h {from = from} {to = to} a e f t is standing standing' left here before = record {
  rows = λ x o.
      filled_turn _ (lettered_at eqb (letter x) ns l) ns (row_slot x standing) (row_slot x standing') k h (before.rows x o) f t (left x o)
      (λ _. lettered_turn ns k h a e f t eqb (letter x) l (here x o ∙ ap (λ s. lettered eqb (letter x) s (64 * (to - from))) is));
}

-- a row and its copy
pub shifted_from : (i : ℕ) (ns : List ℕ) {x y out : List ℕ} → y ≡ x → Filled (λ _. true) (shifted_at i ns y) ns out (length ns)
    → Filled (λ _. true) (shifted_at i ns x) ns out (length ns)
shifted_from i ns e q = rw e at q
