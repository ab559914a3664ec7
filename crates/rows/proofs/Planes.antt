-- The three lowest digits of each letter's byte, each in a word of its own, a plane: a turn moves those that were read up and puts those of
-- the letters before them below. They tell the letters apart, so that the words of the four rows are made of the three.
use mathlib.Core.Bool.{Bool, true, false, not, false≢true}
use mathlib.Core.List.{List, [], ◌∷◌}
use mathlib.Core.Path.{◌≡◌, refl, sym, ap, subst, ◌∙◌}
use Prim.Native.Nat.{ℕ, zero, suc, ◌+◌, ◌-◌, ◌*◌, ◌/◌, ◌%◌, ◌^◌, ◌≤◌, ◌<◌, min}
use native.Mathlib.Decide.{dec_lt}
use native.Mathlib.Nat.{zero-max, max-zero, div-one}
use native.Mathlib.Omega.{arith}
use lib.Bits.{bit_and, bit_or, bit_xor, differ}
use lib.Dec.{eqb}
use lib.ListN.{length, take, drop, get_or, get_or-eq_default, get_or-append, length-append}
use lib.Seq.{get_or-take, get_or-drop, drop-drop}
use Rattle.std.proofs.lemmas.Grind.{get_or_default_zero}
use Rattle.std.proofs.lemmas.List.{get_or_push}
use Rattle.std.specs.List.{push}
use Rattle.std.specs.Simd.{first_chunks}
use borrow.Author.Tests.{eqb-true}
use Rattle.rules.specs.Letters.{value, is_letter, letter}
use Rattle.rules.specs.Lists.{if}
use Rattle.rules.specs.Saved.{read_low, Bytes}
use Rattle.rules.proofs.LowFirst.{bytes_take, bytes_drop}
use Rattle.rows.specs.Bases.{word_of}
use Rattle.rows.specs.Bits.{held}
use Rattle.rows.specs.Flags.{bit}
use Rattle.rows.specs.Rows.{letter_at, lettered}
use Rattle.rows.specs.declared.words.Bases.{Bases}
use Rattle.rows.proofs.Bits.{digit_none, word_bit}
use Rattle.rows.proofs.Digits.{digit, digit_and, digit_or, digit_xor, digit_shr, digit_mod, digit_past, digit_shl_in, digit_shl_out}
use Rattle.rows.proofs.Gathered.{read_digit}
use Rattle.rows.proofs.Lettered.{lettered_word}
use Rattle.rows.proofs.LetterRow.{letter_in, letter_out}
use Rattle.rows.proofs.Masks.{and_one}

-- A PLANE: the digits of a word are digit i of each letter from p on
module _ (i : ℕ) (s : List ℕ) where
  abbrev pub Plane : ℕ → ℕ → Type 0
  Plane p w = (b : ℕ) → b < 64 → digit w b ≡ digit (get_or s (p + b) 0) i

  -- before the first turn: past the sequence there is nothing
  pub plane_end : (p : ℕ) → length s ≤ p → Plane p 0
  plane_end p h b l = digit_none b ∙ sym (ap (λ (y : ℕ). digit y i) (get_or-eq_default s 0 (omega arith)) ∙ digit_none i)

  -- a turn takes the k letters before
  plane_turn : (k p q w v : ℕ) → q ≡ p + k → v < 2 ^ k → ((b : ℕ) → b < k → digit v b ≡ digit (get_or s (p + b) 0) i) → Plane q w
      → Plane p (bit_or ((w * 2 ^ k) % 2 ^ 64) v)
  plane_turn k p q w v e fits here before b l =
      digit_or ((w * 2 ^ k) % 2 ^ 64) v b
      ∙ rw (digit_mod 64 (w * 2 ^ k) b l)
      (elim (dec_lt b k) [
        | yes h ↦ rw (digit_shl_out w k b h, zero-max) (here b h)
        | no h ↦ (let z : q + (b - k) ≡ p + b = omega arith in
            rw (digit_past k v b fits (omega arith), max-zero, digit_shl_in w k b (omega arith))
            (before (b - k) (omega arith) ∙ ap (λ (y : ℕ). digit (get_or s y 0) i) z))
      ])

  -- one letter
  pub plane_one : (p q w : ℕ) {x y : ℕ} → q ≡ p + 1 → y ≡ get_or s p 0 → x ≡ y / 2 ^ i → Plane q w
      → Plane p (bit_or ((w * 2) % 2 ^ 64) (bit_and x 1))
  unfolding digit
  plane_one p q w {x} {y} e f g before =
      let v : bit_and x 1 ≡ x % 2 = and_one x in
      plane_turn 1 p q w (bit_and x 1) e (omega arith) (λ b h. let z : 0 ≡ b = omega arith in
      let o : p + 0 ≡ p = omega arith in rw (← z, o, v, div-one) (omega (arith, ap (λ (n : ℕ). n / 2 ^ i) f))) before

  -- eight of them
  pub plane_eight : Bytes s → (p q w : ℕ) {x v : ℕ} → q ≡ p + 8 → q ≤ length s → i < 8 → x ≡ read_low 8 (take 8 (drop p s)) / 2 ^ i
      → (v < 256) × ((b : ℕ) → b < 8 → get_or (held (v ∷ [])) b 0 ≡ get_or (held (x ∷ [])) (8 * b) 0) → Plane q w
      → Plane p (bit_or ((w * 2 ^ 8) % 2 ^ 64) v)
  plane_eight bytes p q w {x} {v} e h n f g before =
      let part = take 8 (drop p s) in
      plane_turn 8 p q w v e g.0
      (λ b l. let o : i + 8 * b ≡ 8 * b + i = omega arith in
      sym (word_bit v b (omega arith)) ∙ g.1 b l ∙ word_bit x (8 * b) (omega arith)
      ∙ ap (λ (y : ℕ). digit y (8 * b)) f ∙ digit_shr (read_low 8 part) i (8 * b) ∙ ap (digit (read_low 8 part)) o
      ∙ read_digit 8 part (bytes_take 8 (drop p s) (bytes_drop p s bytes)) b i l n
      ∙ ap (λ (y : ℕ). digit y i) (get_or-take 8 (drop p s) b 0 (omega arith) ∙ get_or-drop p s b 0)) before

  -- after the last turn
  pub plane_whole : (p w : ℕ) → p ≡ 0 → Plane p w → Plane 0 w
  plane_whole p w e h = rw e at h

-- WHAT IS READ FROM BEHIND: what is left to read are the f k, one after another
pub record Reads {X : Type 0} (f : ℕ → X) (r : List X) : Type 0 where
  pub same : (k : ℕ) (d : X) → k < length r → get_or r k d ≡ f k

-- a turn takes the last
pub reads_turn : {X : Type 0} (f : ℕ → X) {r rest : List X} {x : X} → Reads f r → r ≡ push rest x → (x ≡ f (length rest)) × (length r ≡ length rest + 1) × Reads f rest
reads_turn {X} f {r} {rest} {x} e q =
    let n : length r ≡ length rest + 1 = omega (arith, ap length q, length-append rest (x ∷ [])) in (
      sym (ap (λ (l : List X). get_or l (length rest) x) q ∙ get_or_push rest x x (length rest) refl) ∙ e.same (length rest) x (omega arith),
      n,
      record { same = λ k d h. sym (ap (λ (l : List X). get_or l k d) q ∙ get_or-append rest (x ∷ []) d k h) ∙ e.same k d (omega arith) },
    )

-- letters from place p on, and eights of them
pub reads_letters : (s : List ℕ) (p : ℕ) → Reads (λ k. get_or s (p + k) 0) (drop p s)
reads_letters s p = record { same = λ k d h. get_or_default_zero (drop p s) k d h ∙ get_or-drop p s k 0 }

chunk_at : (m k : ℕ) (s d : List ℕ) → k < m → get_or (first_chunks 8 m s) k d ≡ take 8 (drop (8 * k) s)
chunk_at zero k s d h = absurd (omega arith)
chunk_at (suc m) zero s d h = refl
chunk_at (suc m) (suc k) s d h =
    let e : 8 * suc k ≡ 8 + 8 * k = omega arith in
    chunk_at m k (drop 8 s) d (omega arith) ∙ rw e (ap (take 8) (drop-drop (8 * k) 8 s))

pub reads_eights : (s : List ℕ) (m : ℕ) → length (first_chunks 8 m s) ≡ m → Reads (λ k. take 8 (drop (8 * k) s)) (first_chunks 8 m s)
reads_eights s m n = record { same = λ k d h. chunk_at m k s d (omega (arith, n)) }

-- THE LETTERS are four bytes
letters_are : (P : ℕ → Type 0) → P 65 → P 67 → P 71 → P 84 → (y : ℕ) → is_letter y ≡ true → P y
unfolding is_letter value
letters_are P a c g t y h = go (eqb y 65) (eqb y 67) (eqb y 71) (eqb y 84) (eqb-true y 65) (eqb-true y 67) (eqb-true y 71) (eqb-true y 84) h
  where
    go : (o p q r : Bool) → (o ≡ true → y ≡ 65) → (p ≡ true → y ≡ 67) → (q ≡ true → y ≡ 71) → (r ≡ true → y ≡ 84)
        → not (eqb (if o 0 (if p 1 (if q 2 (if r 3 4)))) 4) ≡ true → P y
    go true p q r e f m n k = subst P (sym (e refl)) a
    go false true q r e f m n k = subst P (sym (f refl)) c
    go false false true r e f m n k = subst P (sym (m refl)) g
    go false false false true e f m n k = subst P (sym (n refl)) t
    go false false false false e f m n k = absurd (false≢true k)

-- what the code makes of the three digits of a letter, for the letter with the value x
abbrev told : ℕ → ℕ → ℕ → ℕ → ℕ
told x a b c = if (eqb x 0) (min a (differ a b)) (if (eqb x 1) (min b (differ b c)) (if (eqb x 2) (min b c) (min c (differ c a))))

abbrev Told : ℕ → ℕ → Type 0
Told x y = told x (digit y 0) (digit y 1) (digit y 2) ≡ bit (eqb (letter x) y)

told_is : (x : ℕ) → x < 4 → (y : ℕ) → is_letter y ≡ true → Told x y
unfolding digit letter
told_is zero h y l = letters_are (Told 0) refl refl refl refl y l
told_is (suc zero) h y l = letters_are (Told 1) refl refl refl refl y l
told_is (suc (suc zero)) h y l = letters_are (Told 2) refl refl refl refl y l
told_is (suc (suc (suc zero))) h y l = letters_are (Told 3) refl refl refl refl y l
told_is (suc (suc (suc (suc x)))) h y l = absurd (omega arith)

-- and where there is no letter
told_none : (x : ℕ) → x < 4 → told x 0 0 0 ≡ 0
told_none zero h = refl
told_none (suc zero) h = refl
told_none (suc (suc zero)) h = refl
told_none (suc (suc (suc zero))) h = refl
told_none (suc (suc (suc (suc x)))) h = absurd (omega arith)

-- THE FOUR WORDS
module _ (f g h : ℕ) where
  abbrev bases : Bases
  bases = record { a = bit_and f (bit_xor f g); c = bit_and g (bit_xor g h); g = bit_and g h; t = bit_and h (bit_xor h f) }

  less : (u v b : ℕ) → digit (bit_and u (bit_xor u v)) b ≡ min (digit u b) (differ (digit u b) (digit v b))
  less u v b = digit_and u (bit_xor u v) b ∙ ap (min (digit u b)) (digit_xor u v b)

  bases_digit : (x : ℕ) → x < 4 → (b : ℕ) → digit (word_of bases x) b ≡ told x (digit f b) (digit g b) (digit h b)
  unfolding word_of
  bases_digit zero l b = less f g b
  bases_digit (suc zero) l b = less g h b
  bases_digit (suc (suc zero)) l b = digit_and g h b
  bases_digit (suc (suc (suc zero))) l b = less h f b
  bases_digit (suc (suc (suc (suc x)))) l b = absurd (omega arith)

  module _ (s : List ℕ) (spelt : (i : ℕ) → i < length s → is_letter (get_or s i 0) ≡ true)
      (F : Plane 0 s 0 f) (G : Plane 1 s 0 g) (H : Plane 2 s 0 h) (x : ℕ) (l : x < 4) where
    same : (b : ℕ) → b < 64 → digit (word_of bases x) b ≡ told x (digit (get_or s b 0) 0) (digit (get_or s b 0) 1) (digit (get_or s b 0) 2)
    same b k = let z : 0 + b ≡ b = omega arith in bases_digit x l b ∙ rw (F b k, G b k, H b k, z)

    one : (b : ℕ) → b < 64 → digit (word_of bases x) b ≡ letter_at eqb (letter x) s b
    one b k =
        same b k
        ∙ elim (dec_lt b (length s)) [
          | yes m ↦ (told_is x l (get_or s b 0) (spelt b m) ∙ letter_in eqb (letter x) s b m)
          | no m ↦ (let e : get_or s b 0 ≡ 0 = get_or-eq_default s 0 (omega arith) in
              rw (e, digit_none 0, digit_none 1, digit_none 2) (told_none x l ∙ sym (letter_out eqb (letter x) s b (omega arith))))
        ]

    pub bases_all : held (word_of bases x ∷ []) ≡ lettered eqb (letter x) s 64
    bases_all = lettered_word eqb (letter x) s (word_of bases x) one
