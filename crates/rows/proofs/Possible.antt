-- How many sequences can still have a mark with one letter more: those that have it already, and of those to come as many as had one. Once
-- it is below the quorum, so is how many have one in the end.
use mathlib.Core.Bool.{Bool, true, false, not, false≢true}
use mathlib.Core.List.{List, [], ◌∷◌}
use mathlib.Core.Path.{◌≡◌, refl, sym, ap, ◌∙◌}
use Prim.Native.Nat.{ℕ, zero, suc, ◌+◌, ◌-◌, ◌*◌, ◌/◌, ◌%◌, ◌^◌, ◌≤◌, ◌<◌, min}
use native.Mathlib.Decide.{dec_lt}
use native.Mathlib.Omega.{arith}
use lib.Bits.{bit_xor, differ, xor_lt}
use lib.Count.{ones}
use lib.Dec.{eqb}
use lib.ListN.{length, take, drop, get_or, set}
use Rattle.rules.specs.Lists.{if, sum}
use Rattle.rows.specs.Bits.{held}
use Rattle.rows.specs.Flags.{bit}
use Rattle.rows.specs.Set.{row_marks, words_of, first_word, between, bits_at, is_marked, tally, extended_at, is_extended_marked, Filled, Marked, Bounded}
use Rattle.rows.proofs.Bits.{held_at, word_bit, digit_none}
use Rattle.rows.proofs.Digits.{digit, digit_xor}
use Rattle.rows.proofs.Marks.{filled_word, marked_word, marked_none}
use Rattle.rows.proofs.RowsRewritten.{drop_more}
use Rattle.rows.proofs.Sets.{first_past, filled_none}
use Rattle.rows.proofs.Tally.{tally_zero, tally_append, tally_less, tally_same, tally_end, tally_split, word_tally, marks_tally}
use Rattle.rows.proofs.MarksWalk.{mark_digit, mark_none}

-- A MARK THAT IS LOST: there was one, and no more
lost_bit : (m e : Bool) → (m ≡ false → e ≡ false) → bit e + bit (if m (not e) false) ≡ bit m
lost_bit true true h = refl
lost_bit true false h = refl
lost_bit false true h = absurd (false≢true (sym (h refl)))
lost_bit false false h = refl

-- and two digits, of which the second is 1 only if the first is, differ just there
lost_digit : (x y : ℕ) → x < 2 → y < 2 → (m e : Bool) → eqb x 1 ≡ m → eqb y 1 ≡ e → (m ≡ false → e ≡ false) → eqb (differ x y) 1 ≡ if m (not e) false
lost_digit zero zero h l m e p q n = ap (λ (b : Bool). if b (not e) false) p
lost_digit zero (suc zero) h l m e p q n = absurd (false≢true (sym (q ∙ n (sym p))))
lost_digit (suc zero) zero h l m e p q n = rw (← p, ← q) refl
lost_digit (suc zero) (suc zero) h l m e p q n = rw (← p, ← q) refl
lost_digit zero (suc (suc y)) h l m e p q n = absurd (omega arith)
lost_digit (suc zero) (suc (suc y)) h l m e p q n = absurd (omega arith)
lost_digit (suc (suc x)) y h l m e p q n = absurd (omega arith)

module _ (i : ℕ) (ns ls ws : List ℕ) where
  -- so many can have a mark after the first w words of marks
  unfoldable pub able : ℕ → ℕ
  able w = tally (is_extended_marked i ns ls ws) 0 (w * 64) + tally (is_marked ws) (w * 64) (1024 - w * 64)

  pub record Possible (quorum : ℕ) (out : List ℕ) (possible w : ℕ) : Type 0 where
    pub most : able w ≤ possible
    pub filled : quorum ≤ possible → Filled (is_marked ws) (extended_at i ns ls ws) ns out (min (w * 64) (length ns))
    pub marks : quorum ≤ possible → Marked (is_extended_marked i ns ls ws) out (w * 64)

  -- what is answered of a row of n words
  abbrev pub Answered : ℕ → ℕ → List ℕ → ℕ → Type 0
  Answered quorum n out r =
      (tally (is_extended_marked i ns ls ws) 0 1024 ≤ r)
      × ((quorum ≤ r → r ≡ tally (is_extended_marked i ns ls ws) 0 1024)
      × ((quorum ≤ r → Marked (is_extended_marked i ns ls ws) out 1024)
      × ((quorum ≤ r → Filled (is_marked ws) (extended_at i ns ls ws) ns out (length ns)) × (length out ≡ n))))

  small : (x b : ℕ) → digit x b < 2
  unfolding digit
  small x b = omega arith

  less : (a n : ℕ) → tally (is_extended_marked i ns ls ws) a n ≤ tally (is_marked ws) a n
  less = tally_less (is_marked ws) (is_extended_marked i ns ls ws) (λ k e. mark_none i ns ls ws k e)

  -- the ones of a word of marks, and of what is left of it
  module _ (w left : ℕ) (s : left < 2 ^ 64) (f : get_or ws w 0 < 2 ^ 64)
      (lefts : (b : ℕ) → b < 64 → eqb (get_or (held (left ∷ [])) b 0) 1 ≡ is_extended_marked i ns ls ws (w * 64 + b)) where
    gone : ℕ → Bool
    gone k = if (is_marked ws k) (not (is_extended_marked i ns ls ws k)) false

    ones_gone : ones (bit_xor (get_or ws w 0) left) ≡ tally gone (w * 64) 64
    unfolding gone
    ones_gone =
        word_tally gone 64 (w * 64) (bit_xor (get_or ws w 0) left) (xor_lt 64 (get_or ws w 0) left f s) (λ b l.
        ap (λ (d : ℕ). eqb d 1) (digit_xor (get_or ws w 0) left b)
        ∙ lost_digit (digit (get_or ws w 0) b) (digit left b) (small (get_or ws w 0) b) (small left b) (is_marked ws (w * 64 + b)) (is_extended_marked i ns ls ws (w * 64 + b))
        (sym (mark_digit ws w b l)) (ap (λ (d : ℕ). eqb d 1) (sym (word_bit left b l)) ∙ lefts b l) (mark_none i ns ls ws (w * 64 + b)))

    pub ones_lost : tally (is_extended_marked i ns ls ws) (w * 64) 64 + ones (bit_xor (get_or ws w 0) left) ≤ tally (is_marked ws) (w * 64) 64
    unfolding gone
    ones_lost =
        omega (arith, ones_gone, tally_split (is_extended_marked i ns ls ws) gone (is_marked ws) (λ k. lost_bit (is_marked ws k) (is_extended_marked i ns ls ws k) (mark_none i ns ls ws k)) (w * 64) 64)

  -- THE WORDS OF MARKS that the set has: n are enough for its sequences, and in those behind them there is no mark
  module _ (bounded : Bounded ns ws) (n : ℕ) (enough : length ns ≤ 64 * n) where
    unmarked : (k : ℕ) → n * 64 ≤ k → k < 1024 → is_marked ws k ≡ false
    unmarked k l u = bounded.none k (omega arith) u

    none_new : (k : ℕ) → n * 64 ≤ k → k < 1024 → is_extended_marked i ns ls ws k ≡ false
    none_new k l u = mark_none i ns ls ws k (unmarked k l u)

    pub possible_begin : (quorum : ℕ) (out : List ℕ) {possible : ℕ} → n ≤ 16 → n ≤ length ws → possible ≡ sum (held (take n ws)) → Possible quorum out possible 0
    unfolding able
    possible_begin quorum out few wide e =
        let t = e ∙ marks_tally n ws wide in
        let r = tally_end (is_marked ws) 0 (n * 64) 1024 (omega arith) (λ k l u. unmarked k (omega arith) (omega arith)) in
        let z = tally_zero (is_extended_marked i ns ls ws) 0 in record {
          most = omega (arith, t, r, z);
          filled = λ h. filled_none _ _ _ _ _ (omega arith);
          marks = λ h. marked_none _ _;
        }

  module _ (quorum : ℕ) (out : List ℕ) (possible w : ℕ) (p : Possible quorum out possible w) where
    -- no more have one in the end
    pub possible_most : w ≤ 16 → tally (is_extended_marked i ns ls ws) 0 1024 ≤ possible
    unfolding able
    possible_most h =
        let n : 1024 ≡ w * 64 + (1024 - w * 64) = omega arith in
        let z : 0 + w * 64 ≡ w * 64 = omega arith in
        let a = ap (tally (is_extended_marked i ns ls ws) 0) n ∙ tally_append (is_extended_marked i ns ls ws) 0 (w * 64) (1024 - w * 64)
        ∙ ap (λ (k : ℕ). tally (is_extended_marked i ns ls ws) 0 (w * 64) + tally (is_extended_marked i ns ls ws) k (1024 - w * 64)) z in
        omega (arith, a, p.most, less (w * 64) (1024 - w * 64))

    -- A STOP below the quorum: so many as can still have one are answered
    pub stopped : w ≤ 16 → possible < quorum → {n : ℕ} → length out ≡ n → Answered quorum n out possible
    stopped l few same = (
      possible_most l,
      ((λ h. absurd (omega (arith, few, h))), ((λ h. absurd (omega (arith, few, h))), ((λ h. absurd (omega (arith, few, h))), same))),
    )

    -- THE END: every word of marks that the set has is written, those behind them are cleared, and the sum of the counts of ones is how
    -- many have one
    module _ (bounded : Bounded ns ws) (n : ℕ) (enough : length ns ≤ 64 * n) (most : n ≤ 16) (e : w ≡ n) (h : quorum ≤ possible)
        (y : List ℕ) (before : (q : ℕ) → q < n → get_or y q 0 ≡ get_or out q 0) (clear : (q : ℕ) → n ≤ q → q < row_marks → get_or y q 0 ≡ 0) (behind : drop row_marks y ≡ drop row_marks out) where
      end_marks : Marked (is_extended_marked i ns ls ws) y 1024
      unfolding is_marked
      end_marks = record {
        same = λ k u. ap (λ (d : ℕ). eqb d 1) (held_at y k)
            ∙ elim (dec_lt k (n * 64)) [
              | yes l ↦ (ap (λ (d : ℕ). eqb d 1) (ap (λ (v : ℕ). digit v (k % 64)) (before (k / 64) (omega arith)) ∙ sym (held_at out k)) ∙ (p.marks h).same k (omega arith))
              | no l ↦ (ap (λ (d : ℕ). eqb d 1) (ap (λ (v : ℕ). digit v (k % 64)) (clear (k / 64) (omega arith) (omega arith)) ∙ digit_none (k % 64)) ∙ sym (none_new bounded n enough k (omega arith) u))
            ];
      }

      end_filled : Filled (is_marked ws) (extended_at i ns ls ws) ns y (length ns)
      unfolding bits_at between
      end_filled = record {
        same = λ k l m. ap (λ (z : List ℕ). held (take (first_word ns k + words_of (get_or ns k 0) - first_word ns k) z)) (drop_more row_marks (first_word ns k) out y (first_past ns k) behind) ∙ (p.filled h).same k (omega arith) m;
      }

      end_counted : n ≤ length y → {support : ℕ} → support ≡ sum (held (take n y)) → support ≡ tally (is_extended_marked i ns ls ws) 0 1024
      end_counted wide c =
          c ∙ marks_tally n y wide ∙ tally_same (is_extended_marked i ns ls ws) (is_marked y) 0 (n * 64) (λ k l u. end_marks.same k (omega arith))
          ∙ sym (tally_end (is_extended_marked i ns ls ws) 0 (n * 64) 1024 (omega arith) (λ k l u. none_new bounded n enough k (omega arith) (omega arith)))

      pub ended : n ≤ length y → {support : ℕ} → support ≡ sum (held (take n y)) → {m : ℕ} → length y ≡ m → Answered quorum m y support
      ended wide c same =
          let t = end_counted wide c in
          (omega (arith, t), ((λ _. t), ((λ _. end_marks), ((λ _. end_filled), same))))

    -- A TURN, the next word of marks: of its sequences so many are lost
    module _ (h : quorum ≤ possible) (s : w < row_marks) (lost : ℕ)
        (bound : tally (is_extended_marked i ns ls ws) (w * 64) 64 + lost ≤ tally (is_marked ws) (w * 64) 64) where
      ahead_of : tally (is_marked ws) (w * 64) (1024 - w * 64) ≡ tally (is_marked ws) (w * 64) 64 + tally (is_marked ws) ((w + 1) * 64) (1024 - (w + 1) * 64)
      ahead_of =
          let n : 1024 - w * 64 ≡ 64 + (1024 - (w + 1) * 64) = omega arith in
          let z : w * 64 + 64 ≡ (w + 1) * 64 = omega arith in
          ap (tally (is_marked ws) (w * 64)) n ∙ tally_append (is_marked ws) (w * 64) 64 (1024 - (w + 1) * 64)
          ∙ ap (λ (k : ℕ). tally (is_marked ws) (w * 64) 64 + tally (is_marked ws) k (1024 - (w + 1) * 64)) z

      behind_of : tally (is_extended_marked i ns ls ws) 0 ((w + 1) * 64) ≡ tally (is_extended_marked i ns ls ws) 0 (w * 64) + tally (is_extended_marked i ns ls ws) (w * 64) 64
      behind_of =
          let n : (w + 1) * 64 ≡ w * 64 + 64 = omega arith in
          let z : 0 + w * 64 ≡ w * 64 = omega arith in
          ap (tally (is_extended_marked i ns ls ws) 0) n ∙ tally_append (is_extended_marked i ns ls ws) 0 (w * 64) 64
          ∙ ap (λ (k : ℕ). tally (is_extended_marked i ns ls ws) 0 (w * 64) + tally (is_extended_marked i ns ls ws) k 64) z

      pub lost_most : lost ≤ possible
      unfolding able
      lost_most = omega (arith, p.most, bound, ahead_of)

      module _ (y : List ℕ) (left : ℕ) (stays : take (first_word ns (min (w * 64) (length ns))) y ≡ take (first_word ns (min (w * 64) (length ns))) out) (long : row_marks ≤ length y)
          (lefts : lost ≤ possible - quorum → (b : ℕ) → b < 64 → eqb (get_or (held (left ∷ [])) b 0) 1 ≡ is_extended_marked i ns ls ws (w * 64 + b))
          (here : lost ≤ possible - quorum → (k : ℕ) → w * 64 ≤ k → k < w * 64 + 64 → is_marked ws k ≡ true → bits_at ns k y ≡ extended_at i ns ls ws k) where
        pub possible_turn : Possible quorum (set y w left) (possible - lost) (w + 1)
        unfolding able
        possible_turn = record {
          most = omega (arith, p.most, bound, ahead_of, behind_of);
          filled = λ q. filled_word _ _ _ _ _ s stays _ _ (p.filled h) (here (omega (arith, q, lost_most)));
          marks = λ q. marked_word _ _ _ _ _ s stays _ (p.marks h) long (lefts (omega (arith, q, lost_most)));
        }
