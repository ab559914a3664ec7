-- The sequences of a row rewritten in place, one after another: those still to come are as they were at first, and so are the marks, which
-- stand before all of them.
use mathlib.Core.Bool.{Bool, true, false}
use mathlib.Core.List.{List}
use mathlib.Core.Path.{◌≡◌, refl, sym, ap, ◌∙◌}
use Prim.Native.Nat.{ℕ, ◌+◌, ◌-◌, ◌*◌, ◌/◌, ◌%◌, ◌≤◌, ◌<◌, min}
use native.Mathlib.Decide.{dec_lt}
use native.Mathlib.Omega.{arith}
use lib.Dec.{eqb}
use lib.ListN.{length, take, drop, get_or}
use lib.Seq.{drop-drop}
use Rattle.rules.specs.Limits.{sequence_set_sequences}
use Rattle.rows.specs.Bits.{held}
use Rattle.rows.specs.Rows.{window}
use Rattle.rows.specs.Set.{row_marks, words_of, first_word, between, bits_at, is_marked, window_at, Filled, Marked, Bounded}
use Rattle.rows.proofs.Bits.{held_at}
use Rattle.rows.proofs.Digits.{digit}
use Rattle.rows.proofs.Marks.{same_word}
use Rattle.rows.proofs.Sets.{first_past, first_least, first_most, between_kept, take_less, kept_from, bits_are_at}
use Rattle.rows.proofs.MarksWalk.{Walked, clash, walked_none, walked_turn}

-- the sequences from a up to k rewritten as far as they are on, and the words before and behind them as they were
pub record Rewritten (on : ℕ → Bool) (g : ℕ → List ℕ) (ns : List ℕ) (a k : ℕ) (x y : List ℕ) : Type 0 where
  pub walked : Walked on g ns a k x y
  pub later : drop (first_word ns k) y ≡ drop (first_word ns k) x

-- WHAT STAYS
pub drop_more : (a b : ℕ) (x y : List ℕ) → a ≤ b → drop a y ≡ drop a x → drop b y ≡ drop b x
drop_more a b x y h q = sym (from y) ∙ ap (drop (b - a)) q ∙ from x
  where
    from : (l : List ℕ) → drop (b - a) (drop a l) ≡ drop b l
    from l = let z : a + (b - a) ≡ b = omega arith in drop-drop (b - a) a l ∙ ap (λ (n : ℕ). drop n l) z

module _ (ns x y : List ℕ) where
  -- the sequences from k on
  module _ (k : ℕ) (stays : drop (first_word ns k) y ≡ drop (first_word ns k) x) where
    pub later_words : (m : ℕ) → k ≤ m → drop (first_word ns m) y ≡ drop (first_word ns m) x
    later_words m h = drop_more (first_word ns k) (first_word ns m) x y (first_least ns k m h) stays

    pub later_window : (d c m : ℕ) → k ≤ m → window_at d c ns y m ≡ window_at d c ns x m
    unfolding window_at bits_at between
    later_window d c m h =
        ap (λ (l : List ℕ). window d c (held (take (first_word ns m + words_of (get_or ns m 0) - first_word ns m) l))) (later_words m h)

  -- the marks
  module _ (m : ℕ) (stays : take (first_word ns m) y ≡ take (first_word ns m) x) where
    pub same_marks : (k : ℕ) → k < sequence_set_sequences → is_marked y k ≡ is_marked x k
    unfolding is_marked
    same_marks k h =
        let e : get_or y (k / 64) 0 ≡ get_or x (k / 64) 0 = same_word (first_word ns m) x y stays (k / 64) (omega (arith, first_past ns m)) in
        ap (λ (d : ℕ). eqb d 1) (held_at y k ∙ ap (λ (v : ℕ). digit v (k % 64)) e ∙ sym (held_at x k))

    pub same_bounds : Bounded ns x → Bounded ns y
    same_bounds b = record { none = λ k l h. same_marks k h ∙ b.none k l h }

-- A TURN
module _ (on : ℕ → Bool) (g : ℕ → List ℕ) (ns : List ℕ) (a k : ℕ) (x : List ℕ) where
  pub rewritten_none : k ≤ a → Rewritten on g ns a k x x
  rewritten_none h = record { walked = walked_none on g ns a k x h; later = refl }

  -- the sequence at `at` rewritten, and the words before and behind it as they were
  pub rewritten_turn : (y : List ℕ) → Rewritten on g ns a k x y → (at : ℕ) → ((m : ℕ) → k ≤ m → m < at → on m ≡ false) → (z : List ℕ) → a ≤ at → k ≤ at → at < length ns
      → {from to : ℕ} → from ≡ first_word ns at → to ≡ first_word ns (at + 1) → take from z ≡ take from y → drop to z ≡ drop to y → held (between from to z) ≡ g at
      → Rewritten on g ns a (at + 1) x z
  rewritten_turn y before at skip z low up inside {from} {to} begins ends front back here = record {
    walked = walked_turn on g ns a k x y before.walked at skip z low inside (kept_from y z begins front) (sym (bits_are_at ns at inside begins ends z) ∙ here);
    later = ap (λ (n : ℕ). drop n z) (sym ends) ∙ back ∙ ap (λ (n : ℕ). drop n y) ends ∙ later_words ns x y k before.later (at + 1) (omega arith);
  }

-- A WORD OF MARKS: a gap opened in its sequences, those of the words before it having been
module _ (d c : ℕ) (ns x y : List ℕ) (w : ℕ) (bounded : Bounded ns x) (top : w < row_marks) (before : Rewritten (is_marked x) (window_at d c ns x) ns 0 (w * 64) x y) (z : List ℕ)
    (front : take (first_word ns (min (w * 64) (length ns))) z ≡ take (first_word ns (min (w * 64) (length ns))) y)
    (back : drop (first_word ns (w * 64 + 64)) z ≡ drop (first_word ns (w * 64 + 64)) y)
    (here : (m : ℕ) → w * 64 ≤ m → m < w * 64 + 64 → is_marked y m ≡ true → bits_at ns m z ≡ window_at d c ns y m) where
  -- a sequence that has a mark is one of the set
  there : (m : ℕ) → m < w * 64 + 64 → is_marked x m ≡ true → m < length ns
  there m u e =
      elim (dec_lt m (length ns)) [
        | yes l ↦ l
        | no l ↦ clash (bounded.none m (omega arith) (omega arith)) e
      ]

  earlier : (m : ℕ) → m < w * 64 → m < length ns → bits_at ns m z ≡ bits_at ns m y
  unfolding bits_at
  earlier m s l =
      ap held (between_kept (first_word ns (min (w * 64) (length ns))) (first_word ns m) (first_word ns m + words_of (get_or ns m 0)) y z (omega arith) (first_most ns m (min (w * 64) (length ns)) l (omega arith)) front)

  pub opened_word : Rewritten (is_marked x) (window_at d c ns x) ns 0 ((w + 1) * 64) x z
  opened_word =
      let n : w * 64 + 64 ≡ (w + 1) * 64 = omega arith in record {
        walked = record {
          same = λ m l u e.
              elim (dec_lt m (w * 64)) [
                | yes s ↦ earlier m s (there m (omega arith) e) ∙ before.walked.same m l s e
                | no s ↦ here m (omega arith) (omega arith) (same_marks ns x y (min 0 (length ns)) before.walked.kept m (omega arith) ∙ e) ∙ later_window ns x y (w * 64) before.later d c m (omega arith)
              ];
          kept = take_less (first_word ns (min 0 (length ns))) (first_word ns (min (w * 64) (length ns))) y z (first_least ns (min 0 (length ns)) (min (w * 64) (length ns)) (omega arith)) front ∙ before.walked.kept;
        };
        later = rw (← n) (back ∙ later_words ns x y (w * 64) before.later (w * 64 + 64) (omega arith));
      }

-- THE END: all words of marks
module _ (d c : ℕ) (ns x y : List ℕ) (k : ℕ) (all : sequence_set_sequences ≤ k) (done : Rewritten (is_marked x) (window_at d c ns x) ns 0 k x y) where
  pub opened_marks : Marked (is_marked x) y sequence_set_sequences
  opened_marks = record { same = same_marks ns x y (min 0 (length ns)) done.walked.kept }

  pub opened_all : length ns ≤ sequence_set_sequences → Filled (is_marked x) (window_at d c ns x) ns y (length ns)
  opened_all few = record { same = λ m h e. done.walked.same m (omega arith) (omega arith) e }
