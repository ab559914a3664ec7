-- The words of the set, sequence after sequence: a turn writes those of one, and leaves those before it.
use mathlib.Core.Bool.{Bool, true}
use mathlib.Core.List.{List, [], ◌∷◌, ◌++◌}
use mathlib.Core.Path.{◌≡◌, refl, sym, ap, ◌∙◌}
use Prim.Native.Nat.{ℕ, zero, suc, ◌+◌, ◌-◌, ◌≤◌, ◌<◌}
use native.Mathlib.Decide.{dec_lt}
use native.Mathlib.Omega.{arith}
use lib.ListN.{length, take, drop, get_or, set}
use lib.Seq.{take-take, take-nil, drop_at, take_at, length-take-le, drop-set-add, drop-set-lt, take-set-lt, take-set-le}
use borrow.Rule.Slice.PartMut.{mid_of, put_mid, take_put, same_len_mid, mid_len}
use Rattle.rows.specs.Flags.{has_left}
use Rattle.rows.specs.Bits.{held}
use Rattle.rows.specs.Rows.{window, extended}
use Rattle.rows.specs.Set.{row_marks, words_of, first_word, between, bits_at, extended_at, window_at, Filled}

-- WHERE A SEQUENCE'S WORDS ARE
pub first_none : (ns : List ℕ) → row_marks ≡ first_word ns 0
unfolding first_word
first_none ns = refl

pub first_next : (ns : List ℕ) (k : ℕ) → k < length ns → first_word ns (k + 1) ≡ first_word ns k + words_of (get_or ns k 0)
unfolding first_word
first_next [] k h = absurd (omega arith)
first_next (n ∷ ns) zero h = omega arith
first_next (n ∷ ns) (suc k) h =
    let e : first_word ns (k + 1) ≡ first_word ns k + words_of (get_or ns k 0) = first_next ns k (omega arith) in
    let z : suc k + 1 ≡ suc (k + 1) = omega arith in
    rw z (omega arith)

-- they come past the marks
pub first_past : (ns : List ℕ) (m : ℕ) → row_marks ≤ first_word ns m
unfolding first_word
first_past ns zero = omega arith
first_past [] (suc m) = omega arith
first_past (n ∷ ns) (suc m) = omega (arith, first_past ns m)

pub first_least : (ns : List ℕ) (k m : ℕ) → k ≤ m → first_word ns k ≤ first_word ns m
unfolding first_word
first_least ns zero m h = first_past ns m
first_least [] (suc k) m h = first_past [] m
first_least (n ∷ ns) (suc k) zero h = absurd (omega arith)
first_least (n ∷ ns) (suc k) (suc m) h = omega (arith, first_least ns k m (omega arith))

-- a sequence's words end within those of all
pub first_most : (ns : List ℕ) (k m : ℕ) → k < length ns → k < m → first_word ns k + words_of (get_or ns k 0) ≤ first_word ns m
first_most ns k m h l = omega (arith, first_next ns k h, first_least ns (k + 1) m (omega arith))

-- WHAT A TURN LEAVES
within : (l : List ℕ) (a b n : ℕ) → b + n ≤ a → take n (drop b (take a l)) ≡ take n (drop b l)
within [] a b n h = rw (take-nil a)
within (x ∷ l) zero b zero h = refl
within (x ∷ l) zero b (suc n) h = absurd (omega arith)
within (x ∷ l) (suc a) zero n h = take-take n (suc a) (x ∷ l) (omega arith)
within (x ∷ l) (suc a) (suc b) n h = within l a b n (omega arith)

pub take_less : (b a : ℕ) (x y : List ℕ) → b ≤ a → take a y ≡ take a x → take b y ≡ take b x
take_less b a x y h q = sym (take-take b a y h) ∙ ap (take b) q ∙ take-take b a x h

pub between_kept : (a b e : ℕ) (x y : List ℕ) → b ≤ e → e ≤ a → take a y ≡ take a x → between b e y ≡ between b e x
unfolding between
between_kept a b e x y h k q =
    sym (within y a b (e - b) (omega arith)) ∙ ap (λ (l : List ℕ). take (e - b) (drop b l)) q ∙ within x a b (e - b) (omega arith)

-- ONE WORD written, in a part and outside it
pub between_set : (a e q v : ℕ) (l : List ℕ) → a + q < e → between a e (set l (a + q) v) ≡ set (between a e l) q v
unfolding between
between_set a e q v l h = ap (take (e - a)) (drop-set-add a l q v) ∙ take-set-lt (e - a) (drop a l) q v (omega arith)

pub between_set_past : (a e i v : ℕ) (l : List ℕ) → a ≤ e → e ≤ i → between a e (set l i v) ≡ between a e l
between_set_past a e i v l h k = between_kept i a e l (set l i v) h k (take-set-le i l i v (omega arith))

pub between_set_before : (a e i v : ℕ) (l : List ℕ) → i < a → between a e (set l i v) ≡ between a e l
unfolding between
between_set_before a e i v l h = ap (take (e - a)) (drop-set-lt a l i v h)

-- what the words of sequence k are, by where they begin and end
module _ (ns : List ℕ) (k : ℕ) (h : k < length ns) {from to : ℕ} (begins : from ≡ first_word ns k) (ends : to ≡ first_word ns (k + 1)) where
  pub bits_are_at : (x : List ℕ) → held (between from to x) ≡ bits_at ns k x
  unfolding bits_at
  bits_are_at x = rw (begins, ends, first_next ns k h)

  pub extended_is_at : (i : ℕ) (ls ws : List ℕ) → extended i (held (between from to ls)) (held (between from to ws)) ≡ extended_at i ns ls ws k
  unfolding extended_at
  extended_is_at i ls ws = rw (bits_are_at ls, bits_are_at ws)

  pub window_is_at : (d c : ℕ) (ws : List ℕ) → window d c (held (between from to ws)) ≡ window_at d c ns ws k
  unfolding window_at
  window_is_at d c ws = rw (bits_are_at ws)

  pub turn_lies : (from ≤ to) × (to ≤ first_word ns (length ns))
  turn_lies = (omega (arith, begins, ends, first_next ns k h), omega (arith, ends, first_least ns (k + 1) (length ns) (omega arith)))

module _ (on : ℕ → Bool) (g : ℕ → List ℕ) (ns : List ℕ) where
  pub filled_none : (x : List ℕ) (n : ℕ) → n ≡ 0 → Filled on g ns x n
  filled_none x n z = record { same = λ k h e. absurd (omega arith) }

  -- a turn: the words of sequence k
  module _ (x y : List ℕ) (k : ℕ) (h : k < length ns) (before : Filled on g ns x k) where
    module _ (left : take (first_word ns k) y ≡ take (first_word ns k) x) (here : on k ≡ true → bits_at ns k y ≡ g k) where
      one : (m : ℕ) → m < k + 1 → on m ≡ true → bits_at ns m y ≡ g m
      unfolding bits_at
      one m l e =
          elim (dec_lt m k) [
            | yes b ↦ (ap held (between_kept (first_word ns k) (first_word ns m) (first_word ns m + words_of (get_or ns m 0)) x y (omega arith) (first_most ns m k (omega arith) b) left) ∙ before.same m b e)
            | no b ↦ (let z : k ≡ m = omega arith in rw (← z) (here (rw z e)))
          ]

      filled_more : Filled on g ns y (k + 1)
      filled_more = record { same = one }

    -- as the code has it: from where its words begin up to where they end
    pub filled_turn : {from to : ℕ} → from ≡ first_word ns k → to ≡ first_word ns (k + 1) → take from y ≡ take from x
        → (on k ≡ true → held (between from to y) ≡ g k) → Filled on g ns y (k + 1)
    filled_turn begins ends left f = filled_more (rw (← begins) left) (λ e. sym (bits_are_at ns k h begins ends y) ∙ f e)

pub kept_from : {a b : ℕ} (x y : List ℕ) → a ≡ b → take a y ≡ take a x → take b y ≡ take b x
kept_from x y e h = rw (← e) h

-- A PART OF A TABLE, written by a callee
module _ (a e : ℕ) (l : List ℕ) (h : a ≤ e) (g : e ≤ length l) where
  between_put : (ys : List ℕ) → length ys ≡ e - a → between a e (put_mid a (e - a) l ys) ≡ ys
  unfolding between
  between_put ys n =
      ap (take (e - a)) (drop_at (take a l) (ys ++ drop (e - a) (drop a l)) a (length-take-le a l (omega arith))) ∙ take_at ys (drop (e - a) (drop a l)) (e - a) n

  pub part_kept : (ys : List ℕ) {ks : List ℕ} {r : Bool} → length ys ≡ length (mid_of a (e - a) l) → held ys ≡ ks → r ≡ has_left (held ys)
      → ((take a (put_mid a (e - a) l ys) ≡ take a l) × (length (put_mid a (e - a) l ys) ≡ length l))
      × ((held (between a e (put_mid a (e - a) l ys)) ≡ ks) × (r ≡ has_left ks))
  part_kept ys n f q = (
    (take_put a (e - a) l ys (omega arith), same_len_mid a (e - a) l ys n),
    (ap held (between_put ys (n ∙ mid_len a e l g)) ∙ f, q ∙ ap has_left f),
  )

  pub part_opened : (ys : List ℕ) {ks : List ℕ} → length ys ≡ length (mid_of a (e - a) l) → held ys ≡ ks
      → (take a (put_mid a (e - a) l ys) ≡ take a l) × (length (put_mid a (e - a) l ys) ≡ length l) × (held (between a e (put_mid a (e - a) l ys)) ≡ ks)
  part_opened ys n f = (take_put a (e - a) l ys (omega arith), same_len_mid a (e - a) l ys n, ap held (between_put ys (n ∙ mid_len a e l g)) ∙ f)

-- a part of a table, written
pub part_written : (a e : ℕ) (l : List ℕ) → a ≤ e → e ≤ length l → (ys : List ℕ) → length ys ≡ length (mid_of a (e - a) l)
    → (take a (put_mid a (e - a) l ys) ≡ take a l) × (length (put_mid a (e - a) l ys) ≡ length l) × (between a e (put_mid a (e - a) l ys) ≡ ys)
part_written a e l h g ys n = (take_put a (e - a) l ys (omega arith), same_len_mid a (e - a) l ys n, between_put a e l h g ys (n ∙ mid_len a e l g))
