-- A walk over the set digits of a word of marks, from the lowest on: the sequences up to the lowest that is left have no mark and are passed
-- over, and the one there has.
use mathlib.Core.Bool.{Bool, true, false, false≢true}
use mathlib.Core.List.{List, [], ◌∷◌}
use mathlib.Core.Path.{◌≡◌, refl, sym, ap, ◌∙◌}
use Prim.Native.Nat.{ℕ, ◌+◌, ◌-◌, ◌*◌, ◌%◌, ◌^◌, ◌≤◌, ◌<◌, min}
use native.Mathlib.Decide.{dec_lt}
use native.Mathlib.Nat.{max-zero, zero-max}
use native.Mathlib.Omega.{arith}
use lib.Bits.{bit_or}
use lib.Count.{count_trailing_zeros}
use lib.Dec.{eqb}
use lib.ListN.{length, take, get_or}
use Rattle.rows.specs.Bits.{held}
use Rattle.rows.specs.Flags.{bit, has_left}
use Rattle.rows.specs.Set.{row_marks, first_word, bits_at, is_marked, Bounded, Firsts, words_of, is_extended_marked, extended_at}
use Rattle.rows.proofs.Digits.{digit, digit_or, digit_mod, digit_past, digit_shl_in, digit_shl_out}
use Rattle.rows.proofs.Bits.{getd_held, digit_none, bit_most}
use Rattle.rows.specs.SetBits.{Taken}
use Rattle.rows.proofs.Lowest.{Rest, none_left, lowest_late, lowest_in, lowest_set, lowest_first}
use Rattle.rows.proofs.Sets.{first_least, first_most, between_kept, take_less}

-- the sequences from a up to k written as far as they are on, and the words before them as they were
pub record Walked (on : ℕ → Bool) (g : ℕ → List ℕ) (ns : List ℕ) (a k : ℕ) (x y : List ℕ) : Type 0 where
  pub same : (m : ℕ) → a ≤ m → m < k → on m ≡ true → bits_at ns m y ≡ g m
  pub kept : take (first_word ns (min a (length ns))) y ≡ take (first_word ns (min a (length ns))) x

-- a word whose digits say, for the sequences from a up to k, what h does, and that has no other
pub record Left (h : ℕ → Bool) (a k left : ℕ) : Type 0 where
  pub below : (b : ℕ) → b < 64 → a + b < k → eqb (digit left b) 1 ≡ h (a + b)
  pub above : (b : ℕ) → b < 64 → k ≤ a + b → digit left b ≡ 0

-- sequence `at` has the next mark from k on: where its words begin and end
pub record Next (ns firsts row : List ℕ) (w k at : ℕ) : Type 0 where
  pub later : k ≤ at
  pub in_word : at < w * 64 + 64
  pub inside : at < length ns
  pub marked : is_marked row at ≡ true
  pub skips : (m : ℕ) → k ≤ m → m < at → is_marked row m ≡ false
  pub begins : get_or firsts at 0 ≡ first_word ns at
  pub ends : get_or firsts (at + 1) 0 ≡ first_word ns (at + 1)

pub clash : {b : Bool} {A : Type 0} → b ≡ false → b ≡ true → A
clash e f = absurd (false≢true (sym e ∙ f))

-- THE WORDS
module _ (on : ℕ → Bool) (g : ℕ → List ℕ) (ns : List ℕ) (a k : ℕ) (x : List ℕ) where
  pub walked_none : k ≤ a → Walked on g ns a k x x
  walked_none h = record { same = λ m l u e. absurd (omega arith); kept = refl }

  module _ (y : List ℕ) (before : Walked on g ns a k x y) (at : ℕ) (skip : (m : ℕ) → k ≤ m → m < at → on m ≡ false) where
    pub walked_end : (m : ℕ) → a ≤ m → m < at → on m ≡ true → bits_at ns m y ≡ g m
    walked_end m l u e =
        elim (dec_lt m k) [
          | yes b ↦ before.same m l b e
          | no b ↦ clash (skip m (omega arith) u) e
        ]

    -- the sequence at `at` written, and the words before it as they were
    pub walked_turn : (z : List ℕ) → a ≤ at → at < length ns → take (first_word ns at) z ≡ take (first_word ns at) y → bits_at ns at z ≡ g at
        → Walked on g ns a (at + 1) x z
    unfolding bits_at
    walked_turn z low in' stays here = record {
      same = λ m l u e.
          elim (dec_lt m at) [
            | yes b ↦ (ap held (between_kept (first_word ns at) (first_word ns m) (first_word ns m + words_of (get_or ns m 0)) y z (omega arith) (first_most ns m at (omega arith) b) stays) ∙ walked_end m l b e)
            | no b ↦ (let q : at ≡ m = omega arith in rw (← q) here)
          ];
      kept = take_less (first_word ns (min a (length ns))) (first_word ns at) y z (first_least ns (min a (length ns)) at (omega arith)) stays ∙ before.kept;
    }

-- THE NEW MARKS
pub left_none : (h : ℕ → Bool) (a k : ℕ) → k ≤ a → Left h a k 0
left_none h a k l = record { below = λ b s u. absurd (omega arith); above = λ b s u. digit_none b }

module _ (h : ℕ → Bool) (a k l : ℕ) (before : Left h a k l) (at : ℕ) (skip : (m : ℕ) → k ≤ m → m < at → h m ≡ false) where
  passed : (b : ℕ) → b < 64 → a + b < at → eqb (digit l b) 1 ≡ h (a + b)
  passed b s u =
      elim (dec_lt (a + b) k) [
        | yes m ↦ before.below b s m
        | no m ↦ (rw (before.above b s (omega arith)) (sym (skip (a + b) (omega arith) u)))
      ]

  pub left_end : (b : ℕ) → b < 64 → a + 64 ≤ at → eqb (get_or (held (l ∷ [])) b 0) 1 ≡ h (a + b)
  left_end b s u =
      let z : 0 * 64 + b ≡ b = omega arith in
      ap (λ (d : ℕ). eqb d 1) (ap (λ (p : ℕ). get_or (held (l ∷ [])) p 0) (sym z) ∙ getd_held (l ∷ []) 0 b s) ∙ passed b s (omega arith)

  bit_lowest : (found : Bool) → eqb (digit (bit found) 0) 1 ≡ found
  unfolding digit
  bit_lowest true = refl
  bit_lowest false = refl

  module _ (up : k ≤ at) (low : a ≤ at) (high : at < a + 64) {found : Bool} {v : ℕ} (e : v ≡ bit found) (f : h at ≡ found) where
    placed : ℕ
    placed = (v * 2 ^ (at - a)) % 2 ^ 64

    placed_below : (b : ℕ) → b < 64 → a + b < at → digit placed b ≡ 0
    unfolding placed
    placed_below b s u = digit_mod 64 (v * 2 ^ (at - a)) b s ∙ digit_shl_out v (at - a) b (omega arith)

    placed_from : (b : ℕ) → b < 64 → at ≤ a + b → digit placed b ≡ digit v (b - (at - a))
    unfolding placed
    placed_from b s u = digit_mod 64 (v * 2 ^ (at - a)) b s ∙ digit_shl_in v (at - a) b (omega arith)

    more : Left h a (at + 1) (bit_or l placed)
    more = record {
      below = λ b s u.
          elim (dec_lt (a + b) at) [
            | yes m ↦ (let q : digit (bit_or l placed) b ≡ digit l b = digit_or l placed b ∙ rw (placed_below b s m, max-zero) in
                ap (λ (d : ℕ). eqb d 1) q ∙ passed b s m)
            | no m ↦ (let q : at ≡ a + b = omega arith in
                let z : b - (at - a) ≡ 0 = omega arith in
                let o : digit (bit_or l placed) b ≡ digit (bit found) 0 =
                digit_or l placed b ∙ rw (before.above b s (omega arith), zero-max, placed_from b s (omega arith), z, e) in
                ap (λ (d : ℕ). eqb d 1) o ∙ bit_lowest found ∙ sym f ∙ ap h q)
          ];
      above = λ b s u.
          digit_or l placed b ∙ rw (before.above b s (omega arith), zero-max, placed_from b s (omega arith))
          (digit_past 1 v (b - (at - a)) (omega (arith, bit_most found)) (omega arith));
    }

    pub left_turn : (b : ℕ) → b ≡ at - a → Left h a (at + 1) (bit_or l ((v * 2 ^ b) % 2 ^ 64))
    unfolding placed
    left_turn b shifted = rw shifted more

-- a mark is a digit of its word
pub mark_digit : (row : List ℕ) (w b : ℕ) → b < 64 → is_marked row (w * 64 + b) ≡ eqb (digit (get_or row w 0) b) 1
unfolding is_marked
mark_digit row w b s = rw (getd_held row w b s)

-- WHAT IS LEFT OF THE WORD
module _ (row : List ℕ) (w : ℕ) {e rest : ℕ} (r : Rest (get_or row w 0) e rest) where
  mark_at : (m : ℕ) → w * 64 ≤ m → m < w * 64 + 64 → is_marked row m ≡ eqb (digit (get_or row w 0) (m - w * 64)) 1
  mark_at m l u = let q : m ≡ w * 64 + (m - w * 64) = omega arith in ap (is_marked row) q ∙ mark_digit row w (m - w * 64) (omega arith)

  -- nothing is left: no mark is
  pub no_rest : rest ≡ 0 → (m : ℕ) → w * 64 + e ≤ m → m < w * 64 + 64 → is_marked row m ≡ false
  no_rest z m l u = mark_at m (omega arith) u ∙ ap (λ (d : ℕ). eqb d 1) (none_left r z (m - w * 64) (omega arith))

  module _ (some : 0 < rest) where
    marked : is_marked row (w * 64 + count_trailing_zeros 64 rest) ≡ true
    marked = mark_digit row w (count_trailing_zeros 64 rest) (lowest_in r some) ∙ ap (λ (d : ℕ). eqb d 1) (lowest_set r some)

    skips : (m : ℕ) → w * 64 + e ≤ m → m < w * 64 + count_trailing_zeros 64 rest → is_marked row m ≡ false
    skips m l u = mark_at m (omega arith) (omega (arith, lowest_in r some)) ∙ ap (λ (d : ℕ). eqb d 1) (lowest_first r some (m - w * 64) (omega arith) (omega arith))

    inside : (ns : List ℕ) → Bounded ns row → w < row_marks → w * 64 + count_trailing_zeros 64 rest < length ns
    inside ns bounded h =
        elim (dec_lt (w * 64 + count_trailing_zeros 64 rest) (length ns)) [
          | yes l ↦ l
          | no l ↦ clash (bounded.none (w * 64 + count_trailing_zeros 64 rest) (omega arith) (omega (arith, lowest_in r some))) marked
        ]

    -- some is left: there is a next mark
    pub next : (ns firsts : List ℕ) → Bounded ns row → Firsts ns firsts → w < row_marks → Next ns firsts row w (w * 64 + e) (w * 64 + count_trailing_zeros 64 rest)
    next ns firsts bounded t h =
        let l : w * 64 + count_trailing_zeros 64 rest < length ns = inside ns bounded h in record {
          later = omega (arith, lowest_late r some);
          in_word = omega (arith, lowest_in r some);
          inside = l;
          marked = marked;
          skips = skips;
          begins = t.same (w * 64 + count_trailing_zeros 64 rest) (omega arith);
          ends = t.same (w * 64 + count_trailing_zeros 64 rest + 1) (omega arith);
        }

  -- the same where it is taken off
  pub next_taken : {place off : ℕ} → Taken rest place off → (ns firsts : List ℕ) → Bounded ns row → Firsts ns firsts → w < row_marks → Next ns firsts row w (w * 64 + e) (w * 64 + place)
  next_taken t = rw t.lowest (next t.some)

-- A NEW MARK: only of a sequence that had one, and there where a bit is left
module _ (i : ℕ) (ns ls ws : List ℕ) (k : ℕ) where
  pub mark_none : is_marked ws k ≡ false → is_extended_marked i ns ls ws k ≡ false
  unfolding is_extended_marked
  mark_none e = rw e

  pub mark_left : is_marked ws k ≡ true → {ks : List ℕ} {found : Bool} → found ≡ has_left ks → ks ≡ extended_at i ns ls ws k → is_extended_marked i ns ls ws k ≡ found
  unfolding is_extended_marked
  mark_left e f g = rw (e, f, g)
