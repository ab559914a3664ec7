-- The counts of the set, sequence after sequence: a turn writes those of one, and leaves those before and after it. What is said of those
-- that are written is said of what the opened row keeps of them.
use mathlib.Core.Bool.{Bool, true, false, false≢true}
use mathlib.Core.List.{List, [], ◌∷◌}
use mathlib.Core.Path.{◌≡◌, refl, sym, ap, ◌∙◌}
use Prim.Native.Nat.{ℕ, zero, suc, ◌+◌, ◌-◌, ◌*◌, ◌≤◌, ◌<◌}
use native.Mathlib.Decide.{dec_lt}
use native.Mathlib.Omega.{arith}
use lib.ListN.{length, take, drop, get_or}
use borrow.Rule.Slice.PartMut.{mid_of, put_mid, mid_len, drop_put}
use Rattle.rules.specs.Lists.{sum}
use Rattle.rows.specs.Bits.{held}
use Rattle.rows.specs.Flags.{added, masked}
use Rattle.rows.specs.Set.{row_marks, words_of, first_word, between, is_marked, Bounded}
use Rattle.matching.specs.Weights.{counts_at, kept_counts, counted_from, begun_counts}
use Rattle.rows.proofs.Offsets.{words_room}
use Rattle.rows.proofs.RowsRewritten.{drop_more}
use Rattle.rows.proofs.Sets.{first_next, between_kept, bits_are_at, part_written}

not_both : (b : Bool) {A : Type 0} → b ≡ false → b ≡ true → A
not_both b e f = absurd (false≢true (sym e ∙ f))

-- WHERE A SEQUENCE'S COUNTS ARE
pub offset_next : (ns : List ℕ) (k : ℕ) → k < length ns → sum (take (k + 1) ns) ≡ sum (take k ns) + get_or ns k 0
unfolding sum
offset_next [] k h = absurd (omega arith)
offset_next (n ∷ ns) zero h = omega arith
offset_next (n ∷ ns) (suc k) h =
    let e : sum (take (k + 1) ns) ≡ sum (take k ns) + get_or ns k 0 = offset_next ns k (omega arith) in
    let z : suc k + 1 ≡ suc (k + 1) = omega arith in
    rw z (omega arith)

offset_least : (ns : List ℕ) (k m : ℕ) → k ≤ m → sum (take k ns) ≤ sum (take m ns)
unfolding sum
offset_least ns zero m h = omega arith
offset_least [] (suc k) zero h = omega arith
offset_least [] (suc k) (suc m) h = omega arith
offset_least (n ∷ ns) (suc k) zero h = absurd (omega arith)
offset_least (n ∷ ns) (suc k) (suc m) h = omega (arith, offset_least ns k m (omega arith))

offset_all : (ns : List ℕ) (k : ℕ) → sum (take k ns) ≤ sum ns
unfolding sum
offset_all ns zero = omega arith
offset_all [] (suc k) = omega arith
offset_all (n ∷ ns) (suc k) = omega (arith, offset_all ns k)

-- a sequence's counts end before those of the next begin
offset_most : (ns : List ℕ) (k m : ℕ) → k < length ns → k < m → sum (take k ns) + get_or ns k 0 ≤ sum (take m ns)
offset_most ns k m h l = omega (arith, offset_next ns k h, offset_least ns (k + 1) m (omega arith))

-- what the counts of sequence k are, by where they begin and end
module _ (ns : List ℕ) (k : ℕ) (h : k < length ns) {a e : ℕ} (begins : a ≡ sum (take k ns)) (ends : e ≡ sum (take (k + 1) ns)) where
  pub counts_are_at : (x : List ℕ) → between a e x ≡ counts_at ns k x
  unfolding counts_at
  counts_are_at x = rw (begins, ends, offset_next ns k h)

  pub counts_lie : (a ≤ e) × (e ≤ sum ns)
  counts_lie = (omega (arith, begins, ends, offset_next ns k h), omega (arith, ends, offset_all ns (k + 1)))

  pub begun_are_at : (first : Bool) {from to : ℕ} → from ≡ first_word ns k → to ≡ first_word ns (k + 1) → (row x : List ℕ)
      → masked (held (between from to row)) (counted_from first (between a e x)) ≡ begun_counts first ns row x k
  unfolding begun_counts
  begun_are_at first starts stops row x = rw (bits_are_at ns k h starts stops row, counts_are_at x)

  pub counts_many : e - a ≡ get_or ns k 0
  counts_many = omega (arith, begins, ends, offset_next ns k h)

  module _ {from to : ℕ} (starts : from ≡ first_word ns k) (stops : to ≡ first_word ns (k + 1)) where
    pub kept_are_at : (row x : List ℕ) → masked (held (between from to row)) (between a e x) ≡ kept_counts ns row x k
    unfolding kept_counts
    kept_are_at row x = rw (bits_are_at ns k h starts stops row, counts_are_at x)

    pub words_many : to - from ≡ words_of (get_or ns k 0)
    words_many = omega (arith, starts, stops, first_next ns k h)

    -- the words have room for all of them
    pub counts_room : e - a ≤ 64 * (to - from)
    counts_room = omega (arith, counts_many, words_many, words_room (get_or ns k 0))

-- those that a row keeps are the same of the same counts
pub kept_same : (ns row x y : List ℕ) (k : ℕ) → counts_at ns k y ≡ counts_at ns k x → kept_counts ns row y k ≡ kept_counts ns row x k
unfolding kept_counts
kept_same ns row x y k e = rw e

pub begun_same : (first : Bool) (ns row x y : List ℕ) (k : ℕ) → counts_at ns k y ≡ counts_at ns k x → begun_counts first ns row y k ≡ begun_counts first ns row x k
unfolding begun_counts
begun_same first ns row x y k e = rw e

-- what a gap of n distances, the least of them d, makes of those
abbrev pub led_at : Bool → ℕ → ℕ → List ℕ → List ℕ → List ℕ → ℕ → List ℕ
led_at first d n ns row x k = added d (d + n - 1) (begun_counts first ns row x k)

-- WHAT A TURN LEAVES
between_later : (e b f : ℕ) (x y : List ℕ) → e ≤ b → drop e y ≡ drop e x → between b f y ≡ between b f x
unfolding between
between_later e b f x y h q = ap (take (f - b)) (drop_more e b x y h q)

-- the sequences from a up to k written as far as they are on, and all others as they were
pub record Led (on : ℕ → Bool) (g : ℕ → List ℕ) (ns opened : List ℕ) (a k : ℕ) (x y : List ℕ) : Type 0 where
  pub same : (m : ℕ) → a ≤ m → m < k → on m ≡ true → kept_counts ns opened y m ≡ g m
  pub earlier : (m : ℕ) → m < a → m < length ns → counts_at ns m y ≡ counts_at ns m x
  pub later : (m : ℕ) → k ≤ m → m < length ns → counts_at ns m y ≡ counts_at ns m x

module _ (on : ℕ → Bool) (g : ℕ → List ℕ) (ns opened : List ℕ) (a k : ℕ) (x : List ℕ) where
  pub led_none : k ≤ a → Led on g ns opened a k x x
  led_none h = record { same = λ m l u e. absurd (omega arith); earlier = λ m l u. refl; later = λ m l u. refl }

  module _ (y : List ℕ) (before : Led on g ns opened a k x y) (at : ℕ) (skip : (m : ℕ) → k ≤ m → m < at → on m ≡ false) where
    pub led_end : (m : ℕ) → a ≤ m → m < at → on m ≡ true → kept_counts ns opened y m ≡ g m
    led_end m l u e =
        elim (dec_lt m k) [
          | yes b ↦ before.same m l b e
          | no b ↦ not_both (on m) (skip m (omega arith) u) e
        ]

    -- the sequence at `at` written, and the counts before and after it as they were
    module _ (z : List ℕ) (low : a ≤ at) (up : k ≤ at) (inside : at < length ns) {b e : ℕ} (begins : b ≡ sum (take at ns)) (ends : e ≡ sum (take (at + 1) ns))
        (front : take b z ≡ take b y) (back : drop e z ≡ drop e y) where
      left_front : (m : ℕ) → m < at → counts_at ns m z ≡ counts_at ns m y
      unfolding counts_at
      left_front m l =
          between_kept b (sum (take m ns)) (sum (take m ns) + get_or ns m 0) y z (omega arith) (omega (arith, begins, offset_most ns m at (omega arith) l)) front

      left_back : (m : ℕ) → at < m → counts_at ns m z ≡ counts_at ns m y
      unfolding counts_at
      left_back m l =
          between_later e (sum (take m ns)) (sum (take m ns) + get_or ns m 0) y z (omega (arith, ends, offset_least ns (at + 1) m (omega arith))) back

      pub led_turn : {from to : ℕ} → from ≡ first_word ns at → to ≡ first_word ns (at + 1) → masked (held (between from to opened)) (between b e z) ≡ g at
          → Led on g ns opened a (at + 1) x z
      led_turn starts stops here = record {
        same = λ m l u f.
            elim (dec_lt m at) [
              | yes s ↦ kept_same ns opened y z m (left_front m s) ∙ led_end m l s f
              | no s ↦ (let q : at ≡ m = omega arith in rw (← q) (sym (kept_are_at ns at inside begins ends starts stops opened z) ∙ here))
            ];
        earlier = λ m l u. left_front m (omega arith) ∙ before.earlier m l u;
        later = λ m l u. left_back m (omega arith) ∙ before.later m (omega arith) u;
      }

-- the sequences of one word of marks led, those of the words before it having been
module _ (first : Bool) (d n : ℕ) (ns row opened x y : List ℕ) (w : ℕ) (bounded : Bounded ns row) (top : w < row_marks)
    (before : Led (is_marked row) (led_at first d n ns row x) ns opened 0 (w * 64) x y) (z : List ℕ)
    (here : (m : ℕ) → w * 64 ≤ m → m < w * 64 + 64 → is_marked row m ≡ true → kept_counts ns opened z m ≡ led_at first d n ns row y m)
    (earlier : (m : ℕ) → m < w * 64 → m < length ns → counts_at ns m z ≡ counts_at ns m y)
    (later : (m : ℕ) → w * 64 + 64 ≤ m → m < length ns → counts_at ns m z ≡ counts_at ns m y) where
  -- a sequence that has a mark is one of the set
  there : (m : ℕ) → m < w * 64 + 64 → is_marked row m ≡ true → m < length ns
  there m u e =
      elim (dec_lt m (length ns)) [
        | yes l ↦ l
        | no l ↦ not_both (is_marked row m) (bounded.none m (omega arith) (omega arith)) e
      ]

  pub led_word : Led (is_marked row) (led_at first d n ns row x) ns opened 0 ((w + 1) * 64) x z
  led_word = record {
    same = λ m l u e.
        elim (dec_lt m (w * 64)) [
          | yes s ↦ kept_same ns opened y z m (earlier m s (there m (omega arith) e)) ∙ before.same m l s e
          | no s ↦ here m (omega arith) (omega arith) e ∙ ap (added d (d + n - 1)) (begun_same first ns row x y m (before.later m (omega arith) (there m (omega arith) e)))
        ];
    earlier = λ m l u. absurd (omega arith);
    later = λ m l u. later m (omega arith) u ∙ before.later m (omega arith) u;
  }

-- A PART OF THE COUNTS, written by two callees, one after the other
module _ (a e : ℕ) (l ys : List ℕ) (h : a ≤ e) (g : e ≤ length l) (n : length ys ≡ length (mid_of a (e - a) l)) where
  pub part_first : mid_of a (e - a) (put_mid a (e - a) l ys) ≡ ys
  unfolding between
  part_first = (part_written a e l h g ys n).2

  pub part_led : (vs : List ℕ) → length vs ≡ length (mid_of a (e - a) (put_mid a (e - a) l ys))
      → ((take a (put_mid a (e - a) (put_mid a (e - a) l ys) vs) ≡ take a l) × (drop e (put_mid a (e - a) (put_mid a (e - a) l ys) vs) ≡ drop e l)
      × (length (put_mid a (e - a) (put_mid a (e - a) l ys) vs) ≡ length l))
      × (between a e (put_mid a (e - a) (put_mid a (e - a) l ys) vs) ≡ vs)
  part_led vs m =
      let p = part_written a e l h g ys n in
      let g2 : e ≤ length (put_mid a (e - a) l ys) = omega (arith, p.1) in
      let r = part_written a e (put_mid a (e - a) l ys) h g2 vs m in (
        (
          r.0 ∙ p.0,
          drop_put a e (put_mid a (e - a) l ys) vs h g2 (m ∙ mid_len a e (put_mid a (e - a) l ys) g2) ∙ drop_put a e l ys h g (n ∙ mid_len a e l g),
          r.1 ∙ p.1,
        ),
        r.2,
      )
