-- Where each sequence's words and letters begin: the next begins where it ends, and a table of them is written entry by entry.
use mathlib.Core.Bool.{Bool, true, false, ◌&&◌, false≢true}
use mathlib.Core.List.{List, [], ◌∷◌}
use mathlib.Core.Path.{◌≡◌, refl, sym, ◌∙◌}
use Prim.Native.Nat.{ℕ, zero, suc, ◌+◌, ◌-◌, ◌*◌, ◌≤◌, ◌<◌}
use native.Mathlib.Decide.{dec_lt}
use native.Mathlib.Omega.{arith}
use lib.Dec.{eqb}
use lib.ListN.{length, take, drop, get_or, set}
use lib.Seq.{drop-drop, get_or-set_same, get_or-set_other}
use borrow.Author.Tests.{eqb-true}
use Rattle.rules.specs.Limits.{sequence_set_sequences}
use Rattle.rules.specs.Lists.{sum}
use Rattle.rules.specs.Sequences.{split}
use Rattle.rows.specs.Rows.{lettered}
use Rattle.rows.specs.Set.{row_marks, words_of, first_word, between, lettered_at, Offsets}
use Rattle.rows.proofs.Sets.{first_next}

-- the letters before sequence k
abbrev pub offset_of : List ℕ → ℕ → ℕ
offset_of ns k = sum (take k ns)

pub offset_none : (ns : List ℕ) → 0 ≡ offset_of ns 0
unfolding sum
offset_none ns = refl

pub offset_next : (ns : List ℕ) (k : ℕ) → k < length ns → offset_of ns (k + 1) ≡ offset_of ns k + get_or ns k 0
unfolding sum
offset_next [] k h = absurd (omega arith)
offset_next (n ∷ ns) zero h = omega arith
offset_next (n ∷ ns) (suc k) h =
    let e : offset_of ns (k + 1) ≡ offset_of ns k + get_or ns k 0 = offset_next ns k (omega arith) in
    let z : suc k + 1 ≡ suc (k + 1) = omega arith in
    rw z (omega arith)

pub offset_most : (ns : List ℕ) (k : ℕ) → offset_of ns k ≤ sum ns
unfolding sum
offset_most [] zero = omega arith
offset_most [] (suc k) = omega arith
offset_most (n ∷ ns) zero = omega arith
offset_most (n ∷ ns) (suc k) = omega (arith, offset_most ns k)

pub length_most : (ns : List ℕ) (k : ℕ) → k < length ns → get_or ns k 0 ≤ sum ns
length_most ns k h = omega (arith, offset_next ns k h, offset_most ns (k + 1))

-- the words of n letters: as many as hold them, and no more
pub words_room : (n : ℕ) → n ≤ 64 * words_of n
unfolding words_of
words_room n = omega arith

pub words_tight : (n : ℕ) → 64 * words_of n ≤ n + 63
unfolding words_of
words_tight n = omega arith

-- so those of a set's marks fit its rows
pub words_marks : (n : ℕ) → n ≤ sequence_set_sequences → {w : ℕ} → w ≡ words_of n → (w ≤ row_marks) × (n ≤ 64 * w)
words_marks n h e = (omega (arith, words_tight n), omega (arith, words_room n))

pub first_bound : (ns : List ℕ) (k : ℕ) → 64 * first_word ns k ≤ 64 * row_marks + sum ns + 63 * length ns
unfolding first_word sum
first_bound [] zero = omega arith
first_bound [] (suc k) = omega arith
first_bound (n ∷ ns) zero = omega arith
first_bound (n ∷ ns) (suc k) = omega (arith, first_bound ns k, words_tight n)

-- A TABLE, written up to entry k
pub record Tabled (f : ℕ → ℕ) (k : ℕ) (t : List ℕ) : Type 0 where
  pub same : (j : ℕ) → j ≤ k → get_or t j 0 ≡ f j

pub tabled_first : (f : ℕ → ℕ) (t : List ℕ) {v : ℕ} → v ≡ f 0 → 0 < length t → Tabled f 0 (set t 0 v)
tabled_first f t {v} e h = record { same = λ j l. let z : 0 ≡ j = omega arith in rw (← z) (get_or-set_same t 0 v 0 h ∙ e) }

pub tabled_more : (f : ℕ → ℕ) (k : ℕ) (t : List ℕ) {v : ℕ} → Tabled f k t → v ≡ f (k + 1) → k + 1 < length t → Tabled f (k + 1) (set t (k + 1) v)
tabled_more f k t {v} q e h = record {
  same = λ j l.
      elim (dec_lt j (k + 1)) [
        | yes m ↦ (get_or-set_other t (k + 1) j v 0 (λ z. omega arith) ∙ q.same j (omega arith))
        | no m ↦ (let z : k + 1 ≡ j = omega arith in rw (← z) (get_or-set_same t (k + 1) v 0 h ∙ e))
      ];
}

-- A SHORT SET, as far as sequence k: each has one word
pub record Short (ns : List ℕ) (k : ℕ) (short : Bool) : Type 0 where
  pub one : short ≡ true → (j : ℕ) → j < k → words_of (get_or ns j 0) ≡ 1

pub short_none : (ns : List ℕ) → Short ns 0 true
short_none ns = record { one = λ _ j l. absurd (omega arith) }

pub short_more : (ns : List ℕ) (k : ℕ) (short : Bool) → Short ns k short → {v : ℕ} → v ≡ words_of (get_or ns k 0) → Short ns (k + 1) (short && eqb v 1)
short_more ns k false q e = record { one = λ z j l. absurd (false≢true z) }
short_more ns k true q {v} e = record {
  one = λ z j l.
      elim (dec_lt j k) [
        | yes m ↦ q.one refl j m
        | no m ↦ (let y : k ≡ j = omega arith in rw (← y) (sym e ∙ eqb-true v 1 z))
      ];
}

pub tabled_offsets : (ns t : List ℕ) (k : ℕ) → k ≡ length ns → length ns < length t → Tabled (offset_of ns) k t → Offsets ns t
tabled_offsets ns t k e h q = record { long = h; same = λ j l. q.same j (omega arith) }

-- THE LETTERS of sequence k
sequence_at : (ns l : List ℕ) (k : ℕ) → k < length ns → get_or (split ns l) k [] ≡ take (get_or ns k 0) (drop (offset_of ns k) l)
unfolding split sum
sequence_at [] l k h = absurd (omega arith)
sequence_at (n ∷ ns) l zero h = refl
sequence_at (n ∷ ns) l (suc k) h = sequence_at ns (drop n l) k (omega arith) ∙ rw drop-drop

module _ (ns : List ℕ) (k : ℕ) (h : k < length ns) {a e from to : ℕ} (begins : a ≡ offset_of ns k) (ends : e ≡ offset_of ns (k + 1))
    (begins-w : from ≡ first_word ns k) (ends-w : to ≡ first_word ns (k + 1)) where
  pub turn_letters : (a ≤ e) × (e ≤ sum ns) × (e - a ≤ 64 * (to - from)) × (64 * (to - from) ≤ e - a + 63)
  turn_letters =
      let n = offset_next ns k h in
      let m = first_next ns k h in (
        omega (arith, n),
        omega (arith, offset_most ns (k + 1)),
        omega (arith, n, m, words_room (get_or ns k 0)),
        omega (arith, n, m, words_tight (get_or ns k 0)),
      )

  pub lettered_turn : (f : ℕ → ℕ → Bool) (x : ℕ) (l : List ℕ) {b : List ℕ} → b ≡ lettered f x (between a e l) (64 * (to - from)) → b ≡ lettered_at f x ns l k
  unfolding lettered_at between
  lettered_turn f x l q =
      let z : e - a ≡ get_or ns k 0 = omega (arith, offset_next ns k h) in
      let y : to - from ≡ words_of (get_or ns k 0) = omega (arith, first_next ns k h) in
      q ∙ rw (z, y, begins, sequence_at ns l k h)
