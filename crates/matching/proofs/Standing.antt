-- The rows of a motif's letters, from those of the four letters of a sequence: a letter's row has a bit where one of those has that it
-- stands for. They stand in slots of one table, after those of the four.
use mathlib.Core.Bool.{Bool, true, false, ◌&&◌, ◌||◌}
use mathlib.Core.List.{List, [], ◌∷◌, map}
use mathlib.Core.Path.{◌≡◌, refl, sym, ap, ◌∙◌}
use Prim.Native.Nat.{ℕ, zero, suc, ◌+◌, ◌-◌, ◌*◌, ◌/◌, ◌%◌, ◌≤◌, ◌<◌, max}
use native.Mathlib.Decide.{dec_lt}
use native.Mathlib.Nat.{zero-add}
use native.Mathlib.Omega.{arith}
use Rattle.std.proofs.lemmas.List.{take-take}
use lib.Bits.{bit_or}
use lib.Dec.{eqb}
use lib.ListN.{length, take, get_or}
use borrow.Rule.Slice.PartMut.{mid_len}
use Rattle.rules.proofs.BaseSets.{value_most, stands_for_or}
use Rattle.rules.proofs.Exact.{exact_search, exact_base}
use Rattle.rules.proofs.Mixed.{mixed_base}
use Rattle.rules.proofs.Over.{getd_map_run, length_map_run}
use Rattle.rules.specs.Letters.{value}
use Rattle.rules.specs.Lists.{if, run}
use Rattle.rules.specs.Profile.{base_sets, has_base, stands_for, profile_of, base_of}
use Rattle.rules.specs.Sequences.{split}
use Rattle.rules.specs.Sound.{SoundSet}
use Rattle.rules.specs.declared.Profile.TheVariants.{Exact, Mixed}
use Rattle.rules.specs.declared.Template.{Template}
use Rattle.rows.specs.Flags.{bit}
use Rattle.rows.specs.Rows.{letter_at, lettered}
use Rattle.rows.specs.Set.{words_of, first_word, between, bits_at, shifted_at, lettered_at, lettered_on, Filled}
use Rattle.rows.proofs.Bits.{digit_none, getd_held}
use Rattle.rows.proofs.Digits.{digit, digit_or}
use Rattle.rows.proofs.Lettered.{made_all}
use Rattle.rows.proofs.LetterRow.{letter_in, letter_out}
use Rattle.rows.proofs.Sets.{first_most}
use Rattle.rows.proofs.Shifted.{lettered_first, lettered_shifted}
use Rattle.matching.specs.Path.{row_slot, BaseRows, FromBases, Letters}
use Rattle.matching.proofs.BaseRows.{split_values, at_bytes}
use Rattle.matching.proofs.Fits.{stood_row, own_row}
use Rattle.matching.proofs.Slots.{enough, between_at, slot_kept}

-- ---- ONE LETTER'S ROW, word by word

-- word q of it
unfoldable pub letter_word : ℕ → List (List ℕ) → ℕ → ℕ
letter_word x bases q =
    let set = get_or base_sets x 0 in
    bit_or (bit_or (if (has_base set 0) (get_or (row_slot 0 bases) q 0) 0) (if (has_base set 1) (get_or (row_slot 1 bases) q 0) 0))
    (bit_or (if (has_base set 2) (get_or (row_slot 2 bases) q 0) 0) (if (has_base set 3) (get_or (row_slot 3 bases) q 0) 0))

pub letter_word_is : (x : ℕ) (bases : List (List ℕ)) (q : ℕ) {set i j k n : ℕ} {a c g t : Bool} → set ≡ get_or base_sets x 0
    → a ≡ has_base set 0 → c ≡ has_base set 1 → g ≡ has_base set 2 → t ≡ has_base set 3
    → i ≡ if a (get_or (row_slot 0 bases) q 0) 0 → j ≡ if c (get_or (row_slot 1 bases) q 0) 0
    → k ≡ if g (get_or (row_slot 2 bases) q 0) 0 → n ≡ if t (get_or (row_slot 3 bases) q 0) 0
    → bit_or (bit_or i j) (bit_or k n) ≡ letter_word x bases q
unfolding letter_word
letter_word_is x bases q es ea ec eg et ei ej ek en = rw (ei, ej, ek, en, ea, ec, eg, et, es)

digit_pick : (h : Bool) (w b : ℕ) → digit (if h w 0) b ≡ if h (digit w b) 0
digit_pick true w b = refl
digit_pick false w b = digit_none b

digit_four : (a c g t : Bool) (u v w z b : ℕ)
    → digit (bit_or (bit_or (if a u 0) (if c v 0)) (bit_or (if g w 0) (if t z 0))) b ≡ max (max (if a (digit u b) 0) (if c (digit v b) 0)) (max (if g (digit w b) 0) (if t (digit z b) 0))
digit_four a c g t u v w z b = simp (digit_or, digit_pick)

either_bit : (p q : Bool) → bit (p || q) ≡ max (bit p) (bit q)
either_bit true true = refl
either_bit true false = refl
either_bit false true = refl
either_bit false false = refl

bit_and : (p q : Bool) → bit (p && q) ≡ if p (bit q) 0
bit_and true q = refl
bit_and false q = refl

bit_four : (a c g t d e f h : Bool)
    → bit ((a && d) || (c && e) || (g && f) || (t && h)) ≡ max (max (if a (bit d) 0) (if c (bit e) 0)) (max (if g (bit f) 0) (if t (bit h) 0))
bit_four a c g t d e f h = simp (either_bit, bit_and) (omega arith)

if_none : (h : Bool) → ◌≡◌ {A = ℕ} (if h 0 0) 0
if_none true = refl
if_none false = refl

-- of four numbers those whose test holds, and the greatest of them
abbrev most : (ℕ → Bool) → (ℕ → ℕ) → ℕ
most has f = max (max (if (has 0) (f 0) 0) (if (has 1) (f 1) 0)) (max (if (has 2) (f 2) 0) (if (has 3) (f 3) 0))

module _ (x : ℕ) where
  abbrev has : ℕ → Bool
  has y = has_base (get_or base_sets x 0) y

  -- it fits where one fits that it stands for
  joined_at : (s : List ℕ) → ((i : ℕ) → get_or s i 0 ≤ 4) → (p : ℕ) → letter_at stands_for x s p ≡ most has (λ y. letter_at eqb y s p)
  joined_at s small p =
      elim (dec_lt p (length s)) [
        | yes h ↦ (sym (letter_in stands_for x s p h) ∙ ap bit (stands_for_or x (get_or s p 0) (small p))
            ∙ rw (← (letter_in eqb 0 s p h), ← (letter_in eqb 1 s p h), ← (letter_in eqb 2 s p h), ← (letter_in eqb 3 s p h)) (bit_four (has 0) (has 1) (has 2) (has 3) _ _ _ _))
        | no h ↦ (let o : length s ≤ p = omega arith in
            letter_out stands_for x s p o ∙ sym (rw (letter_out eqb 0 s p o, letter_out eqb 1 s p o, letter_out eqb 2 s p o, letter_out eqb 3 s p o) (simp if_none)))
      ]

  word_digit : (bases : List (List ℕ)) (q b : ℕ) (f : ℕ → ℕ) → ((y : ℕ) → y < 4 → digit (get_or (row_slot y bases) q 0) b ≡ f y) → digit (letter_word x bases q) b ≡ most has f
  unfolding letter_word
  word_digit bases q b f is =
      digit_four (has 0) (has 1) (has 2) (has 3) (get_or (row_slot 0 bases) q 0) (get_or (row_slot 1 bases) q 0) (get_or (row_slot 2 bases) q 0) (get_or (row_slot 3 bases) q 0) b
      ∙ rw (is 0 (omega arith), is 1 (omega arith), is 2 (omega arith), is 3 (omega arith))

values_small : (s : List ℕ) (i : ℕ) → get_or (map value s) i 0 ≤ 4
values_small [] i = omega arith
values_small (b ∷ s) zero = value_most b
values_small (b ∷ s) (suc i) = values_small s i

-- all words of it
module _ (x : ℕ) (bases : List (List ℕ)) (row : List ℕ) (all : row ≡ map (letter_word x bases) (run 0 2072)) (ns l : List ℕ) (set : SoundSet l ns) (is : BaseRows ns l bases) (k : ℕ) (u : k < length ns) where
  abbrev at : ℕ
  at = first_word ns k

  abbrev n : ℕ
  n = words_of (get_or ns k 0)

  abbrev s : List ℕ
  s = get_or (split ns (map value l)) k []

  inside : at + n ≤ 2072
  inside = omega (arith, first_most ns k (length ns) u u, enough l ns set)

  base_digit : (q b : ℕ) → q < n → b < 64 → (y : ℕ) → y < 4 → digit (get_or (row_slot y bases) (at + q) 0) b ≡ letter_at eqb y s (q * 64 + b)
  unfolding bits_at lettered_at lettered
  base_digit q b v w y h =
      let o = inside in
      ap (λ (d : ℕ). digit d b) (sym (between_at at (at + n) (row_slot y bases) q (omega arith)))
      ∙ sym (getd_held (between at (at + n) (row_slot y bases)) q b w)
      ∙ ap (λ (ks : List ℕ). get_or ks (q * 64 + b) 0) ((is.rows y h).same k u refl ∙ at_bytes ns l y h k)
      ∙ getd_map_run (letter_at eqb y s) 0 0 (64 * n) (q * 64 + b) (omega arith)
      ∙ ap (letter_at eqb y s) (zero-add (q * 64 + b))

  joined_digit : (q b : ℕ) → q < n → b < 64 → digit (get_or (between at (at + n) row) q 0) b ≡ letter_at stands_for x s (q * 64 + b)
  joined_digit q b v w =
      let o = inside in
      ap (λ (d : ℕ). digit d b)
      (between_at at (at + n) row q (omega arith) ∙ ap (λ (r : List ℕ). get_or r (at + q) 0) all ∙ getd_map_run (letter_word x bases) 0 0 2072 (at + q) (omega arith)
      ∙ ap (letter_word x bases) (zero-add (at + q)))
      ∙ word_digit x bases (at + q) b (λ y. letter_at eqb y s (q * 64 + b)) (base_digit q b v w)
      ∙ sym (joined_at x s (λ i. rw (split_values ns l k) (values_small (get_or (split ns l) k []) i)) (q * 64 + b))

  joined_bits : bits_at ns k row ≡ lettered_at stands_for x ns (map value l) k
  unfolding bits_at between lettered_at
  joined_bits =
      let o = inside in
      let z : at + n - at ≡ n = omega arith in
      let long : length row ≡ 2072 = ap length all ∙ length_map_run (letter_word x bases) 0 2072 in
      made_all stands_for x s n n (between at (at + n) row) (mid_len at (at + n) row (omega arith) ∙ z) refl joined_digit

pub joined_row : (x : ℕ) (bases : List (List ℕ)) (row : List ℕ) → row ≡ map (letter_word x bases) (run 0 2072) → FromBases bases x row
joined_row x bases row all ns l set is = record { same = λ k u e. joined_bits x bases row all ns l set is k u }

-- the same letter by another number, and the same words in another place
pub from_letter : (bases : List (List ℕ)) {x y : ℕ} {row : List ℕ} → x ≡ y → FromBases bases x row → FromBases bases y row
from_letter bases e q ns l set is = rw e at (q ns l set is)

pub from_row : (bases : List (List ℕ)) (x : ℕ) {row out : List ℕ} → out ≡ row → FromBases bases x row → FromBases bases x out
from_row bases x e q ns l set is = rw e (q ns l set is)

-- ---- ALL LETTERS' ROWS, in slots after those of the four: the slots up to n are written, of each of which P holds
pub record Written (P : ℕ → List ℕ → Type 0) (old : List (List ℕ)) (n : ℕ) (standing : List (List ℕ)) : Type 0 where
  pub some : 4 ≤ n
  pub kept : take 4 standing ≡ take 4 old
  pub made : (s : ℕ) → 4 ≤ s → s < n → P s (row_slot s standing)

module _ (P : ℕ → List ℕ → Type 0) (old : List (List ℕ)) where
  pub written_more : (n : ℕ) (x y : List (List ℕ)) → Written P old n x → take n y ≡ take n x → P n (row_slot n y) → Written P old (n + 1) y
  written_more n x y q left here = record {
    some = omega (arith, q.some);
    kept = sym (take-take 4 n y q.some) ∙ ap (take 4) left ∙ take-take 4 n x q.some ∙ q.kept;
    made = λ s h v.
        elim (dec_lt s n) [
          | yes u ↦ rw (slot_kept n s x y u left) (q.made s h u)
          | no u ↦ (let z : n ≡ s = omega arith in rw z at here)
        ];
  }

-- the slots of the four are as they were
bases_same : (ns l : List ℕ) (old new : List (List ℕ)) → take 4 new ≡ take 4 old → 4 ≤ length new → BaseRows ns l old → BaseRows ns l new
bases_same ns l old new left long is = record { long = long; rows = λ x h. rw (slot_kept 4 x old new h left) (is.rows x h) }

-- in an exact search each slot has the row of its letter for the first place, shifted
abbrev pub Shifted : List ℕ → List (List ℕ) → ℕ → List ℕ → Type 0
Shifted ns old s row = Filled (λ _. true) (shifted_at (s / 4) ns (row_slot (s % 4) old)) ns row (length ns)

pub shifted_same : (ns : List ℕ) (old x : List (List ℕ)) (s : ℕ) (row : List ℕ) → take 4 x ≡ take 4 old → Shifted ns x s row → Shifted ns old s row
shifted_same ns old x s row left q = rw (slot_kept 4 (s % 4) old x (omega arith) left) at q

-- in a mixed one that of the letter with its number
pub from_same : (old x : List (List ℕ)) (s : ℕ) (row : List ℕ) → take 4 x ≡ take 4 old → 4 ≤ length x → FromBases x s row → FromBases old s row
from_same old x s row left long q ns l set is = q ns l set (bases_same ns l old x left long is)

-- how many letters each kind has
pub exact_four : (t : Template) → t.profile ≡ Exact → base_of t ≡ 4
exact_four t e = exact_base t (exact_search t e)

pub mixed_sixteen : (t : Template) → t.profile ≡ Mixed → base_of t ≡ 16
mixed_sixteen = mixed_base

module _ (t : Template) (ns l : List ℕ) (old new : List (List ℕ)) (is : BaseRows ns l old) (left : take 4 new ≡ take 4 old) where
  abbrev fits : ℕ → ℕ → Bool
  fits = (profile_of t).reading.fits

  first : (x : ℕ) → x < 4 → Filled (λ _. true) (lettered_at fits x ns (map value l)) ns (row_slot x old) (length ns)
  first x h = own_row t ns l x h (row_slot x old) (is.rows x h)

  same : (x : ℕ) → x < 4 → Filled (λ _. true) (lettered_at fits x ns (map value l)) ns (row_slot x new) (length ns)
  same x h = rw (slot_kept 4 x old new h left) (first x h)

  -- for the first place a row is as it is
  at_first : (x : ℕ) {s i : ℕ} → i ≡ 0 → s ≡ x → Filled (λ _. true) (lettered_at fits x ns (map value l)) ns (row_slot x new) (length ns)
      → Filled (λ _. true) (lettered_on i fits x ns (map value l)) ns (row_slot s new) (length ns)
  at_first x e z q = rw (e, z) (record { same = λ k u o. q.same k u o ∙ sym (lettered_first fits x ns (map value l) k) })

  pub exact_letters : t.profile ≡ Exact → 4 ≤ length new → (n : ℕ) → length new / 4 * 4 ≤ n
      → ((s : ℕ) → 4 ≤ s → s < n → Shifted ns old s (row_slot s new)) → Letters t ns l new
  exact_letters kind long n all made = record {
    long = rw four long;
    rows = λ x i u v.
        let h : x < 4 = omega (arith, four) in
        let z : i * base_of t + x ≡ i * 4 + x = rw four in
        elim (dec_lt 0 i) [
          | yes o ↦ (let a : (i * 4 + x) / 4 ≡ i = omega arith in
              let b : (i * 4 + x) % 4 ≡ x = omega arith in
              rw z (lettered_shifted i fits x ns (map value l) (row_slot x old) (row_slot (i * 4 + x) new) (first x h) (rw (a, b) at (made (i * 4 + x) (omega arith) (omega (arith, rw four at v))))))
          | no o ↦ at_first x (omega arith) (z ∙ omega arith) (same x h)
        ];
  }
    where
      four : base_of t ≡ 4
      four = exact_four t kind

  pub mixed_letters : t.profile ≡ Mixed → SoundSet l ns → 16 ≤ length new → length new ≤ 16
      → ((s : ℕ) → 4 ≤ s → s < 16 → FromBases old s (row_slot s new)) → Letters t ns l new
  mixed_letters kind set long short made = record {
    long = rw sixteen long;
    rows = λ x i u v.
        let z : i ≡ 0 = omega (arith, rw sixteen at v) in
        let e : i * base_of t + x ≡ x = rw z (omega arith) in
        at_first x z e
        (elim (dec_lt x 4) [
          | yes h ↦ same x h
          | no h ↦ stood_row t ns l x u (row_slot x new) (made x (omega arith) (omega (arith, sixteen)) ns l set is)
        ]);
  }
    where
      sixteen : base_of t ≡ 16
      sixteen = mixed_sixteen t kind
