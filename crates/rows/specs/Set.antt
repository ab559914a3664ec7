-- A row over the whole set, in one table of words: first the marks, one bit for each sequence, then each sequence's own words, whole
-- ones, one sequence after another. The code has the sizes under the same names (src/lib.rt).
use Rattle.std.specs.Prelude.{Bool, true, false, List, [], ◌∷◌, ◌≡◌, ℕ, zero, suc, ◌+◌, ◌-◌, ◌*◌, ◌/◌, ◌≤◌, ◌<◌, eqb, length, take, drop, get_or}
use Rattle.rules.specs.Limits.{sequence_set_sequences, sequence_set_letters}
use Rattle.rules.specs.Lists.{if, sum}
use Rattle.rules.specs.Sequences.{split, sequences}
use Rattle.rows.specs.Bits.{word_bits, held}
use Rattle.rows.specs.Flags.{bit, has_left}
use Rattle.rows.specs.Rows.{ahead, window, extended, lettered, padded}

-- the words of marks: sixteen
abbrev pub row_marks : ℕ
row_marks = sequence_set_sequences / word_bits

-- and those of a row in all, 2,072: every sequence may leave up to 63 bits of its last word unused, and 24 words behind all of them are
-- no sequence's
abbrev pub row_unused : ℕ
row_unused = 24

abbrev pub row_words : ℕ
row_words = row_marks + (sequence_set_letters + (word_bits - 1) * sequence_set_sequences) / word_bits + row_unused

-- the words of n bits: of a sequence's letters, or of the marks of a set's sequences
unfoldable pub words_of : ℕ → ℕ
words_of n = (n + 63) / 64

-- where those of sequence k begin, k from 0: past the marks and the words of all before it
unfoldable pub first_word : List ℕ → ℕ → ℕ
first_word ns zero = row_marks
first_word [] (suc k) = row_marks
first_word (n ∷ ns) (suc k) = words_of n + first_word ns k

-- a table of where each sequence's words begin, and then where those of all end
pub record Firsts (ns firsts : List ℕ) : Type 0 where
  pub long : length ns < length firsts
  pub same : (k : ℕ) → k ≤ length ns → get_or firsts k 0 ≡ first_word ns k

-- and one of where its letters do in the buffer
pub record Offsets (ns offsets : List ℕ) : Type 0 where
  pub long : length ns < length offsets
  pub same : (k : ℕ) → k ≤ length ns → get_or offsets k 0 ≡ sum (take k ns)

-- a part of a list, from a up to e
unfoldable pub between : ℕ → ℕ → List ℕ → List ℕ
between a e l = take (e - a) (drop a l)

-- the bits of sequence k
unfoldable pub bits_at : List ℕ → ℕ → List ℕ → List ℕ
bits_at ns k row = held (between (first_word ns k) (first_word ns k + words_of (get_or ns k 0)) row)

-- whether sequence k has a mark
unfoldable pub is_marked : List ℕ → ℕ → Bool
is_marked row k = eqb (get_or (held row) k 0) 1

-- of how many of the n sequences from a on h holds
unfoldable pub tally : (ℕ → Bool) → ℕ → ℕ → ℕ
tally h a zero = 0
tally h a (suc n) = bit (h a) + tally h (suc a) n

-- ONE LETTER MORE, the i-th of its component: the bits of sequence k, and whether it has a mark then: it had one, and a bit is left
unfoldable pub extended_at : ℕ → List ℕ → List ℕ → List ℕ → ℕ → List ℕ
extended_at i ns letter row k = extended i (bits_at ns k letter) (bits_at ns k row)

unfoldable pub is_extended_marked : ℕ → List ℕ → List ℕ → List ℕ → ℕ → Bool
is_extended_marked i ns letter row k = if (is_marked row k) (has_left (extended_at i ns letter row k)) false

-- A GAP of n distances, the least of them d: the bits of sequence k
unfoldable pub window_at : ℕ → ℕ → List ℕ → List ℕ → ℕ → List ℕ
window_at d n ns row k = window d n (bits_at ns k row)

-- A LETTER'S ROW: the bits of sequence k, of a buffer split by the lengths
unfoldable pub lettered_at : (ℕ → ℕ → Bool) → ℕ → List ℕ → List ℕ → ℕ → List ℕ
lettered_at f x ns buffer k = lettered f x (get_or (split ns buffer) k []) (64 * words_of (get_or ns k 0))

-- A ROW SHIFTED DOWN, for a letter's place i in its component: the bits of sequence k, of any row and of a letter's
unfoldable pub shifted_at : ℕ → List ℕ → List ℕ → ℕ → List ℕ
shifted_at i ns row k = ahead i (bits_at ns k row)

unfoldable pub lettered_on : ℕ → (ℕ → ℕ → Bool) → ℕ → List ℕ → List ℕ → ℕ → List ℕ
lettered_on i f x ns buffer k = ahead i (lettered_at f x ns buffer k)

-- a row whose first n sequences, as far as they are on, have the bits that g says
pub record Filled (on : ℕ → Bool) (g : ℕ → List ℕ) (ns row : List ℕ) (n : ℕ) : Type 0 where
  pub same : (k : ℕ) → k < n → on k ≡ true → bits_at ns k row ≡ g k

-- a row whose first n sequences have the marks that g says
pub record Marked (g : ℕ → Bool) (row : List ℕ) (n : ℕ) : Type 0 where
  pub same : (k : ℕ) → k < n → is_marked row k ≡ g k

-- there is no mark past the last sequence
pub record Bounded (ns row : List ℕ) : Type 0 where
  pub none : (k : ℕ) → length ns ≤ k → k < sequence_set_sequences → is_marked row k ≡ false

-- BY FLAGS. F says the flags of a sequence: for a prefix with the parts cs it is `last_starts cs`. Sequence k, from 0
abbrev pub sequence : List ℕ → List ℕ → ℕ → List ℕ
sequence ns l k = get_or (sequences l ns) k []

-- a prefix's row: each sequence has a mark where a flag is left, and each that has one its flags, and no bit past them
pub record Row (F : List ℕ → List ℕ) (ns l row : List ℕ) : Type 0 where
  pub marks_are : (k : ℕ) → k < sequence_set_sequences → is_marked row k ≡ has_left (F (sequence ns l k))
  pub bits_are : (k : ℕ) → k < length ns → is_marked row k ≡ true → bits_at ns k row ≡ padded (64 * words_of (get_or ns k 0)) (F (sequence ns l k))

-- a row to which a letter may be added: each sequence that has a mark begins with its flags, and one that has none has none
pub record Source (F : List ℕ → List ℕ) (ns l row : List ℕ) : Type 0 where
  pub none : (k : ℕ) → k < sequence_set_sequences → is_marked row k ≡ false → has_left (F (sequence ns l k)) ≡ false
  pub past : (k : ℕ) → length ns ≤ k → k < sequence_set_sequences → is_marked row k ≡ false
  pub begin : (k : ℕ) → k < length ns → is_marked row k ≡ true → (p : ℕ) → p < length (sequence ns l k) → get_or (bits_at ns k row) p 0 ≡ get_or (F (sequence ns l k)) p 0
