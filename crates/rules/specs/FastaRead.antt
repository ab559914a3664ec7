-- A FILE READ TO ITS END: what it is to read one, what a caller then has, and which files can be read so.
use mathlib.Core.List.{List, map, Memᴰ}
use Rattle.std.specs.Prelude.{◌≡◌, ℕ, ◌≤◌, length, take}
use Rattle.rules.specs.Fasta.{Entry, letters_of, size_of, file_records, Held, at_first, call, HandsOut, handing}
use Rattle.rules.specs.FastaRefused.{TextBefore}
use Rattle.rules.specs.Letters.{value}
use Rattle.rules.specs.Limits.{fasta_length}
use Rattle.rules.specs.Lists.{each, sum}
use Rattle.rules.specs.Refused.{IsLetter, Stays}
use Rattle.rules.specs.Sequences.{sequences}
use Rattle.rules.specs.Told.{gives, Handing, no_entry}

module _ (file letters lengths : List ℕ) where
  -- calls one after another, the first over a lent buffer and table of which nothing is used, until one finds no record
  pub record ReadToEnd (xs : List Handing) (k : Held) : Type 0 where
    pub calls : HandsOut file (at_first letters lengths) xs k
    pub no_more : (call file k).told ≡ gives no_entry

  -- what they handed out, and what the caller then holds: the file's records in file order. The used part of the buffer is their
  -- letters, joined; the used rows of the table are how many letters each has, and add up; the rest of both is as it was lent
  pub record ReadWhole (xs : List Handing) (k : Held) : Type 0 where
    pub handed : xs ≡ map handing (file_records file)
    pub joined : take k.used k.letters ≡ each letters_of (file_records file)
    pub sizes : take k.count k.lengths ≡ map size_of (file_records file)
    pub adds : sum (take k.count k.lengths) ≡ k.used
    pub spelt : (b : ℕ) → Memᴰ b (take k.used k.letters) → IsLetter b
    pub searched : sequences (take k.used k.letters) (take k.count k.lengths) ≡ map (λ e. map value (letters_of e)) (file_records file)
    pub buffer_stays : Stays k.used letters k.letters
    pub table_stays : Stays k.count lengths k.lengths

  -- a file that can be read so: no text stands before its first record, its records fit, and their lines hold letters alone
  pub record Readable : Type 0 where
    pub no_text : TextBefore file 0 → ⊥
    pub room : length (each letters_of (file_records file)) ≤ length letters
    pub rows : length (file_records file) ≤ length lengths
    pub short : (e : Entry) → Memᴰ e (file_records file) → size_of e ≤ fasta_length
    pub all_letters : (e : Entry) → Memᴰ e (file_records file) → (b : ℕ) → Memᴰ b (letters_of e) → IsLetter b
