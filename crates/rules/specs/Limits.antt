-- The limits, each written once. The code has each under the same name (`Template::LETTERS` for `template_letters`), and
-- `limits` of src/lib.rt promises that they agree.
use Rattle.std.specs.Prelude.{ℕ}

-- the letters A, C, G, T: how many, the bits of a value (2 to the power of them are the letters), and the mark of every other byte
abbrev pub letter_bases : ℕ
letter_bases = 4

abbrev pub letter_bits : ℕ
letter_bits = 2

abbrev pub letter_mark : ℕ
letter_mark = 4

-- the letters of a mixed motif, and the base of its number
abbrev pub letter_symbols : ℕ
letter_symbols = 14

abbrev pub letter_digits : ℕ
letter_digits = 16

-- the number of each kind of search, as it is saved
abbrev pub profile_exact : ℕ
profile_exact = 0

abbrev pub profile_mixed : ℕ
profile_mixed = 1

-- and the last of them: each number up to it is that of a kind
abbrev pub profile_last : ℕ
profile_last = profile_mixed

-- a template's components, the letters of one, the letters in all (K), and the longest gap
abbrev pub template_components : ℕ
template_components = 6

abbrev pub template_length : ℕ
template_length = 12

abbrev pub template_letters : ℕ
template_letters = 32

-- K of a template for mixed letters
abbrev pub template_mixed : ℕ
template_mixed = 16

abbrev pub template_gap : ℕ
template_gap = 255

-- the sequences of a set, and their letters in all
abbrev pub sequence_set_sequences : ℕ
sequence_set_sequences = 1024

abbrev pub sequence_set_letters : ℕ
sequence_set_letters = 65536

-- a saved record's bytes; the kinds of record; the records besides the components'
abbrev pub record_bytes : ℕ
record_bytes = 16

abbrev pub record_size : ℕ
record_size = 1

abbrev pub record_component : ℕ
record_component = 2

abbrev pub record_place : ℕ
record_place = 3

abbrev pub record_extra : ℕ
record_extra = 2

-- the printing program's input, and the digits of a number in a gap range and of the quorum
abbrev pub text_bytes : ℕ
text_bytes = 60000

abbrev pub text_gap_digits : ℕ
text_gap_digits = 3

abbrev pub text_quorum_digits : ℕ
text_quorum_digits = 5

-- a FASTA file: the most bytes of one that the program `lines` holds, and the most letters of a record, which a row of the
-- lengths table, of 32 bits, can hold
abbrev pub fasta_bytes : ℕ
fasta_bytes = 1048576

abbrev pub fasta_length : ℕ
fasta_length = 4294967295
