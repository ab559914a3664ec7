-- The reader's rule where no line is left, where text comes first, and where a header begins: then by what its record's lines hold.
use Rattle.std.specs.Prelude.{Option, None, Some}
use borrow.Rule.Slice.PartMut.{put_mid}
use mathlib.Core.Path.{◌≡◌, sym, ap, ◌∙◌}
use mathlib.Core.Bool.{Bool, true, false, ◌||◌}
use mathlib.Core.List.{List, [], ◌∷◌, append-nil}
use Prim.Native.Nat.{ℕ, ◌+◌, ◌-◌, ◌≤◌, ◌<◌}
use native.Mathlib.Numerals.{add-one}
use native.Mathlib.Omega.{arith}
use lib.Dec.{ltb, leb}
use lib.ListN.{length, set, take, drop, get_or, length-drop, drop_of_length-le}
use lib.Seq.{set_split, drop-drop, take_all}
use borrow.Author.Tests.{ltb-false, leb-false}
use Rattle.rules.proofs.Tests.{neither}
use Rattle.rules.proofs.Verdicts.{fine_else, else_fine}
use Rattle.rules.specs.Calls.{on_refusal}
use Rattle.rules.specs.Fasta.{line, lines_from, Entry, entries, up_to_blank, name_of, texts, letters_of, size_of, check19, has_no_room, check20, check4_file, reader_checks, ReaderRule, stays, hands_out, reader_rule}
use Rattle.rules.specs.Limits.{fasta_length}
use Rattle.rules.specs.Lists.{put, put_at}
use Rattle.rules.specs.Refusals.{◌else◌, first}
use Rattle.rules.specs.Told.{gives, refuses, entry, no_entry}
use Rattle.rules.specs.declared.FileOffset.{FileOffset}
use Rattle.fasta.specs.Scanned.{FirstLine, HeaderAt, body, BodyAt}
use Rattle.fasta.proofs.FileLines.{line_some, header_mark, no_mark}

module _ (file : List ℕ) (at : ℕ) (letters : List ℕ) (used : ℕ) (lengths : List ℕ) (count : ℕ) where
  -- the rule of a call
  abbrev rule : ReaderRule
  rule = reader_rule file at letters used lengths count

  -- no line is left
  pub rule_end : lines_from file at ≡ [] → rule ≡ stays file at letters used lengths count (gives no_entry)
  unfolding reader_rule reader_checks check19 entries first ◌else◌
  rule_end e = rw e

  -- text comes first
  pub rule_text : {start : ℕ} {text : List ℕ} {next : ℕ} → FirstLine file at start text next → (get_or text 0 0 ≡ 62 → ⊥) → rule ≡ stays file at letters used lengths count (refuses 19 0)
  unfolding reader_rule reader_checks check19 first ◌else◌
  rule_text {start} {text} {next} f m = rw (f.lines ∙ line_some file start text next f.line f.some, no_mark file start text m)

  -- a header begins
  module _ {start : ℕ} {text : List ℕ} {next : ℕ} (h : HeaderAt file at start text next) where
    -- the record that it begins
    abbrev next_entry : Entry
    next_entry = record { header = line start text; lines = body file next }

    rule_header : rule ≡ on_refusal (check20 letters used lengths count next_entry else check4_file next_entry)
        (λ n p. stays file at letters used lengths count (refuses n p))
        (hands_out file at letters used lengths count (next_entry ∷ entries (lines_from file next)))
    unfolding reader_rule reader_checks check19 entries first
    rule_header =
        rw (h.first.lines ∙ line_some file start text next h.first.line h.first.some, header_mark file start text h.mark, fine_else, else_fine (check4_file next_entry))

    module _ {size : ℕ} {bad : Option FileOffset} {after : ℕ} (b : BodyAt file next size bad after) where
      sized : size_of next_entry ≡ size
      unfolding letters_of
      sized = sym b.sized

      -- there is no room for its record
      pub rule_no_room : {t : Bool} → t ≡ has_no_room (length letters) used (length lengths) count size → t ≡ true → rule ≡ stays file at letters used lengths count (refuses 20 0)
      unfolding check20 ◌else◌
      rule_no_room e n = rule_header ∙ rw (sized, ← e, n)

      -- there is, and a byte is no letter
      pub rule_bad : {t : Bool} {o : FileOffset} → t ≡ has_no_room (length letters) used (length lengths) count size → t ≡ false → bad ≡ Some o → rule ≡ stays file at letters used lengths count (refuses 4 o.0)
      unfolding check20 check4_file ◌else◌
      rule_bad e n k = rule_header ∙ rw (sized, ← e, n, b.checked, k)

      -- there is, and all are letters: it is handed out
      pub rule_record : {t : Bool} → t ≡ has_no_room (length letters) used (length lengths) count size → t ≡ false → bad ≡ None
          → rule ≡ record {
            told = gives (entry (start + 1) (start + 1 + length (up_to_blank (drop 1 text))) size);
            at = after;
            letters = put_at used (texts (body file next)) letters;
            lengths = put_at count (size ∷ []) lengths;
          }
      unfolding check20 check4_file letters_of name_of ◌else◌
      rule_record e n k = rule_header ∙ rw (sized, ← e, n, b.checked, k, b.cursor)

-- the four parts of a rule, as the contracts have them
pub parts : {r s : ReaderRule} → s ≡ r → (r.told ≡ s.told) × ((r.at ≡ s.at) × ((r.letters ≡ s.letters) × (r.lengths ≡ s.lengths)))
parts e = (ap (λ x. x.told) (sym e), (ap (λ x. x.at) (sym e), (ap (λ x. x.letters) (sym e), ap (λ x. x.lengths) (sym e))))

-- a text put to the front of what a buffer has left is put behind what it holds
pub put_rest : (used : ℕ) (text letters : List ℕ) {rest : List ℕ} → used ≤ length letters → rest ≡ put text (take (length letters - used) (drop used letters))
    → put_mid used (length letters - used) letters rest ≡ put_at used text letters
unfolding put_at
put_rest used text letters h e =
    let n = length-drop used letters in
    let t = take_all (length letters - used) (drop used letters) (omega (arith, n)) in
    let d = drop_of_length-le (drop used letters) {i = length letters - used} (omega (arith, n)) in
    rw (e, t, d, append-nil)

-- one row written to a table
pub put_one : (n x : ℕ) (table : List ℕ) → n < length table → set table n x ≡ put_at n (x ∷ []) table
unfolding put_at put
put_one n x table h = set_split table n x h ∙ rw (drop-drop, add-one)

-- where there is room, there is room for each
pub room_for : (letters : List ℕ) (used : ℕ) (lengths : List ℕ) (count size : ℕ) {t : Bool} → t ≡ has_no_room (length letters) used (length lengths) count size → t ≡ false
    → (used + size ≤ length letters) × (count < length lengths) × (size ≤ fasta_length)
room_for letters used lengths count size e n =
    let p = (neither (ltb (length letters) (used + size) || leb (length lengths) count) (ltb fasta_length size)).0 (sym e ∙ n) in
    let q = (neither (ltb (length letters) (used + size)) (leb (length lengths) count)).0 p.0 in
    (ltb-false (length letters) (used + size) q.0, leb-false (length lengths) count q.1, ltb-false fasta_length size p.1)
