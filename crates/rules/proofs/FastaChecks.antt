-- What the FASTA reader's checks say where they find nothing: each is a test, or a search for a byte that is no letter, and one that
-- is fine found none.
use mathlib.Core.Path.{◌≡◌, refl}
use mathlib.Core.Logic.Iff
use mathlib.Core.Logic.{◌↔◌}
use mathlib.Core.Bool.{false}
use mathlib.Core.List.Memᴰ
use mathlib.Core.List.{List, [], ◌∷◌, map, Memᴰ}
use Prim.Native.Nat.{ℕ, suc, ◌+◌, ◌≤◌, ◌<◌}
use lib.Dec.{leb, ltb}
use lib.ListN.{length}
use borrow.Author.Tests.{ltb-false, le-ltb, leb-false, lt-leb}
use Rattle.rules.specs.Fasta.{Line, Entry, texts, letters_of, size_of, has_text_first, check19, has_no_room, check20, check_line, check_lines, check4_file}
use Rattle.rules.specs.Limits.{fasta_length}
use Rattle.rules.specs.Lists.{each}
use Rattle.rules.specs.Refusals.{first, first_bad, bad_byte}
use Rattle.rules.specs.Refused.{IsLetter}
use Rattle.rules.specs.Told.{fine}
use Rattle.rules.proofs.All.{no_member, members, members_append}
use Rattle.rules.proofs.Refused.{letter_says}
use Rattle.rules.proofs.Tests.{neither, not_false}
use Rattle.rules.proofs.Verdicts.{first_cons, refuse_if_fine, bad_cons}

-- 19: the first line is a header
check19_fine : (ls : List Line) → (check19 ls ≡ fine) ↔ (has_text_first ls ≡ false)
unfolding check19
check19_fine ls = refuse_if_fine (has_text_first ls) 19

-- 20: the letters end within the buffer, a row is left, and it can hold their number
pub record Room (letters : List ℕ) (used : ℕ) (lengths : List ℕ) (count size : ℕ) : Type 0 where
  pub ends : used + size ≤ length letters
  pub row : count < length lengths
  pub short : size ≤ fasta_length

module _ (letters : List ℕ) (used : ℕ) (lengths : List ℕ) (count : ℕ) where
  fits_says : (size : ℕ) → (has_no_room (length letters) used (length lengths) count size ≡ false) ↔ Room letters used lengths count size
  fits_says size = (
    λ e. let h = (neither _ (ltb fasta_length size)).0 e in
        let k = (neither (ltb (length letters) (used + size)) (leb (length lengths) count)).0 h.0 in
        record { ends = ltb-false (length letters) (used + size) k.0; row = leb-false (length lengths) count k.1; short = ltb-false fasta_length size h.1 },
    λ r. (neither _ (ltb fasta_length size)).1 (
      (neither (ltb (length letters) (used + size)) (leb (length lengths) count)).1 (le-ltb (length letters) (used + size) r.ends, lt-leb (length lengths) count r.row),
      le-ltb fasta_length size r.short,
    ),
  )

  check20_fine : (e : Entry) → (check20 letters used lengths count e ≡ fine) ↔ Room letters used lengths count (size_of e)
  unfolding check20
  check20_fine e = Iff.trans (refuse_if_fine (has_no_room (length letters) used (length lengths) count (size_of e)) 20) (fits_says (size_of e))

-- 4: every byte is a letter
abbrev pub AllLetters : List ℕ → Type 0
AllLetters text = (b : ℕ) → Memᴰ b text → IsLetter b

pub text_fine : (o : ℕ) (text : List ℕ) → (first_bad 4 bad_byte o text ≡ fine) ↔ AllLetters text
unfolding first_bad
text_fine o [] = (λ e. no_member IsLetter, λ h. refl)
text_fine o (x ∷ text) =
    let c = bad_cons 4 bad_byte o x text in
    let r = text_fine (suc o) text in (
      λ e. let h = c.0 e in members IsLetter ((letter_says x).0 ((not_false _).0 h.0)) (r.0 h.1),
      λ h. c.1 ((not_false _).1 ((letter_says x).1 (h x (Memᴰ.head refl))), r.1 (λ b m. h b (Memᴰ.tail m))),
    )

pub lines_fine : (ls : List Line) → (check_lines ls ≡ fine) ↔ AllLetters (texts ls)
unfolding check_lines texts each first
lines_fine [] = (λ e. no_member IsLetter, λ h. refl)
lines_fine (l ∷ ls) =
    let c = first_cons (check_line l) (map check_line ls) in
    let t = text_fine l.at l.text in
    let r = lines_fine ls in (
      λ e. let h = c.0 e in members_append IsLetter l.text (each (λ l. l.text) ls) (t.0 h.0) (r.0 h.1),
      λ h. c.1 (t.1 (λ b m. h b (Memᴰ.append_left (each (λ l. l.text) ls) m)), r.1 (λ b m. h b (Memᴰ.append_right l.text m))),
    )

pub check4_file_fine : (e : Entry) → (check4_file e ≡ fine) ↔ AllLetters (letters_of e)
unfolding check4_file letters_of
check4_file_fine e = lines_fine e.lines

-- ALL OF THEM, where no record is left
pub none_fine : (ls : List Line) → (first (check19 ls ∷ []) ≡ fine) ↔ (has_text_first ls ≡ false)
unfolding first
none_fine ls = let c = first_cons (check19 ls) [] in (λ f. (check19_fine ls).0 (c.0 f).0, λ e. c.1 ((check19_fine ls).1 e, refl))

-- and where e is the next
pub next_fine : (letters : List ℕ) (used : ℕ) (lengths : List ℕ) (count : ℕ) (ls : List Line) (e : Entry)
    → (first (check19 ls ∷ check20 letters used lengths count e ∷ check4_file e ∷ []) ≡ fine) ↔ ((has_text_first ls ≡ false) × Room letters used lengths count (size_of e) × AllLetters (letters_of e))
unfolding first
next_fine letters used lengths count ls e =
    let a = first_cons (check19 ls) (check20 letters used lengths count e ∷ check4_file e ∷ []) in
    let b = first_cons (check20 letters used lengths count e) (check4_file e ∷ []) in
    let c = first_cons (check4_file e) [] in (
      λ f. let g = a.0 f in let h = b.0 g.1 in ((check19_fine ls).0 g.0, (check20_fine letters used lengths count e).0 h.0, (check4_file_fine e).0 (c.0 h.1).0),
      λ f. a.1 ((check19_fine ls).1 f.0, b.1 ((check20_fine letters used lengths count e).1 f.1, c.1 ((check4_file_fine e).1 f.2, refl))),
    )
