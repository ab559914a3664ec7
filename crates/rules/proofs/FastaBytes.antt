-- What the FASTA reader's tests say of a file's own bytes: the name of a record, whether text stands before the first, whether the
-- next has room, and which byte of its lines is the first that is no letter. A line's bytes are the file's, so a test of the one is a
-- test of the other; and of two bytes that are both the first bad one neither stands before the other.
use mathlib.Core.Path.{◌≡◌, refl, sym, ap, ◌∙◌}
use mathlib.Core.Logic.Iff
use mathlib.Core.Logic.{◌↔◌, ◌⊎◌, inl, inr}
use mathlib.Core.Bool.{Bool, true, false, not, false≢true}
use mathlib.Core.List.{List, [], ◌∷◌, ◌++◌, map, Memᴰ}
use Prim.Native.Nat.{ℕ, suc, ◌+◌, ◌-◌, ◌≤◌, ◌<◌}
use native.Mathlib.Omega.{arith}
use lib.Dec.{eqb, ltb}
use lib.ListN.{length, take, drop, get_or, take-append-drop}
use lib.Seq.{take-append-le, drop-append-le, drop-drop}
use borrow.Author.Tests.{eqb-true, leb-true, le-leb, ltb-true, ltb-false}
use Rattle.rules.specs.Fasta.{Line, lines_of, is_text, lines_from, is_header, Entry, is_space_or_tab, up_to_blank, name_of, name_start, name_end, texts, records_from, has_text_first, has_no_room, check_line, check_lines}
use Rattle.rules.specs.FastaRefused.{TextBefore, NoRoom, FirstNoLetter}
use Rattle.rules.specs.Letters.{is_letter}
use Rattle.rules.specs.Limits.{fasta_length}
use Rattle.rules.specs.Lists.{if}
use Rattle.rules.specs.Refusals.{◌else◌, first, bad_byte}
use Rattle.rules.specs.Refused.{RefusesAt, IsLetter}
use Rattle.rules.specs.Text.{pieces}
use Rattle.rules.specs.Told.{Verdict, fine, refused}
use Rattle.rules.proofs.All.{member_at}
use Rattle.rules.proofs.EachCheck.{same}
use Rattle.rules.proofs.FastaChecks.{text_fine, lines_fine}
use Rattle.rules.proofs.FastaLaid.{InFile, byte_of, Laid, laid, laid_line, record_laid}
use Rattle.rules.proofs.First.{first_bad_at}
use Rattle.rules.proofs.Members.{each_in, keep_passes}
use Rattle.rules.proofs.Prefix.{some_length}
use Rattle.rules.proofs.Refused.{not_says, less, letter_says}
use Rattle.rules.proofs.Tests.{either, denied}
use Rattle.rules.proofs.Verdicts.{never}

-- ---- a name

-- what stands before the first blank is the front of a text
up_to_blank_front : (text : List ℕ) → (length (up_to_blank text) ≤ length text) × (up_to_blank text ≡ take (length (up_to_blank text)) text)
unfolding up_to_blank
up_to_blank_front [] = (omega arith, refl)
up_to_blank_front (b ∷ bs) = go (is_space_or_tab b) (up_to_blank_front bs)
  where
    go : (t : Bool) → (length (up_to_blank bs) ≤ length bs) × (up_to_blank bs ≡ take (length (up_to_blank bs)) bs)
        → let u = if t [] (b ∷ up_to_blank bs) in (length u ≤ suc (length bs)) × (u ≡ take (length u) (b ∷ bs))
    go true ih = (omega arith, refl)
    go false ih = (omega (arith, ih.0), ap (λ l. b ∷ l) ih.1)

-- the front of what stands behind the first byte of a line is part of the file
behind_first : (file : List ℕ) (l : Line) (m : ℕ) → InFile file l → 1 ≤ length l.text → m ≤ length (drop 1 l.text) → take m (drop (l.at + 1) file) ≡ take m (drop 1 l.text)
behind_first file l m e some fits =
    let rest = drop (length l.text) (drop l.at file) in
    let w : drop l.at file ≡ l.text ++ rest = sym (take-append-drop (length l.text) (drop l.at file)) ∙ ap (λ t. t ++ rest) (sym e) in
    ap (take m) (sym (drop-drop 1 l.at file) ∙ ap (drop 1) w ∙ drop-append-le 1 l.text rest some) ∙ take-append-le m (drop 1 l.text) rest fits

-- a line that begins with > is not empty
pub mark_some : (l : Line) → is_header l ≡ true → 1 ≤ length l.text
unfolding is_header
mark_some l h = go l.text (eqb-true _ _ h)
  where
    go : (text : List ℕ) → get_or text 0 0 ≡ 62 → 1 ≤ length text
    go [] e = absurd (omega arith)
    go (b ∷ bs) e = omega arith

pub name_part : (file : List ℕ) (at : ℕ) (e : Entry) → Memᴰ e (records_from file at) → take (name_end e - name_start e) (drop (name_start e) file) ≡ name_of e
unfolding name_of
name_part file at e m =
    let r = record_laid file at m in
    let f = up_to_blank_front (drop 1 e.header.text) in
    let n : name_end e - name_start e ≡ length (up_to_blank (drop 1 e.header.text)) = omega arith in
    rw n (behind_first file e.header _ r.first (mark_some e.header r.mark) f.0 ∙ sym f.1)

-- ---- 19 and 20

-- the first byte of a line is that of the file at the line's offset, if the line is not empty
first_byte : (file : List ℕ) (l : Line) → InFile file l → 1 ≤ length l.text → get_or l.text 0 0 ≡ get_or file l.at 0
first_byte file l e h = let z : l.at - l.at ≡ 0 = omega arith in rw z at (byte_of file l e l.at (omega arith) (omega arith))

-- as none is that was not skipped
line_some : (file : List ℕ) (at : ℕ) (l : Line) → Memᴰ l (lines_from file at) → is_text l ≡ true
unfolding lines_from
line_some file at l m = keep_passes is_text (lines_of at (pieces 10 (drop at file))) m

-- the test of 19 says that text stands before the first record
pub text_says : (file : List ℕ) (at : ℕ) → (has_text_first (lines_from file at) ≡ true) ↔ TextBefore file at
unfolding is_header
text_says file at = (λ e. on (lines_from file at) refl e, λ (l, ls, q, d). rw q ((header_not l (first_is l ls q)).1 d))
  where
    -- the first of the lines is not empty, and begins as the file does there
    first_is : (l : Line) (ls : List Line) → lines_from file at ≡ l ∷ ls → get_or l.text 0 0 ≡ get_or file l.at 0
    first_is l ls q =
        let m : Memᴰ l (lines_from file at) = rw q (mathlib.Core.List.Memᴰ.head refl) in
        first_byte file l (laid_line file at (lines_from file at) (laid file at) m).1 (some_length l.text (line_some file at l m))

    header_not : (l : Line) → get_or l.text 0 0 ≡ get_or file l.at 0 → (not (eqb (get_or l.text 0 0) 62) ≡ true) ↔ (get_or file l.at 0 ≡ 62 → ⊥)
    header_not l b = rw b (not_says _ (denied _ (same (get_or file l.at 0) 62)))

    on : (ls : List Line) → lines_from file at ≡ ls → has_text_first ls ≡ true → TextBefore file at
    on [] q e = absurd (false≢true e)
    on (l ∷ ls) q e = (l, ls, q, (header_not l (first_is l ls q)).0 e)

-- and that of 20 that there is no room for a record
pub room_says : (letters : List ℕ) (used : ℕ) (lengths : List ℕ) (count size : ℕ) → (has_no_room (length letters) used (length lengths) count size ≡ true) ↔ NoRoom letters used lengths count size
room_says letters used lengths count size =
    Iff.trans (either _ _ (either _ _ (less (length letters) (used + size)) (leb-true _ _, le-leb _ _)) (less fasta_length size)) (on, back)
  where
    on : ((length letters < used + size) ⊎ (length lengths ≤ count)) ⊎ (fasta_length < size) → NoRoom letters used lengths count size
    on (inl (inl h)) = inl h
    on (inl (inr h)) = inr (inl h)
    on (inr h) = inr (inr h)

    back : NoRoom letters used lengths count size → ((length letters < used + size) ⊎ (length lengths ≤ count)) ⊎ (fasta_length < size)
    back (inl h) = inl (inl h)
    back (inr (inl h)) = inl (inr h)
    back (inr (inr h)) = inr h

-- ---- 4

-- a byte of one of some lines is among their bytes
in_texts : (ls : List Line) {l : Line} {b : ℕ} → Memᴰ l ls → Memᴰ b l.text → Memᴰ b (texts ls)
unfolding texts
in_texts ls m i = each_in (λ l. l.text) ls m i

module _ (file : List ℕ) where
  -- a byte of a line whose bytes are all letters is one
  line_letter : (l : Line) → InFile file l → check_line l ≡ fine → (q : ℕ) → l.at ≤ q → q < l.at + length l.text → IsLetter (get_or file q 0)
  line_letter l e c q h k = rw (byte_of file l e q h k) at ((text_fine l.at l.text).0 c (get_or l.text (q - l.at) 0) (member_at l.text (q - l.at) 0 (omega arith)))

  -- a byte is bad by the test exactly if it is no letter
  bad_says : (l : Line) → InFile file l → (q : ℕ) → l.at ≤ q → q < l.at + length l.text → (bad_byte q (get_or l.text (q - l.at) 0) ≡ true) ↔ (IsLetter (get_or file q 0) → ⊥)
  bad_says l e q h k = rw (byte_of file l e q h k) (not_says _ (denied _ (letter_says (get_or file q 0))))

  -- a byte of a line that the test does not find bad is a letter
  good_byte : (l : Line) → InFile file l → (q : ℕ) → l.at ≤ q → q < l.at + length l.text → (bad_byte q (get_or l.text (q - l.at) 0) ≡ true → ⊥) → IsLetter (get_or file q 0)
  good_byte l e q h k b = go (is_letter (get_or file q 0)) refl
    where
      go : (t : Bool) → is_letter (get_or file q 0) ≡ t → IsLetter (get_or file q 0)
      go true t = (letter_says _).0 t
      go false t = absurd (b (rw (byte_of file l e q h k, t)))

  -- the first bad byte of some lines stands in the first of them
  told_here : (l : Line) (ls : List Line) → InFile file l → Laid file (l.at + length l.text) ls → (m p : ℕ) → check_line l ≡ refused m p → (m ≡ 4) × FirstNoLetter file (l ∷ ls) p
  told_here l ls e d m p c =
      let f = (first_bad_at 4 bad_byte 0 l.at l.text m p).0 c in
      let b = f.1 in (
        f.0,
        record {
          inside = (l, mathlib.Core.List.Memᴰ.head refl, b.least, b.most);
          bad = (bad_says l e p b.least b.most).0 b.bad;
          before = λ q (x, i, h, k) lt. before b.most b.before q x (mathlib.Core.List.Memᴰ.cases_cons i) h k lt;
        },
      )
    where
      before : p < l.at + length l.text → ((q : ℕ) → l.at ≤ q → q < p → bad_byte q (get_or l.text (q - l.at) 0) ≡ true → ⊥)
          → (q : ℕ) (x : Line) → (x ≡ l) ⊎ Memᴰ x ls → x.at ≤ q → q < x.at + length x.text → q < p → IsLetter (get_or file q 0)
      before most b q x (inl z) h k lt = good_byte l e q (rw z at h) (omega arith) (b q (rw z at h) lt)
      before most b q x (inr i) h k lt = absurd (omega (arith, (laid_line file (l.at + length l.text) ls d i).0))

  -- or in a later one
  told_later : (l : Line) (ls : List Line) → InFile file l → (p : ℕ) → check_line l ≡ fine → FirstNoLetter file ls p → FirstNoLetter file (l ∷ ls) p
  told_later l ls e p c f =
      record {
        inside = (f.inside.0, mathlib.Core.List.Memᴰ.tail f.inside.1, f.inside.2, f.inside.3);
        bad = f.bad;
        before = λ q (x, i, h, k) lt. before q x (mathlib.Core.List.Memᴰ.cases_cons i) h k lt;
      }
    where
      before : (q : ℕ) (x : Line) → (x ≡ l) ⊎ Memᴰ x ls → x.at ≤ q → q < x.at + length x.text → q < p → IsLetter (get_or file q 0)
      before q x (inl z) h k lt = line_letter l e c q (rw z at h) (rw z at k)
      before q x (inr i) h k lt = f.before q (x, i, h, k) lt

  first_told : (o : ℕ) (ls : List Line) → Laid file o ls → (m p : ℕ) → check_lines ls ≡ refused m p → (m ≡ 4) × FirstNoLetter file ls p
  unfolding check_lines first ◌else◌
  first_told o [] d m p e = never m p (sym e)
  first_told o (l ∷ ls) d m p e = go (check_line l) refl e (first_told (l.at + length l.text) ls d.2 m p)
    where
      go : (v : Verdict) → check_line l ≡ v → v else first (map check_line ls) ≡ refused m p → (first (map check_line ls) ≡ refused m p → (m ≡ 4) × FirstNoLetter file ls p) → (m ≡ 4) × FirstNoLetter file (l ∷ ls) p
      go fine c e ih = let r = ih e in (r.0, told_later l ls d.1 p c r.1)
      go (refused k q) c e ih = told_here l ls d.1 d.2 m p (c ∙ e)

  -- there is one such byte at the most
  one_first : (ls : List Line) (p q : ℕ) → FirstNoLetter file ls p → FirstNoLetter file ls q → p ≡ q
  one_first ls p q f g = go (ltb p q) refl (ltb q p) refl
    where
      go : (a : Bool) → ltb p q ≡ a → (b : Bool) → ltb q p ≡ b → p ≡ q
      go true e b h = absurd (f.bad (g.before p f.inside (ltb-true p q e)))
      go false e true h = absurd (g.bad (f.before q g.inside (ltb-true q p h)))
      go false e false h = omega (arith, ltb-false p q e, ltb-false q p h)

  -- so a record's lines refuse exactly with 4 at that byte
  pub lines_say : (o : ℕ) (ls : List Line) → Laid file o ls → RefusesAt (check_lines ls) 4 (FirstNoLetter file ls)
  lines_say o ls d m p = (first_told o ls d m p, λ (z, f). go z f (check_lines ls) refl)
    where
      go : m ≡ 4 → FirstNoLetter file ls p → (v : Verdict) → check_lines ls ≡ v → v ≡ refused m p
      go z f fine c =
          let (x, i, h, k) = f.inside in
          let e = (laid_line file o ls d i).1 in
          absurd (f.bad (rw (byte_of file x e p h k) at ((lines_fine ls).0 c (get_or x.text (p - x.at) 0) (in_texts ls i (member_at x.text (p - x.at) 0 (omega arith))))))
      go z f (refused k q) c = let r = first_told o ls d k q c in rw (z, r.0, one_first ls p q f r.1)
