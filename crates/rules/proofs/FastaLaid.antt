-- Lines as parts of their file: each line's text is what stands in the file from the line's offset on, and a later line stands
-- further on, since the pieces between the bytes 10 follow each other in the file and a text without its 13 is the front of one.
use mathlib.Core.Path.{◌≡◌, refl, sym, ap, ◌∙◌}
use mathlib.Core.Logic.{◌⊎◌, inl, inr}
use mathlib.Core.Bool.{Bool, true, false}
use mathlib.Core.List.Memᴰ
use mathlib.Core.List.{List, [], ◌∷◌, ◌++◌, Memᴰ}
use Prim.Native.Nat.{ℕ, ◌+◌, ◌-◌, ◌≤◌, ◌<◌}
use native.Mathlib.Omega.{arith}
use lib.Dec.{eqb}
use lib.ListN.{length, take, drop, get_or}
use lib.Seq.{take-take, take-length, take-append_seam, length-take-le, drop-drop, get_or-take, get_or-drop}
use Rattle.rules.specs.Fasta.{Line, line, without_return, lines_of, is_text, lines_from, is_header, Entry, up_to_header, entries, records_from}
use Rattle.rules.specs.Lists.{if, keep}
use Rattle.rules.specs.Text.{pieces}
use Rattle.rules.proofs.FastaLines.{pieces_next}
use Rattle.rules.proofs.TextPieces.{pieces_are}

-- a text without the 13 at its end is the front of the text
without_return_front : (text : List ℕ) → (length (without_return text) ≤ length text) × (without_return text ≡ take (length (without_return text)) text)
unfolding without_return
without_return_front text = go (eqb (get_or text (length text - 1) 0) 13)
  where
    go : (b : Bool) → let t = if b (take (length text - 1) text) text in (length t ≤ length text) × (t ≡ take (length t) text)
    go true = let n : length (take (length text - 1) text) ≡ length text - 1 = length-take-le (length text - 1) text (omega arith) in rw n (omega arith, refl)
    go false = (omega arith, sym (take-length text))

module _ (file : List ℕ) where
  -- a line is a part of the file
  abbrev pub InFile : Line → Type 0
  InFile l = l.text ≡ take (length l.text) (drop l.at file)

  -- its bytes are the file's
  pub byte_of : (l : Line) → InFile l → (p : ℕ) → l.at ≤ p → p < l.at + length l.text → get_or l.text (p - l.at) 0 ≡ get_or file p 0
  byte_of l e p h k =
      let z : l.at + (p - l.at) ≡ p = omega arith in
      ap (λ t. get_or t (p - l.at) 0) e ∙ get_or-take (length l.text) (drop l.at file) (p - l.at) 0 (omega arith) ∙ get_or-drop l.at file (p - l.at) 0 ∙ ap (λ i. get_or file i 0) z

-- LINES LAID in a file from offset o on, one behind the other
abbrev pub Laid : List ℕ → ℕ → List Line → Type 0
Laid file o [] = Unit {0}
Laid file o (l ∷ ls) = (o ≤ l.at) × InFile file l × Laid file (l.at + length l.text) ls

module _ (file : List ℕ) where
  -- from an earlier offset on they are laid too
  pub laid_from : (o p : ℕ) (ls : List Line) → o ≤ p → Laid file p ls → Laid file o ls
  laid_from o p [] h d = tt
  laid_from o p (l ∷ ls) h d = (omega (arith, d.0), d.1, d.2)

  -- and so without some of them
  laid_keep : (f : Line → Bool) (o : ℕ) (ls : List Line) → Laid file o ls → Laid file o (keep f ls)
  unfolding keep
  laid_keep f o [] d = tt
  laid_keep f o (l ∷ ls) d = go (f l) (laid_keep f (l.at + length l.text) ls d.2)
    where
      go : (b : Bool) → Laid file (l.at + length l.text) (keep f ls) → Laid file o (if b (l ∷ keep f ls) (keep f ls))
      go true r = (d.0, d.1, r)
      go false r = laid_from o (l.at + length l.text) (keep f ls) (omega (arith, d.0)) r

  -- the front of a piece is a part of the file
  front_in_file : (o : ℕ) (text rest t : List ℕ) → drop o file ≡ text ++ rest → length t ≤ length text → t ≡ take (length t) text → InFile file (line o t)
  front_in_file o text rest t e h q =
      q ∙ ap (take (length t)) (sym (take-append_seam text rest) ∙ ap (take (length text)) (sym e)) ∙ take-take (length t) (length text) (drop o file) h

  laid_lines : (o : ℕ) (ps : List (List ℕ)) → pieces 10 (drop o file) ≡ ps → Laid file o (lines_of o ps)
  unfolding lines_of
  laid_lines o [] e = tt
  laid_lines o (text ∷ []) e =
      let c = (pieces_are 10 (drop o file) text []).0 e in
      (omega arith, front_in_file o text _ text c.whole (omega arith) (sym (take-length text)), tt)
  laid_lines o (text ∷ next ∷ rest) e =
      let c = (pieces_are 10 (drop o file) text (next ∷ rest)).0 e in
      let w = without_return_front text in
      let n : o + (length text + 1) ≡ o + length text + 1 = omega arith in
      let q : pieces 10 (drop (o + length text + 1) file) ≡ next ∷ rest = rw (drop-drop, n) at (pieces_next 10 (drop o file) text next rest e) in (
        omega arith,
        front_in_file o text _ (without_return text) c.whole w.0 w.1,
        laid_from (o + length (without_return text)) (o + length text + 1) (lines_of (o + length text + 1) (next ∷ rest)) (omega (arith, w.0)) (laid_lines (o + length text + 1) (next ∷ rest) q),
      )

  pub laid : (at : ℕ) → Laid file at (lines_from file at)
  unfolding lines_from
  laid at = laid_keep is_text at (lines_of at (pieces 10 (drop at file))) (laid_lines at (pieces 10 (drop at file)) refl)

  -- a line that is laid from o on is part of the file, and stands there or further on
  pub laid_line : (o : ℕ) (ls : List Line) → Laid file o ls → {l : Line} → Memᴰ l ls → (o ≤ l.at) × InFile file l
  laid_line o [] d m = absurd (Memᴰ.not-nil m)
  laid_line o (x ∷ ls) d {l} m = go (Memᴰ.cases_cons m) (λ m. laid_line (x.at + length x.text) ls d.2 m)
    where
      go : (l ≡ x) ⊎ Memᴰ l ls → (Memᴰ l ls → (x.at + length x.text ≤ l.at) × InFile file l) → (o ≤ l.at) × InFile file l
      go (inl e) ih = rw e (d.0, d.1)
      go (inr m) ih = let r = ih m in (omega (arith, d.0, r.0), r.1)

  -- the lines of a record, and its first one
  laid_up : (o : ℕ) (ls : List Line) → Laid file o ls → Laid file o (up_to_header ls)
  unfolding up_to_header
  laid_up o [] d = tt
  laid_up o (l ∷ ls) d = go (is_header l) (laid_up (l.at + length l.text) ls d.2)
    where
      go : (b : Bool) → Laid file (l.at + length l.text) (up_to_header ls) → Laid file o (if b [] (l ∷ up_to_header ls))
      go true r = tt
      go false r = (d.0, d.1, r)

  -- WHAT A RECORD IS MADE OF: a line that begins with >, and lines behind it
  pub record RecordLaid (e : Entry) : Type 0 where
    pub mark : is_header e.header ≡ true
    pub first : InFile file e.header
    pub others : Laid file (e.header.at + length e.header.text) e.lines

  laid_entries : (o : ℕ) (ls : List Line) → Laid file o ls → {e : Entry} → Memᴰ e (entries ls) → RecordLaid e
  unfolding entries
  laid_entries o [] d m = absurd (Memᴰ.not-nil m)
  laid_entries o (l ∷ ls) d {e} m = go (is_header l) refl m (λ m. laid_entries (l.at + length l.text) ls d.2 m)
    where
      one : is_header l ≡ true → (e ≡ record { header = l; lines = up_to_header ls }) ⊎ Memᴰ e (entries ls) → (Memᴰ e (entries ls) → RecordLaid e) → RecordLaid e
      one h (inl q) ih = rw q (record { mark = h; first = d.1; others = laid_up (l.at + length l.text) ls d.2 })
      one h (inr m) ih = ih m

      go : (b : Bool) → is_header l ≡ b → Memᴰ e (if b (record { header = l; lines = up_to_header ls } ∷ entries ls) (entries ls)) → (Memᴰ e (entries ls) → RecordLaid e) → RecordLaid e
      go true h m ih = one h (Memᴰ.cases_cons m) ih
      go false h m ih = ih m

  pub record_laid : (at : ℕ) {e : Entry} → Memᴰ e (records_from file at) → RecordLaid e
  record_laid at m = laid_entries at (lines_from file at) (laid at) m
