-- The lines and records of a file from an offset on. A scan that begins where a line begins finds that line and the same lines after
-- it, so each line is the first of those from its own offset on; and so the records from the > of a record on are it and those
-- after it.
use mathlib.Core.Path.{◌≡◌, refl, ap}
use mathlib.Core.Bool.{Bool, true, false}
use mathlib.Core.List.Memᴰ
use mathlib.Core.List.{List, [], ◌∷◌, ◌++◌}
use Prim.Native.Nat.{ℕ, ◌+◌}
use native.Mathlib.Omega.{arith}
use lib.ListN.{length, drop}
use lib.Seq.{drop-append-add, drop-drop, drop-length}
use Rattle.rules.specs.Fasta.{Line, line, without_return, lines_of, is_text, lines_from, is_header, Entry, up_to_header, entries, records_from, has_text_first, cursor_after}
use Rattle.rules.specs.Lists.{if, keep, each, has_some}
use Rattle.rules.specs.Text.{pieces}
use Rattle.rules.proofs.TextPieces.{pieces_are}

-- the pieces behind the first begin behind it and its b
pub pieces_next : (b : ℕ) (l p q : List ℕ) (ps : List (List ℕ)) → pieces b l ≡ p ∷ q ∷ ps → pieces b (drop (length p + 1) l) ≡ q ∷ ps
unfolding each
pieces_next b l p q ps e =
    let c = (pieces_are b l p (q ∷ ps)).0 e in
    rw (c.whole, drop-append-add p (b ∷ q ++ each (λ p. b ∷ p) ps) 1)
    ((pieces_are b _ q ps).1 (record { whole = refl; none = λ r m. c.none r (Memᴰ.tail m) }))

-- each of some lines is the first of those from its own offset on
abbrev Standing : List ℕ → List Line → Type 0
Standing file [] = Unit {0}
Standing file (l ∷ ls) = (lines_from file l.at ≡ l ∷ ls) × Standing file ls

module _ (file : List ℕ) where
  -- a line that is kept, and those behind it
  standing_more : (o : ℕ) (text : List ℕ) (ls : List Line) → lines_from file o ≡ keep is_text (line o text ∷ ls) → Standing file (keep is_text ls) → Standing file (keep is_text (line o text ∷ ls))
  unfolding keep
  standing_more o text ls e s = go (has_some text) e
    where
      go : (b : Bool) → lines_from file o ≡ if b (line o text ∷ keep is_text ls) (keep is_text ls) → Standing file (if b (line o text ∷ keep is_text ls) (keep is_text ls))
      go true e = (e, s)
      go false e = s

  lines_standing : (o : ℕ) (ps : List (List ℕ)) → pieces 10 (drop o file) ≡ ps → Standing file (keep is_text (lines_of o ps))
  unfolding lines_of lines_from keep
  lines_standing o [] e = tt
  lines_standing o (text ∷ []) e = standing_more o text [] (ap (λ ps. keep is_text (lines_of o ps)) e) tt
  lines_standing o (text ∷ next ∷ rest) e =
      let n : o + (length text + 1) ≡ o + length text + 1 = omega arith in
      let q : pieces 10 (drop (o + length text + 1) file) ≡ next ∷ rest = rw (drop-drop, n) at (pieces_next 10 (drop o file) text next rest e) in
      standing_more o (without_return text) (lines_of (o + length text + 1) (next ∷ rest)) (ap (λ ps. keep is_text (lines_of o ps)) e) (lines_standing (o + length text + 1) (next ∷ rest) q)

  standing : (at : ℕ) → Standing file (lines_from file at)
  unfolding lines_from
  standing at = lines_standing at (pieces 10 (drop at file)) refl

  -- there is no line from the file's end on
  no_lines : lines_from file (length file) ≡ []
  unfolding lines_from pieces lines_of keep has_some
  no_lines = rw (drop-length file)

  -- WHAT IS LEFT to read at a cursor: these records, with no text before the first
  pub record Left (at : ℕ) (es : List Entry) : Type 0 where
    pub records : records_from file at ≡ es
    pub no_text : has_text_first (lines_from file at) ≡ false

  -- at the first of the records of some lines these are left
  left_at : (ls : List Line) → Standing file ls → Left (cursor_after file (entries ls)) (entries ls)
  unfolding entries
  left_at [] s = record { records = rw no_lines; no_text = rw no_lines }
  left_at (l ∷ ls) s = go (is_header l) refl (left_at ls s.1)
    where
      go : (b : Bool) → is_header l ≡ b → Left (cursor_after file (entries ls)) (entries ls)
          → let es = if b (record { header = l; lines = up_to_header ls } ∷ entries ls) (entries ls) in Left (cursor_after file es) es
      go true h r = record { records = rw (s.0, h); no_text = rw (s.0, h) }
      go false h r = r

  -- behind a record those after it are left
  left_behind : (ls : List Line) (e : Entry) (es : List Entry) → Standing file ls → entries ls ≡ e ∷ es → Left (cursor_after file es) es
  unfolding entries
  left_behind [] e es s q = let z : ◌≡◌ {A = ℕ} 0 1 = cc in absurd (omega arith)
  left_behind (l ∷ ls) e es s q = go (is_header l) q (left_behind ls e es s.1)
    where
      go : (b : Bool) → if b (record { header = l; lines = up_to_header ls } ∷ entries ls) (entries ls) ≡ e ∷ es → (entries ls ≡ e ∷ es → Left (cursor_after file es) es) → Left (cursor_after file es) es
      go true q r = let z : entries ls ≡ es = cc in rw (← z) (left_at ls s.1)
      go false q r = r q

  pub left_next : (at : ℕ) {e : Entry} {es : List Entry} → records_from file at ≡ e ∷ es → Left (cursor_after file es) es
  left_next at {e} {es} q = left_behind (lines_from file at) e es (standing at) q
