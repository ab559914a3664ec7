-- The lines of a file: each begins where the one before it has ended, and a scan for byte 10 finds where it ends.
use Rattle.std.specs.Prelude.{Option, None, Some, MatchOption}
use Rattle.std.specs.Option.{unwrap_or}
use denote.Bor.{Bor}
use lib.Pointwise.{pointwise}
use mathlib.Core.Path.{◌≡◌, refl, sym, ap, ◌∙◌}
use mathlib.Core.Bool.{Bool, true, false, ◌&&◌}
use mathlib.Core.List.{List, [], ◌∷◌, ◌++◌, append-nil}
use Prim.Native.Nat.{ℕ, suc, ◌+◌, ◌-◌, ◌≤◌, ◌<◌}
use native.Mathlib.Omega.{arith}
use lib.Dec.{eqb, ltb}
use lib.ListN.{length, take, drop, get_or, length-drop, drop_of_length-le}
use lib.Seq.{drop-cons, get_or-take, get_or-drop, length-take-le, take-take, take_all}
use borrow.Author.Tests.{eq-eqb, ne_eqb, ltb-true, ltb-false}
use Rattle.rules.proofs.Lists.{keep_append}
use Rattle.rules.specs.Fasta.{Line, line, is_text, without_return, lines_of, lines_from, is_header}
use Rattle.rules.specs.Lists.{if, keep, has_some}
use Rattle.rules.specs.Text.{pieces}
use Rattle.text.specs.Pieces.{find, others}
use Rattle.text.proofs.Scan.{pieces_cut, scan_from, scan_cut, scan_others, scan_none}
use Rattle.fasta.specs.Scanned.{LineAt}

-- ---- the text of a line

-- whether byte 13 is the last of a text
last_is : (text : List ℕ) → 0 < length text → pointwise eqb (drop (length text - 1) text) (13 ∷ []) ≡ eqb (get_or text (length text - 1) 0) 13
last_is text h =
    let d : drop (suc (length text - 1)) text ≡ [] = drop_of_length-le text {i = suc (length text - 1)} (omega arith) in
    rw (drop-cons text (length text - 1) 0 (omega arith), d) (go (eqb (get_or text (length text - 1) 0) 13))
  where
    go : (t : Bool) → t && true ≡ t
    go true = refl
    go false = refl

cut_is : (text : List ℕ) → without_return text ≡ if (pointwise eqb (drop (length text - 1) text) (13 ∷ [])) (take (length text - 1) text) text
unfolding without_return
cut_is [] = refl
cut_is (b ∷ bs) = rw (last_is (b ∷ bs) (omega arith))

-- it is cut where it stands there
pub return_cut : (text : List ℕ) (r : Option (Bor (List ℕ))) (whole : Bor (List ℕ)) {cut : Bor (List ℕ)} → whole.now ≡ text
    → MatchOption r (pointwise eqb (drop (length text - 1) text) (13 ∷ []) ≡ false) (λ x. (pointwise eqb (drop (length text - 1) text) (13 ∷ []) ≡ true) × (x.now ≡ take (length text - 1) text) × (length x.now + 1 ≡ length text))
    → cut ≡ unwrap_or r whole → cut.now ≡ without_return text
return_cut text r whole {cut} w m e = rw (e, cut_is text) (go r m)
  where
    go : (o : Option (Bor (List ℕ)))
        → MatchOption o (pointwise eqb (drop (length text - 1) text) (13 ∷ []) ≡ false) (λ x. (pointwise eqb (drop (length text - 1) text) (13 ∷ []) ≡ true) × (x.now ≡ take (length text - 1) text) × (length x.now + 1 ≡ length text))
        → (unwrap_or o whole).now ≡ if (pointwise eqb (drop (length text - 1) text) (13 ∷ [])) (take (length text - 1) text) text
    go None h = rw h w
    go (Some x) h = rw h.0 h.1

-- a text without a byte 13 at its end is its front
cut_front : (text : List ℕ) → (without_return text ≡ take (length (without_return text)) text) × (length (without_return text) ≤ length text)
unfolding without_return
cut_front text = go (eqb (get_or text (length text - 1) 0) 13)
  where
    go : (t : Bool) → (if t (take (length text - 1) text) text ≡ take (length (if t (take (length text - 1) text) text)) text) × (length (if t (take (length text - 1) text) text) ≤ length text)
    go true = let n = length-take-le (length text - 1) text (omega arith) in (rw n, omega (arith, n))
    go false = (sym (take_all (length text) text (omega arith)), omega arith)

-- ---- one line and those behind it

-- past a file's end there is none
pub lines_end : (file : List ℕ) (at : ℕ) → length file ≤ at → lines_from file at ≡ []
unfolding lines_from lines_of pieces keep has_some
lines_end file at h = rw (drop_of_length-le file {i = at} h)

-- a line that a byte 10 ends, before others
lines_cons : (o : ℕ) (text l : List ℕ) → lines_of o (text ∷ pieces 10 l) ≡ line o (without_return text) ∷ lines_of (o + length text + 1) (pieces 10 l)
unfolding lines_of
lines_cons o text l = rw (pieces_cut 10 l)

lines_one : (o : ℕ) (text : List ℕ) → lines_of o (text ∷ []) ≡ line o text ∷ []
unfolding lines_of
lines_one o text = refl

from_is : (file : List ℕ) (at : ℕ) → lines_from file at ≡ keep is_text (lines_of at (pieces 10 (drop at file)))
unfolding lines_from
from_is file at = refl

module _ (file : List ℕ) (at stop : ℕ) (e : stop ≡ at + find 10 (drop at file)) (h : at < length file) where
  low : at ≤ length file
  low = omega arith

  split : lines_from file at ≡ keep is_text (lines_of at (take (stop - at) (drop at file) ∷ others 10 (drop at file)))
  split = from_is file at ∙ rw (scan_cut 10 at stop file e low)

  -- where the scan finds the byte, the line ends there
  pub line_more : stop < length file → {text : List ℕ} → text ≡ without_return (take (stop - at) (drop at file)) → LineAt file at text (stop + 1)
  line_more k {text} t =
      let f = scan_from 10 at stop file e low in
      let all = take (stop - at) (drop at file) in
      let n : length all ≡ stop - at = length-take-le (stop - at) (drop at file) (omega (arith, length-drop at file)) in
      let c = cut_front all in
      rw t (
      record {
        part = c.0 ∙ take-take (length (without_return all)) (stop - at) (drop at file) (omega (arith, n, c.1));
        ended = omega (arith, n, c.1, f);
        onward = omega (arith, f);
        within = omega arith;
        lines =
            let q : at + length all + 1 ≡ stop + 1 = omega (arith, f, n) in
            split ∙ rw (scan_others 10 at stop file e low k, lines_cons at all (drop (stop + 1) file), q)
            (keep_append is_text (line at (without_return all) ∷ []) (lines_of (stop + 1) (pieces 10 (drop (stop + 1) file))) ∙ rw (from_is file (stop + 1)));
      })

  -- where it finds none, the line is the last
  pub line_last : length file ≤ stop → {text : List ℕ} → text ≡ take (length file - at) (drop at file) → LineAt file at text (length file)
  line_last k {text} t =
      let n : length (drop at file) ≡ length file - at = length-drop at file in
      rw (t, take_all (length file - at) (drop at file) (omega (arith, n))) (
      record {
        part = sym (take_all (length (drop at file)) (drop at file) (omega arith));
        ended = omega (arith, n);
        onward = omega arith;
        within = omega arith;
        lines =
            split ∙ rw (scan_none 10 at stop file e low k, take_all (stop - at) (drop at file) (omega (arith, n)), lines_one at (drop at file), lines_end file (length file) (omega arith))
            (sym (append-nil (keep is_text (line at (drop at file) ∷ []))));
      })

-- ---- the first line that is not empty

module _ (file : List ℕ) (start : ℕ) (text : List ℕ) (next : ℕ) (l : LineAt file start text next) where
  -- an empty line is skipped
  pub line_skip : length text ≤ 0 → lines_from file start ≡ lines_from file next
  unfolding keep has_some
  line_skip h = l.lines ∙ go text h
    where
      go : (t : List ℕ) → length t ≤ 0 → keep is_text (line start t ∷ []) ++ lines_from file next ≡ lines_from file next
      go [] k = refl
      go (b ∷ bs) k = absurd (omega arith)

  -- a line with bytes is the first from there on
  pub line_some : 0 < length text → lines_from file start ≡ line start text ∷ lines_from file next
  unfolding keep has_some
  line_some h = l.lines ∙ go text h
    where
      go : (t : List ℕ) → 0 < length t → keep is_text (line start t ∷ []) ++ lines_from file next ≡ line start t ∷ lines_from file next
      go [] k = absurd (omega arith)
      go (b ∷ bs) k = refl

-- ---- whether a line is a header

module _ (file : List ℕ) (start : ℕ) (text : List ℕ) where
  -- its first byte is the one at its offset
  first_is : text ≡ take (length text) (drop start file) → 0 < length text → get_or text 0 0 ≡ get_or file start 0
  first_is e h =
      let q : start + 0 ≡ start = omega arith in
      ap (λ t. get_or t 0 0) e ∙ get_or-take (length text) (drop start file) 0 0 h ∙ get_or-drop start file 0 0 ∙ rw q

  pub header_mark : get_or text 0 0 ≡ 62 → is_header (line start text) ≡ true
  unfolding is_header
  header_mark e = eq-eqb (get_or text 0 0) 62 e

  pub no_mark : (get_or text 0 0 ≡ 62 → ⊥) → is_header (line start text) ≡ false
  unfolding is_header
  no_mark e = ne_eqb (get_or text 0 0) 62 e

  -- and an empty line has none
  pub header_not : text ≡ take (length text) (drop start file) → (get_or file start 0 ≡ 62 → ⊥) → is_header (line start text) ≡ false
  unfolding is_header
  header_not p e = go (ltb 0 (length text)) refl
    where
      go : (b : Bool) → ltb 0 (length text) ≡ b → eqb (get_or text 0 0) 62 ≡ false
      go true t = ne_eqb (get_or text 0 0) 62 (λ w. e (sym (first_is p (ltb-true 0 (length text) t)) ∙ w))
      go false t = none text (ltb-false 0 (length text) t)
        where
          none : (t : List ℕ) → length t ≤ 0 → eqb (get_or t 0 0) 62 ≡ false
          none [] h = refl
          none (b ∷ bs) h = absurd (omega arith)

-- a byte 62 begins a line that is one
front_stays : (p : List ℕ) → (x : List ℕ) × (without_return (62 ∷ p) ≡ 62 ∷ x)
unfolding without_return
front_stays [] = ([], refl)
front_stays (b ∷ bs) =
    let n : length (62 ∷ b ∷ bs) - 1 ≡ suc (length bs) = omega arith in
    rw n (go (eqb (get_or (62 ∷ b ∷ bs) (suc (length bs)) 0) 13))
  where
    go : (t : Bool) → (x : List ℕ) × (if t (take (suc (length bs)) (62 ∷ b ∷ bs)) (62 ∷ b ∷ bs) ≡ 62 ∷ x)
    go true = (take (length bs) (b ∷ bs), refl)
    go false = (b ∷ bs, refl)

front_line : (at : ℕ) (p : List ℕ) (ps : List (List ℕ)) → (x : List ℕ) × (rest : List Line) × (keep is_text (lines_of at ((62 ∷ p) ∷ ps)) ≡ line at (62 ∷ x) ∷ rest)
unfolding keep has_some lines_of
front_line at p [] = (p, [], refl)
front_line at p (q ∷ qs) = let c = front_stays p in (c.0, keep is_text (lines_of (at + length (62 ∷ p) + 1) (q ∷ qs)), rw c.1)

pub header_here : (file : List ℕ) (at : ℕ) → at < length file → get_or file at 0 ≡ 62 → (x : List ℕ) × (rest : List Line) × (lines_from file at ≡ line at (62 ∷ x) ∷ rest)
unfolding find
header_here file at h e =
    let l = drop (suc at) file in
    let d : drop at file ≡ 62 ∷ l = rw e at (drop-cons file at 0 h) in
    let c = front_line at (take (find 10 l) l) (others 10 (62 ∷ l)) in
    (c.0, c.1, from_is file at ∙ rw (d, pieces_cut 10 (62 ∷ l)) c.2)
