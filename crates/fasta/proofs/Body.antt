-- A record's lines, one after the other: what a scan has counted, checked or copied, and what is left, is the whole.
use Rattle.std.specs.Prelude.{Option, None, Some, MatchOption}
use Rattle.std.proofs.lemmas.Slice.{take-put_mid}
use borrow.Rule.Slice.PartMut.{put_mid}
use mathlib.Core.Path.{◌≡◌, refl, sym, ap, ◌∙◌}
use mathlib.Core.Bool.{Bool, true, false, not}
use mathlib.Core.List.{List, [], ◌∷◌, ◌++◌}
use Prim.Native.Nat.{ℕ, ◌+◌, ◌-◌, ◌≤◌, ◌<◌}
use native.Mathlib.Nat.{add-zero, zero-add}
use native.Mathlib.Omega.{arith}
use lib.Dec.{eqb, ltb}
use lib.ListN.{length, take, drop, get_or, length-append, length-drop}
use lib.Seq.{length-take-le, take-add, take-take}
use borrow.Author.Tests.{eqb-true, eqb-false, ltb-true, ltb-false, not-true, not-false}
use Rattle.rules.proofs.Tables.{put_at_long, put_at_more, put_at_none}
use Rattle.rules.proofs.Tests.{both}
use Rattle.rules.proofs.Verdicts.{fine_else, else_fine, else_assoc}
use Rattle.rules.specs.Fasta.{Line, line, is_text, lines_from, is_header, up_to_header, entries, texts, check_line, check_lines, cursor_after}
use Rattle.rules.specs.Lists.{keep, each, has_some, put, put_at}
use Rattle.rules.specs.Refusals.{◌else◌, first, first_bad}
use Rattle.rules.specs.Told.{Verdict}
use Rattle.rules.specs.declared.FileOffset.{FileOffset}
use Rattle.fasta.specs.Scanned.{LineAt, is_in_body, body, told_bad, BodyAt}
use Rattle.fasta.proofs.FileLines.{lines_end, header_mark, header_not, header_here}

-- ---- a line that is no header, before others: an empty one is none of them, and has nothing to count or to refuse

texts_cons : (o : ℕ) (text : List ℕ) (ms : List Line) → is_header (line o text) ≡ false
    → texts (up_to_header (keep is_text (line o text ∷ []) ++ ms)) ≡ text ++ texts (up_to_header ms)
unfolding texts each up_to_header keep has_some
texts_cons o [] ms h = refl
texts_cons o (b ∷ bs) ms h = rw h

check_cons : (o : ℕ) (text : List ℕ) (ms : List Line) → is_header (line o text) ≡ false
    → check_lines (up_to_header (keep is_text (line o text ∷ []) ++ ms)) ≡ check_line (line o text) else check_lines (up_to_header ms)
unfolding check_lines first first_bad up_to_header keep has_some
check_cons o [] ms h = sym (fine_else (check_lines (up_to_header ms)))
check_cons o (b ∷ bs) ms h = rw h

entries_cons : (o : ℕ) (text : List ℕ) (ms : List Line) → is_header (line o text) ≡ false → entries (keep is_text (line o text ∷ []) ++ ms) ≡ entries ms
unfolding entries keep has_some
entries_cons o [] ms h = refl
entries_cons o (b ∷ bs) ms h = rw h

module _ {file : List ℕ} {at next : ℕ} {text : List ℕ} (i : is_in_body file at ≡ true) (l : LineAt file at text next) where
  no_header : is_header (line at text) ≡ false
  no_header = header_not file at text l.part (eqb-false _ _ (not-true _ ((both (ltb at (length file)) (not (eqb (get_or file at 0) 62))).0 i).1))

  texts_more : texts (body file at) ≡ text ++ texts (body file next)
  texts_more = rw l.lines (texts_cons at text (lines_from file next) no_header)

  length_more : length (texts (body file at)) ≡ length text + length (texts (body file next))
  length_more = ap length texts_more ∙ length-append text (texts (body file next))

  check_more : check_lines (body file at) ≡ check_line (line at text) else check_lines (body file next)
  check_more = rw l.lines (check_cons at text (lines_from file next) no_header)

  entries_more : entries (lines_from file at) ≡ entries (lines_from file next)
  entries_more = rw l.lines (entries_cons at text (lines_from file next) no_header)

-- ---- where no line of the record's begins it is over: the file ends there, or a header begins

-- what begins there
record Over (file : List ℕ) (at : ℕ) : Type 0 where
  none : body file at ≡ []
  cursor : cursor_after file (entries (lines_from file at)) ≡ at

over_end : (file : List ℕ) (at : ℕ) → at ≡ length file → Over file at
unfolding up_to_header entries
over_end file at e = let n = lines_end file at (omega arith) in record { none = rw n; cursor = rw n (sym e) }

over_header : (file : List ℕ) (at : ℕ) → at < length file → get_or file at 0 ≡ 62 → Over file at
unfolding up_to_header entries
over_header file at h m =
    let l = header_here file at h m in
    let t = header_mark file at (62 ∷ l.0) refl in
    record { none = rw (l.2, t); cursor = rw (l.2, t) }

over : (file : List ℕ) (at : ℕ) → at ≤ length file → is_in_body file at ≡ false → Over file at
over file at h i = go (ltb at (length file)) refl
  where
    go : (b : Bool) → ltb at (length file) ≡ b → Over file at
    go false t = over_end file at (omega (arith, ltb-false at (length file) t))
    go true t = over_header file at (ltb-true at (length file) t) (eqb-true _ _ (not-false _ (rw t at i)))

-- ---- MEASURING, so far: what the lines up to `at` have, and what is left

pub record Measured (file : List ℕ) (from at size : ℕ) (bad : Option FileOffset) : Type 0 where
  pub within : at ≤ length file
  pub short : from + size ≤ at
  pub sized : length (texts (body file from)) ≡ size + length (texts (body file at))
  pub checked : check_lines (body file from) ≡ told_bad bad else check_lines (body file at)
  pub rest : entries (lines_from file from) ≡ entries (lines_from file at)

-- nothing at first
pub measured_none : (file : List ℕ) (from : ℕ) → from ≤ length file → Measured file from from 0 None
measured_none file from h =
    record {
      within = h;
      short = omega arith;
      sized = sym (zero-add (length (texts (body file from))));
      checked = sym (fine_else (check_lines (body file from)));
      rest = refl;
    }

-- where a byte was bad before, it stays; and where none was, it is the line's
pub bad_or_else : (bad worse : Option FileOffset) {v : Verdict} {asked : Type 0} → MatchOption bad asked (λ o. worse ≡ Some o) → (asked → v ≡ told_bad worse) → told_bad bad else v ≡ told_bad worse
unfolding ◌else◌
bad_or_else None worse h f = f h
bad_or_else (Some o) worse h f = rw h

-- one line more
pub measured_more : {file : List ℕ} {from at next size : ℕ} {text : List ℕ} {bad worse : Option FileOffset} → Measured file from at size bad → is_in_body file at ≡ true
    → LineAt file at text next → told_bad bad else check_line (line at text) ≡ told_bad worse → Measured file from next (size + length text) worse
measured_more {file} {from} {at} {next} {size} {text} {bad} d i l e =
    record {
      within = l.within;
      short = omega (arith, d.short, l.ended);
      sized = omega (arith, d.sized, length_more i l);
      checked = d.checked ∙ rw (check_more i l, ← else_assoc, e);
      rest = d.rest ∙ entries_more i l;
    }

-- all of it
pub measured_all : {file : List ℕ} {from at size : ℕ} {bad : Option FileOffset} → Measured file from at size bad → is_in_body file at ≡ false → BodyAt file from size bad at
unfolding texts each check_lines first
measured_all {file} {from} {at} {size} {bad} d i =
    let o = over file at d.within i in
    record {
      within = d.within;
      short = d.short;
      sized = sym (d.sized ∙ rw o.none (add-zero size));
      checked = d.checked ∙ rw o.none (else_fine (told_bad bad));
      rest = d.rest;
      cursor = rw d.rest o.cursor;
    }

-- ---- a block of a line, written where it stands in the line
pub block_copied : (at n : ℕ) (text before : List ℕ) {block written : List ℕ} → at + n ≤ length text → length before ≡ length text → take at before ≡ take at text
    → block ≡ take n (take (at + n - at) (drop at text)) → written ≡ block → take (at + n) (put_mid at (at + n - at) before written) ≡ take (at + n) text
block_copied at n text before {block} {written} r e h b w =
    let t = take-take n (at + n - at) (drop at text) (omega arith) in
    let q : written ≡ take n (drop at text) = w ∙ b ∙ t in
    let k : length written ≡ n = ap length q ∙ length-take-le n (drop at text) (omega (arith, length-drop at text)) in
    take-put_mid at (at + n - at) before written (at + n) (omega (arith, k)) (omega arith) ∙ rw (h, q) (sym (take-add at n text))

-- ---- COPYING, so far: what is left, written behind what was written, is the whole

pub record Copied (file : List ℕ) (from : ℕ) (before : List ℕ) (at used : ℕ) (after : List ℕ) : Type 0 where
  pub within : at ≤ length file
  pub room : used + length (texts (body file at)) ≤ length after
  pub out : put_at used (texts (body file at)) after ≡ put (texts (body file from)) before

-- a part written over is the text put there
put_mid_at : (used : ℕ) (text before : List ℕ) {written : List ℕ} → written ≡ text → put_mid used (used + length text - used) before written ≡ put_at used text before
unfolding put_at put
put_mid_at used text before e =
    let n : used + length text - used ≡ length text = omega arith in
    rw (e, n)

-- nothing at first
pub copied_none : (file : List ℕ) (from : ℕ) (before : List ℕ) → from ≤ length file → length (texts (body file from)) ≤ length before → Copied file from before from 0 before
unfolding put_at
copied_none file from before h k = record { within = h; room = omega arith; out = refl }

module _ {file : List ℕ} {from at used : ℕ} {before after : List ℕ} (d : Copied file from before at used after) where
  -- there is room for one line more
  pub copied_fits : {text : List ℕ} {next : ℕ} → is_in_body file at ≡ true → LineAt file at text next → used + length text ≤ length after
  copied_fits i l = omega (arith, d.room, length_more i l)

  -- which is written
  pub copied_more : {text now : List ℕ} {next : ℕ} → is_in_body file at ≡ true → LineAt file at text next → {written : List ℕ} → written ≡ text
      → now ≡ put_mid used (used + length text - used) after written → Copied file from before next (used + length text) now
  copied_more {text} {now} {next} i l w m =
      let e = m ∙ put_mid_at used text after w in
      let rest = texts (body file next) in
      let h = copied_fits i l in
      record {
        within = l.within;
        room = omega (arith, d.room, length_more i l, ap length e, put_at_long used text after h);
        out = rw (e, put_at_more used text rest after h, ← texts_more i l) d.out;
      }

  -- all of it
  pub copied_all : is_in_body file at ≡ false → after ≡ put (texts (body file from)) before
  unfolding texts each
  copied_all i = sym (put_at_none used after) ∙ rw (over file at d.within i).none at d.out
