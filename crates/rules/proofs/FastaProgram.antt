-- THE PROGRAM `lines`, in the request's words (specs/FastaRefused.antt). What it checks are the tests of the reader, of all records at
-- once: the lines of all of them are laid in the file one behind the other, so the first bad byte of the first bad record is the first
-- of all. What it prints is lines, as the printing program reads them.
use mathlib.Core.Path.{◌≡◌, refl, sym, ap, ◌∙◌}
use mathlib.Core.Logic.{inl, inr}
use mathlib.Core.Bool.{Bool, true, false}
use mathlib.Core.List.{List, [], ◌∷◌, ◌++◌, map, map-append}
use Prim.Native.Nat.{ℕ, ◌+◌, ◌^◌, ◌≤◌, ◌<◌}
use native.Mathlib.Omega.{arith}
use lib.Dec.{ltb}
use lib.ListN.{length}
use borrow.Author.Tests.{ltb-false, le-ltb}
use Rattle.rules.specs.Fasta.{Line, lines_from, is_header, Entry, up_to_header, entries, letters_of, file_records, check19, check_line, check_lines, check4_file, lines_checks, lines_for, lines_rule}
use Rattle.rules.specs.FastaRefused.{FirstNoLetter, letter_lines, LinesRefuses, file_too_long, text_first, bad_letter, input_of, FastaProgram}
use Rattle.rules.specs.Limits.{fasta_bytes, text_bytes, text_quorum_digits}
use Rattle.rules.specs.Lists.{if, each}
use Rattle.rules.specs.Refusals.{◌else◌, first, refuse_if}
use Rattle.rules.specs.Refused.{RefusesAt, RefusesIf, IsLetter}
use Rattle.rules.specs.Text.{decimal, template_text}
use Rattle.rules.specs.TextRefused.{Without, WithoutAll, with_end, Writable, Reads}
use Rattle.rules.specs.Told.{Verdict, fine, refused}
use Rattle.rules.specs.declared.Component.{Component}
use Rattle.rules.proofs.All.{no_member, members}
use Rattle.rules.proofs.FastaBytes.{lines_say}
use Rattle.rules.proofs.FastaChecks.{check4_file_fine}
use Rattle.rules.proofs.FastaLaid.{Laid, laid, laid_from}
use Rattle.rules.proofs.FastaRefused.{says_19, not_refused, no_reason}
use Rattle.rules.proofs.Lists.{each_map}
use Rattle.rules.proofs.Refused.{refuses_if, less}
use Rattle.rules.proofs.TextRefused.{text_refused}
use Rattle.rules.proofs.Verdicts.{first_append, first_cons}

-- ---- the letters of all records

-- checks of lines one after another
check_lines_append : (ks ls : List Line) → check_lines (ks ++ ls) ≡ check_lines ks else check_lines ls
unfolding check_lines
check_lines_append ks ls = ap first (map-append check_line ks ls) ∙ first_append (map check_line ks) (map check_line ls)

all_lines : (es : List Entry) → first (map check4_file es) ≡ check_lines (each (λ e. e.lines) es)
unfolding first each check4_file
all_lines [] = unfold check_lines in refl
all_lines (e ∷ es) = ap (λ v. check_lines e.lines else v) (all_lines es) ∙ sym (check_lines_append e.lines (each (λ e. e.lines) es))

module _ (file : List ℕ) where
  -- they are laid one behind the other
  laid_letters : (o : ℕ) (ls : List Line) → Laid file o ls → Laid file o (up_to_header ls ++ each (λ e. e.lines) (entries ls))
  unfolding up_to_header entries each
  laid_letters o [] d = tt
  laid_letters o (l ∷ ls) d = go (is_header l) (laid_letters (l.at + length l.text) ls d.2)
    where
      go : (b : Bool) → Laid file (l.at + length l.text) (up_to_header ls ++ each (λ e. e.lines) (entries ls))
          → Laid file o (if b [] (l ∷ up_to_header ls) ++ each (λ e. e.lines) (if b (record { header = l; lines = up_to_header ls } ∷ entries ls) (entries ls)))
      go true r = laid_from file o (l.at + length l.text) (up_to_header ls ++ each (λ e. e.lines) (entries ls)) (omega (arith, d.0)) r
      go false r = (d.0, d.1, r)

  laid_behind : (o : ℕ) (ks ls : List Line) → Laid file o (ks ++ ls) → Laid file o ls
  laid_behind o [] ls d = d
  laid_behind o (k ∷ ks) ls d = laid_from file o (k.at + length k.text) ls (omega (arith, d.0)) (laid_behind (k.at + length k.text) ks ls d.2)

  says_4 : RefusesAt (first (map check4_file (file_records file))) 4 (FirstNoLetter file (letter_lines file))
  unfolding file_records
  says_4 = rw (all_lines (file_records file)) (lines_say file 0 (letter_lines file) (laid_behind 0 (up_to_header (lines_from file 0)) (letter_lines file) (laid_letters 0 (lines_from file 0) (laid file 0))))

  -- ---- the order

  says_20 : RefusesIf (refuse_if (ltb fasta_bytes (length file)) 20) 20 (fasta_bytes < length file)
  says_20 = refuses_if _ 20 (less fasta_bytes (length file))

  order_says : (n p : ℕ) → first (lines_checks file) ≡ refused n p → LinesRefuses file n p
  unfolding lines_checks first ◌else◌
  order_says n p f = go (ltb fasta_bytes (length file)) refl (check19 (lines_from file 0)) refl f
    where
      go : (b : Bool) → ltb fasta_bytes (length file) ≡ b → (v : Verdict) → check19 (lines_from file 0) ≡ v → refuse_if b 20 else v else first (map check4_file (file_records file)) ≡ refused n p → LinesRefuses file n p
      go true e v c f = let r = (says_20 n p).0 (rw e f) in file_too_long r.0 r.1.0 r.1.1
      go false e (refused m q) c f = let r = (says_19 file 0 n p).0 (c ∙ f) in text_first r.0 r.1.0 (ltb-false _ _ e) r.1.1
      go false e fine c f = let r = (says_4 n p).0 f in bad_letter r.0 (ltb-false _ _ e) (λ h. no_reason _ 19 0 _ (says_19 file 0) c (refl, h)) r.1

  says_order : (n p : ℕ) → LinesRefuses file n p → first (lines_checks file) ≡ refused n p
  unfolding lines_checks first ◌else◌
  says_order n p (file_too_long a b h) = rw ((says_20 n p).1 (a, (b, h)))
  says_order n p (text_first a b l h) = rw (le-ltb fasta_bytes (length file) l, (says_19 file 0 n p).1 (a, (b, h)))
  says_order n p (bad_letter a l free h) = rw (le-ltb fasta_bytes (length file) l, not_refused _ 19 _ (says_19 file 0) (λ p h. free h.1), (says_4 n p).1 (a, h))

  -- ---- what is printed

  none_refused : ((n p : ℕ) → LinesRefuses file n p → ⊥) → first (lines_checks file) ≡ fine
  none_refused h = go (first (lines_checks file)) refl
    where
      go : (v : Verdict) → first (lines_checks file) ≡ v → v ≡ fine
      go fine e = refl
      go (refused n p) e = absurd (h n p (order_says n p e))

  lines_printed : first (lines_checks file) ≡ fine → lines_rule file ≡ each with_end (map letters_of (file_records file))
  unfolding lines_rule lines_for
  lines_printed e = rw e (sym (each_map with_end letters_of (file_records file)))

-- no 10 is among letters
no_end : IsLetter 10 → ⊥
no_end (inl e) = omega arith
no_end (inr (inl e)) = omega arith
no_end (inr (inr (inl e))) = omega arith
no_end (inr (inr (inr e))) = omega arith

letters_without : (es : List Entry) → first (map check4_file es) ≡ fine → WithoutAll 10 (map letters_of es)
letters_without [] f = no_member (Without 10)
letters_without (e ∷ es) f =
    let c = (first_cons (check4_file e) (map check4_file es)).0 f in
    members (Without 10) (λ m. no_end ((check4_file_fine e).0 c.0 10 m)) (letters_without es c.1)

-- the printing program's input
module _ (file : List ℕ) (f : first (lines_checks file) ≡ fine) where
  letters_fine : first (map check4_file (file_records file)) ≡ fine
  unfolding lines_checks
  letters_fine = ((first_cons _ _).0 ((first_cons _ _).0 f).1).1

  reads_records : (cs : List Component) (quorum : ℕ) → Writable cs → quorum < 10 ^ text_quorum_digits → length (input_of cs quorum (lines_rule file)) ≤ text_bytes
      → Reads (input_of cs quorum (lines_rule file)) cs quorum (map letters_of (file_records file))
  unfolding each
  reads_records cs quorum w q short =
      record {
        short = short;
        whole = ap (λ l. with_end (template_text cs) ++ (with_end (decimal quorum) ++ l)) (lines_printed file f);
        writable = w;
        few_digits = q;
        no_end_within = letters_without (file_records file) letters_fine;
      }

pub fasta_program : FastaProgram
unfolding lines_rule
fasta_program =
    record {
      in_order = λ file n p. (order_says file n p, says_order file n p);
      refused = λ file n p h. rw (says_order file n p h);
      printed = λ file h. lines_printed file (none_refused file h);
      searched = λ file cs quorum h w q short. text_refused.searched _ cs quorum (map letters_of (file_records file)) (reads_records file (none_refused file h) cs quorum w q short);
    }
