-- WHAT THE FASTA READER REFUSES, in the request's words (specs/FastaRefused.antt): a test that applies says what it tests, and a line's
-- bytes are the file's own.
use mathlib.Core.Path.{◌≡◌, refl, sym, ◌∙◌}
use mathlib.Core.Logic.Iff
use mathlib.Core.Logic.{◌↔◌}
use mathlib.Core.List.{List, [], ◌∷◌, Memᴰ}
use Prim.Native.Nat.{ℕ}
use Rattle.rules.specs.Calls.{on_refusal}
use Rattle.rules.specs.Fasta.{lines_from, Entry, size_of, records_from, check19, check20, check4_file, next_checks, reader_checks, stays, hands_out, reader_rule}
use Rattle.rules.specs.FastaRefused.{TextBefore, NoRoom, FirstNoLetter, RefusesNext, text_before, no_room, no_letter, FastaRefused}
use Rattle.rules.specs.Refusals.{◌else◌, first}
use Rattle.rules.specs.Refused.{RefusesAt, RefusesIf}
use Rattle.rules.specs.Told.{Verdict, fine, refused, refuses}
use Rattle.rules.proofs.FastaBytes.{text_says, room_says, lines_say}
use Rattle.rules.proofs.FastaLaid.{record_laid}
use Rattle.rules.proofs.Refused.{refuses_if}
use Rattle.rules.proofs.Verdicts.{never}

-- ---- the order

-- a check that refuses for no reason is fine
pub not_refused : (v : Verdict) (n : ℕ) (At : ℕ → Type 0) → RefusesAt v n At → ((p : ℕ) → At p → ⊥) → v ≡ fine
not_refused fine n At r h = refl
not_refused (refused m p) n At r h = absurd (h p ((r m p).0 refl).1)

-- and one that is fine has none
pub no_reason : (v : Verdict) (n p : ℕ) (At : ℕ → Type 0) → RefusesAt v n At → v ≡ fine → At p → ⊥
no_reason v n p At r e h = never n p (sym ((r n p).1 (refl, h)) ∙ e)

-- what is told of a call is what its checks tell, since what it hands out is no refusal
pub reader_refuses : (file : List ℕ) (at : ℕ) (letters : List ℕ) (used : ℕ) (lengths : List ℕ) (count n p : ℕ)
    → ((reader_rule file at letters used lengths count).told ≡ refuses n p) ↔ (first (reader_checks file at letters used lengths count) ≡ refused n p)
unfolding reader_rule
reader_refuses file at letters used lengths count n p = go (first (reader_checks file at letters used lengths count)) (records_from file at)
  where
    go : (v : Verdict) (es : List Entry) → ((on_refusal v (λ n p. stays file at letters used lengths count (refuses n p)) (hands_out file at letters used lengths count es)).told ≡ refuses n p) ↔ (v ≡ refused n p)
    go fine [] = (λ e. cc, λ e. cc)
    go fine (x ∷ es) = (λ e. cc, λ e. cc)
    go (refused m q) es = (λ e. cc, λ e. cc)

-- each check says its sentence
pub says_19 : (file : List ℕ) (at : ℕ) → RefusesIf (check19 (lines_from file at)) 19 (TextBefore file at)
unfolding check19
says_19 file at = refuses_if _ 19 (text_says file at)

says_20 : (letters : List ℕ) (used : ℕ) (lengths : List ℕ) (count : ℕ) (e : Entry) → RefusesIf (check20 letters used lengths count e) 20 (NoRoom letters used lengths count (size_of e))
unfolding check20
says_20 letters used lengths count e = refuses_if _ 20 (room_says letters used lengths count (size_of e))

says_4 : (file : List ℕ) (at : ℕ) (e : Entry) → Memᴰ e (records_from file at) → RefusesAt (check4_file e) 4 (FirstNoLetter file e.lines)
unfolding check4_file
says_4 file at e m = lines_say file _ e.lines (record_laid file at m).others

module _ (file : List ℕ) (at : ℕ) (letters : List ℕ) (used : ℕ) (lengths : List ℕ) (count : ℕ) where
  -- the next record is among those that are left
  next_in : (e : Entry) (es : List Entry) → records_from file at ≡ e ∷ es → Memᴰ e (records_from file at)
  next_in e es q = rw q (Memᴰ.head refl)

  -- from what the checks tell to the sentence, check by check
  order_says : (n p : ℕ) → first (reader_checks file at letters used lengths count) ≡ refused n p → RefusesNext file at letters used lengths count n p
  unfolding reader_checks first ◌else◌
  order_says n p f = go_19 (check19 (lines_from file at)) refl (records_from file at) refl f
    where
      go_4 : (e : Entry) (es : List Entry) → records_from file at ≡ e ∷ es → (TextBefore file at → ⊥) → (NoRoom letters used lengths count (size_of e) → ⊥)
          → (v : Verdict) → check4_file e ≡ v → v else fine ≡ refused n p → RefusesNext file at letters used lengths count n p
      go_4 e es q free room fine c f = never n p (sym f)
      go_4 e es q free room (refused m i) c f = let r = (says_4 file at e (next_in e es q) n p).0 (c ∙ f) in no_letter r.0 e (free, es, q) room r.1

      go_20 : (e : Entry) (es : List Entry) → records_from file at ≡ e ∷ es → (TextBefore file at → ⊥)
          → (v : Verdict) → check20 letters used lengths count e ≡ v → v else check4_file e else fine ≡ refused n p → RefusesNext file at letters used lengths count n p
      go_20 e es q free fine c f = go_4 e es q free (λ h. no_reason _ 20 0 _ (says_20 letters used lengths count e) c (refl, h)) (check4_file e) refl f
      go_20 e es q free (refused m i) c f = let r = (says_20 letters used lengths count e n p).0 (c ∙ f) in no_room r.0 r.1.0 e (free, es, q) r.1.1

      go_19 : (v : Verdict) → check19 (lines_from file at) ≡ v → (es : List Entry) → records_from file at ≡ es → v else first (next_checks letters used lengths count es) ≡ refused n p
          → RefusesNext file at letters used lengths count n p
      go_19 fine c [] q f = never n p (sym f)
      go_19 fine c (e ∷ es) q f = go_20 e es q (λ h. no_reason _ 19 0 _ (says_19 file at) c (refl, h)) (check20 letters used lengths count e) refl f
      go_19 (refused m i) c es q f = let r = (says_19 file at n p).0 (c ∙ f) in text_before r.0 r.1.0 r.1.1

  -- and back
  says_order : (n p : ℕ) → RefusesNext file at letters used lengths count n p → first (reader_checks file at letters used lengths count) ≡ refused n p
  unfolding reader_checks first ◌else◌
  says_order n p (text_before a b h) = rw ((says_19 file at n p).1 (a, (b, h)))
  says_order n p (no_room a b e (free, es, q) h) = rw (not_refused _ 19 _ (says_19 file at) (λ p h. free h.1), q, (says_20 letters used lengths count e n p).1 (a, (b, h)))
  says_order n p (no_letter a e (free, es, q) room h) =
      rw (not_refused _ 19 _ (says_19 file at) (λ p h. free h.1), q, not_refused _ 20 _ (says_20 letters used lengths count e) (λ p h. room h.1), (says_4 file at e (next_in e es q) n p).1 (a, h))

pub fasta_refused : FastaRefused
fasta_refused =
    record {
      nineteen = says_19;
      twenty = says_20;
      four = says_4;
      in_order = λ file at letters used lengths count n p.
          Iff.trans (reader_refuses file at letters used lengths count n p) (order_says file at letters used lengths count n p, says_order file at letters used lengths count n p);
    }
