-- THE PRINTING PROGRAM'S INPUT (specs/TextRefused.antt): what is read of it, and what is refused with 18. Each test of the text says its
-- sentence, and an input that passes them all is the text of what was read.
use mathlib.Core.Path.{◌≡◌, refl, sym, ap, ◌∙◌}
use mathlib.Core.Logic.{◌↔◌}
use mathlib.Core.Bool.{false, false≢true}
use mathlib.Core.List.Memᴰ
use mathlib.Core.List.{List, [], ◌∷◌, map, map-append, append-nil}
use Prim.Native.Nat.{ℕ, ◌<◌}
use native.Mathlib.Omega.{arith}
use lib.ListN.{length, get_or, length-map}
use lib.Seq.{take_at, drop_at}
use borrow.Author.Tests.{ltb-false}
use Rattle.rules.specs.Calls.{begin_rule}
use Rattle.rules.specs.Letters.{value}
use Rattle.rules.specs.Limits.{text_bytes, text_quorum_digits}
use Rattle.rules.specs.Lists.{each, joined, has_some}
use Rattle.rules.specs.Refusals.{first}
use Rattle.rules.specs.Sequences.{split, sequences}
use Rattle.rules.specs.Text.{parsed, parse_number, parse_components, template_of, lines, unended, nth_line, text_checks, parse_template, parse_quorum, parse_letters, parse_lengths, decimal, template_text, print_refused, print_told, print_rule}
use Rattle.rules.specs.TextRefused.{Without, WithoutAll, with_end, Lined, BadLine, too_long, missing, no_template, no_quorum, no_end, LowestBad, Reads, TextRefused}
use Rattle.rules.specs.Told.{fine}
use Rattle.rules.specs.declared.Component.{Component}
use Rattle.rules.proofs.All.{members}
use Rattle.rules.proofs.Tests.{not_false}
use Rattle.rules.proofs.TextLines.{text_passes, refused_lowest, fine_none}
use Rattle.rules.proofs.TextNumbers.{decimal_digits, well_parsed, number_parsed, number_malformed, number_well}
use Rattle.rules.proofs.TextPieces.{lined, lined_only}
use Rattle.rules.proofs.TextTemplate.{first_text, template_parsed, unmixed, template_read, begin_unmixed, template_malformed, template_well, template_bytes}

-- the lines of an input, both ways
lined_says : (input : List ℕ) (ls : List (List ℕ)) (rest : List ℕ) → Lined input ls rest ↔ ((ls ≡ lines input) × (rest ≡ unended input))
lined_says input ls rest = (lined_only input ls rest, λ h. rw (h.0, h.1) (lined input))

-- what is told of the text is printed before a search begins
told_first : (input : List ℕ) (p : ℕ) → LowestBad input p → print_rule input ≡ print_refused 18 p
unfolding print_rule
told_first input p l = rw ((refused_lowest input 18 p).1 (refl, l))

-- sequences laid end to end, split by their lengths
pub split_joined : (ss : List (List ℕ)) → split (map length ss) (map value (joined ss)) ≡ map (map value) ss
unfolding split joined
split_joined [] = refl
split_joined (s ∷ ss) =
    rw (map-append, take_at (map value s) (map value (joined ss)) (length s) (length-map s value), drop_at (map value s) (map value (joined ss)) (length s) (length-map s value), split_joined ss)

-- what is not something is nothing
none_left : (l : List ℕ) → has_some l ≡ false → l ≡ []
unfolding has_some
none_left [] e = refl
none_left (x ∷ l) e = absurd (false≢true (sym e))

module _ (input : List ℕ) where
  -- the lines of an input that is read
  module _ (cs : List Component) (quorum : ℕ) (ss : List (List ℕ)) (r : Reads input cs quorum ss) where
    read_lines : (template_text cs ∷ decimal quorum ∷ ss ≡ lines input) × ([] ≡ unended input)
    read_lines = lined_only input (template_text cs ∷ decimal quorum ∷ ss) [] (record {
      whole = r.whole ∙ sym (append-nil _);
      no_end_within = members (Without 10) (λ m. omega (arith, template_bytes cs 10 m)) (members (Without 10) (λ m. omega (arith, (decimal_digits quorum 10 m).0)) r.no_end_within);
      no_end_after = Memᴰ.not-nil;
    })

    -- its template and its quorum
    read_template : parse_components (nth_line input 1) ≡ parsed (map unmixed cs)
    read_template = rw (← read_lines.0) (template_read cs r.writable)

    read_quorum : parse_number text_quorum_digits (nth_line input 2) ≡ parsed quorum
    read_quorum = rw (← read_lines.0) ((number_parsed text_quorum_digits (decimal quorum) quorum (omega arith) (omega arith)).1 (refl, r.few_digits))

    -- none of its lines is bad
    read_fine : first (text_checks input) ≡ fine
    read_fine = (fine_none input).1 go
      where
        go : (p : ℕ) → BadLine input p → ⊥
        go p (too_long e h) = omega (arith, r.short)
        go p (missing a b h) = omega (arith, ap length read_lines.0)
        go p (no_template e l h) = h ((template_well (nth_line input 1)).0 ((well_parsed _).1 (map unmixed cs, read_template)))
        go p (no_quorum e l h) = h ((number_well text_quorum_digits (nth_line input 2)).0 ((well_parsed _).1 (quorum, read_quorum)))
        go p (no_end e h) = omega (arith, ap length read_lines.1)

    -- what is printed of it
    read_printed : print_rule input ≡ print_told (map (map value) ss) (begin_rule (joined ss) (map length ss) (template_of cs) quorum)
    unfolding print_rule parse_template parse_quorum parse_letters parse_lengths sequences
    read_printed = rw (read_fine, read_template, read_quorum, ← read_lines.0, split_joined ss, begin_unmixed (joined ss) (map length ss) quorum cs)

  -- an input that passes is read so
  passed_reads : first (text_checks input) ≡ fine → (cs : List Component) × (quorum : ℕ) × (ss : List (List ℕ)) × Reads input cs quorum ss
  passed_reads e =
      let t = text_passes input e in
      let c = (template_well (nth_line input 1)).0 ((not_false _).0 t.1) in
      let q = (well_parsed (parse_number text_quorum_digits (nth_line input 2))).0 ((not_false _).0 t.2) in
      let n = (number_parsed text_quorum_digits (nth_line input 2) q.0 (omega arith) (omega arith)).0 q.1 in
      let r = go (lines input) (rw (none_left (unended input) t.3) at (lined input)) (λ h. (fine_none input).0 e 2 (missing (omega arith) (omega arith) h)) c.1 n.0 in
      (c.0, q.0, r.0, record { short = ltb-false text_bytes (length input) t.0; whole = r.1; writable = c.2; few_digits = n.1; no_end_within = r.2 })
    where
      go : (ls : List (List ℕ)) → Lined input ls [] → (length ls < 2 → ⊥) → {a b : List ℕ} → get_or ls 0 [] ≡ a → get_or ls 1 [] ≡ b
          → (ss : List (List ℕ)) × (input ≡ each with_end (a ∷ b ∷ ss)) × WithoutAll 10 ss
      go [] l h p q = absurd (h (omega arith))
      go (x ∷ []) l h p q = absurd (h (omega arith))
      go (x ∷ y ∷ ss) l h p q = (ss, rw (← p, ← q) (l.whole ∙ append-nil _), λ s m. l.no_end_within s (Memᴰ.tail (Memᴰ.tail m)))

pub text_refused : TextRefused
text_refused =
    record {
      in_lines = lined_says;
      no_number = number_malformed;
      number = number_parsed;
      runs = first_text;
      components = template_parsed;
      exact = λ input. unfold parse_template template_of in refl;
      no_components = template_malformed;
      lowest_line = refused_lowest;
      no_line = fine_none;
      passes = λ input. (passed_reads input, λ h. read_fine input h.0 h.1 h.2 h.3);
      before_all = told_first;
      searched = read_printed;
    }
