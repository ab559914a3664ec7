-- The lines of an input, one after the other, and what holds of an input once its checks have passed.
use mathlib.Core.Path.{◌≡◌, refl, sym, ap, ◌∙◌}
use mathlib.Core.Bool.{Bool, true, not, false≢true}
use mathlib.Core.List.{List, [], ◌∷◌}
use Prim.Native.Nat.{ℕ, suc, ◌≤◌, ◌<◌}
use native.Mathlib.Omega.{arith}
use lib.Dec.{eqb}
use lib.ListN.{length}
use borrow.Author.Tests.{lt-ltb, le-ltb, ltb-false, not-false, ne_eqb}
use Rattle.std.specs.Prelude.{Option, None, Some, IsSome, unwrap_or}
use Rattle.text.specs.Parsed.{told_parse, parsed_by}
use Rattle.rules.specs.declared.Component.{Component}
use Rattle.rules.specs.declared.Template.{Template}
use Rattle.rules.proofs.TextLines.{text_passes}
use Rattle.rules.proofs.Verdicts.{else_fine}
use Rattle.rules.specs.Limits.{text_bytes, text_quorum_digits}
use Rattle.rules.specs.Lists.{has_some}
use Rattle.rules.specs.Refusals.{◌else◌, first}
use Rattle.rules.specs.Text.{Parsed, parsed, malformed, is_well_formed, or_else, template_of, pieces, but_last, last, lines, nth_line, unended, refuse_line, text_checks, parse_components, parse_number}
use Rattle.rules.specs.Told.{fine, refused}
use Rattle.text.proofs.Scan.{last_onto, but_last_onto}

-- ---- one line

module _ (l x y : List ℕ) (e : pieces 10 l ≡ x ∷ pieces 10 y) where
  -- where byte 10 stands the first line ends, and the others follow
  pub line_first : lines l ≡ x ∷ lines y
  unfolding lines
  line_first = ap but_last e ∙ but_last_onto 10 x y

  -- and what follows the last of them is the same
  pub end_first : unended l ≡ unended y
  unfolding unended
  end_first = ap last e ∙ last_onto 10 x y

module _ (l : List ℕ) (e : pieces 10 l ≡ l ∷ []) where
  -- where it does not stand there is no line
  pub line_none : lines l ≡ []
  unfolding lines but_last
  line_none = ap but_last e

  -- and all is what follows
  pub end_none : unended l ≡ l
  unfolding unended last
  end_none = ap last e

-- an empty text has no line
pub line_empty : lines [] ≡ []
unfolding lines but_last pieces
line_empty = refl

-- whether there is a byte
pub some_byte : (l : List ℕ) {z : Bool} → z ≡ eqb (length l) 0 → not z ≡ has_some l
unfolding has_some
some_byte [] e = rw e
some_byte (x ∷ xs) e = rw (e, ne_eqb (suc (length xs)) 0 (λ w. omega (arith, w)))

-- ---- the checks in order

module _ (l : List ℕ) where
  -- too long an input is told first
  pub text_long : text_bytes < length l → refused 18 0 ≡ first (text_checks l)
  unfolding first text_checks ◌else◌
  text_long h = rw (lt-ltb text_bytes (length l) h)

  -- and else the first line, the second, and a last line without its end
  pub text_order : length l ≤ text_bytes
      → first (text_checks l)
      ≡ refuse_line (not (is_well_formed (parse_components (nth_line l 1)))) 1
      else (refuse_line (not (is_well_formed (parse_number text_quorum_digits (nth_line l 2)))) 2 else refuse_line (has_some (unended l)) (suc (length (lines l))))
  unfolding first text_checks ◌else◌
  text_order h = rw (le-ltb text_bytes (length l) h, else_fine)

  module _ (e : first (text_checks l) ≡ fine) where
    -- it is not too long
    pub text_short : length l ≤ text_bytes
    text_short = ltb-false text_bytes (length l) (text_passes l e).0

    -- its first line is a template
    pub text_template : is_well_formed (parse_components (nth_line l 1)) ≡ true
    text_template = not-false _ (text_passes l e).1

-- ---- a template that was told, or a number

pub told_some : (r : Option Template) (p : Parsed (List Component)) → told_parse r ≡ parsed_by template_of p → is_well_formed p ≡ true → IsSome r
told_some None (parsed cs) e w = absurd (false≢true (ap is_well_formed e))
told_some None malformed e w = absurd (false≢true w)
told_some (Some t) p e w = refl

pub told_is : (r : Option Template) (p : Parsed (List Component)) (t : Template) → told_parse r ≡ parsed_by template_of p → r ≡ Some t → t ≡ template_of (or_else p [])
told_is r (parsed cs) t e q = ap (λ x. or_else x t) (rw q at e)
told_is r malformed t e q = absurd (false≢true (sym (ap is_well_formed (rw q at e))))

pub told_else : (r : Option ℕ) (p : Parsed ℕ) (d : ℕ) → told_parse r ≡ p → unwrap_or r d ≡ or_else p d
told_else None p d e = rw (← e)
told_else (Some n) p d e = rw (← e)
