-- A line: its head, which is short, and its two numbers. It has room, and it is all that is written.
use mathlib.Core.Path.{◌≡◌, refl, sym, ap, ◌∙◌}
use mathlib.Core.List.{List, [], ◌∷◌, ◌++◌, append_assoc}
use Prim.Native.Nat.{ℕ, ◌+◌, ◌^◌, ◌≤◌, ◌<◌}
use native.Mathlib.Nat.{zero-add}
use native.Mathlib.Omega.{arith}
use lib.ListN.{length, length-append}
use Rattle.rules.specs.Support.{support, weight, parts}
use Rattle.rules.specs.Template.{size}
use Rattle.rules.specs.Text.{decimal, print_row}
use Rattle.rules.specs.declared.Template.{Template}
use Rattle.text.specs.Printed.{line_room, Wrote, WroteLine, Prints, HasRoom, HasLine, number_pair, row}
use Rattle.text.specs.declared.print.Printer.{Printer}
use Rattle.text.proofs.Decimal.{decimal_short}
use Rattle.text.proofs.Printed.{wrote_put, moved, length_pair, ◌and◌}

module _ (head : List ℕ) (x y : ℕ) where
  pub line_is : head ++ number_pair 32 x 32 y 10 ≡ head ++ 32 ∷ decimal x ++ 32 ∷ decimal y ++ 10 ∷ []
  unfolding number_pair
  line_is =
      sym (append_assoc head (32 ∷ decimal x ++ 32 ∷ decimal y) (10 ∷ []))
      ∙ ap (λ (l : List ℕ). l ++ (10 ∷ [])) (sym (append_assoc head (32 ∷ decimal x) (32 ∷ decimal y)))

  module _ (h : length head ≤ 77) (f : x < 10 ^ 20) (g : y < 10 ^ 20) where
    short : length (head ++ number_pair 32 x 32 y 10) ≤ line_room
    short = rw length-append (omega (arith, length_pair 32 x 32 y 10, decimal_short 19 0 x refl f, decimal_short 19 0 y refl g))

    -- after the head there is room for the numbers
    pub line_has_room : {a b : Printer} → HasLine a → Prints head a b → HasRoom (number_pair 32 x 32 y 10) b
    line_has_room r w = omega (arith, r, moved w, short, length-append head (number_pair 32 x 32 y 10))

    -- the head and the numbers have no more bytes than a line may
    pub line_short : {a b c : Printer} → Prints head a b → Prints (number_pair 32 x 32 y 10) b c → c.at ≤ a.at + line_room
    line_short v w = omega (arith, short, (v and w).wrote.end)

-- a line at the front of a buffer
pub line_done : {text a b c : List ℕ} {next : ℕ} → c ≡ b → line_room ≤ length a → Wrote 0 text a b next → next ≤ line_room → WroteLine text a c next
line_done e r w s = let f = w.end ∙ zero-add _ in record { out = e ∙ wrote_put (omega (arith, f, r, s)) w; end = f; short = s }

-- the same line, written otherwise
pub line_as : {text line a b : List ℕ} {next : ℕ} → WroteLine text a b next → text ≡ line → WroteLine line a b next
line_as w e = rw e at w

-- a row of the rules is one with its two numbers
pub print_row_is : (ss : List (List ℕ)) (t : Template) (m : ℕ) → print_row ss t m ≡ row t m (support (parts t (size t) m) ss) (weight (parts t (size t) m) ss)
unfolding print_row row
print_row_is ss t m = refl
