-- A page: each row's line is written after those before it, and has room there.
use mathlib.Core.Path.{◌≡◌, sym, ap, ◌∙◌}
use mathlib.Core.List.{List, [], ◌∷◌, ◌++◌, append_assoc, append-nil}
use Prim.Native.Nat.{ℕ, zero, suc, ◌+◌, ◌*◌, ◌≤◌, ◌<◌}
use native.Mathlib.Nat.{zero-add}
use native.Mathlib.Omega.{arith}
use lib.ListN.{length, take, get_or}
use Rattle.rules.specs.declared.Template.{Template}
use Rattle.text.specs.declared.print.Printer.{Printer}
use Rattle.text.specs.Printed.{line_room, Wrote, Prints, row, printed_page, Page}
use Rattle.text.proofs.Printed.{prints_none, wrote_put}

module _ (t : Template) where
  -- one row more
  pub page_more : (i : ℕ) (ms ss ws : List ℕ) → i < length ms → i < length ss → i < length ws
      → printed_page t (take i ms) (take i ss) (take i ws) ++ row t (get_or ms i 0) (get_or ss i 0) (get_or ws i 0) ≡ printed_page t (take (i + 1) ms) (take (i + 1) ss) (take (i + 1) ws)
  unfolding printed_page
  page_more i [] ss ws h k l = absurd (omega arith)
  page_more i (m ∷ ms) [] ws h k l = absurd (omega arith)
  page_more i (m ∷ ms) (s ∷ ss) [] h k l = absurd (omega arith)
  page_more zero (m ∷ ms) (s ∷ ss) (w ∷ ws) h k l = sym (append-nil (row t m s w))
  page_more (suc i) (m ∷ ms) (s ∷ ss) (w ∷ ws) h k l =
      let e : suc i + 1 ≡ suc (i + 1) = omega arith in
      rw (e, append_assoc) (ap (λ (p : List ℕ). row t m s w ++ p) (page_more i ms ss ws (omega arith) (omega arith) (omega arith)))

  -- no row yet
  pub page_none : (ms ss ws : List ℕ) (a : Printer) → Prints (printed_page t (take 0 ms) (take 0 ss) (take 0 ws)) a a
  unfolding printed_page
  page_none ms ss ws a = prints_none a

-- what was written from the front on is the page
pub page_done : {n : ℕ} {text a b c : List ℕ} {r : ℕ} → c ≡ b → n * line_room ≤ length a → r ≤ n * line_room → Wrote 0 text a b r → Page n text a c r
page_done e h k w = let f = w.end ∙ zero-add _ in record { out = e ∙ wrote_put (omega (arith, f, h, k)) w; end = f; short = k }
