-- The pages of one line or none, and what a loop over the pages keeps.
use mathlib.Core.Path.{◌≡◌, refl}
use mathlib.Core.Bool.{Bool, true, false}
use mathlib.Core.List.{List}
use Prim.Native.Nat.{ℕ, ◌≤◌, ◌<◌}
use native.Mathlib.Omega.{arith}
use lib.ListN.{length}
use Rattle.std.specs.Prelude.{None}
use Rattle.rules.specs.Lists.{if}
use Rattle.rules.specs.Text.{print_end, print_refused}
use Rattle.text.specs.Printed.{WroteLine}
use Rattle.motifs.specs.declared.pages.Left as declared
use Rattle.motifs.specs.declared.pages.Left.TheVariants as left
use Rattle.motifs.specs.Left.{Left, refusal, rows, end, nothing, told_left, has_more}
use Rattle.motifs.specs.Pages.{page_of, left_after, Printable, Next}
use Rattle.motifs.proofs.PagesLaid.{amount, ready_after, less_after}
use Rattle.motifs.proofs.InputRead.{put_room}

-- a line is no longer than the buffer that it stands in
line_fits : {text before after : List ℕ} {r : ℕ} → WroteLine text before after r → r ≤ length after
line_fits {text} {before} l = rw l.out (omega (arith, l.end, put_room text before))

-- what the program still has to print is more than nothing
pub some_more : (l : declared.Left) → has_more (told_left l) ≡ true
some_more (left.Refusal r) = refl
some_more (left.Rows w) = refl
some_more (left.End steps found) = refl

module _ (letters lengths : List ℕ) where
  module _ {before after : List ℕ} {r : ℕ} where
    -- the line of a refusal, and the end line
    pub refusal_next : {n p : ℕ} → WroteLine (print_refused n p) before after r → Next letters lengths (refusal n p) before after (record { length = r; left = None })
    unfolding page_of left_after
    refusal_next l = record { out = l.out; end = l.end; left = refl; short = line_fits l }

    pub end_next : {steps found : ℕ} → WroteLine (print_end steps found) before after r → Next letters lengths (end steps found) before after (record { length = r; left = None })
    unfolding page_of left_after
    end_next l = record { out = l.out; end = l.end; left = refl; short = line_fits l }

  -- what is left after a page, if it was written, can be gone on with, and is less
  pub ready_written : (s : Left) {t u : Left} → Printable letters lengths s → t ≡ left_after letters lengths s → (wrote : Bool) → u ≡ if wrote t nothing → Printable letters lengths u
  ready_written s g e true f = rw (f, e) (ready_after letters lengths s g)
  ready_written s g e false f = rw f tt

  pub less_written : (s : Left) {t u : Left} → Printable letters lengths s → has_more s ≡ true → t ≡ left_after letters lengths s → (wrote : Bool) → u ≡ if wrote t nothing
      → amount letters lengths u < amount letters lengths s
  less_written s g m e true f = rw (f, e) (less_after letters lengths s g m)
  less_written s g m e false f = rw f (some s m)
    where
      some : (s : Left) → has_more s ≡ true → 0 < amount letters lengths s
      some (refusal n p) m = omega arith
      some (rows w) m = omega arith
      some (end steps found) m = omega arith
      some nothing m = let z : ◌≡◌ {A = ℕ} 0 1 = cc in absurd (omega arith)
