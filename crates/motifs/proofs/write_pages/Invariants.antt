-- The next page can be made of what is left, and what is left is less each time.
use Rattle.std.proofs.Common.{◌≡◌}
use Rattle.motifs.specs.Left.{told_rest}
use Rattle.motifs.specs.Pages.{Printable}
use Rattle.motifs.proofs.PagesLaid.{amount}
use Rattle.motifs.proofs.write_pages.Given as goal

abbrev pub invariant-loop-left : goal.invariant-loop-left
invariant-loop-left g l = Printable l.set.letters.now l.set.lengths.now (told_rest l.left) × (l.pages.set.letters.now ≡ l.set.letters.now) × (l.pages.set.lengths.now ≡ l.set.lengths.now)

abbrev pub decreases-loop-left : goal.decreases-loop-left
decreases-loop-left g l = amount l.set.letters.now l.set.lengths.now (told_rest l.left)
