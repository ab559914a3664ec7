-- What is left after a page is less, and the next page can be made of it; where a write failed nothing is left.
use Rattle.std.proofs.Common.{◌∙◌}
use Rattle.motifs.specs.Left.{told_rest}
use Rattle.motifs.specs.Pages.{Printable}
use Rattle.motifs.proofs.Next.{some_more, ready_written, less_written}
use Rattle.motifs.proofs.write_pages.Goals as goal

pub loop-left-smaller : goal.loop-left-smaller
loop-left-smaller g c =
    let i = c.loop-left.invariant in
    let p : Printable c.args.set.now.letters.now c.args.set.now.lengths.now (told_rest c.loop-left.left) = i.0 in
    let ready = rw c.in-Some.is at p in
    let left = c.next-page.ensures.next.left in
    let less = less_written _ _ _ ready (some_more c.in-Some.now) (rw (i.1, i.2) at left) c.is_ok-wrote.result c.if_written-left.ensures in
    rw c.in-Some.is less

pub loop-left-preserved : goal.loop-left-preserved
loop-left-preserved g c =
    let i = c.loop-left.invariant in
    let p : Printable c.args.set.now.letters.now c.args.set.now.lengths.now (told_rest c.loop-left.left) = i.0 in
    let ready = rw c.in-Some.is at p in
    let left = c.next-page.ensures.next.left in
    let kept = c.next-page.ensures.kept in
    (ready_written _ _ _ ready (rw (i.1, i.2) at left) c.is_ok-wrote.result c.if_written-left.ensures, kept.0 ∙ i.1, kept.1 ∙ i.2)
