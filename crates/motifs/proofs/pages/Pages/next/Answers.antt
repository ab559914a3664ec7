-- Each kind of what is left has its own page.
use Rattle.std.proofs.Common.{sym}
use Rattle.motifs.proofs.Next.{refusal_next, end_next}
use Rattle.motifs.proofs.pages.Pages.next.Goals as goal

pub returns-in-Refusal-clause-next : goal.returns-in-Refusal-clause-next
returns-in-Refusal-clause-next c = rw (c.in-Refusal.is, sym c.number.ensures, sym c.place.ensures) (refusal_next _ _ c.print_refused-length.ensures)

pub returns-in-End-clause-next : goal.returns-in-End-clause-next
returns-in-End-clause-next c = rw c.in-End.is (end_next _ _ c.print_end-length.ensures)
