-- A refusal that is told is the whole printout.
use Rattle.lines.proofs.Turns.{refused_printed}
use Rattle.lines.proofs.print.print_lines.Goals as goal

pub returns-in-Err-clause-out_after : goal.returns-in-Err-clause-out_after
returns-in-Err-clause-out_after c = (refused_printed (rw (c.number.ensures, c.place.ensures) c.in-Err.ensures.refusal) c.print_refused.ensures).0
