-- Each turn leads the sequences of one word of marks; those of the words before it keep what they got, and those after it are still as they were.
use Prim.Native.Nat.{◌*◌}
use Rattle.rows.specs.Set.{is_marked}
use Rattle.matching.proofs.Leads.{led_at, Led}
use Rattle.matching.proofs.weights.lead_all.Given as goal

abbrev pub invariant-loop-w : goal.invariant-loop-w
invariant-loop-w l = Led (is_marked l.lead.row.now) (led_at l.lead.first l.lead.reach.apart.near l.lead.reach.apart.count l.weighing.made.plan.layout.lengths.now l.lead.row.now l.initial.counts) l.weighing.made.plan.layout.lengths.now l.lead.opened.now 0 (l.w * 64) l.initial.counts l.counts
