use borrow.Author.Rules.{rules}
use Rattle.matching.proofs.Leads.{led_word, begun_same}
use Rattle.matching.proofs.weights.lead_all.Goals as goal

pub lead_sequences-requires-clause-by_index : goal.lead_sequences-requires-clause-by_index
lead_sequences-requires-clause-by_index c =
    let l = c.loop-w in
    let p = c.requires in
    λ k h u m i. rw (begun_same c.args.lead.now.first _ c.args.lead.now.row.now _ _ _ (l.invariant.later k h u)) (p.by_index k u m i)

pub lead_sequences-requires-clause-by_index_2 : goal.lead_sequences-requires-clause-by_index_2
lead_sequences-requires-clause-by_index_2 c =
    let l = c.loop-w in
    let p = c.requires in
    λ k h u m i e. rw (begun_same c.args.lead.now.first _ c.args.lead.now.row.now _ _ _ (l.invariant.later k h u)) (p.by_index_2 k u m i e)

pub loop-w-preserved : goal.loop-w-preserved
loop-w-preserved c =
    let l = c.loop-w in
    let e = c.lead_sequences.ensures in
    led_word c.args.lead.now.first _ _ _ _ _ _ _ l.w c.requires.bounded (search rules) l.invariant _ e.by_index_3 e.by_index_4 e.by_index_5
