-- Where the word is empty nothing reaches its places; else the callee goes over them, and where the opened row has no bit there is 0.
use mathlib.Core.Path.{refl}
use Rattle.rows.proofs.Leading.{none_sum, none_written, front_kept, word_written}
use Rattle.rows.proofs.counts.lead_word.Goals as goal

pub returns-then-opened-from-eq0 : goal.returns-then-opened-from-eq0
returns-then-opened-from-eq0 c =
    let a = c.args in
    let p = c.requires in
    let i = p.from_in_bounds in record {
      value = none_sum a.at.row.now a.at.opened.now a.counts.now a.at.reach.apart.near a.at.reach.apart.count a.from p.by_index_2 i.0 i.1 i.2 c.if-opened-from-eq0.true;
      counts_unchanged = refl;
      counts_after = none_written a.at.row.now a.at.opened.now a.counts.now a.at.reach.apart.near a.at.reach.apart.count a.from p.by_index_2 i.0 i.1 i.2 c.if-opened-from-eq0.true;
    }

pub returns : goal.returns
returns c =
    let a = c.args in
    let p = c.requires in
    let r = c.slide.ensures in record {
      value = r.value;
      counts_unchanged = front_kept a.at.row.now a.at.opened.now a.counts.now a.at.reach.apart.near a.at.reach.apart.count a.from p.by_index_2 p.from_in_bounds.0 r.counts_after;
      counts_after = word_written a.at.row.now a.at.opened.now a.counts.now a.at.reach.apart.near a.at.reach.apart.count a.from p.by_index_2 p.from_in_bounds.0 r.counts_after;
    }
