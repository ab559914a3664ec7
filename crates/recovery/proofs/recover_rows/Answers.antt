-- `recover_rows` meets its contract: the counted length decides on 15, and what is listed from row `first` on is a page.
use mathlib.Core.Path.{sym, ◌∙◌}
use borrow.Author.Rules.{rules}
use Rattle.recovery.proofs.Rule.{past_the_end, listed}
use Rattle.recovery.proofs.recover_rows.Goals as goal

pub returns-then-length-first-clause-result_value : goal.returns-then-length-first-clause-result_value
returns-then-length-first-clause-result_value c =
    let a = c.args in
    let e = c.list_sequences-length.ensures in
    let r = past_the_end a.set.now.letters.now a.set.now.lengths.now a.motif.template a.motif.number a.first a.out.now e.length_value (rw c.new-page.ensures.begins at e.page_after) c.if-length-first.true in
    r.0

pub returns-then-length-first-clause-out_after : goal.returns-then-length-first-clause-out_after
returns-then-length-first-clause-out_after c =
    let a = c.args in
    let e = c.list_sequences-length.ensures in
    let r = past_the_end a.set.now.letters.now a.set.now.lengths.now a.motif.template a.motif.number a.first a.out.now e.length_value (rw c.new-page.ensures.begins at e.page_after) c.if-length-first.true in
    let s = r.1 in
    let n = sym (e.same_buffer ∙ c.new-page.ensures.same_buffer) in
    search rules

pub returns-clause-result_value : goal.returns-clause-result_value
returns-clause-result_value c =
    let a = c.args in
    let e = c.list_sequences-length.ensures in
    let r = listed a.set.now.letters.now a.set.now.lengths.now a.motif.template a.motif.number a.first a.out.now e.length_value (rw c.new-page.ensures.begins at e.page_after) c.if-length-first.false a.motif.sound in
    r.0

pub returns-clause-out_after : goal.returns-clause-out_after
returns-clause-out_after c =
    let a = c.args in
    let e = c.list_sequences-length.ensures in
    let r = listed a.set.now.letters.now a.set.now.lengths.now a.motif.template a.motif.number a.first a.out.now e.length_value (rw c.new-page.ensures.begins at e.page_after) c.if-length-first.false a.motif.sound in
    let s = r.1 in
    let n = sym (e.same_buffer ∙ c.new-page.ensures.same_buffer) in
    search rules
