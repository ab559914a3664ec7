-- What is left at first is all. The reader hands out a record for whose line there is room, or none, or refuses: what is printed from there
-- is as before.
use Rattle.std.proofs.Common.{refl, ap, arith, ◌∙◌}
use Rattle.rules.specs.Told.{told_handed}
use Rattle.lines.proofs.Turns.{at_first, too_long, all_printed, handed_record, handed_none, handed_refusal, refused_on, lines_fit}
use Rattle.lines.proofs.print.print_records.Goals as goal

pub returns-then-file-gt-BYTES-clause-refusal : goal.returns-then-file-gt-BYTES-clause-refusal
returns-then-file-gt-BYTES-clause-refusal c = too_long c.args.file.now c.if-file-gt-BYTES.true

pub loop-record-init : goal.loop-record-init
loop-record-init c =
    let r = c.new-reader.ensures in
    record { over = ap (λ f. f.now) r.0; small = c.if-file-gt-BYTES.false; room = omega (arith, c.requires); here = rw r.1 (at_first _ _ c.if-file-gt-BYTES.false) }

pub returns-in_err-record-clause-refusal : goal.returns-in_err-record-clause-refusal
returns-in_err-record-clause-refusal c =
    let v = c.loop-record in let n = c.next.ensures in
    refused_on _ _ _ c.from_residual.ensures (handed_refusal v.invariant _ refl n.result_value n.at_after n.letters_after _ (ap told_handed c.in_err-record.was))

pub end_line-used-requires : goal.end_line-used-requires
end_line-used-requires c =
    let v = c.loop-record in let n = c.next.ensures in
    let h = handed_record v.invariant _ refl n.result_value n.at_after n.letters_after (ap told_handed c.in_ok-record.was) c.in-Some.is in
    h.0

pub loop-record-smaller : goal.loop-record-smaller
loop-record-smaller c =
    let v = c.loop-record in let n = c.next.ensures in
    let h = handed_record v.invariant _ refl n.result_value n.at_after n.letters_after (ap told_handed c.in_ok-record.was) c.in-Some.is in
    h.1

pub loop-record-preserved : goal.loop-record-preserved
loop-record-preserved c =
    let v = c.loop-record in let n = c.next.ensures in
    let h = handed_record v.invariant _ refl n.result_value n.at_after n.letters_after (ap told_handed c.in_ok-record.was) c.in-Some.is in
    let l = c.end_line-used.ensures in
    record { over = ap (λ f. f.now) n.file_unchanged ∙ v.invariant.over; small = v.invariant.small; room = omega (arith, v.invariant.room, c.next.auto.letters, c.end_line-used.auto.out); here = rw (l.value, l.out_after) h.2 }

pub returns-clause-lines : goal.returns-clause-lines
returns-clause-lines c =
    let v = c.loop-record in let n = c.next.ensures in
    all_printed _ (lines_fit _ v.invariant c.next.auto.letters) (handed_none v.invariant _ refl n.result_value n.at_after n.letters_after (ap told_handed c.in_ok-record.was) c.in_default.is)
