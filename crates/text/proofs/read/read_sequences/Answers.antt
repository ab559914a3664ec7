use native.Mathlib.Omega.{arith}
use Rattle.text.proofs.Lines.{text_short}
use Rattle.text.proofs.SequenceLines.{taken_none, taken_more, taken_all}
use Rattle.text.proofs.read.read_sequences.Goals as goal

pub loop-line-init : goal.loop-line-init
loop-line-init c = taken_none c.args.input.now c.args.letters.now c.args.lengths.now c.cut.result.sequences.now c.cut.ensures.sequences c.cut.ensures.short.1

pub overflow_cast-lengths : goal.overflow_cast-lengths
overflow_cast-lengths c = omega (arith, c.in-Some.ensures.long, c.loop-line.invariant.few_bytes, text_short c.args.input.now c.requires.0)

pub loop-line-preserved : goal.loop-line-preserved
loop-line-preserved c =
    let e = c.in-Some.ensures in
    taken_more c.args.input.now c.args.letters.now c.args.lengths.now c.loop-line.invariant c.in-Some.line.now c.in-Some.others.now e.pieces e.long c.copy_part.ensures

pub returns : goal.returns
returns c =
    let p = c.requires in
    let t = taken_all c.args.input.now c.args.letters.now c.args.lengths.now c.loop-line.invariant c.in_default.ensures.pieces p.1 p.2 in
    record {
      sequences_value = (t.0, t.1);
      sequences_in_bounds = (t.2, t.3);
      letters_after = t.4;
      lengths_after = t.5;
    }
