use mathlib.Core.Path.{refl, sym, ◌∙◌}
use Prim.Native.Nat.{suc, ◌<◌}
use native.Mathlib.Omega.{arith}
use lib.ListN.{length}
use Rattle.descent.specs.Buffer.{buffer}
use Rattle.recovery.proofs.SequenceBySequence.{through_all, through_none, through_again, left_all, left_none, left_more, left_few}
use Rattle.rules.specs.Support.{parts}
use Rattle.rules.specs.Template.{size}
use Rattle.rules.proofs.Tables.{sum_more}
use Rattle.recovery.proofs.list_sequences.Goals as goal

pub part-requires : goal.part-requires
part-requires c =
    let a = c.args in
    let l = c.loop-i in
    let h : l.i < length a.set.now.lengths.now = omega arith in
    (omega arith, omega (arith, sum_more a.set.now.lengths.now l.i h))

pub list_sequence-length-requires : goal.list_sequence-length-requires
list_sequence-length-requires c =
    let a = c.args in
    let l = c.loop-i in
    let h : l.i < length a.set.now.lengths.now = omega arith in
    let more = left_more (parts a.motif.template (size a.motif.template) a.motif.number) a.set.now.lengths.now a.set.now.letters.now l.i l.begin _ h refl c.part.ensures in
    let few = left_few a.motif.sound a.set.now.letters.now a.set.now.lengths.now c.requires.sound_set a.motif.number in
    omega (arith, more, few, l.invariant.count_left)

pub overflow_add-length : goal.overflow_add-length
overflow_add-length c =
    let a = c.args in
    let l = c.loop-i in
    let h : l.i < length a.set.now.lengths.now = omega arith in
    let more = left_more (parts a.motif.template (size a.motif.template) a.motif.number) a.set.now.lengths.now a.set.now.letters.now l.i l.begin _ h refl c.part.ensures in
    omega (arith, more, left_few a.motif.sound a.set.now.letters.now a.set.now.lengths.now c.requires.sound_set a.motif.number, l.invariant.count_left, c.list_sequence-length.ensures.length_value)

pub loop-i-preserved : goal.loop-i-preserved
loop-i-preserved c =
    let a = c.args in
    let l = c.loop-i in
    let r = c.list_sequence-length.ensures in
    let p = c.part.ensures in
    let h : l.i < length a.set.now.lengths.now = omega arith in
    let cs = parts a.motif.template (size a.motif.template) a.motif.number in
    record {
      same_buffer = r.same_buffer ∙ l.invariant.same_buffer;
      letters_left = omega (arith, sum_more a.set.now.lengths.now l.i h);
      rows_left = through_again (suc a.motif.template.count) cs a.set.now.lengths.now a.set.now.letters.now l.i l.begin _ (buffer l.page.progress l.page.out.now) h refl p r.page_after l.invariant.rows_left;
      count_left = omega (arith, left_more cs a.set.now.lengths.now a.set.now.letters.now l.i l.begin _ h refl p, l.invariant.count_left, r.length_value);
    }

pub returns-clause-page_after : goal.returns-clause-page_after
returns-clause-page_after c =
    let a = c.args in
    let l = c.loop-i in
    let cs = parts a.motif.template (size a.motif.template) a.motif.number in
    sym (through_none (suc a.motif.template.count) cs a.set.now.lengths.now a.set.now.letters.now l.i l.begin (buffer l.page.progress l.page.out.now) (omega arith))
    ∙ l.invariant.rows_left ∙ through_all (suc a.motif.template.count) cs a.set.now.lengths.now a.set.now.letters.now (buffer a.page.now.progress a.page.now.out.now)

pub returns-clause-length_value : goal.returns-clause-length_value
returns-clause-length_value c =
    let a = c.args in
    let l = c.loop-i in
    let cs = parts a.motif.template (size a.motif.template) a.motif.number in
    omega (arith, l.invariant.count_left, left_none cs a.set.now.lengths.now a.set.now.letters.now l.i l.begin (omega arith), left_all cs a.set.now.lengths.now a.set.now.letters.now)
