use mathlib.Core.Path.{sym, ap, ◌∙◌}
use Prim.Native.Nat.{suc, ◌+◌, ◌<◌}
use native.Mathlib.Omega.{arith}
use lib.ListN.{length, drop, length-set}
use lib.Seq.{take-set-le}
use Rattle.descent.specs.Buffer.{buffer}
use Rattle.descent.specs.Paths.{handed}
use Rattle.descent.proofs.StartByStart.{next_turn, handed_full}
use Rattle.descent.proofs.Paths.{handed_on, handed_past, handed_done}
use Rattle.rules.specs.Template.{components}
use Rattle.descent.proofs.Descent.+descend.Goals as goal

pub loop-at-preserved-then-not-can_start : goal.loop-at-preserved-then-not-can_start
loop-at-preserved-then-not-can_start t c =
    let a = c.args in
    let s = a.self.now in
    let l = c.loop-at in
    record {
      same_buffer = l.invariant.same_buffer;
      wide = l.invariant.wide;
      same_row = l.invariant.same_row;
      left = handed_past (drop a.component (components s.template)) s.letters s.flags.now a.row a.component l.at a.starts.end.0 (buffer l.page.progress l.page.out.now) c.loop-at-test.true (sym c.can_start.ensures ∙ c.if-not-can_start.true) ∙ l.invariant.left;
    }

pub returns-then-is_full-clause-page_after : goal.returns-then-is_full-clause-page_after
returns-then-is_full-clause-page_after t c =
    let a = c.args in
    let s = a.self.now in
    let l = c.loop-at in
    let full = handed_full s.template s.sound.few s.letters s.flags.now a.row a.component l.at a.starts.end.0 l.page.progress l.page.out.now (omega (arith, c.requires)) l.page.inside.ends c.is_full.ensures c.if-is_full.true in
    sym full ∙ l.invariant.left

pub loop-at-preserved : goal.loop-at-preserved
loop-at-preserved t c =
    let a = c.args in
    let s = a.self.now in
    let l = c.loop-at in
    let before = buffer l.page.progress l.page.out.now in
    let flagged = sym c.can_start.ensures ∙ c.if-not-can_start.false in
    let room : a.component + 1 < length l.longer = omega (arith, s.sound.few, l.invariant.wide) in
    let others : a.component + 1 < s.template.count = omega (arith, c.if-next-count.false, c.requires) in
    let n = c.next_starts-later.ensures in
    let d = c.descend.ensures in
    let turn = next_turn s.letters s.flags.now a.row a.component l.at before flagged l.longer l.invariant.same_row room s.template s.sound.few others n.from_value n.end_value d.page_after in
    let on = handed_on (drop a.component (components s.template)) s.letters s.flags.now a.row a.component l.at a.starts.end.0 before c.loop-at-test.true in
    record {
      same_buffer = d.same_buffer ∙ l.invariant.same_buffer;
      wide = length-set l.longer (a.component + 1) l.at ∙ l.invariant.wide;
      same_row = take-set-le (suc a.component) l.longer (a.component + 1) l.at (omega arith) ∙ l.invariant.same_row;
      left = ap (handed (drop a.component (components s.template)) s.letters s.flags.now a.row a.component (l.at + 1) a.starts.end.0) turn ∙ sym on ∙ l.invariant.left;
    }

pub returns-clause-page_after : goal.returns-clause-page_after
returns-clause-page_after t c =
    let a = c.args in
    let s = a.self.now in
    let l = c.loop-at in
    let done = handed_done (drop a.component (components s.template)) s.letters s.flags.now a.row a.component l.at a.starts.end.0 (buffer l.page.progress l.page.out.now) c.loop-at-test.false in
    sym done ∙ l.invariant.left
