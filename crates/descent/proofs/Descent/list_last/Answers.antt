use mathlib.Core.Path.{refl, sym, ap, ◌∙◌}
use Prim.Native.Nat.{suc, ◌+◌, ◌<◌}
use native.Mathlib.Omega.{arith}
use lib.ListN.{length, drop, length-set}
use lib.Seq.{take-set-le}
use Rattle.descent.specs.Buffer.{buffer}
use Rattle.descent.specs.Paths.{handed}
use Rattle.descent.proofs.StartByStart.{last_turn, handed_last, last_passed}
use Rattle.descent.proofs.Paths.{handed_on, handed_past, handed_done}
use Rattle.rules.specs.Template.{components}
use Rattle.descent.proofs.Descent.list_last.Goals as goal

pub returns-then-under-page-clause-page_after : goal.returns-then-under-page-clause-page_after
returns-then-under-page-clause-page_after c =
    let a = c.args in
    let s = a.self.now in
    last_passed s.template s.sound.few s.letters s.flags.now a.row a.component a.starts.from.0 a.starts.end.0 a.page.now.progress a.page.now.out.now c.requires.0 c.count_starts-under.ensures (omega arith)

pub loop-at-preserved-then-not-can_start : goal.loop-at-preserved-then-not-can_start
loop-at-preserved-then-not-can_start c =
    let a = c.args in
    let s = a.self.now in
    let l = c.loop-at in
    record {
      same_buffer = l.invariant.same_buffer;
      wide = l.invariant.wide;
      same_row = l.invariant.same_row;
      left = handed_past (drop a.component (components s.template)) s.letters s.flags.now a.row a.component l.at a.starts.end.0 (buffer l.page.progress l.page.out.now) c.loop-at-test.true (sym c.can_start.ensures ∙ c.if-not-can_start.true) ∙ l.invariant.left;
    }

pub loop-at-preserved : goal.loop-at-preserved
loop-at-preserved c =
    let a = c.args in
    let s = a.self.now in
    let l = c.loop-at in
    let e = c.emit.ensures in
    let before = buffer l.page.progress l.page.out.now in
    let flagged = sym c.can_start.ensures ∙ c.if-not-can_start.false in
    let room : a.component + 1 < length l.longer = omega (arith, s.sound.few, l.invariant.wide) in
    let on = handed_on (drop a.component (components s.template)) s.letters s.flags.now a.row a.component l.at a.starts.end.0 before c.loop-at-test.true in
    let made = last_turn s.letters s.flags.now a.row a.component l.at before flagged l.longer l.invariant.same_row room refl e.written in
    let turn = handed_last s.template s.sound.few s.letters s.flags.now a.row a.component l.at (l.at + 1) before c.requires.0 made in
    record {
      same_buffer = e.same_buffer ∙ l.invariant.same_buffer;
      wide = length-set l.longer (a.component + 1) l.at ∙ l.invariant.wide;
      same_row = take-set-le (suc a.component) l.longer (a.component + 1) l.at (omega arith) ∙ l.invariant.same_row;
      left = ap (handed (drop a.component (components s.template)) s.letters s.flags.now a.row a.component (l.at + 1) a.starts.end.0) turn ∙ sym on ∙ l.invariant.left;
    }

pub returns-clause-page_after : goal.returns-clause-page_after
returns-clause-page_after c =
    let a = c.args in
    let s = a.self.now in
    let l = c.loop-at in
    let done = handed_done (drop a.component (components s.template)) s.letters s.flags.now a.row a.component l.at a.starts.end.0 (buffer l.page.progress l.page.out.now) c.loop-at-test.false in
    sym done ∙ l.invariant.left
