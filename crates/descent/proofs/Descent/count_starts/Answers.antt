use mathlib.Core.Path.{sym, ◌∙◌}
use Prim.Native.Nat.{◌<◌}
use native.Mathlib.Omega.{arith}
use Rattle.descent.proofs.Paths.{count_on, count_past, count_done}
use Rattle.descent.proofs.Descent.count_starts.Goals as goal
use Rattle.descent.proofs.Descent.count_starts.Goals.{then-can_start, else-can_start}

pub loop-at-init : goal.loop-at-init
loop-at-init c = record { few = omega arith; all = omega arith }

pub overflow_add-count : goal.overflow_add-count
overflow_add-count c = omega (arith, c.loop-at.invariant.few, c.requires, c.args.self.now.short)

pub loop-at-preserved : goal.loop-at-preserved
loop-at-preserved c =
    let a = c.args in
    let s = a.self.now in
    let l = c.loop-at in
    let h : l.at < a.starts.end.0 = c.loop-at-test.true in
    elim c.if-can_start.branch [
      | then-can_start w ↦
          let on = count_on s.letters s.flags.now a.component l.at a.starts.end.0 h (sym c.can_start.ensures ∙ w.if-can_start.true) in
          rw w.count-is (record { few = omega (arith, l.invariant.few); all = omega (arith, on, l.invariant.all) })
      | else-can_start w ↦
          let past = count_past s.letters s.flags.now a.component l.at a.starts.end.0 h (sym c.can_start.ensures ∙ w.if-can_start.false) in
          rw w.count-is (record { few = omega (arith, l.invariant.few); all = omega (arith, past, l.invariant.all) })
    ]

pub returns : goal.returns
returns c =
    let a = c.args in
    let s = a.self.now in
    let l = c.loop-at in
    omega (arith, count_done s.letters s.flags.now a.component l.at a.starts.end.0 c.loop-at-test.false, l.invariant.all)
