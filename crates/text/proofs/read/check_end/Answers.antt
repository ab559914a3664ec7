use mathlib.Core.Path.{sym, ap, ◌∙◌}
use native.Mathlib.Nat.{add-zero}
use native.Mathlib.Omega.{arith}
use lib.ListN.{length}
use Rattle.rules.specs.Lists.{has_some}
use Rattle.text.proofs.Lines.{line_first, line_none, end_first, end_none, some_byte}
use Rattle.text.proofs.read.check_end.Goals as goal

pub loop-others-preserved : goal.loop-others-preserved
loop-others-preserved c =
    let v = c.loop-others.invariant in
    let e = c.in-Some.ensures in
    let rest = c.loop-others.rest.now in
    let others = c.in-Some.others.now in (
      omega (arith, v.0, e.long),
      omega (arith, v.1, ap length (line_first rest c.in-Some.field-0-0.now others e.pieces)),
      sym (end_first rest c.in-Some.field-0-0.now others e.pieces) ∙ v.2,
    )

pub returns : goal.returns
returns c =
    let v = c.loop-others.invariant in
    let rest = c.loop-others.rest.now in
    let e = c.in_default.ensures.pieces in
    let s = some_byte rest c.is_empty.ensures ∙ ap has_some (sym (end_none rest e) ∙ v.2) in
    let n = ap length (line_none rest e) in
    c.when.ensures ∙ rw (s, ← v.1, n, add-zero)
