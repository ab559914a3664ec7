use Rattle.checks.proofs.Dealt.{one_given, all_given}
use Rattle.checks.proofs.spelled.allowed.Goals as goal

pub loop-c-preserved : goal.loop-c-preserved
loop-c-preserved c =
    let l = c.loop-c in
    let a = c.args in
    one_given a.t.profile a.number a.letters _ l.invariant c.loop-c-test.true c.min-n.ensures c.prefix-word.ensures c.component_allows-all.ensures

pub returns : goal.returns
returns c =
    let a = c.args in
    all_given a.t c.components-slots.ensures c.held.ensures a.number a.letters c.loop-c.invariant c.loop-c-test.false
