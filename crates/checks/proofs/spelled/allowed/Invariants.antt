-- `allowed`: the letters are dealt out to the components in turn (`Given`); they are allowed if those of the components passed are, and
-- those that are left.
use Rattle.checks.proofs.Dealt.{Given}
use Rattle.checks.proofs.spelled.allowed.Given as goal

abbrev pub invariant-loop-c : goal.invariant-loop-c
invariant-loop-c l = Given l.profile l.number l.letters l.c-items l.left l.all l.c-index
