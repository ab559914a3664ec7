use native.Mathlib.Omega.{arith}
use lib.ListN.{length}
use borrow.Author.Tests.{ne_eqb}
use Rattle.rules.specs.Lists.{sum}
use Rattle.rules.specs.Refusals.{check3}
use Rattle.rules.proofs.Tables.{sum_more, sum_over}
use Rattle.checks.proofs.Laws.{same_left}
use Rattle.checks.proofs.check_sum.Goals as goal

pub returns-then-left-n : goal.returns-then-left-n
unfolding check3
returns-then-left-n c =
    let l = c.loop-n in
    let a = c.args in
    simp (ne_eqb (sum a.set.now.lengths.now) (length a.set.now.letters.now) (λ e. omega (arith, sum_more a.set.now.lengths.now l.n-index c.loop-n-test.true)))

pub loop-n-preserved : goal.loop-n-preserved
loop-n-preserved c =
    let l = c.loop-n in
    omega (arith, sum_more c.args.set.now.lengths.now l.n-index c.loop-n-test.true)

pub returns : goal.returns
unfolding check3
returns c =
    let l = c.loop-n in
    let a = c.args in
    rw (same_left l.left (sum a.set.now.lengths.now) (length a.set.now.letters.now) (omega (arith, sum_over a.set.now.lengths.now l.n-index c.loop-n-test.false))) c.when.ensures
