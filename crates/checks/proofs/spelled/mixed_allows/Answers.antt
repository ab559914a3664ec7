use mathlib.Core.Path.{◌≡◌, refl}
use native.Mathlib.Omega.{arith}
use Rattle.rules.specs.Limits.{letter_digits}
use Rattle.rules.specs.Lists.{all_pass}
use Rattle.rules.specs.Motif.{spell}
use Rattle.rules.specs.Profile.{within}
use Rattle.rules.proofs.Spelling.{rest_more}
use Rattle.checks.proofs.Dealt.{all_more}
use Rattle.checks.proofs.spelled.mixed_allows.Invariants.{fourteen}
use Rattle.checks.proofs.spelled.mixed_allows.Goals as goal

pub loop-init : goal.loop-init
unfolding all_pass spell
loop-init c = (omega arith, omega arith, refl)

pub loop-preserved : goal.loop-preserved
loop-preserved c =
    let l = c.loop in
    let number = c.args.number in
    (omega arith, rest_more letter_digits number l.counter l.invariant.1, all_more letter_digits number l.counter l.invariant.1 fourteen l.invariant.2)

pub returns : goal.returns
unfolding within
returns c =
    let l = c.loop in
    let e : l.counter ≡ c.args.n = omega arith in
    rw (l.invariant.2, c.several.ensures, e)
