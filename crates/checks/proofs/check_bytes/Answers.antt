-- `check_bytes`: nothing where all are letters, and else the first mark, as a refusal.
use mathlib.Core.Path.{◌≡◌, sym, ◌∙◌}
use Prim.Native.Nat.{◌+◌}
use native.Mathlib.Omega.{arith}
use Rattle.rules.specs.Refusals.{check4}
use Rattle.checks.proofs.Laws.{all_letters}
use Rattle.checks.proofs.check_bytes.Goals as goal

pub returns-then-all_letters : goal.returns-then-all_letters
unfolding check4
returns-then-all_letters c = sym (all_letters 0 _ (sym c.all_letters.ensures ∙ c.if-all_letters.true))

pub returns-in-Some : goal.returns-in-Some
unfolding check4
returns-in-Some c = let k : c.in-Some.mark + 0 ≡ c.in-Some.mark = omega arith in sym (rw k at (c.in-Some.ensures.told 0))

pub returns-in-None : goal.returns-in-None
unfolding check4
returns-in-None c = sym (c.in-None.ensures.told 0)
