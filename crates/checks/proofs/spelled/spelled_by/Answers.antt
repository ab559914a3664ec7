-- `spelled_by`: a number lies below a power of the base exactly if nothing is left of it by a division.
use Prim.Native.Nat.{◌^◌}
use native.Mathlib.Nat.{one-le-pow}
use Rattle.rules.specs.Profile.{profile_by}
use Rattle.rules.proofs.EachKind.{kind_proper}
use Rattle.checks.proofs.Laws.{nothing_left}
use Rattle.checks.proofs.spelled.spelled_by.Goals as goal

pub returns : goal.returns
returns c =
    let a = c.args in
    let base = (profile_by a.profile).base in
    rw c.prefix.ensures (nothing_left (base ^ a.letters) a.number (one-le-pow a.letters base (kind_proper a.profile).pos))
