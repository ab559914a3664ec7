use borrow.Author.Rules.{rules}
use mathlib.Core.Path.{ap, ◌∙◌}
use Prim.Native.Nat.{◌≤◌, ◌<◌}
use native.Mathlib.Omega.{arith}
use lib.ListN.{length, length-set}
use Rattle.rules.specs.Profile.{profile_by}
use Rattle.rules.proofs.Spelling.{spelled_none, spelled_rest, spelled_more}
use Rattle.rules.proofs.Profile.spell.Invariants.{stood_for}
use Rattle.rules.proofs.Profile.spell.Goals as goal

pub loop-i-init : goal.loop-i-init
loop-i-init c =
    let a = c.args in
    let z = spelled_none stood_for (profile_by a.self).base a.number a.word.now in
    (search rules, search rules, z.0, z.1)

pub loop-i-preserved : goal.loop-i-preserved
loop-i-preserved c =
    let l = c.loop-i in
    let a = c.args in
    let base = (profile_by a.self).base in
    let n = length a.word.now in
    let some : 0 < l.i = omega arith in
    let inside : l.i ≤ length l.word = omega arith in
    let few : l.i ≤ n = omega arith in (
      omega arith,
      simp length-set (omega arith),
      c.shorter-rest.ensures ∙ spelled_rest stood_for base a.number l.word l.i n some inside few l.invariant.2,
      spelled_more stood_for base a.number l.word l.i n some inside few l.invariant.2
          (c.base_set.ensures ∙ ap stood_for c.last.ensures) l.invariant.3,
    )
