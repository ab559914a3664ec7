use borrow.Author.Rules.{rules}
use mathlib.Core.Path.{refl, ◌∙◌}
use Prim.Native.Nat.{◌<◌}
use native.Mathlib.Omega.{arith}
use lib.ListN.{length}
use Rattle.rows.specs.Set.{between}
use Rattle.rows.proofs.Sets.{filled_none, filled_turn, part_opened}
use Rattle.rows.proofs.Shifted.{shifted_is_at}
use Rattle.rows.proofs.shift.shift_all.Goals as goal

pub loop-k-init : goal.loop-k-init
loop-k-init c = (search rules, refl, filled_none _ _ _ _ _ refl)

pub loop-k-preserved : goal.loop-k-preserved
unfolding between
loop-k-preserved c =
    let p = c.requires in
    let l = c.loop-k in
    let h : l.k < length c.args.layout.now.lengths.now = c.loop-k-test.true in
    let k = c.words-from.ensures.place in
    let t = c.words-from.ensures.inside in
    let o = c.shift_down in
    let e = part_opened _ _ l.out t.0 (omega (arith, t.1, c.args.layout.now.inside, l.invariant.1)) o.new.out o.auto.out o.ensures in (
      search rules,
      e.1 ∙ l.invariant.1,
      filled_turn _ _ _ l.out _ _ h l.invariant.2 k.0 k.1 e.0 (λ _. shifted_is_at _ _ h k.0 k.1 c.args.by.places c.args.row.now e.2),
    )
