use borrow.Author.Rules.{rules}
use mathlib.Core.Path.{◌≡◌, refl, sym, ◌∙◌}
use Prim.Native.Nat.{◌*◌, ◌+◌}
use native.Mathlib.Omega.{arith}
use lib.ListN.{length, replicate, length-replicate}
use Rattle.rows.specs.Bits.{held}
use Rattle.rows.proofs.Masks.{masked_same}
use Rattle.rows.proofs.Ones.{part_length, ones_turn}
use Rattle.rows.proofs.counts.ones.Goals as goal

pub loop-q-init : goal.loop-q-init
loop-q-init c = (search rules, search rules, (λ p h. absurd (omega arith)))

pub ones_word-requires : goal.ones_word-requires
ones_word-requires c =
    let l = c.loop-q in
    let a = c.args in
    let n = part_length a.row.now a.counts.now l.q (64 * l.q) refl (omega (arith, c.loop-q-test.true, c.div_ceil-q-end.ensures)) c.min-to.ensures l.counts l.invariant.0 in
    omega (arith, n, c.min-to.ensures)

pub loop-q-preserved : goal.loop-q-preserved
loop-q-preserved c =
    let l = c.loop-q in
    let a = c.args in
    let e : 64 * (l.q + 1) ≡ 64 * l.q + 64 = omega arith in (
      search rules,
      search rules,
      rw e (ones_turn a.row.now a.counts.now l.q (64 * l.q) refl (omega (arith, c.loop-q-test.true, c.div_ceil-q-end.ensures)) c.min-to.ensures l.counts l.invariant.0 _ c.ones_word.ensures l.invariant.2),
    )

pub returns : goal.returns
returns c =
    let a = c.args in
    let l = c.loop-q in
    masked_same (held a.row.now) l.counts (replicate (length a.counts.now) 1) (l.invariant.0 ∙ sym (length-replicate _ 1)) (λ p h. l.invariant.2 p (omega (arith, c.div_ceil-q-end.ensures, c.loop-q-test.false)))
