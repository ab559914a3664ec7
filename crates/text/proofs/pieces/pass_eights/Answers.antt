use Rattle.std.proofs.Common.{◌≡◌, ◌+◌, ◌*◌, ◌≤◌, ◌/◌, ◌<◌, false, [], length, take, drop, get_or, sym, ap, ◌∙◌, eqb, arith}
use Rattle.std.specs.List.{list_any}
use Rattle.text.proofs.Scan.{eight_at, eight_passed}
use Rattle.text.proofs.pieces.pass_eights.Goals as goal

pub loop-k-preserved : goal.loop-k-preserved
loop-k-preserved c =
    let k = c.loop-k.k in
    let t = c.args.text.now in
    let e = c.as_chunks.ensures in
    let n : k < length t / 8 = omega (arith, c.loop-k-test.true, e.front_len) in
    let h : 8 * k + 8 ≤ length t = omega (arith, n) in
    let g : get_or c.as_chunks.result.0.now k [] ≡ take 8 (drop (8 * k) t) = ap (λ s. get_or s k []) e.front ∙ eight_at (length t / 8) k t n in
    let a : list_any (λ x. eqb x c.args.b) (take 8 (drop (8 * k) t)) ≡ false = ap (list_any (λ x. eqb x c.args.b)) (sym g) ∙ sym c.contains.ensures.value ∙ c.if-contains.false in
    let q : 8 * (k + 1) ≡ 8 * k + 8 = omega arith in
    rw q (eight_passed c.args.b (8 * k) t c.loop-k.invariant h a)
