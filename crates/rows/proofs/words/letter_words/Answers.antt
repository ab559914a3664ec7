use mathlib.Core.Path.{◌≡◌, sym, ap, ◌∙◌}
use Prim.Native.Nat.{ℕ, ◌+◌, ◌*◌, ◌/◌}
use native.Mathlib.Nat.{div-one}
use native.Mathlib.Omega.{arith}
use lib.ListN.{length, length-drop}
use Rattle.rules.specs.Saved.{read_low, Bytes}
use Rattle.rows.proofs.Gathered.{read_eight}
use Rattle.rows.proofs.Planes.{plane_end, plane_one, plane_eight, plane_whole, bases_all, reads_letters, reads_eights, reads_turn}
use Rattle.rows.proofs.words.letter_words.Goals as goal

pub loop-letter-init : goal.loop-letter-init
loop-letter-init c =
    let s = c.args.sequence.now in
    let e = c.as_chunks.ensures.back in
    rw (c.into_iter-letter-iterator.ensures.into_iter_gives, c.rev-letter-items.ensures.source, c.iter.ensures.rest, e, length-drop)
    (reads_letters s _, plane_end 0 s _ (omega arith), plane_end 1 s _ (omega arith), plane_end 2 s _ (omega arith))

pub loop-letter-preserved : goal.loop-letter-preserved
loop-letter-preserved c =
    let s = c.args.sequence.now in
    let l = c.loop-letter in
    let i = l.invariant in
    let t = reads_turn _ i.0 c.in-Some.ensures.steps in
    let w = c.from-byte.ensures in (
      t.2,
      plane_one 0 s _ _ l.first (omega (arith, t.1)) t.0 (w ∙ sym (div-one _)) i.1,
      plane_one 1 s _ _ l.second (omega (arith, t.1)) t.0 (ap (λ (x : ℕ). x / 2) w) i.2,
      plane_one 2 s _ _ l.third (omega (arith, t.1)) t.0 (ap (λ (x : ℕ). x / 4) w) i.3,
    )

pub loop-eight-init : goal.loop-eight-init
loop-eight-init c =
    let s = c.args.sequence.now in
    let l = c.loop-letter in
    let i = l.invariant in
    let k = c.as_chunks.ensures in
    let e : length s / 8 * 8 + length l.letter-iterator.iter.rest.now ≡ 8 * (length s / 8) = omega (arith, c.in-None.ensures.steps) in
    let whole = rw e at i in
    rw (c.into_iter-eight-iterator.ensures.into_iter_gives, c.rev-eight-items.ensures.source, c.iter-2.ensures.rest, k.front_len, k.front)
    (reads_eights s (length s / 8) (sym (ap length k.front) ∙ k.front_len), omega arith, whole.1, whole.2, whole.3)

pub loop-eight-preserved : goal.loop-eight-preserved
loop-eight-preserved c =
    let s = c.args.sequence.now in
    let b : Bytes s = λ i. (c.type_inv.sequence i).fits in
    let l = c.loop-eight in
    let i = l.invariant in
    let t = reads_turn _ i.0 c.in-Some-eight.ensures.steps in
    let e = c.from_le_bytes-bytes.ensures ∙ read_eight _ ∙ ap (read_low 8) t.0 in (
      t.2,
      omega (arith, t.1),
      plane_eight 0 s b _ _ l.first (omega (arith, t.1)) i.1 (omega arith) (e ∙ sym (div-one _)) c.gather.ensures i.2,
      plane_eight 1 s b _ _ l.second (omega (arith, t.1)) i.1 (omega arith) (ap (λ (x : ℕ). x / 2) e) c.gather-in-loop-eight.ensures i.3,
      plane_eight 2 s b _ _ l.third (omega (arith, t.1)) i.1 (omega arith) (ap (λ (x : ℕ). x / 4) e) c.gather-in-loop-eight-2.ensures i.4,
    )

pub returns : goal.returns
returns c =
    let l = c.loop-eight in
    let a = c.args.sequence.now in
    let i = l.invariant in
    let z : 8 * length l.eight-iterator.iter.rest.now ≡ 0 = omega (arith, c.in-None-eight.ensures.steps) in
    bases_all l.first l.second l.third a c.requires.1
    (plane_whole 0 a _ _ z i.2)
    (plane_whole 1 a _ _ z i.3)
    (plane_whole 2 a _ _ z i.4)
