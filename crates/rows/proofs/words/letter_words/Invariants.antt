-- A turn puts the letters before those that were read below them, in each of the three planes.
use Prim.Native.Nat.{◌+◌, ◌*◌, ◌/◌, ◌≤◌}
use lib.ListN.{length, take, drop, get_or}
use Rattle.rows.proofs.Planes.{Plane, Reads}
use Rattle.rows.proofs.words.letter_words.Given as goal

abbrev pub invariant-loop-letter : goal.invariant-loop-letter
invariant-loop-letter l =
    let s = l.sequence in
    let whole = length s / 8 * 8 in
    let left = l.letter-iterator.iter.rest.now in
    Reads (λ k. get_or s (whole + k) 0) left × Plane 0 s (whole + length left) l.first × Plane 1 s (whole + length left) l.second × Plane 2 s (whole + length left) l.third

abbrev pub invariant-loop-eight : goal.invariant-loop-eight
invariant-loop-eight l =
    let s = l.sequence in
    let left = l.eight-iterator.iter.rest.now in
    Reads (λ k. take 8 (drop (8 * k) s)) left × (8 * length left ≤ length s) × Plane 0 s (8 * length left) l.first × Plane 1 s (8 * length left) l.second × Plane 2 s (8 * length left) l.third
