-- The numbers of slots, laid end to end; and a table that a list is copied to, as much of it as there is room for.
use mathlib.Core.Path.{◌≡◌, ◌∙◌}
use mathlib.Core.List.{List, [], ◌∷◌, ◌++◌}
use Prim.Native.Nat.{ℕ, ◌+◌, ◌-◌, ◌*◌, ◌≤◌, ◌<◌, min}
use native.Mathlib.Nat.{min_comm}
use native.Mathlib.Numerals.{add-one}
use native.Mathlib.Omega.{arith}
use lib.ListN.{length, take, drop, get_or}
use lib.Seq.{take-suc}
use borrow.Rule.Slice.PartMut.{put_mid}
use Rattle.std.proofs.lemmas.List.{take_min, length-take}
use Rattle.std.proofs.lemmas.Slice.{take-put_mid}
use Rattle.rules.specs.Lists.{each, put}
use Rattle.rules.specs.declared.Component.{Component}
use Rattle.rules.proofs.Lists.{each_append}
use Rattle.exports.specs.Shape.{numbers, fill}

pub filled : (from table : List ℕ) {n : ℕ} {front : List ℕ} → n ≡ min (length from) (length table) → front ≡ take n from → front ++ drop n table ≡ fill from table
unfolding fill put
filled from table e f = rw (f, e, min_comm (length from) (length table), take_min, length-take)

-- the numbers of one slot more, written behind those of the slots before it
pub slot_more : (cs : List Component) (i : ℕ) (d : Component) (all : List ℕ) {part : List ℕ} → i < length cs → 3 * i ≤ length all → take (3 * i) all ≡ each numbers (take i cs)
    → part ≡ numbers (get_or cs i d) → take (3 * (i + 1)) (put_mid (3 * i) (3 * i + 3 - 3 * i) all part) ≡ each numbers (take (i + 1) cs)
unfolding each
slot_more cs i d all {part} h k e f =
    let n : 3 * (i + 1) ≡ 3 * i + length part = rw f (omega arith) in
    take-put_mid (3 * i) (3 * i + 3 - 3 * i) all part (3 * (i + 1)) n k
    ∙ rw (e, f, add-one i, take-suc cs i d h, each_append numbers (take i cs) (get_or cs i d ∷ []))
