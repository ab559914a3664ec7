-- A save that was cut short is refused: the size record still says how many records there were, or is itself cut.
use mathlib.Core.Path.{◌≡◌, refl}
use mathlib.Core.Bool.{Bool, true, false, ◌&&◌}
use mathlib.Core.List.{List}
use Prim.Native.Nat.{ℕ, ◌*◌, ◌≤◌, ◌<◌}
use native.Mathlib.Omega.{arith}
use lib.Dec.{eqb, leb}
use lib.ListN.{length, take}
use lib.Seq.{get_or-take, length-take-le}
use borrow.Author.Tests.{leb-true, ne_eqb}
use Rattle.rules.specs.Calls.{unless, on_refusal, restore_rule}
use Rattle.rules.specs.Limits.{record_bytes, record_extra}
use Rattle.rules.specs.Refusals.{◌else◌, first, check10, set_checks, restore_checks}
use Rattle.rules.specs.Relay.{RefusedAsCut}
use Rattle.rules.specs.Saved.{record_count, read_search, is_sized}
use Rattle.rules.specs.Told.{Verdict, fine, refused, refuses}
use Rattle.rules.proofs.Records.{sized_says}
use Rattle.rules.proofs.Verdicts.{first_append}

and_false : (a b c : Bool) → (a ≡ true → c ≡ false) → a && b && c ≡ false
and_false false b c h = refl
and_false true true c h = h refl
and_false true false c h = refl

-- of bytes that are as long as the records that they count, the first n are not
cut_sized : (bs : List ℕ) (n : ℕ) → is_sized bs ≡ true → n < length bs → is_sized (take n bs) ≡ false
unfolding is_sized record_count
cut_sized bs n e h =
    let d = sized_says bs e in
    let l : length (take n bs) ≡ n = length-take-le n bs (omega arith) in
    rw l
    (and_false (leb record_bytes n) (leb record_extra (record_count (take n bs))) (eqb n (record_bytes * record_count (take n bs))) (λ a.
    let k : record_bytes ≤ n = leb-true record_bytes n a in
    let c : record_count (take n bs) ≡ record_count bs = get_or-take n bs 1 0 (omega arith) in
    ne_eqb n (record_bytes * record_count (take n bs)) (λ q. omega arith)))

-- and so they are refused, over any sequences
pub cut_refused : (bs : List ℕ) (n : ℕ) → is_sized bs ≡ true → n < length bs → RefusedAsCut (take n bs)
unfolding restore_rule restore_checks check10 first ◌else◌
cut_refused bs n e h letters lengths = rw (first_append, cut_sized bs n e h) (go (first (set_checks letters lengths)))
  where
    go : (v : Verdict) → unless (v else refused 10 0) (read_search (take n bs)) ≡ on_refusal v refuses (refuses 10 0)
    go fine = refl
    go (refused m p) = refl
