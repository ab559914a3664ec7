-- The sequences have twelve letters, and a word behind the marks leaves them as they are.
use mathlib.Core.List.{List}
use mathlib.Core.Path.{◌≡◌, sym, ap, ◌∙◌}
use Prim.Native.Nat.{ℕ, ◌+◌, ◌*◌, ◌/◌, ◌%◌, ◌≤◌, ◌<◌}
use native.Mathlib.Omega.{arith}
use lib.Dec.{eqb}
use lib.ListN.{length, get_or, set}
use lib.Seq.{get_or-set_other}
use borrow.Author.Tests.{le-ltb}
use Rattle.rules.specs.Lists.{sum}
use Rattle.rows.specs.Set.{is_marked}
use Rattle.rows.proofs.Digits.{digit}
use Rattle.rows.proofs.MarksWalk.{mark_digit}
use Rattle.matching.proofs.tests.opens_and_shifts_each_sequence.Goals as goal

pub lay_out-layout-requires-clause-lengths_len_bound : goal.lay_out-layout-requires-clause-lengths_len_bound
unfolding sum
lay_out-layout-requires-clause-lengths_len_bound g c = (omega arith, omega arith)

stays : (row : List ℕ) (q v : ℕ) → 16 ≤ q → (k : ℕ) → k < 1024 → is_marked (set row q v) k ≡ is_marked row k
stays row q v h k u =
    let s : k / 64 * 64 + k % 64 ≡ k = omega arith in
    let w : get_or (set row q v) (k / 64) 0 ≡ get_or row (k / 64) 0 = get_or-set_other row q (k / 64) v 0 (λ e. omega arith) in
    let b : k % 64 < 64 = omega arith in
    ap (is_marked (set row q v)) (sym s) ∙ mark_digit (set row q v) (k / 64) (k % 64) b ∙ ap (λ (x : ℕ). eqb (digit x (k % 64)) 1) w
    ∙ sym (mark_digit row (k / 64) (k % 64) b) ∙ ap (is_marked row) s

pub open_all-requires : goal.open_all-requires
open_all-requires g c =
    let r = c.begin.new.row in
    let n : length c.lay_out-layout.result.lengths.now ≡ 3 = ap length c.lay_out-layout.ensures.layout in
    let marks : (k : ℕ) → k < 1024 → is_marked (set (set (set r 16 1) 17 1) 18 1) k ≡ is_marked r k =
    λ k u. stays (set (set r 16 1) 17 1) 18 1 (omega arith) k u ∙ stays (set r 16 1) 17 1 (omega arith) k u ∙ stays r 16 1 (omega arith) k u in
    record { bounded = record { none = λ k l u. marks k u ∙ c.begin.ensures.marked.same k u ∙ le-ltb k 3 (omega (arith, n, l)) } }
