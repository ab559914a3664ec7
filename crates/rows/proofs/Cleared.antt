-- The words of marks that no sequence has, cleared: what is before and behind them stays.
use mathlib.Core.List.{List}
use mathlib.Core.Path.{◌≡◌, sym, ap, ◌∙◌}
use Prim.Native.Nat.{ℕ, ◌+◌, ◌-◌, ◌≤◌, ◌<◌}
use native.Mathlib.Omega.{arith}
use lib.ListN.{length, drop, get_or, replicate, get_or-replicate, length-replicate}
use lib.Seq.{get_or-take, get_or-drop}
use borrow.Rule.Slice.PartMut.{mid_of, put_mid, mid_len, drop_put}
use Rattle.rows.specs.Set.{row_marks, between}
use Rattle.rows.proofs.Marks.{same_word}
use Rattle.rows.proofs.Sets.{part_written}

pub part_cleared : (n : ℕ) (l : List ℕ) → n ≤ row_marks → row_marks ≤ length l → (ys : List ℕ) → ys ≡ replicate (length (mid_of n (row_marks - n) l)) 0
    → (((q : ℕ) → q < n → get_or (put_mid n (row_marks - n) l ys) q 0 ≡ get_or l q 0) × ((q : ℕ) → n ≤ q → q < row_marks → get_or (put_mid n (row_marks - n) l ys) q 0 ≡ 0))
    × ((drop row_marks (put_mid n (row_marks - n) l ys) ≡ drop row_marks l) × (length (put_mid n (row_marks - n) l ys) ≡ length l))
unfolding between
part_cleared n l h g ys e =
    let m : length ys ≡ length (mid_of n (row_marks - n) l) = ap length e ∙ length-replicate (length (mid_of n (row_marks - n) l)) 0 in
    let p = part_written n row_marks l h g ys m in
    let y = put_mid n (row_marks - n) l ys in
    let zero : (q : ℕ) → n ≤ q → q < row_marks → get_or y q 0 ≡ 0 = λ q low high.
    let z : n + (q - n) ≡ q = omega arith in
    ap (λ (k : ℕ). get_or y k 0) (sym z) ∙ sym (get_or-drop n y (q - n) 0) ∙ sym (get_or-take (row_marks - n) (drop n y) (q - n) 0 (omega arith))
    ∙ ap (λ (w : List ℕ). get_or w (q - n) 0) (p.2 ∙ e) ∙ get_or-replicate (length (mid_of n (row_marks - n) l)) (q - n) 0 0 (omega (arith, mid_len n row_marks l g)) in
    ((same_word n l y p.0, zero), (drop_put n row_marks l ys h g (m ∙ mid_len n row_marks l g), p.1))
