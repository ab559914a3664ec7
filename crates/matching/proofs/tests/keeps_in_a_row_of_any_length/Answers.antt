-- Where the words of the one sequence begin and end, and that there is no other mark.
use mathlib.Core.Bool.{false, false≢true}
use mathlib.Core.List.{List, [], ◌∷◌}
use mathlib.Core.Path.{◌≡◌, refl, sym, ap, ◌∙◌}
use Prim.Native.Nat.{ℕ, zero, suc, ◌+◌, ◌*◌, ◌/◌, ◌%◌, ◌≤◌, ◌<◌}
use native.Mathlib.Decide.{dec_lt}
use native.Mathlib.Omega.{arith}
use lib.Dec.{eqb}
use lib.ListN.{length, get_or, set, replicate, length-replicate, get_or-replicate}
use lib.Seq.{get_or-set_same, get_or-set_other}
use Rattle.rows.specs.Set.{words_of, first_word, is_marked}
use Rattle.rows.proofs.Bits.{digit_none}
use Rattle.rows.proofs.Digits.{digit, digit_past}
use Rattle.rows.proofs.MarksWalk.{mark_digit}
use Rattle.matching.proofs.tests.keeps_in_a_row_of_any_length.Goals as goal

lies : (k : ℕ) → k ≤ 1 → get_or (16 ∷ 3141 ∷ []) k 0 ≡ first_word (200000 ∷ []) k
unfolding first_word words_of
lies zero h = refl
lies (suc zero) h = refl
lies (suc (suc k)) h = absurd (omega arith)

pub new-layout-requires : goal.new-layout-requires
new-layout-requires g c = record {
  few = omega arith;
  laid = record { long = omega arith; same = lies };
  ones = λ h k l. absurd (false≢true h);
}

-- where the words of marks have one bit, that of the first sequence
alone : (row : List ℕ) → get_or row 0 0 ≡ 1 → ((w : ℕ) → 1 ≤ w → w < 16 → get_or row w 0 ≡ 0) → (k : ℕ) → 1 ≤ k → k < 1024 → is_marked row k ≡ false
alone row e z k l u =
    let s : k / 64 * 64 + k % 64 ≡ k = omega arith in
    let d : digit (get_or row (k / 64) 0) (k % 64) ≡ 0 = elim (dec_lt 0 (k / 64)) [
      | yes m ↦ (ap (λ (x : ℕ). digit x (k % 64)) (z (k / 64) (omega arith) (omega arith)) ∙ digit_none (k % 64))
      | no m ↦ (let f : k / 64 ≡ 0 = omega arith in rw (f, e) (digit_past 1 1 (k % 64) (omega arith) (omega arith)))
    ] in
    ap (is_marked row) (sym s) ∙ mark_digit row (k / 64) (k % 64) (omega arith) ∙ ap (λ (x : ℕ). eqb x 1) d

pub keep_all-support-requires : goal.keep_all-support-requires
unfolding first_word words_of
keep_all-support-requires g c =
    let ns : c.new-layout.result.lengths.now ≡ 200000 ∷ [] = c.new-layout.ensures.0 in
    let one : length c.new-layout.result.lengths.now ≡ 1 = ap length ns in
    let ends : first_word c.new-layout.result.lengths.now (length c.new-layout.result.lengths.now) ≡ 3141 = rw ns in
    let none : List ℕ = replicate 3141 0 in
    let first : List ℕ = set none 0 1 in
    let l : 3140 < length none = omega (arith, length-replicate {A = ℕ} 3141 0) in
    let e : get_or (set first 3140 6) 0 0 ≡ 1 = get_or-set_other first 3140 0 6 0 (λ z. omega arith) ∙ get_or-set_same none 0 1 0 (omega arith) in
    let others : (w : ℕ) → 1 ≤ w → w < 16 → get_or (set first 3140 6) w 0 ≡ 0 =
    λ w a b. get_or-set_other first 3140 w 6 0 (λ z. omega arith) ∙ get_or-set_other none 0 w 1 0 (λ z. omega arith) ∙ get_or-replicate {A = ℕ} 3141 w 0 0 (omega arith) in
    (omega arith, (record { none = λ k a b. alone (set first 3140 6) e others k (omega (arith, one)) b }, (omega (arith, ends), omega arith, omega arith)))
