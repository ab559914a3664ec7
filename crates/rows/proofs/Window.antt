-- A window of n bits by doubling: joined with itself, shifted by no more than it spans, it spans more.
use mathlib.Core.List.{List, map}
use mathlib.Core.Path.{◌≡◌, refl, sym, ap, ◌∙◌}
use Prim.Native.Nat.{ℕ, zero, suc, ◌+◌, ◌-◌, ◌≤◌, ◌<◌, max}
use native.Mathlib.Decide.{dec_lt}
use native.Mathlib.Nat.{zero-add, add-zero}
use native.Mathlib.Omega.{arith}
use lib.ListN.{length, get_or}
use lib.Seq.{ext_get_or}
use borrow.Author.Tests.{lt-ltb, le-ltb}
use Rattle.rules.specs.Lists.{sign, run, sum}
use Rattle.rules.proofs.Over.{getd_map_run, length_map_run, map_agree}
use Rattle.rows.specs.Flags.{ago, recent, near}
use Rattle.rows.proofs.Gaps.{ago_next, ago_in, ago_out}
use Rattle.rows.specs.Rows.{either_at, either, behind_at, behind, window}

sign_zero : (x : ℕ) → x ≡ 0 → sign x ≡ 0
unfolding sign
sign_zero x e = rw (le-ltb 0 x (omega arith))

sign_one : (x : ℕ) → 0 < x → sign x ≡ 1
unfolding sign
sign_one x h = rw (lt-ltb 0 x h)

sign_self : (x : ℕ) → x ≤ 1 → sign x ≡ x
sign_self x h = elim (dec_lt 0 x) [ yes l ↦ (sign_one x l ∙ omega arith) | no l ↦ (sign_zero x (omega arith) ∙ omega arith) ]

-- either part has one, or the whole has none
sign_joined : (x y z : ℕ) → (x ≤ z) → (y ≤ z) → (z ≤ x + y) → max (sign x) (sign y) ≡ sign z
sign_joined x y z h k l =
    elim (dec_lt 0 x) [
      | yes p ↦ elim (dec_lt 0 y) [
        | yes q ↦ rw (sign_one x p, sign_one y q, sign_one z (omega arith))
        | no q ↦ rw (sign_one x p, sign_zero y (omega arith), sign_one z (omega arith))
      ]
      | no p ↦ elim (dec_lt 0 y) [
        | yes q ↦ rw (sign_zero x (omega arith), sign_one y q, sign_one z (omega arith))
        | no q ↦ rw (sign_zero x (omega arith), sign_zero y (omega arith), sign_zero z (omega arith))
      ]
    ]

module _ (ks : List ℕ) where
  pub recent_out : (o d n : ℕ) → o < d → recent ks o d n ≡ 0
  unfolding recent run sum
  recent_out o d zero h = refl
  recent_out o d (suc n) h = rw (ago_out ks o d h, zero-add) (recent_out o (suc d) n (omega arith))

  recent_next : (o d n : ℕ) → recent ks (suc o) (suc d) n ≡ recent ks o d n
  unfolding recent run sum
  recent_next o d zero = refl
  recent_next o d (suc n) = rw (ago_next ks o d) (ap (λ (x : ℕ). ago ks o d + x) (recent_next o (suc d) n))

  -- a window so far back is one that ends here, seen from there
  recent_back : (d o n : ℕ) → recent ks (d + o) d n ≡ recent ks o 0 n
  recent_back zero o n = rw zero-add
  recent_back (suc d) o n = let e : suc d + o ≡ suc (d + o) = omega arith in rw e (recent_next (d + o) d n ∙ recent_back d o n)

  -- a window in two
  recent_split : (o d m n : ℕ) → recent ks o d (m + n) ≡ recent ks o d m + recent ks o (d + m) n
  unfolding recent run sum
  recent_split o d zero n = let e : d + 0 ≡ d = add-zero d in rw (zero-add n, e, zero-add)
  recent_split o d (suc m) n =
      let e : suc m + n ≡ suc (m + n) = omega arith in
      let i : recent ks o (suc d) (m + n) ≡ recent ks o (suc d) m + recent ks o (suc d + m) n = recent_split o (suc d) m n in
      let z : recent ks o (suc d + m) n ≡ recent ks o (d + suc m) n = ap (λ (x : ℕ). recent ks o x n) (omega arith) in
      rw e (omega arith)

  near_sign : (d n o : ℕ) → near ks d n o ≡ sign (recent ks o d n)
  unfolding near sign
  near_sign d n o = refl

  at : (d n p : ℕ) → p < length ks → get_or (window d n ks) p 0 ≡ near ks d n p
  unfolding window
  at d n p h = getd_map_run (near ks d n) 0 0 (length ks) p h ∙ ap (near ks d n) (zero-add p)

  pub length_window : (d n : ℕ) → length (window d n ks) ≡ length ks
  unfolding window
  length_window d n = length_map_run (near ks d n) 0 (length ks)

  -- the window that ends d places before
  back : (d n p : ℕ) → p < length ks → ago (window 0 n ks) p d ≡ near ks d n p
  back d n p h =
      elim (dec_lt p d) [
        | yes l ↦ (ago_out (window 0 n ks) p d l ∙ sym (near_sign d n p ∙ sign_zero (recent ks p d n) (recent_out p d n l)))
        | no l ↦ (let e : d + (p - d) ≡ p = omega arith in
            ago_in (window 0 n ks) p d (omega arith) ∙ at 0 n (p - d) (omega arith) ∙ near_sign 0 n (p - d) ∙ ap sign (sym (recent_back d (p - d) n))
            ∙ ap (λ (x : ℕ). sign (recent ks x d n)) e ∙ sym (near_sign d n p))
      ]

  -- the last shift
  pub window_behind : (d n : ℕ) → behind d (window 0 n ks) ≡ window d n ks
  unfolding behind behind_at
  window_behind d n =
      ap (λ (m : ℕ). map (behind_at d (window 0 n ks)) (run 0 m)) (length_window 0 n)
      ∙ map_agree (behind_at d (window 0 n ks)) (near ks d n) 0 (length ks) (λ p _ h. back d n p (omega arith))
      ∙ (unfold window in refl)

  near_more : (d n p : ℕ) → d ≤ n → max (near ks 0 n p) (near ks d n p) ≡ near ks 0 (n + d) p
  near_more d n p h =
      let a : recent ks p 0 (d + n) ≡ recent ks p 0 d + recent ks p (0 + d) n = recent_split p 0 d n in
      let b : recent ks p 0 (n + d) ≡ recent ks p 0 n + recent ks p (0 + n) d = recent_split p 0 n d in
      let c : recent ks p 0 (d + (n - d)) ≡ recent ks p 0 d + recent ks p (0 + d) (n - d) = recent_split p 0 d (n - d) in
      let e : recent ks p 0 (d + (n - d)) ≡ recent ks p 0 n = ap (recent ks p 0) (omega arith) in
      let f : recent ks p 0 (d + n) ≡ recent ks p 0 (n + d) = ap (recent ks p 0) (omega arith) in
      let g : recent ks p (0 + d) n ≡ recent ks p d n = ap (λ (x : ℕ). recent ks p x n) (zero-add d) in
      rw (near_sign, near_sign d n p, near_sign 0 (n + d) p)
      (sign_joined (recent ks p 0 n) (recent ks p d n) (recent ks p 0 (n + d)) (omega arith) (omega arith) (omega arith))

  -- a turn of the doubling
  pub window_more : (d n : ℕ) → d ≤ n → either (window 0 n ks) (behind d (window 0 n ks)) ≡ window 0 (n + d) ks
  unfolding either
  window_more d n h =
      ap (λ (m : ℕ). map (either_at (window 0 n ks) (behind d (window 0 n ks))) (run 0 m)) (length_window 0 n)
      ∙ map_agree (either_at (window 0 n ks) (behind d (window 0 n ks))) (near ks 0 (n + d)) 0 (length ks) (λ p _ k. one p (omega arith))
      ∙ (unfold window in refl)
    where
      one : (p : ℕ) → p < length ks → either_at (window 0 n ks) (behind d (window 0 n ks)) p ≡ near ks 0 (n + d) p
      one p k = unfold either_at in rw (window_behind d n, at 0 n p k, at d n p k) (near_more d n p h)

  recent_one : (p : ℕ) → recent ks p 0 1 ≡ get_or ks p 0
  unfolding recent run sum
  recent_one p = let e : p - 0 ≡ p = omega arith in add-zero (ago ks p 0) ∙ ago_in ks p 0 (omega arith) ∙ ap (λ (x : ℕ). get_or ks x 0) e

  near_one : (p : ℕ) → get_or ks p 0 ≤ 1 → near ks 0 1 p ≡ get_or ks p 0
  near_one p h = near_sign 0 1 p ∙ ap sign (recent_one p) ∙ sign_self (get_or ks p 0) h

  -- before the first turn: a window of one bit
  pub window_one : ((p : ℕ) → get_or ks p 0 ≤ 1) → ks ≡ window 0 1 ks
  window_one h = ext_get_or 0 ks (window 0 1 ks) (sym (length_window 0 1)) (λ p l. sym (at 0 1 p l ∙ near_one p (h p)))

  -- the loop's turn, and what it ends with
  pub spread_more : (d n : ℕ) {a b c : List ℕ} → a ≡ window 0 n ks → b ≡ behind d a → c ≡ either a b → d ≤ n → c ≡ window 0 (n + d) ks
  spread_more d n e f g h = rw (g, f, e) (window_more d n h)

  pub open_end : (d n : ℕ) {a b : List ℕ} → a ≡ window 0 n ks → b ≡ behind d a → b ≡ window d n ks
  open_end d n e f = f ∙ rw e (window_behind d n)
