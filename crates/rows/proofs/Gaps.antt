-- A gap: the sum of the counts in a window that ends at a fixed distance before a place. When the place goes back by one, one goes out at
-- the near end and one comes in at the far end.
use mathlib.Core.Bool.{true, false}
use mathlib.Core.List.{List}
use mathlib.Core.Path.{◌≡◌, refl, sym, ap, ◌∙◌}
use Prim.Native.Nat.{ℕ, zero, suc, ◌+◌, ◌-◌, ◌*◌, ◌≤◌, ◌<◌}
use native.Mathlib.Nat.{add-zero, suc-mul, suc-sub-suc}
use native.Mathlib.Numerals.{add-one}
use native.Mathlib.Omega.{arith}
use lib.Dec.{leb, leb-suc-suc}
use lib.ListN.{get_or}
use borrow.Author.Tests.{le-leb, lt-leb}
use Rattle.rules.specs.Lists.{run, if, sum}
use Rattle.rows.specs.Flags.{ago, recent}

module _ (ks : List ℕ) where
  pub ago_next : (o d : ℕ) → ago ks (suc o) (suc d) ≡ ago ks o d
  unfolding ago
  ago_next o d = rw (leb-suc-suc, suc-sub-suc)

  -- the flag so far before a place, where there is one
  pub ago_in : (o d : ℕ) → d ≤ o → ago ks o d ≡ get_or ks (o - d) 0
  unfolding ago
  ago_in o d h = rw (le-leb d o h)

  pub ago_out : (o d : ℕ) → o < d → ago ks o d ≡ 0
  unfolding ago
  ago_out o d h = rw (lt-leb d o h)

  pub ago_bound : (b : ℕ) → ((i : ℕ) → get_or ks i 0 ≤ b) → (o d : ℕ) → ago ks o d ≤ b
  unfolding ago
  ago_bound b h o d = elim (leb d o) as (λ t. if t (get_or ks (o - d) 0) 0 ≤ b) [ true ↦ h (o - d) | false ↦ omega arith ]

  pub recent_last : (o d n : ℕ) → recent ks o d (suc n) ≡ recent ks o d n + ago ks o (d + n)
  unfolding recent run sum
  recent_last o d zero = rw (add-zero d) (omega arith)
  recent_last o d (suc n) =
      let ih : recent ks o (suc d) (suc n) ≡ recent ks o (suc d) n + ago ks o (suc d + n) = recent_last o (suc d) n in
      let e : ago ks o (suc d + n) ≡ ago ks o (d + suc n) = ap (ago ks o) (omega arith) in
      omega arith

  pub recent_sum_bound : (b : ℕ) → ((i : ℕ) → get_or ks i 0 ≤ b) → (o d n : ℕ) → recent ks o d n ≤ n * b
  unfolding recent run sum
  recent_sum_bound b h o d zero = omega arith
  recent_sum_bound b h o d (suc n) = rw suc-mul (omega (arith, ago_bound b h o d, recent_sum_bound b h o (suc d) n))

  recent_next_place : (o d n : ℕ) → recent ks (suc o) (suc d) n ≡ recent ks o d n
  unfolding recent run sum
  recent_next_place o d zero = refl
  recent_next_place o d (suc n) = rw (ago_next o d) (ap (λ (x : ℕ). ago ks o d + x) (recent_next_place o (suc d) n))

  recent_on : (o d n : ℕ) → recent ks (o + 1) (d + 1) n ≡ recent ks o d n
  recent_on o d n = rw (add-one o, add-one d) (recent_next_place o d n)

  -- a turn, with t the sum that it starts from
  module _ (o d n t : ℕ) (e : t ≡ recent ks o (d + 1) n) where
    turn : recent ks o d n + ago ks o (d + n) ≡ ago ks o d + t
    unfolding recent run sum
    turn = sym (recent_last o d n) ∙ ap (λ (x : ℕ). ago ks o d + x) (sym (e ∙ rw add-one))

  -- A place back: one goes out at the near end and one comes in at the far end
  module _ (o d n : ℕ) {t : ℕ} (e : t ≡ recent ks o d n) where
    back : t + ago ks o (d + n) ≡ ago ks o d + recent ks o (d + 1) n
    back = rw e (turn o d n (recent ks o (d + 1) n) refl)

    pub back_least : ago ks o d ≤ t + ago ks o (d + n)
    back_least = omega (arith, back)

    pub back_bound : (b : ℕ) → ((i : ℕ) → get_or ks i 0 ≤ b) → t + ago ks o (d + n) ≤ n * b + b
    back_bound b h = omega (arith, e, recent_sum_bound b h o d n, ago_bound b h o (d + n))

    pub recent_back : 0 < o → t + ago ks o (d + n) - ago ks o d ≡ recent ks (o - 1) d n
    recent_back h =
        let q : t + ago ks o (d + n) - ago ks o d ≡ recent ks o (d + 1) n = omega (arith, back) in
        let z : o ≡ o - 1 + 1 = omega arith in
        q ∙ ap (λ (x : ℕ). recent ks x (d + 1) n) z ∙ recent_on (o - 1) d n
