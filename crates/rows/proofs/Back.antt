-- A list that a loop fills from the back: what stands at each place it has passed, and before them what was there.
use mathlib.Core.List.{List, [], ◌∷◌, ◌++◌, map, append-nil}
use mathlib.Core.Path.{◌≡◌, refl, sym, ap, ◌∙◌}
use Prim.Native.Nat.{ℕ, zero, suc, ◌+◌, ◌-◌, ◌≤◌, ◌<◌}
use native.Mathlib.Decide.{dec_lt}
use native.Mathlib.Nat.{add-zero, zero-add, sub_self, sub-zero}
use native.Mathlib.Omega.{arith}
use lib.ListN.{length, take, get_or, set, get_or-append, length-append}
use lib.Seq.{take-suc, take-length, take_at, length-take-le, get_or-take, get_or-append-add, ext_get_or, set_at, append_snoc}
use Rattle.rules.proofs.Over.{getd_map_run, length_map_run, map_agree}
use Rattle.rules.specs.Lists.{run, sum}
use Rattle.rows.specs.Flags.{ago, recent, around, back, added}
use Rattle.rows.proofs.Gaps.{ago_in, ago_out}

-- a run in two
pub map_split : (f : ℕ → ℕ) (a m n : ℕ) → map f (run a (m + n)) ≡ map f (run a m) ++ map f (run (a + m) n)
unfolding run
map_split f a zero n = rw (zero-add n, add-zero a)
map_split f a (suc m) n =
    let e : suc m + n ≡ suc (m + n) = omega arith in
    let z : suc a + m ≡ a + suc m = omega arith in
    rw (e, map_split f (suc a) m n, z)

module _ (f : ℕ → ℕ) (l : List ℕ) where
  -- before the first turn
  pub back_none : l ≡ back f (length l) l
  unfolding back run
  back_none = rw (take-length, sub_self, append-nil)

  more : (o : ℕ) → o < length l → set (back f (suc o) l) o (f o) ≡ back f o l
  unfolding back
  more o h =
      let n : length l - o ≡ suc (length l - suc o) = omega arith in
      rw (n, take-suc l o 0 h) (unrolled o (length l - suc o) h)
    where
      unrolled : (p m : ℕ) → p < length l → set ((take p l ++ (get_or l p 0 ∷ [])) ++ map f (run (suc p) m)) p (f p) ≡ take p l ++ map f (run p (suc m))
      unrolled p m k = unfold run in rw (append_snoc) (set_at (take p l) _ _ (f p) p (length-take-le p l (omega arith)))

  -- what stands at each place, and what stands so
  module _ (o : ℕ) (h : o ≤ length l) where
    pub length_back : length (back f o l) ≡ length l
    unfolding back
    length_back = length-append (take o l) (map f (run o (length l - o))) ∙ rw (length-take-le o l h, length_map_run) (omega arith)

    before : (i : ℕ) → i < o → get_or (back f o l) i 0 ≡ get_or l i 0
    unfolding back
    before i k =
        let n : i < length (take o l) = rw (length-take-le o l h) k in
        get_or-append (take o l) (map f (run o (length l - o))) 0 i n ∙ get_or-take o l i 0 k

    pub back_at : (i : ℕ) → o ≤ i → i < length l → get_or (back f o l) i 0 ≡ f i
    unfolding back
    back_at i k u =
        let e : i ≡ length (take o l) + (i - o) = rw (length-take-le o l h) (omega arith) in
        let z : o + (i - o) ≡ i = omega arith in
        ap (λ (j : ℕ). get_or (take o l ++ map f (run o (length l - o))) j 0) e
        ∙ get_or-append-add (take o l) (map f (run o (length l - o))) (i - o) 0
        ∙ getd_map_run f 0 o (length l - o) (i - o) (omega arith)
        ∙ ap f z

    pub back_by : (x : List ℕ) → length x ≡ length l → ((i : ℕ) → i < o → get_or x i 0 ≡ get_or l i 0)
        → ((i : ℕ) → o ≤ i → i < length l → get_or x i 0 ≡ f i) → x ≡ back f o l
    back_by x n kept written =
        ext_get_or 0 x (back f o l) (n ∙ sym length_back)
        (λ i k.
        elim (dec_lt i o) [
          | yes u ↦ kept i u ∙ sym (before i u)
          | no u ↦ (let w : i < length l = omega arith in written i (omega arith) w ∙ sym (back_at i (omega arith) w))
        ])

  module _ (o : ℕ) {x : List ℕ} (e : x ≡ back f o l) where
    -- a turn writes the place before
    pub back_put : {v : ℕ} → v ≡ f (o - 1) → 0 < o → o ≤ length l → set x (o - 1) v ≡ back f (o - 1) l
    back_put q p h =
        let z : o ≡ suc (o - 1) = omega arith in
        rw (q, e ∙ ap (λ (k : ℕ). back f k l) z) (more (o - 1) (omega arith))

    -- a place that is still to come is as it was
    pub back_keeps : o ≤ length l → (i : ℕ) → i < o → get_or x i 0 ≡ get_or l i 0
    back_keeps h i k = rw e (before o h i k)

    pub back_front : o ≤ length l → take o x ≡ take o l
    unfolding back
    back_front h = ap (take o) e ∙ take_at (take o l) (map f (run o (length l - o))) o (length-take-le o l h)

    -- after the last turn
    pub back_all : o ≡ 0 → x ≡ map f (run 0 (length l))
    unfolding back
    back_all z = e ∙ rw (z, sub-zero)

-- what stands d places before is as it was, if all before are
pub ago_kept : (ks x : List ℕ) (o d : ℕ) → ((i : ℕ) → i < o → get_or x i 0 ≡ get_or ks i 0) → 1 ≤ d → ago x o d ≡ ago ks o d
ago_kept ks x o d same p =
    elim (dec_lt o d) [
      | yes l ↦ ago_out x o d l ∙ sym (ago_out ks o d l)
      | no n ↦ (let h : d ≤ o = omega arith in ago_in x o d h ∙ same (o - d) (omega arith) ∙ sym (ago_in ks o d h))
    ]

-- and so is the sum of those in a window
pub recent_kept : (ks x : List ℕ) (o d n : ℕ) → ((i : ℕ) → i < o → get_or x i 0 ≡ get_or ks i 0) → 1 ≤ d → recent x o d n ≡ recent ks o d n
unfolding recent
recent_kept ks x o d n same h = ap sum (map_agree (ago x o) (ago ks o) d n (λ k u _. ago_kept ks x o k same (omega arith)))

-- the counts of a gap of n distances, the least of them d
pub added_is : (ks : List ℕ) (d n : ℕ) {x : List ℕ} → 1 ≤ n → x ≡ map (around ks d n) (run 0 (length ks)) → x ≡ added d (d + n - 1) ks
unfolding added
added_is ks d n h e =
    let z : n ≡ d + n - 1 + 1 - d = omega arith in
    e ∙ ap (λ (k : ℕ). map (around ks d k) (run 0 (length ks))) z

pub added_at : (ks : List ℕ) (d n p : ℕ) → 1 ≤ n → p < length ks → get_or (added d (d + n - 1) ks) p 0 ≡ recent ks p d n
added_at ks d n p h u =
    ap (λ (x : List ℕ). get_or x p 0) (sym (added_is ks d n h refl))
    ∙ getd_map_run (around ks d n) 0 0 (length ks) p u ∙ ap (around ks d n) (zero-add p)
