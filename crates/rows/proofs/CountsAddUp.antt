-- The counts of a prefix add up to its occurrences: each occurrence has one last start, and is counted there. Counted from the first
-- part on, weights stand at the places of the first part; a gap takes them to the places that it reaches, where they add up.
use mathlib.Core.Bool.{Bool, true, false}
use mathlib.Core.List.{List, [], ◌∷◌, map}
use mathlib.Core.Path.{◌≡◌, refl, sym, ap, ◌∙◌}
use Prim.Native.Nat.{ℕ, zero, suc, ◌+◌, ◌*◌, ◌≤◌, ◌<◌}
use native.Mathlib.Nat.{add-zero, zero-add, mul-zero, mul-one, one-mul}
use native.Mathlib.Omega.{arith}
use lib.Dec.{eqb}
use lib.ListN.{length, drop, get_or, replicate, drop_of_length-le, length-replicate, get_or-replicate}
use lib.Seq.{drop-drop}
use borrow.Author.Tests.{ne_eqb}
use Rattle.rules.proofs.Occurs.{Worded}
use Rattle.rules.proofs.Over.{getd_map_run, map_shift}
use Rattle.rules.proofs.Ways.{occurrences_count}
use Rattle.rules.specs.Lists.{if, sign, run, sum, has_some}
use Rattle.rules.specs.Occurrence.{front_by, stands_by, found, reach, occurrences, ways}
use Rattle.rules.specs.Template.{Part, span}
use Rattle.rows.specs.Flags.{kept_at, kept_flags, matched, recent, around, added, following, last_by, last_starts, last_ways, has_left}
use Rattle.rows.proofs.Last.{length_matched, length_added}
use Rattle.rows.proofs.Signs.{sign_some, sign_none, starts_sign}
use Rattle.rows.proofs.Sums.{sum_agree, sum_is, exchanged}

-- no letter of a part may fail to fit
abbrev pub Tight : List Part → Type 0
Tight [] = Unit {0}
Tight (c ∷ cs) = (c.slack ≡ 0) × Tight cs

-- ---- a word

module _ (f : ℕ → ℕ → Bool) where
  front_cons : (x : ℕ) (w u : List ℕ) → front_by f 0 (x ∷ w) u ≡ if (front_by f 0 (x ∷ []) u) (front_by f 0 w (drop 1 u)) false
  unfolding front_by
  front_cons x w [] = refl
  front_cons x w (y ∷ u) = elim (f x y) as (λ b. if b (front_by f 0 w u) false ≡ if (if b true false) (front_by f 0 w u) false) [ true ↦ refl | false ↦ refl ]

  stands_cons : (x : ℕ) (w s : List ℕ) (o j : ℕ)
      → stands_by f 0 (x ∷ w) s (suc (o + j)) ≡ if (stands_by f 0 (x ∷ []) s (suc (o + j))) (stands_by f 0 w s (suc (o + suc j))) false
  unfolding stands_by
  stands_cons x w s o j = let e : o + j + 1 ≡ o + suc j = omega arith in front_cons x w (drop (o + j) s) ∙ rw (drop-drop, e)

  -- a letter stands nowhere past the end
  pub stands_past : (k : ℕ) (w s : List ℕ) (o : ℕ) → 1 ≤ length w → length s ≤ o → stands_by f k w s (suc o) ≡ false
  unfolding stands_by front_by
  stands_past k [] s o h l = absurd (omega arith)
  stands_past k (x ∷ w) s o h l = rw (drop_of_length-le s {i = o} l)

  twice : (a b : Bool) (x : ℕ) → if b (if a x 0) 0 ≡ if (if a b false) x 0
  twice true b x = refl
  twice false true x = refl
  twice false false x = refl

  kept_is : (x j : ℕ) (s ks : List ℕ) (o : ℕ) → o < length s → get_or (kept_flags f x j s ks) o 0 ≡ if (stands_by f 0 (x ∷ []) s (suc (o + j))) (get_or ks o 0) 0
  unfolding kept_flags kept_at
  kept_is x j s ks o h = getd_map_run (kept_at f x j s ks) 0 0 (length s) o h ∙ ap (kept_at f x j s ks) (zero-add o)

  -- a word keeps what stands where it does
  pub matched_is : (w : List ℕ) (j : ℕ) (s ks : List ℕ) (o : ℕ) → o < length s → get_or (matched f w j s ks) o 0 ≡ if (stands_by f 0 w s (suc (o + j))) (get_or ks o 0) 0
  unfolding matched
  matched_is [] j s ks o h = unfold stands_by front_by in refl
  matched_is (x ∷ w) j s ks o h =
      matched_is w (suc j) s (kept_flags f x j s ks) o h
      ∙ ap (λ (k : ℕ). if (stands_by f 0 w s (suc (o + suc j))) k 0) (kept_is x j s ks o h)
      ∙ twice (stands_by f 0 (x ∷ []) s (suc (o + j))) (stands_by f 0 w s (suc (o + suc j))) (get_or ks o 0)
      ∙ ap (λ (b : Bool). if b (get_or ks o 0) 0) (sym (stands_cons x w s o j))

-- ---- a gap

pub added_is : (a b : ℕ) (ks : List ℕ) (o : ℕ) → o < length ks → get_or (added a b ks) o 0 ≡ recent ks o a (span a b)
unfolding added
added_is a b ks o h = getd_map_run (around ks a (span a b)) 0 0 (length ks) o h ∙ ap (around ks a (span a b)) (zero-add o)

-- ---- parts

module _ (s : List ℕ) where
  pub found_is : (c : Part) → c.slack ≡ 0 → (ks : List ℕ) (o : ℕ) → o < length s → get_or (matched c.fits c.word 0 s ks) o 0 ≡ if (found c s (suc o)) (get_or ks o 0) 0
  found_is c e ks o h =
      matched_is c.fits c.word 0 s ks o h
      ∙ ap (λ (i : ℕ). if (stands_by c.fits 0 c.word s (suc i)) (get_or ks o 0) 0) (add-zero o)
      ∙ ap (λ (i : ℕ). if (stands_by c.fits i c.word s (suc o)) (get_or ks o 0) 0) (sym e)

  -- no part stands past the end
  ways_past : (c : Part) (cs : List Part) → 1 ≤ length c.word → (o : ℕ) → length s ≤ o → ways (c ∷ cs) s (suc o) ≡ 0
  unfolding ways
  ways_past c [] h o l = rw (stands_past c.fits c.slack c.word s o h l)
  ways_past c (d ∷ ds) h o l = rw (stands_past c.fits c.slack c.word s o h l)

  pub times_if : (b : Bool) (x y : ℕ) → x * if b y 0 ≡ if b x 0 * y
  times_if true x y = refl
  times_if false x y = omega arith

  times_one : (b : Bool) (x : ℕ) → x * if b 1 0 ≡ if b x 0
  times_one true x = mul-one x
  times_one false x = mul-zero x

  weighted : (c : Part) (cs : List Part) → Worded (c ∷ cs) → Tight (c ∷ cs) → (ks : List ℕ) → length ks ≡ length s
      → sum (map (λ o. get_or ks o 0 * ways (c ∷ cs) s (suc o)) (run 0 (length s))) ≡ sum (following added cs s (matched c.fits c.word 0 s ks))
  unfolding ways following reach
  weighted c [] f t ks h =
      sum_agree _ _ (length s) (λ o l. times_one (found c s (suc o)) (get_or ks o 0) ∙ sym (found_is c t.0 ks o l))
      ∙ sym (sum_is (matched c.fits c.word 0 s ks) (length s) (length_matched c.fits c.word 0 s ks h))
  weighted c (d ∷ ds) f t ks h =
      let E : List ℕ = matched c.fits c.word 0 s ks in
      let v : ℕ → ℕ = ways (d ∷ ds) s in
      let m : ℕ = span d.near d.far in
      let e : length E ≡ length s = length_matched c.fits c.word 0 s ks h in
      sum_agree _ (λ o. get_or E o 0 * sum (map v (run (suc o + d.near) m))) (length s)
      (λ o l. times_if (found c s (suc o)) (get_or ks o 0) (sum (map v (run (suc o + d.near) m))) ∙ ap (λ (k : ℕ). k * sum (map v (run (suc o + d.near) m))) (sym (found_is c t.0 ks o l)))
      ∙ exchanged E (length s) v (ways_past d ds (f 1 (omega arith))) d.near m
      ∙ sum_agree _ _ (length s) (λ q l. ap (λ (k : ℕ). k * v (suc q)) (sym (added_is d.near d.far E q (omega arith))))
      ∙ weighted d ds (λ i l. f (suc i) (omega arith)) t.1 (added d.near d.far E) (length_added d.near d.far E ∙ e)

-- THE LAW
pub ways_occur : (cs : List Part) (s : List ℕ) → Worded cs → Tight cs → 1 ≤ length cs → sum (last_ways cs s) ≡ length (occurrences cs s)
unfolding last_by
ways_occur [] s f t h = absurd (omega arith)
ways_occur (c ∷ cs) s f t h =
    sym (weighted s c cs f t (replicate (length s) 1) (length-replicate (length s) 1))
    ∙ sum_agree _ (λ o. ways (c ∷ cs) s (suc o)) (length s) (λ o l. ap (λ (k : ℕ). k * ways (c ∷ cs) s (suc o)) (get_or-replicate (length s) o 1 0 l) ∙ one-mul (ways (c ∷ cs) s (suc o)))
    ∙ ap sum (map_shift (ways (c ∷ cs) s) 0 (length s))
    ∙ sym (occurrences_count (c ∷ cs) s)

-- ---- a flag left

left_sum : (ks : List ℕ) → has_left (map sign ks) ≡ if (eqb (sum ks) 0) false true
unfolding has_left sum
left_sum [] = refl
left_sum (zero ∷ ks) = rw (sign_none, zero-add (sum ks)) (left_sum ks)
left_sum (suc k ∷ ks) = rw (sign_some k, ne_eqb (suc k + sum ks) 0 (λ e. omega arith))

some_length : {A : Type 0} (xs : List A) → has_some xs ≡ if (eqb (length xs) 0) false true
unfolding has_some
some_length [] = refl
some_length (x ∷ xs) = rw (ne_eqb (suc (length xs)) 0 (λ e. omega arith))

-- A flag is left in a sequence exactly if the parts occur in it
pub left_occurs : (cs : List Part) (s : List ℕ) → Worded cs → Tight cs → 1 ≤ length cs → has_left (last_starts cs s) ≡ has_some (occurrences cs s)
left_occurs cs s f t h =
    ap has_left (starts_sign cs s)
    ∙ left_sum (last_ways cs s)
    ∙ ap (λ (n : ℕ). if (eqb n 0) false true) (ways_occur cs s f t h)
    ∙ sym (some_length (occurrences cs s))
