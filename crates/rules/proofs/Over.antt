-- A list that a loop fills from the front: what stands at each place it has passed, and what is still there.
use mathlib.Core.List.{List, [], ◌∷◌, ◌++◌, map, append-nil, append_assoc}
use mathlib.Core.Path.{◌≡◌, refl, sym, ap, ◌∙◌}
use Prim.Native.Nat.{ℕ, zero, suc, ◌+◌, ◌-◌, ◌≤◌, ◌<◌}
use native.Mathlib.Nat.{zero-add, add-zero, add-suc, suc-add}
use native.Mathlib.Numerals.{add-one}
use native.Mathlib.Omega.{arith}
use lib.ListN.{length, drop, get_or, set, replicate, length-map, drop_of_length-le}
use lib.Seq.{drop-cons, drop-drop, drop_at, set_at, get_or-append-add, get_or-drop}
use Rattle.rules.specs.Lists.{run, over}
use Rattle.rules.proofs.Lists.{length_run}

-- a run with one number more
pub map_run : (f : ℕ → ℕ) (a n : ℕ) → map f (run a (suc n)) ≡ map f (run a n) ++ (f (a + n) ∷ [])
unfolding run
map_run f a zero = rw (add-zero a)
map_run f a (suc n) = rw (map_run f (suc a) n, add-suc a n, suc-add a n)

-- a list made of a run is as long as the run
pub length_map_run : {A : Type 0} (f : ℕ → A) (a n : ℕ) → length (map f (run a n)) ≡ n
length_map_run f a n = simp (length-map, length_run)

-- two functions that agree on a run
pub map_agree : (f g : ℕ → ℕ) (a n : ℕ) → ((i : ℕ) → a ≤ i → i < a + n → f i ≡ g i) → map f (run a n) ≡ map g (run a n)
unfolding run
map_agree f g a zero h = refl
map_agree f g a (suc n) h = rw (h a (omega arith) (omega arith), map_agree f g (suc a) n (λ i k l. h i (omega arith) (omega arith)))

-- a function that has one value on a run
pub map_one : (f : ℕ → ℕ) (v a n : ℕ) → ((i : ℕ) → a ≤ i → f i ≡ v) → map f (run a n) ≡ replicate n v
unfolding run
map_one f v a zero h = refl
map_one f v a (suc n) h = rw (h a (omega arith), map_one f v (suc a) n (λ i k. h i (omega arith)))

-- a run that starts one later
pub map_shift : (f : ℕ → ℕ) (a n : ℕ) → map (λ i. f (suc i)) (run a n) ≡ map f (run (suc a) n)
unfolding run
map_shift f a zero = refl
map_shift f a (suc n) = ap (λ (l : List ℕ). f (suc a) ∷ l) (map_shift f (suc a) n)

-- what stands at a place of a run
pub getd_map_run : {A : Type 0} (f : ℕ → A) (d : A) (a n i : ℕ) → i < n → get_or (map f (run a n)) i d ≡ f (a + i)
unfolding run
getd_map_run f d a zero i h = absurd (omega arith)
getd_map_run f d a (suc n) zero h = rw add-zero
getd_map_run f d a (suc n) (suc i) h = getd_map_run f d (suc a) n i (omega arith) ∙ ap f (omega arith)

module _ (f : ℕ → ℕ) (o : ℕ) (l : List ℕ) where
  -- before the first turn
  pub over_none : l ≡ over f 0 l
  unfolding over run
  over_none = refl

  over_more : o < length l → set (over f o l) o (f o) ≡ over f (o + 1) l
  unfolding over
  over_more h =
      rw (add-one o, map_run f 0 o, zero-add o, drop-cons l o 0 h)
      (set_at (map f (run 0 o)) _ _ (f o) o (length_map_run f 0 o) ∙ sym (simp append_assoc))

  over_rest : (i : ℕ) → o ≤ i → get_or (over f o l) i 0 ≡ get_or l i 0
  unfolding over
  over_rest i h =
      let e : i ≡ length (map f (run 0 o)) + (i - o) = rw (length_map_run f 0 o) (omega arith) in
      let e' : i ≡ o + (i - o) = omega arith in
      ap (λ (k : ℕ). get_or (map f (run 0 o) ++ drop o l) k 0) e
      ∙ get_or-append-add (map f (run 0 o)) (drop o l) (i - o) 0
      ∙ get_or-drop o l (i - o) 0
      ∙ ap (λ (k : ℕ). get_or l k 0) (sym e')

  over_over : over f o l ≡ over f o (over f o l)
  unfolding over
  over_over = ap (λ (x : List ℕ). map f (run 0 o) ++ x) (sym (drop_at (map f (run 0 o)) (drop o l) o (length_map_run f 0 o)))

  module _ {x : List ℕ} (e : x ≡ over f o l) where
    -- a turn writes the next place
    pub over_put : {v : ℕ} → v ≡ f o → o < length l → set x o v ≡ over f (o + 1) l
    over_put ev h = rw (e, ev) (over_more h)

    -- a place that is still to come is as it was
    pub over_keeps : (i : ℕ) → o ≤ i → get_or x i 0 ≡ get_or l i 0
    over_keeps i h = ap (λ (y : List ℕ). get_or y i 0) e ∙ over_rest i h

    -- what has been written may count as what was there
    pub over_again : x ≡ over f o x
    over_again = e ∙ over_over ∙ ap (over f o) (sym e)

    -- a loop that goes on where another stopped
    pub over_join : {n : ℕ} {y : List ℕ} → o ≤ n → y ≡ over f n x → y ≡ over f n l
    unfolding over
    over_join {n} {y} h q =
        let k : n ≡ o + (n - o) = omega arith in
        let d : drop n x ≡ drop n l = ap (λ (i : ℕ). drop i x) k ∙ sym (drop-drop (n - o) o x) ∙ ap (drop (n - o)) (ap (drop o) e ∙ drop_at (map f (run 0 o)) (drop o l) o (length_map_run f 0 o)) ∙ drop-drop (n - o) o l ∙ ap (λ (i : ℕ). drop i l) (sym k) in
        q ∙ ap (λ (t : List ℕ). map f (run 0 n) ++ t) d

    -- after the last turn
    pub over_end : {n : ℕ} → o ≡ n → x ≡ over f n l
    over_end h = e ∙ ap (λ (k : ℕ). over f k l) h

    -- where the loop has passed the whole list
    pub over_all : {n : ℕ} → o ≡ n → length l ≤ n → x ≡ map f (run 0 n)
    unfolding over
    over_all {n} h a = e ∙ rw (h, drop_of_length-le l {i = n} a, append-nil)

-- a loop that writes one value everywhere
pub over_value : (v o : ℕ) (l : List ℕ) {x : List ℕ} → x ≡ over (λ _. v) o l → o ≡ length l → x ≡ replicate (length l) v
over_value v o l e h = over_all (λ _. v) o l e h (omega arith) ∙ map_one (λ _. v) v 0 (length l) (λ _ _. refl)
