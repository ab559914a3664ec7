-- Lists as loops meet them: what f makes of a front or a rest, what is left to add up, and what is put to the front of a table.
use mathlib.Core.List.{List, [], ◌∷◌, ◌++◌, map, append_assoc}
use mathlib.Core.Path.{◌≡◌, refl, sym, ap, ◌∙◌}
use Prim.Native.Nat.{ℕ, zero, suc, ◌+◌, ◌-◌, ◌≤◌, ◌<◌, min}
use native.Mathlib.Nat.{zero-min, min-zero, suc-min-suc}
use native.Mathlib.Numerals.{add-one}
use native.Mathlib.Omega.{arith}
use lib.ListN.{length, take, drop, get_or, set, take-append-drop, length-append, length-drop, drop_of_length-le, get_or-append}
use lib.Seq.{drop-cons, drop-drop, length-take-le, set-append_seam, take-append_seam, take_at, drop_at, get_or-take, get_or-drop, get_or-append-add}
use Rattle.rules.specs.Lists.{sum, put, put_at}

-- ---- f of a list

-- functions that agree make the same list
pub map_same : {A B : Type 0} (f g : A → B) → ((x : A) → f x ≡ g x) → (l : List A) → map f l ≡ map g l
map_same f g h [] = refl
map_same f g h (x ∷ l) = rw (h x, map_same f g h l)

-- what f makes of the first ones, and of the later ones
pub map_take : {A B : Type 0} (f : A → B) (n : ℕ) (l : List A) → take n (map f l) ≡ map f (take n l)
map_take f zero l = refl
map_take f (suc n) [] = refl
map_take f (suc n) (x ∷ l) = ap (λ r. f x ∷ r) (map_take f n l)

pub map_drop : {A B : Type 0} (f : A → B) (n : ℕ) (l : List A) → drop n (map f l) ≡ map f (drop n l)
map_drop f zero l = refl
map_drop f (suc n) [] = refl
map_drop f (suc n) (x ∷ l) = map_drop f n l

-- ---- as many as there are, at the most

pub take_min : {A : Type 0} (n : ℕ) (l : List A) → take (min n (length l)) l ≡ take n l
take_min zero l = rw zero-min
take_min (suc n) [] = rw min-zero
take_min (suc n) (x ∷ l) = rw (suc-min-suc, take_min n l)

pub drop_min : {A : Type 0} (n : ℕ) (l : List A) → drop (min n (length l)) l ≡ drop n l
drop_min zero l = rw zero-min
drop_min (suc n) [] = rw min-zero
drop_min (suc n) (x ∷ l) = rw suc-min-suc (drop_min n l)

-- ---- sums

pub sum_append : (xs ys : List ℕ) → sum (xs ++ ys) ≡ sum xs + sum ys
unfolding sum
sum_append [] ys = omega arith
sum_append (x ∷ xs) ys = omega (arith, sum_append xs ys)

-- what is left to add up from the index i on
pub sum_more : (xs : List ℕ) (i : ℕ) → i < length xs → sum (drop i xs) ≡ get_or xs i 0 + sum (drop (i + 1) xs)
unfolding sum
sum_more xs i h = rw (add-one, drop-cons xs i 0 h)

pub sum_over : (xs : List ℕ) (i : ℕ) → length xs ≤ i → sum (drop i xs) ≡ 0
unfolding sum
sum_over xs i h = rw (drop_of_length-le xs {i = i} h)

-- ---- a list put to the front of a table

-- it stands there
pub put_front : {A : Type 0} (n : ℕ) (xs table : List A) → length xs ≡ n → take n (put xs table) ≡ xs
unfolding put
put_front n xs table e = rw (← e) (take-append_seam xs _)

-- one more, written next to those that stand in it
pub put_more : (xs table : List ℕ) (v : ℕ) → length xs < length table → set (put xs table) (length xs) v ≡ put (xs ++ (v ∷ [])) table
unfolding put
put_more xs table v h =
    rw (drop-cons table (length xs) 0 h, length-append xs (v ∷ []), add-one) (set-append_seam xs _ _ v ∙ sym (append_assoc xs (v ∷ []) _))

-- ---- and from place n on

-- nothing written changes nothing
pub put_at_none : {A : Type 0} (n : ℕ) (table : List A) → put_at n [] table ≡ table
unfolding put_at put
put_at_none n table = take-append-drop n table

-- a table is as long as before, if what is written fits
pub put_at_long : {A : Type 0} (n : ℕ) (xs table : List A) → n + length xs ≤ length table → length (put_at n xs table) ≡ length table
unfolding put_at put
put_at_long n xs table h =
    omega (arith, length-append (take n table) (xs ++ drop (length xs) (drop n table)), length-take-le n table (omega arith), length-append xs (drop (length xs) (drop n table)), length-drop (length xs) (drop n table), length-drop n table)

-- more, written behind what was written
pub put_at_more : {A : Type 0} (n : ℕ) (xs ys table : List A) → n + length xs ≤ length table → put_at (n + length xs) ys (put_at n xs table) ≡ put_at n (xs ++ ys) table
unfolding put_at put
put_at_more n xs ys table h =
    let rest = drop (length xs) (drop n table) in
    let a : length (take n table ++ xs) ≡ n + length xs = omega (arith, length-append (take n table) xs, length-take-le n table (omega arith)) in
    rw (← (append_assoc (take n table) xs rest), take_at (take n table ++ xs) rest (n + length xs) a, drop_at (take n table ++ xs) rest (n + length xs) a, length-append xs ys, ← (drop-drop (length ys) (length xs) (drop n table)), append_assoc xs ys)
    (append_assoc (take n table) xs _)

-- it stands as it was before that place, and past what is written
pub put_at_before : (n : ℕ) (xs table : List ℕ) (i : ℕ) → n ≤ length table → i < n → get_or (put_at n xs table) i 0 ≡ get_or table i 0
unfolding put_at
put_at_before n xs table i h l = get_or-append (take n table) (put xs (drop n table)) 0 i (omega (arith, length-take-le n table h)) ∙ get_or-take n table i 0 l

pub put_at_past : (n : ℕ) (xs table : List ℕ) (i : ℕ) → n ≤ length table → n + length xs ≤ i → get_or (put_at n xs table) i 0 ≡ get_or table i 0
unfolding put_at put
put_at_past n xs table i h l =
    let k = i - (n + length xs) in
    let a : length (take n table) + (length xs + k) ≡ i = omega (arith, length-take-le n table h) in
    let b : n + (length xs + k) ≡ i = omega arith in
    let c = get_or-append-add (take n table) (xs ++ drop (length xs) (drop n table)) (length xs + k) 0 ∙ get_or-append-add xs (drop (length xs) (drop n table)) k 0 ∙ get_or-drop (length xs) (drop n table) k 0 ∙ get_or-drop n table (length xs + k) 0 in
    rw (a, b) at c
