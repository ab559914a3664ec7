-- Small functions, most of them on lists, that the rules are written with.
use Rattle.std.specs.Prelude.{Bool, true, false, ◌&&◌, List, [], ◌∷◌, ◌++◌, map, ℕ, zero, suc, ◌+◌, length, take, drop, eqb, ltb}

abbrev pub if : {A : Type 0} → Bool → A → A → A
if true a b = a
if false a b = b

-- 1 of a number above 0, and 0 of 0
unfoldable pub sign : ℕ → ℕ
sign x = if (ltb 0 x) 1 0

-- `n` numbers from `a` on, rising: `run 3 2` is 3, 4
unfoldable pub run : ℕ → ℕ → List ℕ
run a zero = []
run a (suc n) = a ∷ run (suc a) n

-- those of a list that pass a test
unfoldable pub keep : {A : Type 0} → (A → Bool) → List A → List A
keep f [] = []
keep f (x ∷ xs) = if (f x) (x ∷ keep f xs) (keep f xs)

-- the lists that f makes of each, end to end
unfoldable pub each : {A B : Type 0} → (A → List B) → List A → List B
each f [] = []
each f (x ∷ xs) = f x ++ each f xs

-- lists laid end to end
unfoldable pub joined : {A : Type 0} → List (List A) → List A
joined [] = []
joined (l ∷ ls) = l ++ joined ls

unfoldable pub has_some : {A : Type 0} → List A → Bool
has_some [] = false
has_some (x ∷ xs) = true

-- every one of a list passes a test
unfoldable pub all_pass : {A : Type 0} → (A → Bool) → List A → Bool
all_pass f [] = true
all_pass f (x ∷ xs) = f x && all_pass f xs

unfoldable pub is_member : ℕ → List ℕ → Bool
is_member x [] = false
is_member x (y ∷ ys) = if (eqb x y) true (is_member x ys)

unfoldable pub sum : List ℕ → ℕ
sum [] = 0
sum (x ∷ xs) = x + sum xs

-- what a table holds once a list has been written to its front: the list, and past it what was there
unfoldable pub put : {A : Type 0} → List A → List A → List A
put xs table = xs ++ drop (length xs) table

-- and once it has been written from place n on
unfoldable pub put_at : {A : Type 0} → ℕ → List A → List A → List A
put_at n xs table = take n table ++ put xs (drop n table)

-- f at the first n places of a list, and past them what was there: how far a loop is that fills it from the front
unfoldable pub over : (ℕ → ℕ) → ℕ → List ℕ → List ℕ
over f n l = map f (run 0 n) ++ drop n l
