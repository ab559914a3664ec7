-- Occurrences are listed each once and in the paper's order: all that is listed under a first start begins with it, first
-- starts rise, and under one of them the later starts are in order for the same reason.
use mathlib.Core.Path.{◌≡◌, refl, sym, subst₂}
use mathlib.Core.Logic.{◌⊎◌, inl, inr}
use mathlib.Core.Bool.{Bool, true, false}
use mathlib.Core.List.Memᴰ
use mathlib.Core.List.{List, [], ◌∷◌, ◌++◌, map, Memᴰ, head-eq_of_cons-eq, tail-eq_of_cons-eq}
use Prim.Native.Nat.{ℕ, zero, suc, ◌+◌, ◌-◌, ◌<◌}
use native.Mathlib.Omega.{arith}
use lib.ListN.{length}
use Rattle.rules.specs.Lists.{run, if, keep, each}
use Rattle.rules.specs.Occurrence.{found, reach, starts, occurrences}
use Rattle.rules.specs.Order.{Before, here, there, InOrder, Rising}
use Rattle.rules.specs.Support.{rows_from, occurrence_rows}
use Rattle.rules.specs.Template.{Part}
use Rattle.rules.proofs.Members.{each_out, keep_run_out}
use Rattle.rules.proofs.Occurs.{starts_lead, rows_out}
use Rattle.rules.proofs.Stands.{run_out}

-- a run rises
pub run_rising : (a n : ℕ) → Rising (run a n)
unfolding run
run_rising a zero = tt
run_rising a (suc n) = (λ y m. (run_out (suc a) n y m).0, run_rising (suc a) n)

-- and so do those of a run that pass a test
pub keep_run_rising : (f : ℕ → Bool) (a n : ℕ) → Rising (keep f (run a n))
unfolding keep run
keep_run_rising f a zero = tt
keep_run_rising f a (suc n) = go (f a) (keep_run_rising f (suc a) n)
  where
    go : (b : Bool) → Rising (keep f (run (suc a) n)) → Rising (if b (a ∷ keep f (run (suc a) n)) (keep f (run (suc a) n)))
    go true ih = (λ y m. (keep_run_out f (suc a) n y m).0, ih)
    go false ih = ih

-- no row comes before itself, so that a list in order has no row twice
pub before_differs : {r q : List ℕ} → Before r q → r ≡ q → ⊥
before_differs (here l) e = omega (arith, head-eq_of_cons-eq e)
before_differs (there b) e = before_differs b (tail-eq_of_cons-eq e)

-- rows that begin with the smaller number come first
first_before : {x y : ℕ} {xs ys r q : List ℕ} → r ≡ x ∷ xs → q ≡ y ∷ ys → x < y → Before r q
first_before e f l = subst₂ Before (sym e) (sym f) (here l)

-- lists in order, the rows of the first before those of the second, are in order end to end
append_in_order : (xs ys : List (List ℕ)) → InOrder xs → InOrder ys → ((r q : List ℕ) → Memᴰ r xs → Memᴰ q ys → Before r q) → InOrder (xs ++ ys)
append_in_order [] ys o k h = k
append_in_order (x ∷ xs) ys o k h = (λ q m. go q (Memᴰ.append_cases xs m), append_in_order xs ys o.1 k (λ r q m. h r q (Memᴰ.tail m)))
  where
    go : (q : List ℕ) → Memᴰ q xs ⊎ Memᴰ q ys → Before x q
    go q (inl m) = o.0 q m
    go q (inr m) = h x q (Memᴰ.head refl) m

-- the same number put before each row keeps the order
map_in_order : (p : ℕ) (xs : List (List ℕ)) → InOrder xs → InOrder (map (λ t. p ∷ t) xs)
map_in_order p [] o = tt
map_in_order p (x ∷ xs) o = (λ q m. let r = Memᴰ.of_map (λ t. p ∷ t) xs m in subst₂ Before refl r.2 (there (o.0 r.0 r.1)), map_in_order p xs o.1)

-- lists in order, each of rows that begin with its number, are in order end to end if the numbers rise
each_in_order : (g : ℕ → List (List ℕ)) → ((x : ℕ) → InOrder (g x)) → ((x : ℕ) (r : List ℕ) → Memᴰ r (g x) → (rest : List ℕ) × (r ≡ x ∷ rest)) → (xs : List ℕ) → Rising xs → InOrder (each g xs)
unfolding each
each_in_order g o lead [] rise = tt
each_in_order g o lead (x ∷ xs) rise =
    append_in_order (g x) (each g xs) (o x) (each_in_order g o lead xs rise.1)
    (λ r q m n. let k = each_out g xs n in first_before (lead x r m).1 (lead k.0 q k.2).1 (rise.0 k.0 k.1))

-- the occurrences under a first start stand each once, in order
pub starts_in_order : (cs : List Part) (s : List ℕ) (p : ℕ) → InOrder (starts cs s p)
unfolding starts reach
starts_in_order [] s p = tt
starts_in_order (c ∷ []) s p = go (found c s p)
  where
    go : (b : Bool) → InOrder (if b ((p ∷ []) ∷ []) [])
    go true = (λ q m. absurd (Memᴰ.not-nil m), tt)
    go false = tt
starts_in_order (c ∷ d ∷ ds) s p = go (found c s p) (starts_in_order (d ∷ ds) s)
  where
    next : List ℕ
    next = reach d.near d.far p

    go : (b : Bool) → ((q : ℕ) → InOrder (starts (d ∷ ds) s q)) → InOrder (if b (map (λ t. p ∷ t) (each (starts (d ∷ ds) s) next)) [])
    go true ih = map_in_order p (each (starts (d ∷ ds) s) next) (each_in_order (starts (d ∷ ds) s) ih (starts_lead (d ∷ ds) s) next (run_rising (p + d.near) (d.far + 1 - d.near)))
    go false ih = tt

-- the occurrences in a sequence stand each once, in order
pub occurrences_in_order : (cs : List Part) (s : List ℕ) → InOrder (occurrences cs s)
unfolding occurrences
occurrences_in_order cs s = each_in_order (starts cs s) (starts_in_order cs s) (starts_lead cs s) (run 1 (length s)) (run_rising 1 (length s))

rows_from_in_order : (i : ℕ) (cs : List Part) (ss : List (List ℕ)) → InOrder (rows_from i cs ss)
unfolding rows_from
rows_from_in_order i cs [] = tt
rows_from_in_order i cs (s ∷ ss) =
    append_in_order (map (λ t. i ∷ t) (occurrences cs s)) (rows_from (suc i) cs ss) (map_in_order i (occurrences cs s) (occurrences_in_order cs s)) (rows_from_in_order (suc i) cs ss)
    (λ r q m n. let a = Memᴰ.of_map (λ t. i ∷ t) (occurrences cs s) m in let b = rows_out (suc i) cs ss n in first_before (sym a.2) b.3 (omega arith))

-- the rows of the whole list stand each once, in order: by sequence, then as in the sequence
pub rows_in_order : (cs : List Part) (ss : List (List ℕ)) → InOrder (occurrence_rows cs ss)
unfolding occurrence_rows
rows_in_order cs ss = rows_from_in_order 1 cs ss
