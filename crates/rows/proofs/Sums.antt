-- Sums over a run of places, and the exchange of two: to add over each place the ways from all places that it reaches, is to add
-- over each place that is reached all that reach it, times its ways.
use mathlib.Core.List.{List, [], ◌∷◌, map}
use mathlib.Core.Path.{◌≡◌, refl, sym, ap, ◌∙◌}
use Prim.Native.Nat.{ℕ, zero, suc, ◌+◌, ◌-◌, ◌*◌, ◌≤◌, ◌<◌}
use native.Mathlib.Nat.{zero-mul, mul-zero, add-zero, add-suc}
use native.Mathlib.Omega.{arith}
use lib.Dec.{leb-suc-suc}
use lib.ListN.{length, get_or}
use borrow.Author.Tests.{le-leb, lt-leb}
use Rattle.rules.proofs.Over.{map_run, map_agree, map_shift}
use Rattle.rules.proofs.Tables.{sum_append}
use Rattle.rules.specs.Lists.{run, sum}
use Rattle.rows.specs.Flags.{ago, recent}

-- ---- over a run

pub sum_agree : (f g : ℕ → ℕ) (n : ℕ) → ((i : ℕ) → i < n → f i ≡ g i) → sum (map f (run 0 n)) ≡ sum (map g (run 0 n))
sum_agree f g n h = ap sum (map_agree f g 0 n (λ i _ l. h i (omega arith)))

sum_last : (f : ℕ → ℕ) (n : ℕ) → sum (map f (run 0 (suc n))) ≡ sum (map f (run 0 n)) + f n
unfolding sum
sum_last f n = ap sum (map_run f 0 n) ∙ sum_append (map f (run 0 n)) (f (0 + n) ∷ []) ∙ ap (λ (k : ℕ). sum (map f (run 0 n)) + k) (ap (λ (k : ℕ). f k + 0) (omega arith) ∙ add-zero (f n))

sum_add : (f g : ℕ → ℕ) (a n : ℕ) → sum (map (λ i. f i + g i) (run a n)) ≡ sum (map f (run a n)) + sum (map g (run a n))
unfolding run sum
sum_add f g a zero = refl
sum_add f g a (suc n) = omega (arith, sum_add f g (suc a) n)

pub sum_none : (f : ℕ → ℕ) (a n : ℕ) → ((i : ℕ) → f i ≡ 0) → sum (map f (run a n)) ≡ 0
unfolding run sum
sum_none f a zero h = refl
sum_none f a (suc n) h = omega (arith, h a, sum_none f (suc a) n h)

-- a list, place by place, and so its sum
pub list_is : (ks : List ℕ) (n : ℕ) → length ks ≡ n → ks ≡ map (λ o. get_or ks o 0) (run 0 n)
unfolding run
list_is [] zero h = refl
list_is [] (suc n) h = absurd (omega arith)
list_is (k ∷ ks) zero h = absurd (omega arith)
list_is (k ∷ ks) (suc n) h = ap (λ (l : List ℕ). k ∷ l) (list_is ks n (omega arith) ∙ map_shift (λ o. get_or (k ∷ ks) o 0) 0 n)

pub sum_is : (ks : List ℕ) (n : ℕ) → length ks ≡ n → sum ks ≡ sum (map (λ o. get_or ks o 0) (run 0 n))
sum_is ks n h = ap sum (list_is ks n h)

-- ---- places before a place

ago_none : (ks : List ℕ) (o : ℕ) → ago ks o 0 ≡ get_or ks o 0
unfolding ago
ago_none ks o = let e : o - 0 ≡ o = omega arith in rw (le-leb 0 o (omega arith), e)

ago_front : (ks : List ℕ) (g : ℕ) → ago ks 0 (suc g) ≡ 0
unfolding ago
ago_front ks g = rw (lt-leb (suc g) 0 (omega arith))

ago_on : (ks : List ℕ) (o g : ℕ) → ago ks (suc o) (suc g) ≡ ago ks o g
unfolding ago
ago_on ks o g = let e : suc o - suc g ≡ o - g = omega arith in rw (leb-suc-suc g o, e)

-- ---- the exchange

-- the first of a run, times x, and the others
first_of : (x : ℕ) (v : ℕ → ℕ) (p q r m : ℕ) → p ≡ q → suc p ≡ r → x * sum (map v (run p (suc m))) ≡ x * v q + x * sum (map v (run r m))
unfolding run sum
first_of x v p q r m e d = rw (← e, ← d) (omega arith)

module _ (E : List ℕ) where
  -- from one distance to the next, where v is nothing from n on
  further : (g n : ℕ) (v : ℕ → ℕ) → ((q : ℕ) → n ≤ q → v (suc q) ≡ 0)
      → sum (map (λ q. ago E q g * v (suc (suc q))) (run 0 n)) ≡ sum (map (λ q. ago E q (suc g) * v (suc q)) (run 0 n))
  unfolding run sum
  further g zero v z = refl
  further g (suc n) v z =
      let none : ago E n g * v (suc (suc n)) ≡ 0 = ap (λ (k : ℕ). ago E n g * k) (z (suc n) (omega arith)) ∙ mul-zero (ago E n g) in
      let front : ago E 0 (suc g) * v 1 ≡ 0 = ap (λ (k : ℕ). k * v 1) (ago_front E g) ∙ zero-mul (v 1) in
      let same : sum (map (λ q. ago E q g * v (suc (suc q))) (run 0 n)) ≡ sum (map (λ q. ago E q (suc g) * v (suc q)) (run 1 n)) =
      sum_agree _ (λ q. ago E (suc q) (suc g) * v (suc (suc q))) n (λ q _. rw (ago_on E q g))
      ∙ ap sum (map_shift (λ q. ago E q (suc g) * v (suc q)) 0 n) in
      sum_last (λ q. ago E q g * v (suc (suc q))) n ∙ omega (arith, none, front, same)

  -- at one distance g
  shifted : (g n : ℕ) (v : ℕ → ℕ) → ((q : ℕ) → n ≤ q → v (suc q) ≡ 0)
      → sum (map (λ o. get_or E o 0 * v (suc (o + g))) (run 0 n)) ≡ sum (map (λ q. ago E q g * v (suc q)) (run 0 n))
  shifted zero n v z = sum_agree _ _ n (λ o _. rw (ago_none E o, add-zero o))
  shifted (suc g) n v z =
      sum_agree _ (λ o. get_or E o 0 * v (suc (suc (o + g)))) n (λ o _. rw (add-suc o g))
      ∙ shifted g n (λ p. v (suc p)) (λ q l. z (suc q) (omega arith))
      ∙ further g n v z

  -- at the m distances from a on
  pub exchanged : (n : ℕ) (v : ℕ → ℕ) → ((q : ℕ) → n ≤ q → v (suc q) ≡ 0) → (a m : ℕ)
      → sum (map (λ o. get_or E o 0 * sum (map v (run (suc o + a) m))) (run 0 n)) ≡ sum (map (λ q. recent E q a m * v (suc q)) (run 0 n))
  unfolding recent run sum
  exchanged n v z a zero = sum_none _ 0 n (λ o. mul-zero (get_or E o 0)) ∙ sym (sum_none _ 0 n (λ q. zero-mul (v (suc q))))
  exchanged n v z a (suc m) =
      sum_agree _ _ n (λ o _. first_of (get_or E o 0) v (suc o + a) (suc (o + a)) (suc o + suc a) m (omega arith) (omega arith))
      ∙ sum_add (λ o. get_or E o 0 * v (suc (o + a))) (λ o. get_or E o 0 * sum (map v (run (suc o + suc a) m))) 0 n
      ∙ (rw (shifted a n v z, exchanged n v z (suc a) m))
      ∙ sym (sum_add (λ q. ago E q a * v (suc q)) (λ q. recent E q (suc a) m * v (suc q)) 0 n)
      ∙ sum_agree _ _ n (λ q _. omega arith)
