-- Whether a bit is set: some word is not 0, and so are all of them joined.
use mathlib.Core.Bool.{Bool, true, false, not}
use mathlib.Core.List.{List, [], ◌∷◌, ◌++◌, map}
use mathlib.Core.Path.{◌≡◌, refl, ap, ◌∙◌}
use Prim.Native.Nat.{ℕ, zero, suc, ◌+◌, ◌*◌, ◌/◌, ◌%◌, ◌^◌, ◌<◌}
use native.Mathlib.Decide.{dec_lt}
use native.Mathlib.Nat.{pow-suc, zero-add}
use native.Mathlib.Numerals.{add-one}
use native.Mathlib.Omega.{arith}
use lib.Bits.{bit_or, or_add_and, and_le_l, and_le_r}
use Rattle.std.specs.List.{fold}
use lib.Dec.{eqb}
use lib.ListN.{length, get_or}
use lib.Seq.{ext_get_or}
use borrow.Author.Tests.{eq-eqb, ne_eqb, eqb-true, eqb-false}
use Rattle.rules.specs.Lists.{if, run}
use Rattle.rules.proofs.Over.{map_run, getd_map_run, length_map_run}
use Rattle.rows.specs.Flags.{has_left}
use Rattle.rows.specs.Bits.{binary_digits, held}
use Rattle.rows.specs.Words.{word_at}

or_zero : (a b : ℕ) (p q : Bool) → eqb a 0 ≡ p → eqb b 0 ≡ q → eqb (bit_or a b) 0 ≡ if p q false
or_zero a b true true e f = eq-eqb (bit_or a b) 0 (omega (arith, or_add_and a b, eqb-true a 0 e, eqb-true b 0 f))
or_zero a b true false e f = ne_eqb (bit_or a b) 0 (λ z. eqb-false b 0 f (omega (arith, or_add_and a b, and_le_l a b, and_le_r a b)))
or_zero a b false q e f = ne_eqb (bit_or a b) 0 (λ z. eqb-false a 0 e (omega (arith, or_add_and a b, and_le_l a b, and_le_r a b)))

pub left_append : (xs ys : List ℕ) → has_left (xs ++ ys) ≡ if (has_left xs) true (has_left ys)
unfolding has_left
left_append [] ys = refl
left_append (x ∷ xs) ys =
    elim (eqb x 0) as (λ b. if b (has_left (xs ++ ys)) true ≡ if (if b (has_left xs) true) true (has_left ys)) [ true ↦ left_append xs ys | false ↦ refl ]

last : (l p : Bool) → if (not l) p false ≡ not (if l true (if p false true))
last true p = refl
last false true = refl
last false false = refl

-- a turn joins one word more
pub joined_more : (f : ℕ → ℕ) (q a : ℕ) {v : ℕ} → eqb a 0 ≡ not (has_left (map f (run 0 q))) → v ≡ f q → eqb (bit_or a v) 0 ≡ not (has_left (map f (run 0 (q + 1))))
unfolding has_left
joined_more f q a {v} e h =
    let z : eqb v 0 ≡ eqb (f q) 0 = ap (λ (x : ℕ). eqb x 0) h in
    or_zero a v _ _ e z
    ∙ rw (add-one q, map_run f 0 q, zero-add q, left_append (map f (run 0 q)) (f q ∷ []))
    (last (has_left (map f (run 0 q))) (eqb (f q) 0))

-- after the last
pub joined_end : (f : ℕ → ℕ) (q n a : ℕ) → eqb a 0 ≡ not (has_left (map f (run 0 q))) → q ≡ n → eqb a 0 ≡ not (has_left (map f (run 0 n)))
joined_end f q n a e h = e ∙ rw h

-- before the first
pub joined_none : (f : ℕ → ℕ) → eqb 0 0 ≡ not (has_left (map f (run 0 0)))
unfolding has_left run
joined_none f = refl

not_not : (b : Bool) → not (not b) ≡ b
not_not true = refl
not_not false = refl

pub joined_all : (a : ℕ) (b : Bool) → eqb a 0 ≡ not b → not (eqb a 0) ≡ b
joined_all a b e = ap not e ∙ not_not b

left_digits : (k w : ℕ) → w < 2 ^ k → has_left (binary_digits k w) ≡ not (eqb w 0)
unfolding has_left binary_digits
left_digits zero w h = let e : w ≡ 0 = omega arith in rw (eq-eqb w 0 e)
left_digits (suc k) w h =
    let p : 2 ^ suc k ≡ 2 ^ k * 2 = pow-suc 2 k in
    let i : has_left (binary_digits k (w / 2)) ≡ not (eqb (w / 2) 0) = left_digits k (w / 2) (omega arith) in
    elim (dec_lt 0 (w % 2)) [
      | yes l ↦ rw (ne_eqb (w % 2) 0 (λ z. omega arith), ne_eqb w 0 (λ z. omega arith))
      | no n ↦ (let o : w % 2 ≡ 0 = omega arith in
          rw (eq-eqb (w % 2) 0 o, i)
          (elim (dec_lt 0 w) [
            | yes l ↦ rw (ne_eqb (w / 2) 0 (λ z. omega arith), ne_eqb w 0 (λ z. omega arith))
            | no m ↦ rw (eq-eqb (w / 2) 0 (omega arith), eq-eqb w 0 (omega arith))
          ]))
    ]

-- of words that fit
pub left_held : (ws : List ℕ) → ((q : ℕ) → get_or ws q 0 < 2 ^ 64) → has_left (held ws) ≡ has_left ws
unfolding has_left held
left_held [] h = refl
left_held (w ∷ ws) h =
    left_append (binary_digits 64 w) (held ws)
    ∙ rw (left_digits 64 w (h 0), left_held ws (λ q. h (suc q)))
    (elim (eqb w 0) as (λ b. if (not b) true (has_left ws) ≡ if b (has_left ws) true) [ true ↦ refl | false ↦ refl ])

-- a row copied word by word
pub map_word : (ws : List ℕ) → map (word_at ws) (run 0 (length ws)) ≡ ws
map_word ws =
    ext_get_or 0 (map (word_at ws) (run 0 (length ws))) ws (length_map_run (word_at ws) 0 (length ws))
    (λ p l. let k : p < length ws = rw length_map_run at l in getd_map_run (word_at ws) 0 0 (length ws) p k ∙ ap (word_at ws) (zero-add p))

-- some words joined to a first one
joined_from : (a : ℕ) (ws : List ℕ) → eqb (fold bit_or a ws) 0 ≡ if (eqb a 0) (not (has_left ws)) false
unfolding has_left
joined_from a [] = elim (eqb a 0) as (λ b. b ≡ if b true false) [ true ↦ refl | false ↦ refl ]
joined_from a (w ∷ ws) =
    joined_from (bit_or a w) ws
    ∙ rw (or_zero a w _ _ refl refl)
    (elim (eqb a 0) as (λ b. if (if b (eqb w 0) false) (not (has_left ws)) false ≡ if b (not (if (eqb w 0) (has_left ws) true)) false) [
      | true ↦ elim (eqb w 0) as (λ b. if b (not (has_left ws)) false ≡ not (if b (has_left ws) true)) [ true ↦ refl | false ↦ refl ]
      | false ↦ refl
    ])

pub joined_words : (ws : List ℕ) {a : ℕ} → a ≡ fold bit_or 0 ws → eqb a 0 ≡ not (has_left ws)
joined_words ws e = rw e (joined_from 0 ws)
