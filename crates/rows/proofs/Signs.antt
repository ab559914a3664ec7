-- The flags of a prefix are the signs of its counts: a letter more keeps a count and its sign at the same places, and a sum of
-- counts is above 0 exactly if that of their signs is.
use mathlib.Core.Bool.{Bool, true, false}
use mathlib.Core.List.{List, [], ◌∷◌, map, map-map}
use mathlib.Core.Path.{◌≡◌, refl, sym, ap, ◌∙◌}
use Prim.Native.Nat.{ℕ, zero, suc, ◌+◌, ◌-◌}
use native.Mathlib.Nat.{zero-add}
use native.Mathlib.Omega.{arith}
use lib.Dec.{leb}
use lib.ListN.{length, get_or, replicate, length-map}
use borrow.Author.Tests.{lt-ltb}
use Rattle.rules.proofs.Over.{map_agree}
use Rattle.rules.specs.Lists.{if, sign, run, sum}
use Rattle.rules.specs.Occurrence.{stands_by}
use Rattle.rules.specs.Template.{Part, Reading, span, deal}
use Rattle.rules.specs.declared.Component.{Component}
use Rattle.rows.specs.Flags.{kept_at, kept_flags, matched, ago, recent, near, reached, around, added, following, last_by, last_starts, last_ways}
use Rattle.rows.specs.NextLetter.{before_letter}

-- ---- one number

pub sign_some : (n : ℕ) → sign (suc n) ≡ 1
unfolding sign
sign_some n = rw (lt-ltb 0 (suc n) (omega arith))

pub sign_none : sign 0 ≡ 0
unfolding sign
sign_none = refl

sign_sign : (n : ℕ) → sign (sign n) ≡ sign n
sign_sign zero = rw (sign_none, sign_none)
sign_sign (suc n) = rw (sign_some n) (sign_some 0)

-- the sign of a sum, from those of what is added
sign_add : (a b : ℕ) → sign (a + b) ≡ sign (sign a + sign b)
sign_add zero b = rw (sign_none, zero-add b, zero-add (sign b)) (sym (sign_sign b))
sign_add (suc a) b =
    let e : suc a + b ≡ suc (a + b) = omega arith in
    let d : 1 + sign b ≡ suc (sign b) = omega arith in
    rw (e, sign_some (a + b), sign_some a, d, sign_some (sign b))

sign_sum : (f g : ℕ → ℕ) → ((d : ℕ) → f d ≡ sign (g d)) → (a n : ℕ) → sign (sum (map f (run a n))) ≡ sign (sum (map g (run a n)))
unfolding run sum
sign_sum f g h a zero = refl
sign_sum f g h a (suc n) =
    sign_add (f a) (sum (map f (run (suc a) n)))
    ∙ (rw (h a, sign_sign (g a), sign_sum f g h (suc a) n))
    ∙ sym (sign_add (g a) (sum (map g (run (suc a) n))))

sign_if : (b : Bool) (x : ℕ) → if b (sign x) 0 ≡ sign (if b x 0)
sign_if true x = refl
sign_if false x = sym sign_none

-- ---- a row

pub sign_at : (ks : List ℕ) (o : ℕ) → get_or (map sign ks) o 0 ≡ sign (get_or ks o 0)
sign_at [] o = sym sign_none
sign_at (k ∷ ks) zero = refl
sign_at (k ∷ ks) (suc o) = sign_at ks o

sign_kept : (f : ℕ → ℕ → Bool) (x j : ℕ) (s ks : List ℕ) → kept_flags f x j s (map sign ks) ≡ map sign (kept_flags f x j s ks)
unfolding kept_flags kept_at
sign_kept f x j s ks =
    map_agree _ _ 0 (length s)
    (λ o _ _. ap (λ (k : ℕ). if (stands_by f 0 (x ∷ []) s (suc (o + j))) k 0) (sign_at ks o) ∙ sign_if (stands_by f 0 (x ∷ []) s (suc (o + j))) (get_or ks o 0))
    ∙ sym (map-map sign (kept_at f x j s ks) (run 0 (length s)))

sign_matched : (f : ℕ → ℕ → Bool) (w : List ℕ) (j : ℕ) (s ks : List ℕ) → matched f w j s (map sign ks) ≡ map sign (matched f w j s ks)
unfolding matched
sign_matched f [] j s ks = refl
sign_matched f (x ∷ w) j s ks = ap (matched f w (suc j) s) (sign_kept f x j s ks) ∙ sign_matched f w (suc j) s (kept_flags f x j s ks)

sign_ago : (ks : List ℕ) (o d : ℕ) → ago (map sign ks) o d ≡ sign (ago ks o d)
unfolding ago
sign_ago ks o d = ap (λ (k : ℕ). if (leb d o) k 0) (sign_at ks (o - d)) ∙ sign_if (leb d o) (get_or ks (o - d) 0)

sign_near : (ks : List ℕ) (d n o : ℕ) → near (map sign ks) d n o ≡ sign (around ks d n o)
unfolding near recent
sign_near ks d n o = sign_sum (ago (map sign ks) o) (ago ks o) (sign_ago ks o) d n

pub sign_gap : (least most : ℕ) (ks : List ℕ) → reached least most (map sign ks) ≡ map sign (added least most ks)
unfolding reached added
sign_gap least most ks =
    ap (λ (n : ℕ). map (near (map sign ks) least (span least most)) (run 0 n)) (length-map ks sign)
    ∙ map_agree _ _ 0 (length ks) (λ o _ _. sign_near ks least (span least most) o)
    ∙ sym (map-map sign (around ks least (span least most)) (run 0 (length ks)))

-- ---- a prefix

sign_ones : (n : ℕ) → replicate n 1 ≡ map sign (replicate n 1)
sign_ones zero = refl
sign_ones (suc n) = rw (sign_some 0, ← (sign_ones n))

sign_following : (cs : List Part) (s ks : List ℕ) → following reached cs s (map sign ks) ≡ map sign (following added cs s ks)
unfolding following
sign_following [] s ks = refl
sign_following (c ∷ cs) s ks =
    ap (λ (l : List ℕ). following reached cs s (matched c.fits c.word 0 s l)) (sign_gap c.near c.far ks)
    ∙ ap (following reached cs s) (sign_matched c.fits c.word 0 s (added c.near c.far ks))
    ∙ sign_following cs s _

-- THE LAW. A flag is set where there is a way
pub starts_sign : (cs : List Part) (s : List ℕ) → last_starts cs s ≡ map sign (last_ways cs s)
unfolding last_by
starts_sign [] s = sign_ones (length s)
starts_sign (c ∷ cs) s =
    ap (λ (l : List ℕ). following reached cs s (matched c.fits c.word 0 s l)) (sign_ones (length s))
    ∙ ap (following reached cs s) (sign_matched c.fits c.word 0 s (replicate (length s) 1))
    ∙ sign_following cs s _

-- and before a letter
pub before_sign : (R : Reading) (cs : List Component) (k i : ℕ) (w s : List ℕ) → before_letter reached R cs k i w s ≡ map sign (before_letter added R cs k i w s)
unfolding before_letter
before_sign R cs k (suc i) w s = starts_sign (deal R 0 cs w) s
before_sign R cs zero zero w s = sign_ones (length s)
before_sign R cs (suc k) zero w s = ap (reached _ _) (starts_sign (deal R 0 cs w) s) ∙ sign_gap _ _ (last_ways (deal R 0 cs w) s)
