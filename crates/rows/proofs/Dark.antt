-- Where no flag is left, a letter more and a gap leave none.
use mathlib.Core.Bool.{Bool, true, false, false≢true}
use mathlib.Core.List.{List, [], ◌∷◌, map}
use mathlib.Core.Path.{◌≡◌, refl, sym, ap, ◌∙◌}
use Prim.Native.Nat.{ℕ, zero, suc, ◌+◌, ◌-◌}
use native.Mathlib.Nat.{zero-add}
use lib.Dec.{eqb, leb}
use lib.ListN.{length, get_or}
use borrow.Author.Tests.{eq-eqb, eqb-true}
use Rattle.rules.specs.Lists.{if, sign, run, sum}
use Rattle.rules.specs.Occurrence.{stands_by}
use Rattle.rows.specs.Flags.{ago, recent, near, reached, has_left}
use Rattle.rows.specs.Flags.{kept_at, kept_flags}

pub none_set : (ks : List ℕ) → has_left ks ≡ false → (p : ℕ) → get_or ks p 0 ≡ 0
unfolding has_left
none_set [] e p = refl
none_set (k ∷ ks) e p = go (eqb k 0) refl (λ q. none_set ks q) p
  where
    go : (b : Bool) → eqb k 0 ≡ b → (has_left ks ≡ false → (p : ℕ) → get_or ks p 0 ≡ 0) → (p : ℕ) → get_or (k ∷ ks) p 0 ≡ 0
    go true f r zero = eqb-true k 0 f
    go true f r (suc p) = r (sym (ap (λ (b : Bool). if b (has_left ks) true) f) ∙ e) p
    go false f r p = absurd (false≢true (sym e ∙ ap (λ (b : Bool). if b (has_left ks) true) f))

none_left : (f : ℕ → ℕ) (a n : ℕ) → ((i : ℕ) → f i ≡ 0) → has_left (map f (run a n)) ≡ false
unfolding has_left run
none_left f a zero h = refl
none_left f a (suc n) h = rw (eq-eqb (f a) 0 (h a)) (none_left f (suc a) n h)

pub same_zero : (b : Bool) → ◌≡◌ {A = ℕ} (if b 0 0) 0
same_zero true = refl
same_zero false = refl

module _ (ks : List ℕ) (e : has_left ks ≡ false) where
  pub kept_dark : (f : ℕ → ℕ → Bool) (x i : ℕ) (s : List ℕ) → has_left (kept_flags f x i s ks) ≡ false
  unfolding kept_flags
  kept_dark f x i s = none_left (kept_at f x i s ks) 0 (length s) one
    where
      one : (o : ℕ) → kept_at f x i s ks o ≡ 0
      one o = unfold kept_at in rw (none_set ks e o) (same_zero (stands_by f 0 (x ∷ []) s (suc (o + i))))

  ago_dark : (o d : ℕ) → ago ks o d ≡ 0
  unfolding ago
  ago_dark o d = rw (none_set ks e (o - d)) (same_zero (leb d o))

  recent_dark : (o d n : ℕ) → recent ks o d n ≡ 0
  unfolding recent run sum
  recent_dark o d zero = refl
  recent_dark o d (suc n) = rw (ago_dark o d, zero-add) (recent_dark o (suc d) n)

  near_dark : (d n o : ℕ) → near ks d n o ≡ 0
  unfolding near sign
  near_dark d n o = ap sign (recent_dark o d n)

  pub reached_dark : (a b : ℕ) → has_left (reached a b ks) ≡ false
  unfolding reached
  reached_dark a b = none_left (near ks a (b + 1 - a)) 0 (length ks) (near_dark a (b + 1 - a))
