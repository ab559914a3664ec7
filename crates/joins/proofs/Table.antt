-- A table that positions are written to, one after another: it holds those kept so far, and past them what was there.
use mathlib.Core.Path.{◌≡◌, refl, sym, ap, ◌∙◌}
use mathlib.Core.Bool.{Bool, true, false}
use mathlib.Core.List.{List, [], ◌∷◌, ◌++◌, append-nil}
use Prim.Native.Nat.{ℕ, ◌+◌, ◌≤◌, ◌<◌}
use native.Mathlib.Numerals.{add-one}
use native.Mathlib.Omega.{arith}
use lib.ListN.{length, take, get_or, set, length-append}
use lib.Seq.{take-suc, take_all, length-take-le}
use Rattle.rules.specs.Lists.{if, keep, put}
use Rattle.rules.proofs.Lists.{keep_append, keep_few}
use Rattle.rules.proofs.Tables.{put_more}

-- of the first i of a list n pass a test, and a table that was `out` holds these
pub record Kept (f : ℕ → Bool) (xs : List ℕ) (i : ℕ) (out table : List ℕ) (n : ℕ) : Type 0 where
  pub number : n ≡ length (keep f (take i xs))
  pub written : table ≡ put (keep f (take i xs)) out

module _ (f : ℕ → Bool) (xs : List ℕ) (i : ℕ) (out : List ℕ) where
  -- at first nothing is kept, and the table is as it was
  pub kept_none : Kept f xs 0 out out 0
  unfolding keep put
  kept_none = record { number = refl; written = refl }

  -- no more are kept than were looked at
  pub kept_few : {table : List ℕ} {n : ℕ} → Kept f xs i out table n → i ≤ length xs → n ≤ i
  kept_few k h = omega (arith, k.number, keep_few f (take i xs), length-take-le i xs h)

  -- of one position more, that one is kept or nothing
  one_more : (p : ℕ) → i < length xs → p ≡ get_or xs i 0 → keep f (take (i + 1) xs) ≡ keep f (take i xs) ++ if (f p) (p ∷ []) []
  unfolding keep
  one_more p h e = rw (add-one i, take-suc xs i 0 h, ← e) (keep_append f (take i xs) (p ∷ []))

  -- one position more: it is written after the others if it passes the test, and else nothing is
  pub kept_more : {table later : List ℕ} {n m p : ℕ} {b : Bool} → Kept f xs i out table n → i < length xs → length xs ≤ length out
      → p ≡ get_or xs i 0 → b ≡ f p → m ≡ if b (n + 1) n → later ≡ if b (set table n p) table → Kept f xs (i + 1) out later m
  kept_more {table} {later} {n} {m} {p} {b} k h room ep eb em el = go b (one_more p h ep ∙ ap (λ b. keep f (take i xs) ++ if b (p ∷ []) []) (sym eb)) em el
    where
      go : (b : Bool) → keep f (take (i + 1) xs) ≡ keep f (take i xs) ++ if b (p ∷ []) [] → m ≡ if b (n + 1) n → later ≡ if b (set table n p) table → Kept f xs (i + 1) out later m
      go true e em el =
          let l : length (keep f (take i xs)) < length out = omega (arith, keep_few f (take i xs), length-take-le i xs (omega arith)) in
          record { number = rw (e, length-append) (omega (arith, k.number)); written = rw e (el ∙ rw (k.written, k.number) (put_more (keep f (take i xs)) out p l)) }
      go false e em el = record { number = rw (e, append-nil) (em ∙ k.number); written = rw (e, append-nil) (el ∙ k.written) }

  -- past the end of the list, all that pass the test are kept
  pub kept_all : {table : List ℕ} {n : ℕ} → Kept f xs i out table n → length xs ≤ i → (n ≡ length (keep f xs)) × (table ≡ put (keep f xs) out)
  kept_all k h = (rw (take_all i xs h) at k.number, rw (take_all i xs h) at k.written)
