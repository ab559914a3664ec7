-- A lower quorum loses nothing: the old list is what the old rule keeps of the new one, and the steps are no fewer. Of any walk
-- with a wider rule, and so of every kind of search. More sequences at the end lose nothing where sequences are counted.
use mathlib.Core.Path.{◌≡◌, refl, sym, ap, ◌∙◌}
use mathlib.Core.Bool.{Bool, true, false, ◌&&◌, false≢true}
use mathlib.Core.List.{List, ◌++◌, map-append}
use Prim.Native.Nat.{ℕ, zero, suc, ◌+◌, ◌/◌, ◌^◌, ◌≤◌}
use native.Mathlib.Omega.{arith}
use lib.ListN.{length-append}
use borrow.Author.Tests.{leb-true, le-leb}
use Rattle.rules.specs.Lists.{run, keep}
use Rattle.rules.specs.Profile.{Basis, by-sequence, by-occurrence, Profile}
use Rattle.rules.specs.Support.{counted_with, reaches, measure, parts_in, marks, support}
use Rattle.rules.specs.Template.{Part, size}
use Rattle.rules.specs.Walk.{walk_in, Walk, spelled, candidate, motifs, tries}
use Rattle.rules.specs.declared.Template.{Template}
use Rattle.rules.proofs.Lists.{keep_append, keep_keep, keep_same, keep_wider}

-- a walk with another rule of which prefixes are good
abbrev pub ruled : Walk → (ℕ → ℕ → Bool) → Walk
ruled W g = record { base = W.base; may = W.may; good = g; depth = W.depth }

module _ (W : Walk) (g : ℕ → ℕ → Bool) (wider : (j m : ℕ) → g j m ≡ true → W.good j m ≡ true) where
  spelled_same : (j m : ℕ) → spelled (ruled W g) j m ≡ spelled W j m
  unfolding spelled
  spelled_same zero m = refl
  spelled_same (suc j) m = ap (λ b. W.may (suc j) m && b) (spelled_same j (m / W.base))

  -- the old list is what the old rule keeps of the new
  pub motifs_kept : motifs (ruled W g) ≡ keep (g W.depth) (motifs W)
  unfolding motifs
  motifs_kept = keep_same _ _ 0 (W.base ^ W.depth) (λ m h l. rw (spelled_same W.depth m) (go (spelled W W.depth m) (W.good W.depth m) (g W.depth m) (wider W.depth m)))
      ∙ sym (keep_keep (g W.depth) (λ m. spelled W W.depth m && W.good W.depth m) (run 0 (W.base ^ W.depth)))
    where
      go : (a b c : Bool) → (c ≡ true → b ≡ true) → a && c ≡ (a && b) && c
      go false b c h = refl
      go true true c h = refl
      go true false true h = absurd (false≢true (h refl))
      go true false false h = refl

  -- and the steps are no fewer
  pub tries_fewer : (k : ℕ) → tries (ruled W g) k ≤ tries W k
  unfolding tries candidate
  tries_fewer zero = omega arith
  tries_fewer (suc k) = omega (arith, tries_fewer k, keep_wider (candidate (ruled W g) (suc k)) (candidate W (suc k)) each (run 0 (W.base ^ suc k)))
    where
      go : (a b c d : Bool) → (c ≡ true → d ≡ true) → a && (b && c) ≡ true → a && (b && d) ≡ true
      go true true true d h e = h refl
      go true true false d h e = absurd (false≢true e)
      go true false c d h e = e
      go false b c d h e = e

      each : (n : ℕ) → candidate (ruled W g) (suc k) n ≡ true → candidate W (suc k) n ≡ true
      each n e = go (W.may (suc k) n) (spelled W k (n / W.base)) (g k (n / W.base)) (W.good k (n / W.base)) (wider k (n / W.base)) (rw (spelled_same k (n / W.base)) at e)

-- ---- every kind of search

reaches_wider : (f g : ℕ → ℕ → ℕ) (q r : ℕ) → r ≤ q → ((j m : ℕ) → f j m ≤ g j m) → (j m : ℕ) → reaches f q j m ≡ true → reaches g r j m ≡ true
unfolding reaches
reaches_wider f g q r h l zero m e = refl
reaches_wider f g q r h l (suc j) m e = le-leb r _ (omega (arith, leb-true q _ e, l (suc j) m))

pub support_append : (cs : List Part) (ss ts : List (List ℕ)) → support cs (ss ++ ts) ≡ support cs ss + support cs ts
unfolding support marks
support_append cs ss ts = rw (map-append, keep_append, length-append)

counted_more : (a : Basis) → a ≡ by-sequence → (cs : List Part) (n : ℕ) (ss ts : List (List ℕ)) → counted_with a cs n ss ≤ counted_with a cs n (ss ++ ts)
counted_more by-sequence e cs n ss ts = omega (arith, support_append cs ss ts)
counted_more by-occurrence e cs n ss ts = let z : false ≡ true = cc in absurd (false≢true z)

module _ (P : Profile) (t : Template) (q r : ℕ) (lower : r ≤ q) (ss : List (List ℕ)) where
  pub lower_lists : motifs (walk_in P t q ss) ≡ keep (reaches (measure P t ss) q (size t)) (motifs (walk_in P t r ss))
  unfolding walk_in
  lower_lists = motifs_kept (walk_in P t r ss) _ (reaches_wider _ _ q r lower (λ j m. omega arith))

  pub lower_steps : tries (walk_in P t q ss) (size t) ≤ tries (walk_in P t r ss) (size t)
  unfolding walk_in
  lower_steps = tries_fewer (walk_in P t r ss) _ (reaches_wider _ _ q r lower (λ j m. omega arith)) (size t)

  -- with more sequences at the end, where sequences are what is counted
  module _ (by : P.basis ≡ by-sequence) (ts : List (List ℕ)) where
    measure_more : (j m : ℕ) → measure P t ss j m ≤ measure P t (ss ++ ts) j m
    unfolding measure
    measure_more j m = counted_more P.basis by (parts_in P t j m) _ ss ts

    pub longer_lists : motifs (walk_in P t q ss) ≡ keep (reaches (measure P t ss) q (size t)) (motifs (walk_in P t r (ss ++ ts)))
    unfolding walk_in
    longer_lists = motifs_kept (walk_in P t r (ss ++ ts)) _ (reaches_wider _ _ q r lower measure_more)
