-- The row of a prefix has one number for each letter of the sequence, since a letter more and a gap keep the length.
use mathlib.Core.Bool.{Bool}
use mathlib.Core.List.{List, [], ◌∷◌}
use mathlib.Core.Path.{◌≡◌, ◌∙◌}
use Prim.Native.Nat.{ℕ, zero, suc}
use lib.ListN.{length, length-replicate}
use Rattle.rules.proofs.Over.{length_map_run}
use Rattle.rules.specs.Template.{Part, Reading, span, deal}
use Rattle.rules.specs.declared.Component.{Component}
use Rattle.rows.specs.Flags.{kept_at, kept_flags, matched, near, reached, around, added, following, last_by}
use Rattle.rows.specs.NextLetter.{before_letter}

-- a gap that keeps the length
abbrev pub Keeps : (ℕ → ℕ → List ℕ → List ℕ) → Type 0
Keeps G = (a b : ℕ) (ks : List ℕ) → length (G a b ks) ≡ length ks

pub length_reached : (a b : ℕ) (ks : List ℕ) → length (reached a b ks) ≡ length ks
unfolding reached
length_reached a b ks = length_map_run (near ks a (span a b)) 0 (length ks)

pub length_added : (a b : ℕ) (ks : List ℕ) → length (added a b ks) ≡ length ks
unfolding added
length_added a b ks = length_map_run (around ks a (span a b)) 0 (length ks)

pub length_kept : (f : ℕ → ℕ → Bool) (x j : ℕ) (s ks : List ℕ) → length (kept_flags f x j s ks) ≡ length s
unfolding kept_flags
length_kept f x j s ks = length_map_run (kept_at f x j s ks) 0 (length s)

pub length_matched : (f : ℕ → ℕ → Bool) (w : List ℕ) (j : ℕ) (s ks : List ℕ) → length ks ≡ length s → length (matched f w j s ks) ≡ length s
unfolding matched
length_matched f [] j s ks h = h
length_matched f (x ∷ w) j s ks h = length_matched f w (suc j) s (kept_flags f x j s ks) (length_kept f x j s ks)

module _ (G : ℕ → ℕ → List ℕ → List ℕ) (keeps : Keeps G) where
  pub length_following : (cs : List Part) (s ks : List ℕ) → length ks ≡ length s → length (following G cs s ks) ≡ length s
  unfolding following
  length_following [] s ks h = h
  length_following (c ∷ cs) s ks h = length_following cs s _ (length_matched c.fits c.word 0 s _ (keeps c.near c.far ks ∙ h))

  pub length_last : (cs : List Part) (s : List ℕ) → length (last_by G cs s) ≡ length s
  unfolding last_by
  length_last [] s = length-replicate (length s) 1
  length_last (c ∷ cs) s = length_following cs s _ (length_matched c.fits c.word 0 s _ (length-replicate (length s) 1))

  pub length_before_letter : (R : Reading) (cs : List Component) (k i : ℕ) (w s : List ℕ) → length (before_letter G R cs k i w s) ≡ length s
  unfolding before_letter
  length_before_letter R cs k (suc i) w s = length_last (deal R 0 cs w) s
  length_before_letter R cs zero zero w s = length-replicate (length s) 1
  length_before_letter R cs (suc k) zero w s = keeps _ _ _ ∙ length_last (deal R 0 cs w) s
