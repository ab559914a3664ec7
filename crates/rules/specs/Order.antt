-- The order of rows and of places: what it means that a list has each row once and in order, and that it has each place once.
use mathlib.Core.List.{List, [], ◌∷◌, Memᴰ}
use Rattle.std.specs.Prelude.{ℕ, ◌<◌}
use Rattle.rules.specs.declared.Place.{Place}

-- a row comes before another if it has the smaller number at the first place where they differ
pub data Before : List ℕ → List ℕ → Type 0 where
  here : {x y : ℕ} {xs ys : List ℕ} → x < y → Before (x ∷ xs) (y ∷ ys)
  there : {x : ℕ} {xs ys : List ℕ} → Before xs ys → Before (x ∷ xs) (x ∷ ys)

-- each row of a list comes before all that follow it, so that no row stands twice
abbrev pub InOrder : List (List ℕ) → Type 0
InOrder [] = Unit {0}
InOrder (r ∷ rs) = ((q : List ℕ) → Memᴰ q rs → Before r q) × InOrder rs

-- the same of numbers: a list that rises strictly
abbrev pub Rising : List ℕ → Type 0
Rising [] = Unit {0}
Rising (x ∷ xs) = ((y : ℕ) → Memᴰ y xs → x < y) × Rising xs

-- no place stands in a list twice: none is among those that follow it
abbrev pub Once : List Place → Type 0
Once [] = Unit {0}
Once (p ∷ ps) = (Memᴰ p ps → ⊥) × Once ps
