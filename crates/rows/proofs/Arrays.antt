-- What the type of an array of words says: each fits.
use mathlib.Core.List.{List, [], ◌∷◌}
use Prim.Native.Nat.{ℕ, zero, suc, ◌^◌, ◌<◌}
use native.Mathlib.Omega.{arith}
use lib.ListN.{get_or}
use mir.Syntax.{w64}
use mir.Val.{Val}
use denote.Shadow.{shadow}
use denote.Laws.{Is}
use denote.Plain.{UInt}
use denote.Array.{each, Array}

each_fits : (xs : List ℕ) (us : List Val) → shadow (each ℕ (UInt w64).own_val xs us) → (q : ℕ) → get_or xs q 0 < 2 ^ 64
each_fits [] us s q = omega arith
each_fits (x ∷ xs) [] s q = absurd s
each_fits (x ∷ xs) (u ∷ us) s zero = s.0.1
each_fits (x ∷ xs) (u ∷ us) s (suc q) = each_fits xs us s.1 q

module _ (xs : List ℕ) {n : ℕ} (t : (v : Val) × Is (Array (UInt w64) n) xs (v ∷ [])) where
  pub words_fit : (q : ℕ) → get_or xs q 0 < 2 ^ 64
  words_fit = each_fits xs t.1.0 t.1.1.1
