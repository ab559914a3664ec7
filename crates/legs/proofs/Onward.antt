-- The path goes on with the walk: under a frequent prefix its slot was written, and on the way up the slots of what is left stay.
use mathlib.Core.Bool.{Bool, true, false}
use mathlib.Core.List.{List}
use mathlib.Core.Path.{◌≡◌, refl}
use Prim.Native.Nat.{ℕ, ◌+◌, ◌*◌, ◌<◌}
use native.Mathlib.Decide.{dec_lt}
use native.Mathlib.Omega.{arith}
use Rattle.rules.specs.Profile.{base_of}
use Rattle.rules.specs.Support.{valid}
use Rattle.rules.specs.Template.{size}
use Rattle.rules.specs.Walk.{place, up, next}
use Rattle.rules.specs.declared.Place.{Place}
use Rattle.rules.specs.declared.Template.{Template}
use Rattle.matching.proofs.Slots.{path_up_in}
use Rattle.matching.specs.Path.{Path}
use Rattle.legs.proofs.Kind.{next_down, next_last, next_bad}
use Rattle.legs.specs.Kind.{walk_by}

module _ (t : Template) (ns l : List ℕ) (slots : List (List ℕ)) (good : ℕ → ℕ → Bool) (depth j m : ℕ) (here : Path t ns l slots j m) where
  goes_up : {q : Place} → next (walk_by t good depth) (place j m) ≡ q → next (walk_by t good depth) (place j m) ≡ up (walk_by t good depth) j m → Path t ns l slots q.letters q.number
  goes_up e u = rw (← e, u) (path_up_in t ns l slots (walk_by t good depth) refl j m here)

  -- the path to the next place
  pub path_next : {q : Place} → depth ≡ size t → valid t j m ≡ true → (good j m ≡ true → j < depth → Path t ns l slots (j + 1) (m * base_of t)) → next (walk_by t good depth) (place j m) ≡ q → Path t ns l slots q.letters q.number
  path_next {q} d v p e = go (good j m) refl
    where
      go : (b : Bool) → good j m ≡ b → Path t ns l slots q.letters q.number
      go false g = goes_up e (next_bad t good depth j m g)
      go true g =
          elim (dec_lt j depth) [
            | yes h ↦ rw (← e, next_down t good depth j m d h v g refl) (p g h)
            | no h ↦ goes_up e (next_last t good depth j m (omega arith))
          ]
