-- The tables of a leg's loop over one turn: they keep their lengths, a listed motif's path and row are those of its candidate, and once
-- that is examined the slots hold the path to the next place.
use mathlib.Core.Bool.{Bool, true, ◌&&◌}
use mathlib.Core.List.{List}
use mathlib.Core.Path.{◌≡◌, sym, ◌∙◌}
use Prim.Native.Nat.{ℕ, ◌+◌, ◌*◌, ◌^◌, ◌<◌}
use lib.Dec.{eqb}
use borrow.Author.Tests.{eqb-true}
use Rattle.rules.proofs.Tests.{both}
use Rattle.std.proofs.lemmas.Option.{none-some}
use Rattle.std.specs.Prelude.{None}
use Rattle.rules.specs.Profile.{base_of}
use Rattle.rules.specs.Support.{valid}
use Rattle.rules.specs.Template.{size}
use Rattle.rules.specs.Walk.{next}
use Rattle.rules.specs.declared.Place.{Place}
use Rattle.rules.specs.declared.Template.{Template}
use Rattle.matching.specs.Path.{Path}
use Rattle.matching.specs.Weights.{Counted}
use Rattle.legs.proofs.Onward.{path_next}
use Rattle.legs.specs.Kind.{walk_by}

-- at first no ways are counted
pub none_counted : (t : Template) (ns l ways : List ℕ) → Counted t ns l None ways
none_counted t ns l ways = record { leads = λ p e. absurd (none-some p e) }

-- a listed candidate has all letters of a motif
pub hit_whole : (j depth : ℕ) (good : Bool) {hit : Bool} → hit ≡ (eqb j depth && good) → hit ≡ true → j ≡ depth
hit_whole j depth good e h = eqb-true j depth ((both (eqb j depth) good).0 (sym e ∙ h)).0

-- where a candidate has all letters of a motif, its number, the path to it and its row are those of the motif
pub below_whole : (base j m : ℕ) {depth : ℕ} → j ≡ depth → m < base ^ j → m < base ^ depth
below_whole base j m e h = rw (← e) h

-- and it goes on to the next place
pub path_on : (t : Template) (ns l : List ℕ) (p : Place) {slots : List (List ℕ)} (depth : ℕ) (good : ℕ → ℕ → Bool) {q : Place}
    → depth ≡ size t → valid t p.letters p.number ≡ true → Path t ns l slots p.letters p.number → (good p.letters p.number ≡ true → p.letters < depth → Path t ns l slots (p.letters + 1) (p.number * base_of t))
    → next (walk_by t good depth) p ≡ q → Path t ns l slots q.letters q.number
path_on t ns l p {slots = slots} depth good d v path m e = path_next t ns l slots good depth p.letters p.number path d v m e
