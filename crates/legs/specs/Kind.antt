-- The walk of a template's kind of search, whatever is frequent; and how the last letter of a candidate goes up in it.
use Rattle.std.specs.Prelude.{Bool, ◌≡◌, ℕ, suc}
use Rattle.rules.specs.Lists.{if}
use Rattle.rules.specs.Profile.{profile_of, base_of}
use Rattle.rules.specs.Support.{allowed_in}
use Rattle.rules.specs.Walk.{Walk, place, choose, later}
use Rattle.rules.specs.declared.Place.{Place}
use Rattle.rules.specs.declared.Template.{Template}

abbrev pub walk_by : Template → (ℕ → ℕ → Bool) → ℕ → Walk
walk_by t good depth = record { base = base_of t; may = allowed_in (profile_of t) t; good = good; depth = depth }

-- the candidate goes up to the next number if it rises, and has no later sibling else
abbrev pub Rises : Walk → ℕ → ℕ → Bool → Type 0
Rises W j m rises = (p : Place) → choose p j (later W j m) ≡ if rises (place j (suc m)) p
