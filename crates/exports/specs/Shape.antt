-- A template as numbers: its profile, its components, its shape, which is length, low and high of each slot in turn, and the allowance
-- of each slot.
use Rattle.std.specs.Prelude.{List, [], ◌∷◌, map, ℕ, ◌+◌, length, take, get_or}
use Rattle.rules.specs.Lists.{each, put}
use Rattle.rules.specs.Profile.{numbered_profile}
use Rattle.rules.specs.Template.{component, allowing, slots}
use Rattle.rules.specs.declared.Component.{Component}
use Rattle.rules.specs.declared.Template.{Template}

-- the slot whose numbers stand from index i on. A number past the shape's end is 0
unfoldable pub slot_at : List ℕ → ℕ → Component
slot_at shape i = component (get_or shape i 0) (get_or shape (i + 1) 0) (get_or shape (i + 2) 0)

-- the template of a profile, so many components, a shape and allowances
unfoldable pub shaped_template : ℕ → ℕ → List ℕ → List ℕ → Template
shaped_template profile components shape allowances = record {
  profile = numbered_profile profile;
  count = components;
  c1 = allowing (get_or allowances 0 0) (slot_at shape 0);
  c2 = allowing (get_or allowances 1 0) (slot_at shape 3);
  c3 = allowing (get_or allowances 2 0) (slot_at shape 6);
  c4 = allowing (get_or allowances 3 0) (slot_at shape 9);
  c5 = allowing (get_or allowances 4 0) (slot_at shape 12);
  c6 = allowing (get_or allowances 5 0) (slot_at shape 15);
}

-- the shape of a template
abbrev pub numbers : Component → List ℕ
numbers c = c.length ∷ c.low ∷ c.high ∷ []

unfoldable pub shape_of : Template → List ℕ
shape_of t = each numbers (slots t)

-- and its allowances
unfoldable pub allowances_of : Template → List ℕ
allowances_of t = map (λ c. c.allowance) (slots t)

-- what a table holds once a list has been written to its front, as much of it as there is room for
unfoldable pub fill : List ℕ → List ℕ → List ℕ
fill xs table = put (take (length table) xs) table
