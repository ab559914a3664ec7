-- What is left to print, at first and after a leg. Nothing here looks at the sequences.
use Rattle.std.specs.Prelude.{Bool, true, false, ℕ, ◌+◌, Option, Some, None}
use Rattle.rules.specs.Told.{Told, gives, refuses, refusal_number, refusal_place}
use Rattle.rules.specs.declared.Search.{Search}
use Rattle.motifs.specs.declared.pages.Left as declared
use Rattle.motifs.specs.declared.pages.Left.TheVariants as left
use Rattle.motifs.specs.declared.pages.Way.{Way}

-- the line of a refusal, by its number and place; the rows of a search and its end line; the end line; nothing
pub data Left : Type 0 where
  refusal : ℕ → ℕ → Left
  rows : Way → Left
  end : ℕ → ℕ → Left
  nothing : Left

-- what the program's own values say of it
abbrev pub told_left : declared.Left → Left
told_left (left.Refusal r) = refusal (refusal_number r) (refusal_place r)
told_left (left.Rows w) = rows w
told_left (left.End steps found) = end steps found

abbrev pub told_rest : Option declared.Left → Left
told_rest (Some l) = told_left l
told_rest None = nothing

abbrev pub has_more : Left → Bool
has_more (refusal n p) = true
has_more (rows w) = true
has_more (end steps found) = true
has_more nothing = false

-- the way of a search that has not been printed
abbrev pub unprinted : Search → Way
unprinted s = record { search = s; steps = 0; rows = 0 }

-- AT FIRST: what an input came to, a refusal or a search
abbrev pub opening : Told Search → Left
opening (gives s) = rows (unprinted s)
opening (refuses n p) = refusal n p

-- the way after so many steps and rows more, at another search
abbrev pub further : Way → ℕ → ℕ → Search → Way
further w steps found s = record { search = s; steps = w.steps + steps; rows = w.rows + found }

-- AFTER A LEG of so many steps and rows, which left the search s: if it ended the search, the end line
abbrev pub rows_or_end : Way → Bool → ℕ → ℕ → Search → Left
rows_or_end w true steps found s = end (w.steps + steps) (w.rows + found)
rows_or_end w false steps found s = rows (further w steps found s)
