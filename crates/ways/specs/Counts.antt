-- What the passes over one sequence compute: for each position, in how many ways the parts from one on can stand from there.
use Rattle.std.specs.Prelude.{Bool, List, map, ℕ, zero, suc, ◌+◌, ◌-◌, ◌^◌, length, drop, get_or}
use Rattle.rules.specs.Limits.{template_components, template_gap}
use Rattle.rules.specs.Lists.{run, if, sum}
use Rattle.rules.specs.Letters.{value}
use Rattle.rules.specs.Occurrence.{stands_by, ways}
use Rattle.rules.specs.Profile.{has_base}
use Rattle.rules.specs.Template.{Part, Reading, deal}
use Rattle.rules.specs.declared.Component.{Component}
use Rattle.rules.specs.declared.Distances.{Distances}

-- THE COUNTS. For each position of s, the number of occurrences of the parts that start there: those of
-- A, then A after a gap of 0 to 1, in AAA are 2, 1, 0
unfoldable pub counts : List Part → List ℕ → List ℕ
counts cs s = map (ways cs s) (run 1 (length s))

-- from one start, at most so many: each later part starts at one of at most GAP + 1 distances
abbrev pub most_ways : ℕ
most_ways = (template_gap + 1) ^ (template_components - 1)

-- A PASS. What a list of counts has for a position; 0 where it has none
unfoldable pub at_position : List ℕ → ℕ → ℕ
at_position l zero = 0
at_position l (suc o) = get_or l o 0

-- the letters w, each given by the bases that it stands for, stand in the bytes s at a position
abbrev pub fits_byte : ℕ → ℕ → Bool
fits_byte set b = has_base set (value b)

abbrev pub stands_in_bytes : List ℕ → List ℕ → ℕ → Bool
stands_in_bytes w s p = stands_by fits_byte 0 w s p

-- v where they do, and else 0
unfoldable pub cell : List ℕ → List ℕ → ℕ → ℕ → ℕ
cell w s p v = if (stands_in_bytes w s p) v 0

-- the ways of the last part
unfoldable pub ending : List ℕ → List ℕ → ℕ → ℕ
ending w s p = cell w s p 1

-- the ways of a part and those after it, from the counts of those: the sum over all positions where the next may start
unfoldable pub leading : List ℕ → Distances → List ℕ → List ℕ → ℕ → ℕ
leading w apart s later p = cell w s p (sum (map (at_position later) (run (p + apart.near) apart.count)))

-- THE LETTERS. How many letters some components take
unfoldable pub letters_taken : List Component → ℕ
letters_taken cs = sum (map (λ c. c.length) cs)

-- a letter is read as the bases that it stands for
abbrev pub by_bases : Reading
by_bases = record { fits = fits_byte; slack = λ c. 0 }

-- the parts that they are if their letters are the last of w, with none before them
unfoldable pub aligned : List Component → List ℕ → List Part
aligned cs w = deal by_bases 0 cs (drop (length w - letters_taken cs) w)
