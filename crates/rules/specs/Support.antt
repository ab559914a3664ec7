-- What a set of sequences says of a motif: its support, the whole list of its occurrences, and its weighted support.
use Rattle.std.specs.Prelude.{Bool, true, ◌&&◌, List, [], ◌∷◌, ◌++◌, map, ℕ, zero, suc, ◌*◌, ◌^◌, leb, ltb, length}
use Rattle.rules.specs.Lists.{keep, has_some}
use Rattle.rules.specs.Motif.{spell}
use Rattle.rules.specs.Occurrence.{occurrences}
use Rattle.rules.specs.Profile.{Basis, by-sequence, by-occurrence, Profile, profile_of, allowed, to_come}
use Rattle.rules.specs.Template.{Part, components, deal}
use Rattle.rules.specs.declared.Template.{Template}

-- one mark for each sequence: whether the parts occur in it
unfoldable pub marks : List Part → List (List ℕ) → List Bool
marks cs ss = map (λ s. has_some (occurrences cs s)) ss

-- the support: the number of marks
unfoldable pub support : List Part → List (List ℕ) → ℕ
support cs ss = length (keep (λ b. b) (marks cs ss))

-- the rows of the sequences from number i on: the sequence's number, then the starts
unfoldable pub rows_from : ℕ → List Part → List (List ℕ) → List (List ℕ)
rows_from i cs [] = []
rows_from i cs (s ∷ ss) = map (λ t. i ∷ t) (occurrences cs s) ++ rows_from (suc i) cs ss

-- the whole occurrence list
unfoldable pub occurrence_rows : List Part → List (List ℕ) → List (List ℕ)
occurrence_rows cs ss = rows_from 1 cs ss

-- the weighted support: the length of that list, so that every occurrence in every sequence counts one
unfoldable pub weight : List Part → List (List ℕ) → ℕ
weight cs ss = length (occurrence_rows cs ss)

-- what is counted of a motif: the sequences in which it occurs, or its occurrences
abbrev pub counted : Basis → List Part → List (List ℕ) → ℕ
counted by-sequence cs ss = support cs ss
counted by-occurrence cs ss = weight cs ss

-- what a prefix may come to if the gaps still to come can be kept in n ways: a sequence is one still, an occurrence goes on in n
abbrev pub counted_with : Basis → List Part → ℕ → List (List ℕ) → ℕ
counted_with by-sequence cs n ss = counted by-sequence cs ss
counted_with by-occurrence cs n ss = counted by-occurrence cs ss * n

-- A SEARCH of a profile, over a template
module _ (P : Profile) (t : Template) where
  -- the letters of a motif, or of a prefix of j letters, with the number m are allowed
  unfoldable pub allowed_in : ℕ → ℕ → Bool
  allowed_in j m = allowed P.allows (components t) (spell P.base j m)

  -- m is the number of j such letters
  abbrev pub valid_in : ℕ → ℕ → Bool
  valid_in j m = ltb m (P.base ^ j) && allowed_in j m

  -- its parts
  unfoldable pub parts_in : ℕ → ℕ → List Part
  parts_in j m = deal P.reading 0 (components t) (spell P.base j m)

  -- what it may come to
  unfoldable pub measure : List (List ℕ) → ℕ → ℕ → ℕ
  measure ss j m = counted_with P.basis (parts_in j m) (to_come (components t) (spell P.base j m)) ss

-- a prefix is good if what it may come to reaches the quorum; the empty one always is
unfoldable pub reaches : (ℕ → ℕ → ℕ) → ℕ → ℕ → ℕ → Bool
reaches f quorum zero m = true
reaches f quorum (suc j) m = leb quorum (f (suc j) m)

-- the same of a template, by the profile that it asks for
abbrev pub valid : Template → ℕ → ℕ → Bool
valid t j m = valid_in (profile_of t) t j m

abbrev pub parts : Template → ℕ → ℕ → List Part
parts t j m = parts_in (profile_of t) t j m

abbrev pub frequent : Template → ℕ → List (List ℕ) → ℕ → ℕ → Bool
frequent t quorum ss j m = reaches (measure (profile_of t) t ss) quorum j m
