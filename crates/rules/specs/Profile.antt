-- The kinds of search, as instances of one: how a motif's letters are read, which letters a component may have, and what
-- must reach the quorum. `exactly`, `repeated`, `substituted` and `mixed` are ours, and `profile_by` says which one is asked for.
use Rattle.std.specs.Prelude.{Bool, true, ◌&&◌, List, [], ◌∷◌, ◌++◌, map, ◌≡◌, ℕ, ◌*◌, ◌/◌, ◌%◌, ◌^◌, ◌≤◌, leb, ltb, eqb, length, take, drop, get_or}
use Rattle.rules.specs.Letters.{A, C, G, T}
use Rattle.rules.specs.Limits.{letter_bases, letter_symbols, letter_digits, profile_exact, profile_mixed, template_letters, template_mixed}
use Rattle.rules.specs.Lists.{if, keep, all_pass, is_member, sum}
use Rattle.rules.specs.Template.{Reading, literal, span}
use Rattle.rules.specs.declared.Component.{Component}
use Rattle.rules.specs.declared.Profile as declared
use Rattle.rules.specs.declared.Profile.TheVariants.{Exact, Mixed}
use Rattle.rules.specs.declared.Template.{Template}

-- what must reach the quorum: the sequences in which a motif occurs, or its occurrences
pub data Basis : Type 0 where
  by-sequence by-occurrence : Basis

pub record Profile : Type 0 where
  -- the base of a motif's number
  pub base : ℕ
  -- a motif has at most so many letters
  pub most : ℕ
  -- which letter of a sequence a letter of a motif fits, and how many of a component's may fail to
  pub reading : Reading
  -- some letters may be the first of a component
  pub allows : Component → List ℕ → Bool
  -- what is counted of it
  pub basis : Basis

-- the letters of a motif, or of a prefix, are allowed, component by component
unfoldable pub allowed : (Component → List ℕ → Bool) → List Component → List ℕ → Bool
allowed f [] w = true
allowed f (c ∷ cs) [] = true
allowed f (c ∷ cs) (x ∷ w) = f c (take c.length (x ∷ w)) && allowed f cs (drop c.length (x ∷ w))

-- the spans of the gaps still to come after the letters w, multiplied. That of the first component's range, 0 to 0, is 1
unfoldable pub to_come : List Component → List ℕ → ℕ
to_come [] w = 1
to_come (c ∷ cs) [] = span c.low c.high * to_come cs []
to_come (c ∷ cs) (x ∷ w) = to_come cs (drop c.length (x ∷ w))

-- the number of each, as it is saved, and the one that has a number: 1 is mixed, and every other exact
abbrev pub profile_number : declared.Profile → ℕ
profile_number Exact = profile_exact
profile_number Mixed = profile_mixed

abbrev pub numbered_profile : ℕ → declared.Profile
numbered_profile n = if (eqb n profile_mixed) Mixed Exact

-- what the laws ask of a profile
pub record Proper (P : Profile) : Type 0 where
  -- there are letters
  pub pos : 1 ≤ P.base
  -- a motif has no more than a template may have, and its number fits eight bytes
  pub short : P.most ≤ template_letters
  pub wide : P.base ^ P.most ≤ 256 ^ 8
  -- A may come first; and where some letters are allowed, so are those before the last of them
  pub none : (c : Component) → P.allows c [] ≡ true
  pub first : (c : Component) → P.allows c (0 ∷ []) ≡ true
  pub closed : (c : Component) (w : List ℕ) (y : ℕ) → P.allows c (w ++ (y ∷ [])) ≡ true → P.allows c w ≡ true

-- THE PROFILES. Over four letters, each of which may follow any
abbrev pub four_letters : Reading → Basis → Profile
four_letters R a = record { base = letter_bases; most = template_letters; reading = R; allows = λ c w. true; basis = a }

-- each fits itself alone, and sequences are counted
unfoldable pub exactly : Profile
exactly = four_letters literal by-sequence

-- the same, but occurrences are counted
unfoldable pub repeated : Profile
repeated = four_letters literal by-occurrence

-- the same as `exactly`, but e of a component's letters may be others
unfoldable pub substituted : (Component → ℕ) → Profile
substituted e = four_letters (record { fits = eqb; slack = e }) by-sequence

-- the bases that each letter stands for, by its place in the order A C G T, R Y K M S W, B D H V
unfoldable pub bases : List (List ℕ)
bases =
    (A ∷ []) ∷ (C ∷ []) ∷ (G ∷ []) ∷ (T ∷ [])
    ∷ (A ∷ G ∷ []) ∷ (C ∷ T ∷ []) ∷ (G ∷ T ∷ []) ∷ (A ∷ C ∷ []) ∷ (C ∷ G ∷ []) ∷ (A ∷ T ∷ [])
    ∷ (C ∷ G ∷ T ∷ []) ∷ (A ∷ G ∷ T ∷ []) ∷ (A ∷ C ∷ T ∷ []) ∷ (A ∷ C ∷ G ∷ [])
    ∷ []

-- the letter x of a motif stands for the base y
unfoldable pub stands_for : ℕ → ℕ → Bool
stands_for x y = is_member y (get_or bases x [])

-- a base set in one number: 1 for A, 2 for C, 4 for G, 8 for T, added. The code has the table so
unfoldable pub base_sets : List ℕ
base_sets = map (λ ys. sum (map (λ y. 2 ^ y) ys)) bases

-- such a set has the base y
unfoldable pub has_base : ℕ → ℕ → Bool
has_base set y = eqb (set / 2 ^ y % 2) 1

-- how many of some letters stand for several bases
unfoldable pub several : List ℕ → ℕ
several w = length (keep (leb letter_bases) w)

-- fourteen letters, of which a component may have so many that do
unfoldable pub within : (Component → ℕ) → Component → List ℕ → Bool
within allowance c w = all_pass (λ x. ltb x letter_symbols) w && leb (several w) (allowance c)

unfoldable pub mixed : (Component → ℕ) → Profile
mixed allowance = record { base = letter_digits; most = template_mixed; reading = record { fits = stands_for; slack = λ c. 0 }; allows = within allowance; basis = by-sequence }

-- THE PROFILE of a template: the one place that says which kind of search it asks for
unfoldable pub profile_by : declared.Profile → Profile
profile_by Exact = exactly
profile_by Mixed = mixed (λ c. c.allowance)

abbrev pub profile_of : Template → Profile
profile_of t = profile_by t.profile

abbrev pub base_of : Template → ℕ
base_of t = (profile_of t).base
