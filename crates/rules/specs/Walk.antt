-- The walk: which candidates a search visits, in which order, and what that comes to. It is stated over the base, over
-- which letter may follow, and over which prefix is good, so that every kind of search is one instance, by its profile.
use Rattle.std.specs.Prelude.{Bool, true, false, ◌&&◌, List, [], ◌∷◌, ◌++◌, map, ◌≡◌, ◌⊎◌, ℕ, zero, suc, ◌+◌, ◌-◌, ◌*◌, ◌/◌, ◌%◌, ◌^◌, ◌≤◌, ◌<◌, ltb, eqb, length}
use Rattle.rules.specs.Lists.{run, if, keep, each}
use Rattle.rules.specs.Profile.{Profile, profile_of}
use Rattle.rules.specs.Sequences.{sequences}
use Rattle.rules.specs.Support.{allowed_in, measure, reaches}
use Rattle.rules.specs.Template.{size}
use Rattle.rules.specs.declared.Place.{Place}
use Rattle.rules.specs.declared.Search.{Search}
use Rattle.rules.specs.declared.Template.{Template}

-- a place: how many letters the next candidate has, and its number
abbrev pub place : ℕ → ℕ → Place
place j m = record { letters = j; number = m }

-- an ended search stands here
abbrev pub ended_place : Place
ended_place = place 0 0

-- A, the first candidate
abbrev pub first_place : Place
first_place = place 1 0

-- what a walk is over. A prefix (j, m) is j letters, the digits of m in `base`, the first the highest
pub record Walk : Type 0 where
  pub base : ℕ
  -- the last letter of (j, m) may follow those before it
  pub may : ℕ → ℕ → Bool
  -- (j, m) is good: it may be a listed motif, or the start of one
  pub good : ℕ → ℕ → Bool
  -- a motif has so many letters
  pub depth : ℕ

-- the walk of a profile over a template
unfoldable pub walk_in : Profile → Template → ℕ → List (List ℕ) → Walk
walk_in P t quorum ss = record { base = P.base; may = allowed_in P t; good = reaches (measure P t ss) quorum; depth = size t }

-- THE WALK of what a template and a quorum ask of some sequences; and that of a search over a lent set
abbrev pub walk_over : Template → ℕ → List (List ℕ) → Walk
walk_over t quorum ss = walk_in (profile_of t) t quorum ss

abbrev pub walk_of : List ℕ → List ℕ → Search → Walk
walk_of letters lengths s = walk_over s.template s.quorum (sequences letters lengths)

-- what the laws ask of a walk: there are letters, and a motif has one; A may come first; the empty prefix is good, and every
-- prefix of a good one
pub record Lawful (W : Walk) : Type 0 where
  pub pos : 1 ≤ W.base
  pub lettered : 1 ≤ W.depth
  pub first : W.may 1 0 ≡ true
  pub root : W.good 0 0 ≡ true
  pub anti : (j m : ℕ) → W.good (suc j) m ≡ true → W.good j (m / W.base) ≡ true

-- the prefix of j letters that is the first of ns; where there is none, p
abbrev pub choose : Place → ℕ → List ℕ → Place
choose p j [] = p
choose p j (n ∷ ns) = place j n

module _ (W : Walk) where
  open W use {base, may, good, depth}

  -- (j, m) with one letter more, for each letter that may follow
  unfoldable pub children : ℕ → ℕ → List ℕ
  children j m = keep (may (suc j)) (run (m * base) base)

  -- (j, m) with a higher last letter, for each that may stand there
  unfoldable pub later : ℕ → ℕ → List ℕ
  later j m = keep (may j) (run (suc m) (base - suc (m % base)))

  -- THE ORDER. (j, m) and all candidates under it; up to `d` more letters follow
  unfoldable pub under : ℕ → ℕ → ℕ → List Place
  under zero j m = place j m ∷ []
  under (suc d) j m = let below = each (under d (suc j)) (children j m) in place j m ∷ if (good j m) below []

  -- what is left once all under (j, m) is done: the later siblings with all under them, then what is left above
  unfoldable pub onward : ℕ → ℕ → ℕ → List Place
  onward d zero m = []
  onward d (suc j) m = each (under d (suc j)) (later (suc j) m) ++ onward (suc d) j (m / base)

  -- all candidates from the place p on
  unfoldable pub from : Place → List Place
  from p = elim p.letters [ zero ↦ [] | suc j ↦ under (depth - suc j) (suc j) p.number ++ onward (depth - suc j) (suc j) p.number ]

  -- THE STEP. The way up: the last letter goes up to the next; where there is none it is dropped, and so on
  unfoldable pub up : ℕ → ℕ → Place
  up zero m = ended_place
  up (suc j) m = choose (up j (m / base)) (suc j) (later (suc j) m)

  -- the place after p: under a good prefix shorter than a motif its first child, and else the way up
  unfoldable pub next : Place → Place
  next p =
      if (ltb p.letters depth && good p.letters p.number)
      (choose (up p.letters p.number) (suc p.letters) (children p.letters p.number))
      (up p.letters p.number)

  -- where a search starts
  unfoldable pub start : Place
  start = choose ended_place 1 (children 0 0)

  -- a candidate that is listed: a good motif
  unfoldable pub motif : Place → Bool
  motif p = eqb p.letters depth && good p.letters p.number

  -- the numbers of those among some candidates
  unfoldable pub listed : List Place → List ℕ
  listed ps = map (λ p. p.number) (keep motif ps)

  -- WHAT IT COMES TO. Each letter of (j, m) may follow those before it
  unfoldable pub spelled : ℕ → ℕ → Bool
  spelled zero m = true
  spelled (suc j) m = may (suc j) m && spelled j (m / base)

  -- (j, m) is a candidate: its last letter may follow a good prefix one letter shorter
  unfoldable pub candidate : ℕ → ℕ → Bool
  candidate zero m = false
  candidate (suc j) m = may (suc j) m && (spelled j (m / base) && good j (m / base))

  -- the good motifs, rising
  unfoldable pub motifs : List ℕ
  motifs = keep (λ m. spelled depth m && good depth m) (run 0 (base ^ depth))

  -- how many candidates have at most k letters
  unfoldable pub tries : ℕ → ℕ
  tries zero = 0
  tries (suc k) = tries k + length (keep (candidate (suc k)) (run 0 (base ^ suc k)))

  -- how many prefixes of fewer than k letters are good
  unfoldable pub goods : ℕ → ℕ
  goods zero = 0
  goods (suc k) = goods k + length (keep (good k) (run 0 (base ^ k)))

-- p is a candidate
pub record Candidate (W : Walk) (p : Place) : Type 0 where
  pub most : p.letters ≤ W.depth
  pub below : p.number < W.base ^ p.letters
  pub is : candidate W p.letters p.number ≡ true

-- a place that the uninterrupted search passes through: a candidate, or the ended place
abbrev pub Passing : Walk → Place → Type 0
Passing W p = (p ≡ ended_place) ⊎ Candidate W p
