-- One number for each place of a sequence: flags, 1 where the last part of a prefix can start, those before it placed; or counts, in how
-- many ways they can be. Here is what a letter more and a gap make of them. What stands at o, from 0, is for position o + 1.
use Rattle.std.specs.Prelude.{Bool, true, false, List, [], ◌∷◌, ◌++◌, map, ℕ, suc, ◌+◌, ◌-◌, ◌^◌, eqb, leb, length, take, get_or, replicate}
use Rattle.rules.specs.Lists.{if, sign, run, sum}
use Rattle.rules.specs.Occurrence.{stands_by}
use Rattle.rules.specs.Template.{Part, span}

-- 1 of true
abbrev pub bit : Bool → ℕ
bit b = if b 1 0

-- A LETTER MORE. What stands at o, where the letter x fits what is j places on, and else 0: f says what a letter fits
unfoldable pub kept_at : (ℕ → ℕ → Bool) → ℕ → ℕ → List ℕ → List ℕ → ℕ → ℕ
kept_at f x j s ks o = if (stands_by f 0 (x ∷ []) s (suc (o + j))) (get_or ks o 0) 0

unfoldable pub kept_flags : (ℕ → ℕ → Bool) → ℕ → ℕ → List ℕ → List ℕ → List ℕ
kept_flags f x j s ks = map (kept_at f x j s ks) (run 0 (length s))

-- the letters w, the first of them j places on
unfoldable pub matched : (ℕ → ℕ → Bool) → List ℕ → ℕ → List ℕ → List ℕ → List ℕ
matched f [] j s ks = ks
matched f (x ∷ w) j s ks = matched f w (suc j) s (kept_flags f x j s ks)

-- No count is more than this. At most 256 ways for each of five gaps are 2 ^ 40; and where a gap is opened, a sum of 257 counts, each as
-- large as this, still fits 64 bits
abbrev pub count_most : ℕ
count_most = 2 ^ 48

-- A GAP. What stands d places before o; 0 where there is none
unfoldable pub ago : List ℕ → ℕ → ℕ → ℕ
ago ks o d = if (leb d o) (get_or ks (o - d) 0) 0

-- the sum of the n that stand d places before o and further back
unfoldable pub recent : List ℕ → ℕ → ℕ → ℕ → ℕ
recent ks o d n = sum (map (ago ks o) (run d n))

-- 1 where one of those is set
unfoldable pub near : List ℕ → ℕ → ℕ → ℕ → ℕ
near ks d n o = sign (recent ks o d n)

-- the flags of the places that lie least to most places after a set one
unfoldable pub reached : ℕ → ℕ → List ℕ → List ℕ
reached least most ks = map (near ks least (span least most)) (run 0 (length ks))

-- and the counts: those of all the places that reach one, added
abbrev pub around : List ℕ → ℕ → ℕ → ℕ → ℕ
around ks d n o = recent ks o d n

unfoldable pub added : ℕ → ℕ → List ℕ → List ℕ
added least most ks = map (around ks least (span least most)) (run 0 (length ks))

-- so far as a loop has written them that goes from the last place to the first: from o on what f says, and before it what was there
unfoldable pub back : (ℕ → ℕ) → ℕ → List ℕ → List ℕ
back f o l = take o l ++ map f (run o (length l - o))

-- A PREFIX, given as its parts, none of whose letters may fail to fit. G is what a gap does. From what there is for a part, what there
-- is for the last of those that follow it
unfoldable pub following : (ℕ → ℕ → List ℕ → List ℕ) → List Part → List ℕ → List ℕ → List ℕ
following G [] s ks = ks
following G (c ∷ cs) s ks = following G cs s (matched c.fits c.word 0 s (G c.near c.far ks))

-- and for the last of all parts: at first every place has one way
unfoldable pub last_by : (ℕ → ℕ → List ℕ → List ℕ) → List Part → List ℕ → List ℕ
last_by G [] s = replicate (length s) 1
last_by G (c ∷ cs) s = following G cs s (matched c.fits c.word 0 s (replicate (length s) 1))

-- THE ROW of a prefix in a sequence: where its last part can start, those before it placed
abbrev pub last_starts : List Part → List ℕ → List ℕ
last_starts = last_by reached

-- and how many occurrences have their last start there
abbrev pub last_ways : List Part → List ℕ → List ℕ
last_ways = last_by added

-- a flag is left
unfoldable pub has_left : List ℕ → Bool
has_left [] = false
has_left (k ∷ ks) = if (eqb k 0) (has_left ks) true

-- counts where flags are set, and else 0
unfoldable pub masked_at : List ℕ → List ℕ → ℕ → ℕ
masked_at ks vs o = if (eqb (get_or ks o 0) 0) 0 (get_or vs o 0)

unfoldable pub masked : List ℕ → List ℕ → List ℕ
masked ks vs = map (masked_at ks vs) (run 0 (length vs))
