-- An occurrence list has fewer than 2 ^ 57 rows: under one start each later part can follow in at most 256 ways, there are at
-- most five later parts, and no more starts than letters, of which there are at most 65,536.
use mathlib.Core.Path.{◌≡◌, refl, ap, ◌∙◌}
use mathlib.Core.Bool.{Bool, true, false}
use mathlib.Core.List.{List, [], ◌∷◌, map}
use Prim.Native.Nat.{ℕ, zero, suc, ◌+◌, ◌-◌, ◌*◌, ◌^◌, ◌≤◌, ◌<◌}
use native.Mathlib.Nat.{le_trans, pow-zero, pow-succ', pow-le-pow_right, mul-le-mul_right}
use native.Mathlib.Omega.{arith}
use lib.ListN.{length, get_or, take, drop, length-append, length-map, length-take, length-drop}
use lib.Seq.{get_or-take}
use Rattle.rules.specs.Letters.{value}
use Rattle.rules.specs.Lists.{if, each, sum}
use Rattle.rules.specs.Motif.{spell}
use Rattle.rules.specs.Occurrence.{found, reach, starts, occurrences, nth}
use Rattle.rules.specs.Profile.{Profile, profile_of}
use Rattle.rules.specs.Recovery.{whole_list}
use Rattle.rules.specs.Sequences.{split, sequences}
use Rattle.rules.specs.Sound.{SoundSet, SoundTemplate}
use Rattle.rules.specs.Support.{rows_from, occurrence_rows, parts, parts_in}
use Rattle.rules.specs.Template.{Part, Reading, none, span, slots, components, size, deal}
use Rattle.rules.specs.declared.Component.{Component}
use Rattle.rules.specs.declared.Template.{Template}
use Rattle.rules.proofs.Apart.{count_is}
use Rattle.rules.proofs.Lengths.{each_run}

-- ---- under one start

-- each part may start at no more than b places after the one before
abbrev pub Near : ℕ → List Part → Type 0
Near b cs = (i : ℕ) → i < length cs → (nth cs i).far + 1 - (nth cs i).near ≤ b

-- of parts that start at p, the k later ones can follow in at most b ^ k ways
pub starts_most : (b : ℕ) (c : Part) (cs : List Part) (s : List ℕ) → Near b (c ∷ cs) → (p : ℕ) → length (starts (c ∷ cs) s p) ≤ b ^ length cs
unfolding starts
starts_most b c [] s h p = rw pow-zero (go (found c s p))
  where
    go : (a : Bool) → length (if a ((p ∷ []) ∷ []) []) ≤ 1
    go true = omega arith
    go false = omega arith
starts_most b c (d ∷ ds) s h p = go (found c s p) (starts_most b d ds s (λ i l. h (suc i) (omega arith)))
  where
    later : List ℕ
    later = reach d.near d.far p

    few : ((q : ℕ) → length (starts (d ∷ ds) s q) ≤ b ^ length ds) → length (each (starts (d ∷ ds) s) later) ≤ (d.far + 1 - d.near) * b ^ length ds
    few ih = unfold reach in each_run (starts (d ∷ ds) s) (b ^ length ds) ih (p + d.near) (d.far + 1 - d.near)

    go : (a : Bool) → ((q : ℕ) → length (starts (d ∷ ds) s q) ≤ b ^ length ds) → length (if a (map (λ t. p ∷ t) (each (starts (d ∷ ds) s) later)) []) ≤ b ^ suc (length ds)
    go true ih = rw pow-succ' (omega (arith, length-map (each (starts (d ∷ ds) s) later) (λ t. p ∷ t), few ih, mul-le-mul_right (b ^ length ds) (h 1 (omega arith))))
    go false ih = omega arith

-- ---- the parts of a motif

pub deal_few : (R : Reading) (n : ℕ) (cs : List Component) (w : List ℕ) → length (deal R n cs w) ≤ length cs
unfolding deal
deal_few R n [] w = omega arith
deal_few R n (c ∷ cs) [] = omega arith
deal_few R n (c ∷ cs) (x ∷ w) = omega (arith, deal_few R c.length cs (drop c.length (x ∷ w)))

-- there are no more parts than components
pub parts_in_few : (P : Profile) (t : Template) (j m : ℕ) → length (parts_in P t j m) ≤ t.count
unfolding parts_in components
parts_in_few P t j m = omega (arith, deal_few P.reading 0 (take t.count (slots t)) (spell P.base j m), length-take t.count (slots t))

pub parts_few : (t : Template) (j m : ℕ) → length (parts t j m) ≤ t.count
parts_few t = parts_in_few (profile_of t) t

-- a part has as many as its component's range
deal_near : (R : Reading) (b n : ℕ) (cs : List Component) (w : List ℕ) → ((i : ℕ) → i < length cs → span (get_or cs i none).low (get_or cs i none).high ≤ b) → Near b (deal R n cs w)
unfolding deal
deal_near R b n [] w h i l = absurd (omega arith)
deal_near R b n (c ∷ cs) [] h i l = absurd (omega arith)
deal_near R b n (c ∷ cs) (x ∷ w) h zero l = omega (arith, h 0 (omega arith), count_is n c.low c.high)
deal_near R b n (c ∷ cs) (x ∷ w) h (suc i) l = deal_near R b c.length cs (drop c.length (x ∷ w)) (λ i k. h (suc i) (omega arith)) i (omega arith)

-- and so at most 256 positions
pub dealt_near : (R : Reading) (t : Template) → SoundTemplate t → (w : List ℕ) → Near 256 (deal R 0 (components t) w)
unfolding components
dealt_near R t sound w = deal_near R 256 0 (take t.count (slots t)) w few
  where
    few : (i : ℕ) → i < length (take t.count (slots t)) → span (get_or (take t.count (slots t)) i none).low (get_or (take t.count (slots t)) i none).high ≤ 256
    few i l = let k : i < t.count = omega (arith, length-take t.count (slots t)) in rw (get_or-take t.count (slots t) i none k) (omega (arith, (sound.each i k).near))

pub parts_in_near : (P : Profile) (t : Template) → SoundTemplate t → (j m : ℕ) → Near 256 (parts_in P t j m)
unfolding parts_in
parts_in_near P t sound j m = dealt_near P.reading t sound (spell P.base j m)

pub parts_near : (t : Template) → SoundTemplate t → (j m : ℕ) → Near 256 (parts t j m)
parts_near t = parts_in_near (profile_of t) t

-- ---- the sequences

-- a buffer is split into as many parts as there are lengths
pub split_count : (ns buffer : List ℕ) → length (split ns buffer) ≡ length ns
unfolding split
split_count [] buffer = refl
split_count (n ∷ ns) buffer = ap suc (split_count ns (drop n buffer))

-- each part of a buffer is as long as its length says, if it has letters enough
pub split_lengths : (ns buffer : List ℕ) → sum ns ≤ length buffer → map length (split ns buffer) ≡ ns
unfolding split sum
split_lengths [] buffer h = refl
split_lengths (n ∷ ns) buffer h =
    let k : length (take n buffer) ≡ n = omega (arith, length-take n buffer) in
    rw (k, split_lengths ns (drop n buffer) (omega (arith, length-drop n buffer)))

module _ (letters lengths : List ℕ) where
  -- there is a sequence for each length
  pub sequences_count : length (sequences letters lengths) ≡ length lengths
  unfolding sequences
  sequences_count = split_count lengths (map value letters)

  module _ (sound : SoundSet letters lengths) where
    -- of that length
    pub sequences_lengths : map length (sequences letters lengths) ≡ lengths
    unfolding sequences
    sequences_lengths = split_lengths lengths (map value letters) (omega (arith, sound.adds, length-map letters value))

    -- and they have all letters
    pub sequences_letters : sum (map length (sequences letters lengths)) ≡ length letters
    sequences_letters = ap sum sequences_lengths ∙ sound.adds

-- ---- the whole list

rows_most : (n : ℕ) (cs : List Part) → ((s : List ℕ) (p : ℕ) → length (starts cs s p) ≤ n) → (i : ℕ) (ss : List (List ℕ)) → length (rows_from i cs ss) ≤ sum (map length ss) * n
unfolding rows_from sum occurrences
rows_most n cs h i [] = omega arith
rows_most n cs h i (s ∷ ss) =
    omega
    (arith, length-append (map (λ t. i ∷ t) (occurrences cs s)) (rows_from (suc i) cs ss), length-map (occurrences cs s) (λ t. i ∷ t), each_run (starts cs s) n (h s) 1 (length s), rows_most n cs h (suc i) ss)

-- at most five parts after the first, each in at most 256 ways
few_starts : (cs : List Part) → length cs ≤ 6 → Near 256 cs → (s : List ℕ) (p : ℕ) → length (starts cs s p) ≤ 2 ^ 40
few_starts [] l h s p = unfold starts in omega arith
few_starts (c ∷ cs) l h s p = le_trans (starts_most 256 c cs s h p) (le_trans (pow-le-pow_right {n = 256} (omega arith) {j = 5} (omega arith)) (omega arith))

-- the length of a motif's occurrence list
pub list_bound : (t : Template) → SoundTemplate t → (letters lengths : List ℕ) → SoundSet letters lengths → (m : ℕ) → length (whole_list t (sequences letters lengths) m) < 2 ^ 57
unfolding whole_list occurrence_rows
list_bound t sound letters lengths set m =
    let cs : List Part = parts t (size t) m in
    let few : length cs ≤ 6 = omega (arith, parts_few t (size t) m, sound.few) in
    omega (arith, rows_most (2 ^ 40) cs (few_starts cs few (parts_near t sound (size t) m)) 1 (sequences letters lengths), sequences_letters letters lengths set, set.short)
