-- The path of a search: for each prefix of the place that has fewer letters what the next letter is added to, its row or that row with
-- the gap opened. They are kept from step to step in one table of rows, a slot for each number of letters.
use Rattle.std.specs.Prelude.{true, List, [], map, ◌≡◌, ℕ, ◌+◌, ◌-◌, ◌*◌, ◌/◌, ◌%◌, ◌^◌, ◌≤◌, ◌<◌, eqb, length, get_or}
use Rattle.rules.specs.Letters.{letter, value}
use Rattle.rules.specs.Limits.{letter_bases}
use Rattle.rules.specs.Motif.{spell}
use Rattle.rules.specs.Profile.{profile_of, base_of, stands_for}
use Rattle.rules.specs.Sound.{SoundSet}
use Rattle.rules.specs.Support.{parts}
use Rattle.rules.specs.Template.{none, size, components, distance}
use Rattle.rules.specs.declared.Template.{Template}
use Rattle.matching.specs.declared.made.Spot.{Spot}
use Rattle.rows.specs.Flags.{reached, last_starts}
use Rattle.rows.specs.NextLetter.{At, before_letter}
use Rattle.rows.specs.Rows.{ahead}
use Rattle.rows.specs.Set.{bits_at, lettered_at, lettered_on, Filled, Source}

-- slot i of a table of rows
abbrev pub row_slot : ℕ → List (List ℕ) → List ℕ
row_slot i rows = get_or rows i []

-- BY A TEMPLATE'S PROFILE. Where the last part of the prefix of j letters with the number m can start
abbrev pub prefix_starts : Template → ℕ → ℕ → List ℕ → List ℕ
prefix_starts t j m = last_starts (parts t j m)

-- what letter i of component k is added to after it, by G
abbrev pub before_next : (ℕ → ℕ → List ℕ → List ℕ) → Template → ℕ → ℕ → ℕ → ℕ → List ℕ → List ℕ
before_next G t k i j m = before_letter G (profile_of t).reading (components t) k i (spell (base_of t) j m)

-- ONE SLOT: what a letter is added to after the d letters with the number p
pub record Slot (t : Template) (ns l slot : List ℕ) (d p : ℕ) : Type 0 where
  pub held : (k o : ℕ) → At (components t) d k o → Source (before_next reached t k o d p) ns l slot

-- THE PATH to the candidate of j letters with the number m: in slot i what a letter is added to after the first i of them
pub record Path (t : Template) (ns l : List ℕ) (slots : List (List ℕ)) (j m : ℕ) : Type 0 where
  pub held_at : (i k o : ℕ) → i < j → At (components t) i k o → Source (before_next reached t k o i (m / base_of t ^ (j - i))) ns l (row_slot i slots)

-- WHAT IT IS MADE WITH, once in a leg. For each letter of a motif which component it belongs to, and its place there
abbrev pub spot : ℕ → ℕ → Spot
spot k i = record { component = k; letter = i }

pub record Inside (t : Template) (inside : List Spot) : Type 0 where
  pub long : size t ≤ length inside
  pub same : (d k i : ℕ) → At (components t) d k i → get_or inside d (spot 0 0) ≡ spot k i

-- the rows of the four letters of a sequence, by their bytes
pub record BaseRows (ns l : List ℕ) (bases : List (List ℕ)) : Type 0 where
  pub long : letter_bases ≤ length bases
  pub rows : (x : ℕ) → x < letter_bases → Filled (λ _. true) (lettered_at eqb (letter x) ns l) ns (row_slot x bases) (length ns)

-- a row made from them has a bit where a letter stands that x stands for, whatever sequences they are of
abbrev pub FromBases : List (List ℕ) → ℕ → List ℕ → Type 0
FromBases bases x row = (ns l : List ℕ) → SoundSet l ns → BaseRows ns l bases → Filled (λ _. true) (lettered_at stands_for x ns (map value l)) ns row (length ns)

-- the rows of a motif's letters, kept shifted for the first places of a component, a slot for each digit and each of these places, place
-- by place: a candidate then costs one AND for each word. For a later place a letter's row is shifted as it is used. They are kept for as
-- many places as the table has room for, at least one
abbrev pub kept_places : Template → List (List ℕ) → ℕ
kept_places t standing = length standing / base_of t

-- and of four letters for at most four, as in a leg. The code has the number as `SHIFTS`
abbrev pub letter_shifts : ℕ
letter_shifts = 4

pub record Letters (t : Template) (ns l : List ℕ) (standing : List (List ℕ)) : Type 0 where
  pub long : base_of t ≤ length standing
  pub rows : (x i : ℕ) → x < base_of t → i < kept_places t standing → Filled (λ _. true) (lettered_on i (profile_of t).reading.fits x ns (map value l)) ns (row_slot (i * base_of t + x) standing) (length ns)

-- a row that tests letter x for place i of its component, if it is shifted down by so many bits as it is used
pub record Tests (t : Template) (ns l : List ℕ) (x i : ℕ) (letter : List ℕ) (by : ℕ) : Type 0 where
  pub same : (k : ℕ) → k < length ns → ahead by (bits_at ns k letter) ≡ lettered_on i (profile_of t).reading.fits x ns (map value l) k

-- and one that tests the last letter of the j letters with the number m
abbrev pub TestsLast : Template → List ℕ → List ℕ → ℕ → ℕ → List ℕ → ℕ → Type 0
TestsLast t ns l j m letter by = (k i : ℕ) → At (components t) (j - 1) k i → Tests t ns l (m % base_of t) i letter by

-- how far a component's start may lie from that of the one before it, at least and at most
abbrev pub gap_near : Template → ℕ → ℕ
gap_near t k = distance (get_or (components t) (k - 1) none).length (get_or (components t) k none).low

abbrev pub gap_far : Template → ℕ → ℕ
gap_far t k = distance (get_or (components t) (k - 1) none).length (get_or (components t) k none).high
