-- What is said of a refusal, in the paper's words. The checks of Refusals.antt are tests; here stand the sentences that they
-- test, about the numbers, bytes and candidates themselves. EachRefusal.antt states that each check says its sentence.
use Rattle.std.specs.Prelude.{◌⊎◌, ◌↔◌, List, map, ◌≡◌, ℕ, suc, ◌+◌, ◌-◌, ◌*◌, ◌/◌, ◌^◌, ◌≤◌, ◌<◌, length, take, drop, get_or}
use Rattle.rules.specs.Limits.{letter_symbols, profile_last, record_size, record_component, record_place, sequence_set_letters, template_gap}
use Rattle.rules.specs.Lists.{run, sum}
use Rattle.rules.specs.Motif.{spell}
use Rattle.rules.specs.Profile.{base_of, several}
use Rattle.rules.specs.Saved.{record_at, field, component_count, read_profile}
use Rattle.rules.specs.Support.{support, parts}
use Rattle.rules.specs.Template.{none, components, size}
use Rattle.rules.specs.Told.{Verdict, fine, refused}
use Rattle.rules.specs.Walk.{place}
use Rattle.rules.specs.declared.Component.{Component}
use Rattle.rules.specs.declared.Place.{Place}
use Rattle.rules.specs.declared.Profile as declared
use Rattle.rules.specs.declared.Profile.TheVariants.{Exact, Mixed}
use Rattle.rules.specs.declared.Template.{Template}

-- THE ORDER. The first check of a list that applies tells number n and place p; all before it are fine
pub record FirstOf (vs : List Verdict) (n p : ℕ) : Type 0 where
  pub at : ℕ
  pub within : at < length vs
  pub applies : get_or vs at fine ≡ refused n p
  pub before : (j : ℕ) → j < at → get_or vs j fine ≡ fine

-- THE PLACE. p is the first bad one of n things that are counted from k
pub record FirstBad (k n : ℕ) (Bad : ℕ → Type 0) (p : ℕ) : Type 0 where
  pub least : k ≤ p
  pub most : p < k + n
  pub bad : Bad p
  pub before : (q : ℕ) → k ≤ q → q < p → Bad q → ⊥

-- ONE CHECK. It refuses with number n alone, and at p exactly if `At p` holds
abbrev pub RefusesAt : Verdict → ℕ → (ℕ → Type 0) → Type 0
RefusesAt v n At = (m p : ℕ) → (v ≡ refused m p) ↔ ((m ≡ n) × At p)

-- no place is named: it refuses exactly if `When` holds, and tells 0
abbrev pub RefusesIf : Verdict → ℕ → Type 0 → Type 0
RefusesIf v n When = RefusesAt v n (λ p. (p ≡ 0) × When)

-- a number outside low to high
abbrev pub Outside : ℕ → ℕ → ℕ → Type 0
Outside low high x = (x < low) ⊎ (high < x)

-- LETTERS are the bytes A, C, G and T
abbrev pub IsLetter : ℕ → Type 0
IsLetter b = (b ≡ 65) ⊎ (b ≡ 67) ⊎ (b ≡ 71) ⊎ (b ≡ 84)

-- THE TEMPLATE. The component with number i, from 1
abbrev pub numbered : Template → ℕ → Component
numbered t i = get_or (components t) (i - 1) none

-- a range is none, or reaches past the longest gap; and a first component's is not 0, 0
abbrev pub BadRange : ℕ → ℕ → Type 0
BadRange low high = (high < low) ⊎ (template_gap < high)

abbrev pub BadGap : ℕ → Component → Type 0
BadGap i c = BadRange c.low c.high ⊎ ((i ≡ 1) × ((c.low ≡ 0) × (c.high ≡ 0) → ⊥))

-- SAVED BYTES. Byte k of record i, both from 0; and bytes `from` to `to` of it are 0
abbrev pub byte : List ℕ → ℕ → ℕ → ℕ
byte bs i k = get_or (record_at bs i) k 0

abbrev pub Blank : List ℕ → ℕ → ℕ → ℕ → Type 0
Blank bs i from to = (k : ℕ) → from ≤ k → k ≤ to → byte bs i k ≡ 0

-- and one of them is not
abbrev pub NotZero : List ℕ → ℕ → ℕ → ℕ → Type 0
NotZero bs i from to = (k : ℕ) × (from ≤ k) × (k ≤ to) × (byte bs i k ≡ 0 → ⊥)

-- record i is the size record, and Size holds; or one of those of the n components, and Component holds; or the place record, and Place
-- holds
abbrev pub OfRecord : ℕ → ℕ → Type 0 → Type 0 → Type 0 → Type 0
OfRecord n i Size Component Place = ((i ≡ 0) × Size) ⊎ ((1 ≤ i) × (i ≤ n) × Component) ⊎ ((i ≡ suc n) × Place)

-- it is of the wrong kind, or, a component's, has the wrong number
abbrev pub WrongKind : List ℕ → ℕ → Type 0
WrongKind bs i =
    OfRecord (component_count bs) i
    (byte bs i 0 ≡ record_size → ⊥)
    ((byte bs i 0 ≡ record_component → ⊥) ⊎ (byte bs i 1 ≡ i → ⊥))
    (byte bs i 0 ≡ record_place → ⊥)

-- a byte of it that must be 0, since the papers do not name it, is not; nor is byte 12 of the size record 0 or 1, or byte 3 of a
-- component's 0 in an exact search
abbrev pub NotBlank : List ℕ → ℕ → Type 0
NotBlank bs i =
    OfRecord (component_count bs) i
    ((profile_last < byte bs i 12) ⊎ NotZero bs i 13 15)
    (((read_profile bs ≡ Exact) × NotZero bs i 3 3) ⊎ NotZero bs i 8 15)
    (NotZero bs i 2 7)

-- a record keeps its layout: its kind, a component's number, and 0 in the bytes that the papers do not name
pub record SizeLaid (bs : List ℕ) : Type 0 where
  pub kind : byte bs 0 0 ≡ record_size
  pub profile : byte bs 0 12 ≤ profile_last
  pub blank : Blank bs 0 13 15

pub record ComponentLaid (bs : List ℕ) (i : ℕ) : Type 0 where
  pub kind : byte bs i 0 ≡ record_component
  pub component : byte bs i 1 ≡ i
  pub blank : read_profile bs ≡ Exact → Blank bs i 3 3
  pub rest : Blank bs i 8 15

pub record PlaceLaid (bs : List ℕ) (i : ℕ) : Type 0 where
  pub kind : byte bs i 0 ≡ record_place
  pub blank : Blank bs i 2 7

-- every record does: the first, one for each component, and the last
pub record RecordsLaid (bs : List ℕ) : Type 0 where
  pub sizes : SizeLaid bs
  pub each : (i : ℕ) → 1 ≤ i → i ≤ component_count bs → ComponentLaid bs i
  pub places : PlaceLaid bs (suc (component_count bs))

-- K as it is saved, and the lengths that it must be the sum of
abbrev pub saved_size : List ℕ → ℕ
saved_size bs = byte bs 0 6 + 256 * byte bs 0 7

abbrev pub saved_lengths : List ℕ → List ℕ
saved_lengths bs = map (λ i. byte bs i 2) (run 1 (component_count bs))

-- the place as it is saved
abbrev pub saved_place : List ℕ → Place
saved_place bs = let i = suc (component_count bs) in place (byte bs i 1) (field (record_at bs i) 8 8)

-- THE LETTERS of a motif or of a prefix. Those of component i, from 0, among the letters w
abbrev pub letters_in : Template → ℕ → List ℕ → List ℕ
letters_in t i w = take (get_or (components t) i none).length (drop (sum (map (λ c. c.length) (take i (components t)))) w)

-- what a kind of search asks of a component's letters: an exact one nothing, a mixed one that each is one of the fourteen, and that no
-- more than its allowance stand for several bases
abbrev pub Allows : declared.Profile → Component → List ℕ → Type 0
Allows Exact c w = Unit {0}
Allows Mixed c w = ((i : ℕ) → i < length w → get_or w i 0 < letter_symbols) × (several w ≤ c.allowance)

-- m is the number of j letters that the template allows: it lies below 4, or in a mixed search 16, to the power of j
pub record Spells (t : Template) (j m : ℕ) : Type 0 where
  pub below : m < base_of t ^ j
  pub each : (i : ℕ) → i < length (components t) → Allows t.profile (get_or (components t) i none) (letters_in t i (spell (base_of t) j m))

-- the place rule: place is 0 to K, and the number is that of so many letters
pub record PlaceRule (t : Template) (p : Place) : Type 0 where
  pub most : p.letters ≤ size t
  pub spells : Spells t p.letters p.number

-- CANDIDATES. A prefix of j letters is frequent if its support is at least the quorum; the empty one counts as frequent
abbrev pub Frequent : Template → ℕ → List (List ℕ) → ℕ → ℕ → Type 0
Frequent t quorum ss j m = (j ≡ 0) ⊎ (quorum ≤ support (parts t j m) ss)

-- a candidate is a prefix of 1 to K letters that are allowed, whose prefix one letter shorter is frequent
pub record CandidateIn (t : Template) (quorum : ℕ) (ss : List (List ℕ)) (p : Place) : Type 0 where
  pub some : 1 ≤ p.letters
  pub most : p.letters ≤ size t
  pub spells : Spells t p.letters p.number
  pub shorter : Frequent t quorum ss (p.letters - 1) (p.number / base_of t)

-- A JOIN'S LIST: two positions do not rise, or one lies outside 1 to 65,536
abbrev pub NotRising : List ℕ → Type 0
NotRising xs = (i : ℕ) × (suc i < length xs) × (get_or xs (suc i) 0 ≤ get_or xs i 0)

abbrev pub Misplaced : List ℕ → Type 0
Misplaced xs = (i : ℕ) × (i < length xs) × Outside 1 sequence_set_letters (get_or xs i 0)

abbrev pub BadList : List ℕ → Type 0
BadList xs = NotRising xs ⊎ Misplaced xs

-- WHAT STAYS of a table past the first n: it is as long as before, and holds what it held there
pub record Stays (n : ℕ) (before after : List ℕ) : Type 0 where
  pub long : length after ≡ length before
  pub past : (i : ℕ) → n ≤ i → get_or after i 0 ≡ get_or before i 0

-- and of one outside `from` to `to`: it holds what it held before the one, and from the other on
pub record StaysOutside (from to : ℕ) (before after : List ℕ) : Type 0 where
  pub long : length after ≡ length before
  pub past : (i : ℕ) → (i < from) ⊎ (to ≤ i) → get_or after i 0 ≡ get_or before i 0
