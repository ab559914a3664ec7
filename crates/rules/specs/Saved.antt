-- A saved search: records of 16 bytes, low byte first. How a search is written, how bytes are read back, and when bytes
-- are well formed, field by field.
use Rattle.std.specs.Prelude.{Bool, true, ◌&&◌, List, [], ◌∷◌, ◌++◌, map, ℕ, zero, suc, ◌+◌, ◌-◌, ◌*◌, ◌/◌, ◌%◌, ◌<◌, eqb, leb, length, take, drop, get_or, replicate}
use Rattle.rules.specs.Limits.{profile_last, record_bytes, record_size, record_component, record_place, record_extra}
use Rattle.rules.specs.Lists.{if, all_pass, joined, run}
use Rattle.rules.specs.Profile.{profile_number, numbered_profile}
use Rattle.rules.specs.Support.{valid}
use Rattle.rules.specs.Template.{component, allowing, allowance_in, components, kept, size}
use Rattle.rules.specs.Walk.{place}
use Rattle.rules.specs.declared.Component.{Component}
use Rattle.rules.specs.declared.Place.{Place}
use Rattle.rules.specs.declared.Profile as declared
use Rattle.rules.specs.declared.Profile.TheVariants.{Exact, Mixed}
use Rattle.rules.specs.declared.Search.{Search}
use Rattle.rules.specs.declared.Template.{Template}

-- the n low bytes of x, the lowest first, and the number that n bytes are
unfoldable pub low_first : ℕ → ℕ → List ℕ
low_first zero x = []
low_first (suc n) x = x % 256 ∷ low_first n (x / 256)

unfoldable pub read_low : ℕ → List ℕ → ℕ
read_low zero bs = 0
read_low (suc n) bs = get_or bs 0 0 + 256 * read_low n (drop 1 bs)

-- each of a list is a byte. Past its end a list reads as 0
abbrev pub Bytes : List ℕ → Type 0
Bytes bs = (i : ℕ) → get_or bs i 0 < 256

-- WRITING. Bytes that the paper does not name are 0
unfoldable pub size_record : Search → List ℕ
size_record s =
    record_size ∷ (s.template.count + record_extra) ∷ low_first 2 s.quorum ++ low_first 2 s.set.sequences
    ++ low_first 2 (size s.template) ++ low_first 4 s.set.letters ++ (profile_number s.template.profile ∷ replicate 3 0)

unfoldable pub component_record : declared.Profile → ℕ → Component → List ℕ
component_record p i c = record_component ∷ i ∷ c.length ∷ allowance_in p c ∷ low_first 2 c.low ++ low_first 2 c.high ++ replicate 8 0

unfoldable pub place_record : Place → List ℕ
place_record p = record_place ∷ p.letters ∷ replicate 6 0 ++ low_first 8 p.number

-- a record for each component, numbered from i
unfoldable pub component_records : declared.Profile → ℕ → List Component → List (List ℕ)
component_records p i [] = []
component_records p i (c ∷ cs) = component_record p i c ∷ component_records p (suc i) cs

unfoldable pub records : Search → List (List ℕ)
records s = size_record s ∷ component_records s.template.profile 1 (components s.template) ++ (place_record s.place ∷ [])

-- a search as it is saved
unfoldable pub bytes : Search → List ℕ
bytes s = joined (records s)

-- READING. Record i of some bytes, from 0, and the number in n bytes of a record, from byte k on
unfoldable pub record_at : List ℕ → ℕ → List ℕ
record_at bs i = take record_bytes (drop (record_bytes * i) bs)

unfoldable pub field : List ℕ → ℕ → ℕ → ℕ
field r k n = read_low n (drop k r)

-- how many records the bytes say there are, and so how many components
unfoldable pub record_count : List ℕ → ℕ
record_count bs = get_or bs 1 0

unfoldable pub component_count : List ℕ → ℕ
component_count bs = record_count bs - record_extra

-- the kind of search that the size record tells
unfoldable pub read_profile : List ℕ → declared.Profile
read_profile bs = numbered_profile (field (record_at bs 0) 12 1)

unfoldable pub read_component : List ℕ → Component
read_component r = allowing (field r 3 1) (component (field r 2 1) (field r 4 2) (field r 6 2))

unfoldable pub read_place : List ℕ → Place
read_place r = place (field r 1 1) (field r 8 8)

unfoldable pub read_template : List ℕ → Template
read_template bs =
    let p = read_profile bs in
    let n = component_count bs in
    record {
      profile = p;
      count = n;
      c1 = kept p n 1 (read_component (record_at bs 1));
      c2 = kept p n 2 (read_component (record_at bs 2));
      c3 = kept p n 3 (read_component (record_at bs 3));
      c4 = kept p n 4 (read_component (record_at bs 4));
      c5 = kept p n 5 (read_component (record_at bs 5));
      c6 = kept p n 6 (read_component (record_at bs 6));
    }

-- the search that bytes hold, whatever they are
unfoldable pub read_search : List ℕ → Search
read_search bs =
    record {
      template = read_template bs;
      quorum = field (record_at bs 0) 2 2;
      set = record { sequences = field (record_at bs 0) 4 2; letters = field (record_at bs 0) 8 4 };
      place = read_place (record_at bs (suc (component_count bs)));
    }

-- WELL FORMED. The length is that of the records counted, of which there are at least two
unfoldable pub is_sized : List ℕ → Bool
is_sized bs = leb record_bytes (length bs) && leb record_extra (record_count bs) && eqb (length bs) (record_bytes * record_count bs)

-- n bytes of a record, from byte k on, are 0
unfoldable pub is_blank : List ℕ → ℕ → ℕ → Bool
is_blank r k n = all_pass (λ b. eqb b 0) (take n (drop k r))

-- each record has its kind, and a component's its number
unfoldable pub has_size_kind : List ℕ → Bool
has_size_kind r = eqb (field r 0 1) record_size

unfoldable pub has_component_kind : ℕ → List ℕ → Bool
has_component_kind i r = eqb (field r 0 1) record_component && eqb (field r 1 1) i

unfoldable pub has_place_kind : List ℕ → Bool
has_place_kind r = eqb (field r 0 1) record_place

-- and 0 in the bytes that the papers do not name. The size record's byte 12 is the number of a kind of search; a component's byte 3 is its
-- allowance, and 0 in a kind of search that has none
unfoldable pub is_size_blank : List ℕ → Bool
is_size_blank r = leb (field r 12 1) profile_last && is_blank r 13 3

abbrev pub is_allowance_blank : declared.Profile → List ℕ → Bool
is_allowance_blank Exact r = is_blank r 3 1
is_allowance_blank Mixed r = true

unfoldable pub is_component_blank : declared.Profile → List ℕ → Bool
is_component_blank p r = is_allowance_blank p r && is_blank r 8 8

unfoldable pub is_place_blank : List ℕ → Bool
is_place_blank r = is_blank r 2 6

-- so each keeps its layout
unfoldable pub is_size_record : List ℕ → Bool
is_size_record r = has_size_kind r && is_size_blank r

unfoldable pub is_component_record : declared.Profile → ℕ → List ℕ → Bool
is_component_record p i r = has_component_kind i r && is_component_blank p r

unfoldable pub is_place_record : List ℕ → Bool
is_place_record r = has_place_kind r && is_place_blank r

-- the n component records from record i on
unfoldable pub are_component_records : List ℕ → ℕ → ℕ → Bool
are_component_records bs i zero = true
are_component_records bs i (suc n) = is_component_record (read_profile bs) i (record_at bs i) && are_component_records bs (suc i) n

-- the place rule: a place is 0 to K, and the number lies below the base, 4 or 16, to the power of the place, of letters that are allowed
unfoldable pub meets_place_rule : Template → Place → Bool
meets_place_rule t p = leb p.letters (size t) && valid t p.letters p.number

-- K, as the size record has it, is the sum of the lengths
unfoldable pub adds_up : List ℕ → Bool
adds_up bs = eqb (field (record_at bs 0) 6 2) (size (read_template bs))

-- every record keeps its layout, K is the sum of the lengths, and the place keeps its rule
unfoldable pub is_laid_out : List ℕ → Bool
is_laid_out bs =
    is_size_record (record_at bs 0) && are_component_records bs 1 (component_count bs) && is_place_record (record_at bs (suc (component_count bs)))
    && adds_up bs && meets_place_rule (read_template bs) (read_place (record_at bs (suc (component_count bs))))

-- WHICH RECORD IS BAD. The records of a save, numbered from 0: the size record, one for each component, the place record
unfoldable pub saved_records : List ℕ → List (List ℕ)
saved_records bs = map (record_at bs) (run 0 (component_count bs + record_extra))

-- a test of record i, where there are n components: the size record's, a component's or the place record's
abbrev pub by_record : ℕ → ℕ → Bool → Bool → Bool → Bool
by_record n i size component place = if (eqb i 0) size (if (leb i n) component place)

-- it has its kind, and a component's its number
unfoldable pub has_kind : ℕ → ℕ → List ℕ → Bool
has_kind n i r = by_record n i (has_size_kind r) (has_component_kind i r) (has_place_kind r)

-- its bytes that the papers do not name are 0
unfoldable pub is_unnamed_blank : declared.Profile → ℕ → ℕ → List ℕ → Bool
is_unnamed_blank p n i r = by_record n i (is_size_blank r) (is_component_blank p r) (is_place_blank r)
