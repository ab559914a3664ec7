-- A saved search holds the search: each field is as wide as what it holds, so reading a record gives back what was written,
-- and the bytes are well formed. What a save can't tell apart are the slots that a template does not count, and allowances in an exact
-- search.
use mathlib.Core.Path.{◌≡◌, refl, ap, ◌∙◌}
use mathlib.Core.Bool.{Bool, true, false}
use mathlib.Core.List.{List, ◌++◌}
use Prim.Native.Nat.{ℕ, zero, suc, ◌+◌, ◌*◌, ◌^◌, ◌≤◌, ◌<◌}
use native.Mathlib.Nat.{le_trans, pow-le-pow_right}
use native.Mathlib.Omega.{arith}
use lib.Dec.{leb, ltb}
use lib.ListN.{length, get_or, drop}
use borrow.Author.Tests.{leb-true, ltb-true, le-leb, eq-eqb}
use Rattle.rules.specs.Calls.{trimmed_search}
use Rattle.rules.specs.Limits.{profile_last, record_bytes, record_extra, template_components, template_letters}
use Rattle.rules.specs.Lists.{if, all_pass, joined}
use Rattle.rules.specs.Profile.{profile_of, base_of, profile_number, numbered_profile}
use Rattle.rules.specs.Saved.{low_first, read_low, size_record, component_record, place_record, records, bytes, record_at, field, record_count, component_count, read_profile, read_component, read_place, read_template, read_search, is_sized, is_blank, has_size_kind, has_component_kind, has_place_kind, is_size_blank, is_component_blank, is_place_blank, is_size_record, is_component_record, is_place_record, are_component_records, meets_place_rule, adds_up, is_laid_out}
use Rattle.rules.specs.Sound.{SoundSet, SoundTemplate}
use Rattle.rules.specs.Template.{allowance_in, none, slots, kept, size, trimmed}
use Rattle.rules.specs.declared.Component.{Component}
use Rattle.rules.specs.declared.Place.{Place}
use Rattle.rules.specs.declared.Profile.{Profile}
use Rattle.rules.specs.declared.Profile.TheVariants.{Exact, Mixed}
use Rattle.rules.specs.declared.Search.{Search}
use Rattle.rules.proofs.LowFirst.{read_written}
use Rattle.rules.proofs.Searches.{profile_proper}
use Rattle.rules.proofs.Tests.{both}
use Rattle.rules.proofs.Records.{bytes_counted, size_at, component_at, place_at}
use Rattle.rules.proofs.Trimmed.{used, used_twice, trimmed_size, trimmed_rule}

-- a component of a kind of search fits the fields of its record
pub record FitsComponent (p : Profile) (c : Component) : Type 0 where
  pub length : c.length < 256
  pub allowance : allowance_in p c < 256
  pub low : c.low < 256 ^ 2
  pub high : c.high < 256 ^ 2

-- a search fits the fields of its records
pub record Fits (s : Search) : Type 0 where
  pub count : s.template.count ≤ template_components
  pub each : (i : ℕ) → i < s.template.count → FitsComponent s.template.profile (get_or (slots s.template) i none)
  pub quorum : s.quorum < 256 ^ 2
  pub sequences : s.set.sequences < 256 ^ 2
  pub size : size s.template < 256 ^ 2
  pub letters : s.set.letters < 256 ^ 4
  pub place : s.place.letters < 256
  pub number : s.place.number < 256 ^ 8

-- a search whose template and quorum are in their limits, over the sequences that it was begun with, and whose place keeps
-- its rule, fits
pub sound_fits : (letters lengths : List ℕ) (s : Search) → SoundSet letters lengths → SoundTemplate s.template → s.set.sequences ≡ length lengths
    → s.set.letters ≡ length letters → s.quorum ≤ length lengths → meets_place_rule s.template s.place ≡ true → Fits s
unfolding meets_place_rule
sound_fits letters lengths s set t n m q rule =
    let p = (both (leb s.place.letters (size s.template)) _).0 rule in
    let j : s.place.letters ≤ template_letters = let e = leb-true s.place.letters (size s.template) p.0 in omega (arith, t.deep) in
    let b : ℕ = base_of s.template in
    let x : s.place.number < b ^ s.place.letters = ltb-true s.place.number (b ^ s.place.letters) ((both (ltb s.place.number (b ^ s.place.letters)) _).0 p.1).0 in
    let proper = profile_proper s.template in
    let k : s.place.letters ≤ (profile_of s.template).most = let e = leb-true s.place.letters (size s.template) p.0 in omega (arith, t.short) in
    let y : b ^ s.place.letters ≤ 256 ^ 8 = le_trans (pow-le-pow_right {n = b} proper.pos k) proper.wide in
    record {
      count = t.few;
      each = λ i h. let c = t.each i h in record { length = omega arith; allowance = omega (arith, t.within i h); low = omega arith; high = omega arith };
      quorum = omega (arith, set.few);
      sequences = omega (arith, set.few);
      size = omega (arith, t.deep);
      letters = omega (arith, set.short);
      place = omega arith;
      number = omega arith;
    }

-- the number of a kind of search is 0 or 1, and tells the kind
number_most : (p : Profile) → profile_number p ≤ profile_last
number_most Exact = omega arith
number_most Mixed = omega arith

numbered_back : (p : Profile) → numbered_profile (profile_number p) ≡ p
numbered_back Exact = refl
numbered_back Mixed = refl

-- READING A RECORD THAT WAS WRITTEN. A number that was written in n bytes from byte k on
field_back : (r : List ℕ) (k n x : ℕ) → drop k r ≡ low_first n x ++ drop (k + n) r → x < 256 ^ n → field r k n ≡ x
unfolding field
field_back r k n x e h = rw e (read_written n x (drop (k + n) r) h)

-- of a component what its kind of search uses
component_record_back : (p : Profile) (i : ℕ) (c : Component) → FitsComponent p c → read_component (component_record p i c) ≡ used p c
unfolding read_component component_record field low_first read_low
component_record_back p i c f =
    let r = component_record p i c in
    let n : field r 2 1 ≡ c.length = omega arith in
    let a : field r 3 1 ≡ allowance_in p c = omega arith in
    let l : field r 4 2 ≡ c.low = field_back r 4 2 c.low refl f.low in
    let u : field r 6 2 ≡ c.high = field_back r 6 2 c.high refl f.high in
    rw (n, a, l, u)

place_record_back : (p : Place) → p.number < 256 ^ 8 → read_place (place_record p) ≡ p
unfolding read_place place_record field low_first read_low
place_record_back p h =
    let j : field (place_record p) 1 1 ≡ p.letters = omega arith in
    let m : field (place_record p) 8 8 ≡ p.number = field_back (place_record p) 8 8 p.number refl h in
    rw (j, m)

-- a saved search's count is the template's
count_written : (s : Search) → record_count (bytes s) ≡ s.template.count + record_extra
unfolding record_count bytes records joined size_record
count_written s = refl

count_back : (s : Search) → component_count (bytes s) ≡ s.template.count
unfolding component_count
count_back s = omega (arith, count_written s)

-- and so is its kind of search
profile_back : (s : Search) → read_profile (bytes s) ≡ s.template.profile
unfolding read_profile size_record field low_first read_low
profile_back s = let p = s.template.profile in rw (size_at s) (ap numbered_profile (let e : profile_number p + 256 * 0 ≡ profile_number p = omega arith in e) ∙ numbered_back p)

-- a slot is the same if what is used of it is so where it counts
kept_same : (p : Profile) (n i : ℕ) (x y : Component) → (i ≤ n → used p x ≡ used p y) → kept p n i x ≡ kept p n i y
kept_same p n i x y h = go (leb i n) (λ e. h (leb-true i n e))
  where
    go : (b : Bool) → (b ≡ true → used p x ≡ used p y) → if b (used p x) none ≡ if b (used p y) none
    go true h = h refl
    go false h = refl

-- each kind of record, as written, keeps its layout
size_laid_out : (s : Search) → is_size_record (size_record s) ≡ true
unfolding is_size_record has_size_kind is_size_blank size_record field low_first read_low is_blank all_pass
size_laid_out s = let most = number_most s.template.profile in rw (le-leb (profile_number s.template.profile + 256 * 0) profile_last (omega arith))

component_laid_out : (p : Profile) (i : ℕ) (c : Component) → is_component_record p i (component_record p i c) ≡ true
unfolding is_component_record has_component_kind is_component_blank component_record field low_first read_low is_blank all_pass
component_laid_out Exact i c = rw (eq-eqb (i + 256 * 0) i (omega arith))
component_laid_out Mixed i c = rw (eq-eqb (i + 256 * 0) i (omega arith))

place_laid_out : (p : Place) → is_place_record (place_record p) ≡ true
unfolding is_place_record has_place_kind is_place_blank place_record field low_first read_low is_blank all_pass
place_laid_out p = refl

-- a saved search is as long as the records that it counts
pub saved_sized : (s : Search) → s.template.count ≤ template_components → is_sized (bytes s) ≡ true
unfolding is_sized
saved_sized s h =
    let n = s.template.count + record_extra in
    rw (count_written s, bytes_counted s h, le-leb record_bytes (record_bytes * n) (omega arith), le-leb record_extra n (omega arith), eq-eqb (record_bytes * n) (record_bytes * n) refl)

module _ (s : Search) (f : Fits s) where
  open s use {template, quorum, set, place}

  slot_back : (k : ℕ) → kept template.profile template.count (suc k) (read_component (record_at (bytes s) (suc k)))
      ≡ kept template.profile template.count (suc k) (get_or (slots template) k none)
  slot_back k =
      let p = template.profile in
      kept_same p template.count (suc k) _ _ (λ h. rw (component_at s f.count k h, component_record_back p (suc k) _ (f.each k h)) (used_twice p _))

  -- the template that a saved search holds is the search's, with nothing in what it does not use
  pub template_back : read_template (bytes s) ≡ trimmed template
  unfolding read_template trimmed
  template_back = rw (profile_back s, count_back s, slot_back 0, slot_back 1, slot_back 2, slot_back 3, slot_back 4, slot_back 5)

  -- the place that it holds is the search's
  place_back : read_place (record_at (bytes s) (suc (component_count (bytes s)))) ≡ place
  place_back = rw (count_back s, place_at s f.count) (place_record_back place f.number)

  -- a number of n bytes at byte k of the size record
  size_field : (k n x : ℕ) → drop k (size_record s) ≡ low_first n x ++ drop (k + n) (size_record s) → x < 256 ^ n → field (record_at (bytes s) 0) k n ≡ x
  size_field k n x e h = rw (size_at s) (field_back (size_record s) k n x e h)

  -- a saved search holds the search, so trimmed
  pub search_back : read_search (bytes s) ≡ trimmed_search s
  unfolding read_search size_record low_first
  search_back =
      rw (
        template_back,
        size_field 2 2 quorum refl f.quorum,
        size_field 4 2 set.sequences refl f.sequences,
        size_field 8 4 set.letters refl f.letters,
        place_back,
      )

  -- its component records keep their layout
  components_laid_out : (k n : ℕ) → k + n ≡ template.count → are_component_records (bytes s) (suc k) n ≡ true
  unfolding are_component_records
  components_laid_out k zero e = refl
  components_laid_out k (suc n) e = rw (profile_back s, component_at s f.count k (omega arith), component_laid_out template.profile (suc k) (get_or (slots template) k none)) (components_laid_out (suc k) n (omega arith))

  -- and so do all its records, if the place keeps its rule
  pub saved_laid_out : meets_place_rule template place ≡ true → is_laid_out (bytes s) ≡ true
  unfolding is_laid_out adds_up size_record low_first
  saved_laid_out r =
      rw (
        template_back,
        trimmed_size template,
        place_back,
        trimmed_rule template place,
        r,
        count_back s,
        place_at s f.count,
        place_laid_out place,
        components_laid_out 0 template.count (omega arith),
        size_field 6 2 (size template) refl f.size,
        size_at s,
        size_laid_out s,
        eq-eqb (size template) (size template) refl,
      )
