-- What 11 and 21 to 23 say of saved bytes, byte by byte: a byte is a field of one byte, blank bytes are zeros one by one, and the
-- records are tested one after the other.
use mathlib.Core.Path.{◌≡◌, refl, sym, ap, ◌∙◌}
use mathlib.Core.Logic.Iff
use mathlib.Core.Logic.{◌↔◌, ◌⊎◌, inl, inr, ⊎_elim}
use mathlib.Core.Bool.{Bool, true, false, ◌&&◌, false≢true}
use mathlib.Core.List.{List, [], ◌∷◌, map}
use Prim.Native.Nat.{ℕ, zero, suc, ◌+◌, ◌-◌, ◌*◌, ◌≤◌, ◌<◌}
use native.Mathlib.Nat.{add-zero}
use native.Mathlib.Omega.{arith}
use lib.Dec.{eqb, leb}
use lib.ListN.{get_or, take, drop}
use lib.Seq.{get_or-drop, drop-drop}
use borrow.Author.Tests.{leb-true, leb-false, le-leb, lt-leb}
use Rattle.rules.specs.Limits.{profile_last, record_extra, record_size, record_component, record_place, template_components}
use Rattle.rules.specs.Lists.{all_pass, run, sum}
use Rattle.rules.specs.Refused.{byte, Blank, NotZero, OfRecord, WrongKind, NotBlank, SizeLaid, ComponentLaid, PlaceLaid, RecordsLaid, saved_size, saved_lengths, saved_place, PlaceRule}
use Rattle.rules.specs.Saved.{read_low, record_at, field, component_count, read_profile, read_component, read_place, read_template, read_search, is_blank, has_size_kind, has_component_kind, has_place_kind, is_size_blank, is_allowance_blank, is_component_blank, is_place_blank, is_size_record, is_component_record, is_place_record, are_component_records, adds_up, meets_place_rule, is_laid_out, by_record, has_kind, is_unnamed_blank}
use Rattle.rules.specs.Template.{size}
use Rattle.rules.specs.Walk.{place}
use Rattle.rules.specs.declared.Profile.{Profile}
use Rattle.rules.specs.declared.Profile.TheVariants.{Exact, Mixed}
use Rattle.rules.proofs.EachCheck.{same}
use Rattle.rules.proofs.LaidOut.{at_component, at_place, which_record, components_each}
use Rattle.rules.proofs.Rewritten.{component_in, read_components}
use Rattle.rules.proofs.Spells.{place_rule_says}
use Rattle.rules.proofs.Tests.{both, two, denied, one_fails}

-- ---- fields and blanks

-- a field of one byte is that byte
pub field_byte : (r : List ℕ) (k : ℕ) → field r k 1 ≡ get_or r k 0
unfolding field read_low
field_byte r k = rw (get_or-drop k r 0 0, add-zero k) (omega arith)

-- one of two bytes is the low one and 256 times the high one
field_two : (r : List ℕ) (k : ℕ) → field r k 2 ≡ get_or r k 0 + 256 * get_or r (k + 1) 0
unfolding field read_low
field_two r k = rw (drop-drop 1 k r, get_or-drop k r 0 0, get_or-drop (k + 1) r 0 0, add-zero k, add-zero (k + 1)) (omega arith)

-- the first n of a list are all 0 exactly if each of them is. Past its end a list reads as 0
all_zero : (n : ℕ) (xs : List ℕ) → (all_pass (λ b. eqb b 0) (take n xs) ≡ true) ↔ ((i : ℕ) → i < n → get_or xs i 0 ≡ 0)
unfolding all_pass
all_zero zero xs = (λ e i h. absurd (omega arith), λ f. refl)
all_zero (suc n) [] = (λ e i h. refl, λ f. refl)
all_zero (suc n) (x ∷ xs) = (λ e. let h = (both _ _).0 e in each ((same x 0).0 h.0) ((all_zero n xs).0 h.1), λ f. (both _ _).1 ((same x 0).1 (f 0 (omega arith)), (all_zero n xs).1 (λ i h. f (suc i) (omega arith))))
  where
    each : x ≡ 0 → ((i : ℕ) → i < n → get_or xs i 0 ≡ 0) → (i : ℕ) → i < suc n → get_or (x ∷ xs) i 0 ≡ 0
    each e f zero h = e
    each e f (suc i) h = f i (omega arith)

-- n bytes of a record from k on are blank exactly if each of them is 0
blank_says : (bs : List ℕ) (i k n to : ℕ) → suc to ≡ k + n → (is_blank (record_at bs i) k n ≡ true) ↔ Blank bs i k to
unfolding is_blank
blank_says bs i k n to e = (
  λ b j h l. let q : k + (j - k) ≡ j = omega arith in rw q at (sym (get_or-drop k (record_at bs i) (j - k) 0) ∙ (all_zero n (drop k (record_at bs i))).0 b (j - k) (omega arith)),
  λ f. (all_zero n (drop k (record_at bs i))).1 (λ j h. get_or-drop k (record_at bs i) j 0 ∙ f (k + j) (omega arith) (omega arith)),
)

-- and else one of them is not 0
some_not_zero : (n : ℕ) (xs : List ℕ) → all_pass (λ b. eqb b 0) (take n xs) ≡ false → (i : ℕ) × (i < n) × (get_or xs i 0 ≡ 0 → ⊥)
unfolding all_pass
some_not_zero zero xs e = absurd (false≢true (sym e))
some_not_zero (suc n) [] e = absurd (false≢true (sym e))
some_not_zero (suc n) (x ∷ xs) e = ⊎_elim (λ f. (0, omega arith, f)) (λ q. let r = some_not_zero n xs q in (suc r.0, omega (arith, r.1), r.2)) ((one_fails _ _ (denied _ (same x 0)) Iff.rfl).0 e)

not_blank : (bs : List ℕ) (i k n to : ℕ) → suc to ≡ k + n → (is_blank (record_at bs i) k n ≡ false) ↔ NotZero bs i k to
unfolding is_blank
not_blank bs i k n to e = (
  λ b. let r = some_not_zero n (drop k (record_at bs i)) b in (k + r.0, omega arith, omega (arith, r.1), λ z. r.2 (get_or-drop k (record_at bs i) r.0 0 ∙ z)),
  λ z. (denied _ (blank_says bs i k n to e)).1 (λ f. z.3 (f z.0 z.1 z.2)),
)

-- ---- the records

-- a mixed search is not exact
pub not_exact : Mixed ≡ Exact → ⊥
not_exact e = let z : ◌≡◌ {A = ℕ} 0 1 = cc in omega arith

module _ (bs : List ℕ) where
  -- a byte is x
  byte_says : (i k x : ℕ) → (eqb (field (record_at bs i) k 1) x ≡ true) ↔ (byte bs i k ≡ x)
  byte_says i k x = rw (field_byte (record_at bs i) k) (same (byte bs i k) x)

  -- a byte is at most x
  byte_most : (i k x : ℕ) → (leb (field (record_at bs i) k 1) x ≡ true) ↔ (byte bs i k ≤ x)
  byte_most i k x = rw (field_byte (record_at bs i) k) (leb-true (byte bs i k) x, le-leb (byte bs i k) x)

  -- the size record keeps its layout
  size_says : (is_size_record (record_at bs 0) ≡ true) ↔ SizeLaid bs
  unfolding is_size_record has_size_kind is_size_blank
  size_says =
      Iff.trans (two _ _ (byte_says 0 0 record_size) (two _ _ (byte_most 0 12 profile_last) (blank_says bs 0 13 3 15 refl)))
      (λ h. record { kind = h.0; profile = h.1.0; blank = h.1.1 }, λ h. (h.kind, (h.profile, h.blank)))

  -- the byte of an allowance is 0 in an exact search
  allowance_says : (p : Profile) (i : ℕ) → (is_allowance_blank p (record_at bs i) ≡ true) ↔ (p ≡ Exact → Blank bs i 3 3)
  allowance_says Exact i = Iff.trans (blank_says bs i 3 1 3 refl) (λ h e. h, λ h. h refl)
  allowance_says Mixed i = (λ e q. absurd (not_exact q), λ h. refl)

  -- so does record i, a component's
  component_says : (i : ℕ) → (is_component_record (read_profile bs) i (record_at bs i) ≡ true) ↔ ComponentLaid bs i
  unfolding is_component_record has_component_kind is_component_blank
  component_says i =
      Iff.trans (two _ _ (two _ _ (byte_says i 0 record_component) (byte_says i 1 i)) (two _ _ (allowance_says (read_profile bs) i) (blank_says bs i 8 8 15 refl)))
      (λ h. record { kind = h.0.0; component = h.0.1; blank = h.1.0; rest = h.1.1 }, λ h. ((h.kind, h.component), (h.blank, h.rest)))

  -- and record i, the place's
  place_says : (i : ℕ) → (is_place_record (record_at bs i) ≡ true) ↔ PlaceLaid bs i
  unfolding is_place_record has_place_kind is_place_blank
  place_says i = Iff.trans (two _ _ (byte_says i 0 record_place) (blank_says bs i 2 6 7 refl)) (λ h. record { kind = h.0; blank = h.1 }, λ h. (h.kind, h.blank))

  -- and all the components' records
  components_say : (are_component_records bs 1 (component_count bs) ≡ true) ↔ ((i : ℕ) → 1 ≤ i → i ≤ component_count bs → ComponentLaid bs i)
  components_say =
      Iff.trans (components_each bs 1 (component_count bs))
      (λ h i k l. (component_says i).0 (h i k (omega arith)), λ h i k l. (component_says i).1 (h i k (omega arith)))

  -- each record, by its kind
  records_say : (is_size_record (record_at bs 0) && are_component_records bs 1 (component_count bs) && is_place_record (record_at bs (suc (component_count bs))) ≡ true) ↔ RecordsLaid bs
  records_say =
      Iff.trans (two _ _ (two _ _ size_says components_say) (place_says (suc (component_count bs))))
      (λ h. record { sizes = h.0.0; each = h.0.1; places = h.1 }, λ h. ((h.sizes, h.each), h.places))

-- ---- which record is bad

-- a test of record i fails exactly if what it denies is said of that record
of_record : {Size Component Place : Type 0} (n i : ℕ) (size component place : Bool) → (size ≡ false) ↔ Size → (component ≡ false) ↔ Component → (place ≡ false) ↔ Place
    → i < n + record_extra → (by_record n i size component place ≡ false) ↔ OfRecord n i Size Component Place
of_record {Size} {Component} {Place} n i size component place s c p h = go (which_record n i h)
  where
    go : (i ≡ 0) ⊎ ((1 ≤ i) × (i ≤ n)) ⊎ (i ≡ suc n) → (by_record n i size component place ≡ false) ↔ OfRecord n i Size Component Place
    go (inl e) = (λ b. inl (e, s.0 (rw e at b)), λ o. rw e (s.1 (at_first o)))
      where
        at_first : OfRecord n i Size Component Place → Size
        at_first (inl x) = x.1
        at_first (inr (inl x)) = absurd (omega (arith, x.0))
        at_first (inr (inr x)) = absurd (omega (arith, x.0))
    go (inr (inl k)) = (λ b. inr (inl (k.0, k.1, c.0 (rw (at_component n i size component place k.0 k.1) at b))), λ o. rw (at_component n i size component place k.0 k.1) (c.1 (among o)))
      where
        among : OfRecord n i Size Component Place → Component
        among (inl x) = absurd (omega (arith, k.0, x.0))
        among (inr (inl x)) = x.2
        among (inr (inr x)) = absurd (omega (arith, k.1, x.0))
    go (inr (inr e)) = (λ b. inr (inr (e, p.0 (rw (e, at_place n size component place) at b))), λ o. rw (e, at_place n size component place) (p.1 (at_last o)))
      where
        at_last : OfRecord n i Size Component Place → Place
        at_last (inl x) = absurd (omega (arith, x.0))
        at_last (inr (inl x)) = absurd (omega (arith, x.1))
        at_last (inr (inr x)) = x.1

module _ (bs : List ℕ) (i : ℕ) (h : i < component_count bs + record_extra) where
  -- a byte is not x
  byte_not : (k x : ℕ) → (eqb (field (record_at bs i) k 1) x ≡ false) ↔ (byte bs i k ≡ x → ⊥)
  byte_not k x = denied _ (byte_says bs i k x)

  -- record i has not its kind, or not its number
  pub kind_fails : (has_kind (component_count bs) i (record_at bs i) ≡ false) ↔ WrongKind bs i
  unfolding has_kind has_size_kind has_component_kind has_place_kind
  kind_fails = of_record (component_count bs) i _ _ _ (byte_not 0 record_size) (one_fails _ _ (byte_not 0 record_component) (byte_not 1 i)) (byte_not 0 record_place) h

  -- a byte is above x
  byte_above : (k x : ℕ) → (leb (field (record_at bs i) k 1) x ≡ false) ↔ (x < byte bs i k)
  byte_above k x = rw (field_byte (record_at bs i) k) (leb-false (byte bs i k) x, lt-leb (byte bs i k) x)

  -- the byte of an allowance is not 0 in an exact search
  allowance_fails : (p : Profile) → (is_allowance_blank p (record_at bs i) ≡ false) ↔ ((p ≡ Exact) × NotZero bs i 3 3)
  allowance_fails Exact = Iff.trans (not_blank bs i 3 1 3 refl) (λ z. (refl, z), λ z. z.1)
  allowance_fails Mixed = (λ e. absurd (false≢true (sym e)), λ z. absurd (not_exact z.0))

  -- or not 0 where it must
  pub blank_fails : (is_unnamed_blank (read_profile bs) (component_count bs) i (record_at bs i) ≡ false) ↔ NotBlank bs i
  unfolding is_unnamed_blank is_size_blank is_component_blank is_place_blank
  blank_fails =
      of_record (component_count bs) i _ _ _
      (one_fails _ _ (byte_above 12 profile_last) (not_blank bs i 13 3 15 refl))
      (one_fails _ _ (allowance_fails (read_profile bs)) (not_blank bs i 8 8 15 refl))
      (not_blank bs i 2 6 7 refl)
      h

-- ---- all of it

-- the template that is read has the letters of the saved lengths
saved_sum : (bs : List ℕ) → component_count bs ≤ template_components → size (read_template bs) ≡ sum (saved_lengths bs)
unfolding size read_component
saved_sum bs few = rw (read_components bs few) (ap sum (lengths (run 1 (component_count bs))))
  where
    lengths : (is : List ℕ) → map (λ c. c.length) (map (component_in bs) is) ≡ map (λ i. byte bs i 2) is
    lengths [] = refl
    lengths (i ∷ is) = rw (field_byte (record_at bs i) 2, lengths is)

-- so the search that is read has the saved K, stands at the saved place, and has as many components
pub saved_read : (bs : List ℕ) → component_count bs ≤ template_components
    → (size (read_search bs).template ≡ sum (saved_lengths bs)) × ((read_search bs).place ≡ saved_place bs) × ((read_search bs).template.count ≡ component_count bs)
unfolding read_search read_place read_template
saved_read bs few = (saved_sum bs few, ap (λ j. place j (field (record_at bs (suc (component_count bs))) 8 8)) (field_byte (record_at bs (suc (component_count bs))) 1), refl)

module _ (bs : List ℕ) (few : component_count bs ≤ template_components) where
  -- K is the sum of the lengths
  pub adds_say : (adds_up bs ≡ true) ↔ (saved_size bs ≡ sum (saved_lengths bs))
  unfolding adds_up
  adds_say = rw (field_two (record_at bs 0) 6, saved_sum bs few) (same (saved_size bs) (sum (saved_lengths bs)))

  -- the place keeps its rule
  rule_says : (meets_place_rule (read_template bs) (read_place (record_at bs (suc (component_count bs)))) ≡ true) ↔ PlaceRule (read_template bs) (saved_place bs)
  unfolding read_place
  rule_says = rw (← (field_byte (record_at bs (suc (component_count bs))) 1)) (place_rule_says (read_template bs) (read_place (record_at bs (suc (component_count bs)))))

  -- bytes are laid out exactly if every record keeps its layout, K is the sum of the lengths, and the place keeps its rule
  pub laid_says : (is_laid_out bs ≡ true) ↔ (RecordsLaid bs × (saved_size bs ≡ sum (saved_lengths bs)) × PlaceRule (read_template bs) (saved_place bs))
  unfolding is_laid_out
  laid_says = Iff.trans (two _ _ (two _ _ (records_say bs) adds_say) rule_says) (λ h. (h.0.0, h.0.1, h.1), λ h. ((h.0, h.1), h.2))
