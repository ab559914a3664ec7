-- What the layout of well-formed bytes says, part by part; and that 11 and 21 to 23 pass exactly the bytes that are laid out: the
-- size record is record 0, those of the components come after it, and the place record is the last.
use mathlib.Core.Path.{◌≡◌, refl}
use mathlib.Core.Logic.Iff
use mathlib.Core.Logic.{◌↔◌, ◌⊎◌, inl, inr}
use mathlib.Core.Bool.{Bool, true, ◌&&◌}
use mathlib.Core.List.{List}
use Prim.Native.Nat.{ℕ, zero, suc, ◌+◌, ◌≤◌, ◌<◌}
use native.Mathlib.Nat.{eq-or-lt_of_le}
use native.Mathlib.Omega.{arith}
use borrow.Author.Tests.{eqb-true, ne_eqb, le-leb, lt-leb}
use Rattle.rules.specs.Limits.{record_extra}
use Rattle.rules.specs.Refusals.{check11, check21, check22, check23}
use Rattle.rules.specs.Saved.{record_at, field, component_count, read_profile, read_template, read_search, has_size_kind, has_component_kind, has_place_kind, is_size_blank, is_component_blank, is_place_blank, is_size_record, is_component_record, are_component_records, is_place_record, adds_up, meets_place_rule, is_laid_out, by_record, has_kind, is_unnamed_blank}
use Rattle.rules.specs.Template.{size}
use Rattle.rules.specs.Told.{fine}
use Rattle.rules.specs.declared.Profile.{Profile}
use Rattle.rules.proofs.EachCheck.{check11_fine, check21_fine, check22_fine, check23_fine}
use Rattle.rules.proofs.Tests.{both}

-- the layout of the records, and K
pub record LaidOut (bs : List ℕ) : Type 0 where
  pub sizes : is_size_record (record_at bs 0) ≡ true
  pub each : are_component_records bs 1 (component_count bs) ≡ true
  pub place : is_place_record (record_at bs (suc (component_count bs))) ≡ true
  pub adds : field (record_at bs 0) 6 2 ≡ size (read_template bs)

-- bytes that pass the test have that layout
pub laid_out_says : (bs : List ℕ) → is_laid_out bs ≡ true → LaidOut bs
unfolding is_laid_out adds_up read_search
laid_out_says bs e =
    let p = (both _ (meets_place_rule (read_search bs).template (read_search bs).place)).0 e in
    let k = (both _ (adds_up bs)).0 p.0 in
    let q = (both _ (is_place_record (record_at bs (suc (component_count bs))))).0 k.0 in
    let r = (both (is_size_record (record_at bs 0)) (are_component_records bs 1 (component_count bs))).0 q.0 in
    record { sizes = r.0; each = r.1; place = q.1; adds = eqb-true _ _ k.1 }

-- ---- one record after another

-- a test of record i is that of a component's record, or of the place record
pub at_component : (n i : ℕ) (size component place : Bool) → 1 ≤ i → i ≤ n → by_record n i size component place ≡ component
at_component n i size component place h l = rw (ne_eqb i 0 (omega arith), le-leb i n l)

pub at_place : (n : ℕ) (size component place : Bool) → by_record n (suc n) size component place ≡ place
at_place n size component place = rw (ne_eqb (suc n) 0 (omega arith), lt-leb (suc n) n (omega arith))

-- one of the records is the size record, a component's or the place record
pub which_record : (n i : ℕ) → i < n + record_extra → (i ≡ 0) ⊎ ((1 ≤ i) × (i ≤ n)) ⊎ (i ≡ suc n)
which_record n zero h = inl refl
which_record n (suc i) h = let l : suc i ≤ suc n = omega arith in go (eq-or-lt_of_le l)
  where
    go : (suc i ≡ suc n) ⊎ (suc i < suc n) → (suc i ≡ 0) ⊎ ((1 ≤ suc i) × (suc i ≤ n)) ⊎ (suc i ≡ suc n)
    go (inl e) = inr (inr e)
    go (inr l) = inr (inl (omega arith, omega arith))

-- all records pass their tests exactly if the size record does, each component's, and the place record
each_passes : (n : ℕ) (size component place : ℕ → Bool)
    → ((i : ℕ) → i < n + record_extra → by_record n i (size i) (component i) (place i) ≡ true)
    ↔ ((size 0 ≡ true) × ((i : ℕ) → 1 ≤ i → i ≤ n → component i ≡ true) × (place (suc n) ≡ true))
each_passes n size component place = (
  λ f. (
    f 0 (omega arith),
    λ i h l. rw (at_component n i (size i) (component i) (place i) h l) at (f i (omega arith)),
    rw (at_place n (size (suc n)) (component (suc n)) (place (suc n))) at (f (suc n) (omega arith)),
  ),
  λ h i l. go h i (which_record n i l),
)
  where
    go : (size 0 ≡ true) × ((i : ℕ) → 1 ≤ i → i ≤ n → component i ≡ true) × (place (suc n) ≡ true) → (i : ℕ) → (i ≡ 0) ⊎ ((1 ≤ i) × (i ≤ n)) ⊎ (i ≡ suc n)
        → by_record n i (size i) (component i) (place i) ≡ true
    go h i (inl e) = rw e h.0
    go h i (inr (inl l)) = rw (at_component n i (size i) (component i) (place i) l.0 l.1) (h.1 i l.0 l.1)
    go h i (inr (inr e)) = rw (e, at_place n (size (suc n)) (component (suc n)) (place (suc n))) h.2

-- the component records keep their layout exactly if each does
pub components_each : (bs : List ℕ) (i n : ℕ) → (are_component_records bs i n ≡ true) ↔ ((j : ℕ) → i ≤ j → j < i + n → is_component_record (read_profile bs) j (record_at bs j) ≡ true)
unfolding are_component_records
components_each bs i zero = (λ e j h l. absurd (omega arith), λ f. refl)
components_each bs i (suc n) =
    Iff.trans (both _ _)
    (λ h j l. each h.0 ((components_each bs (suc i) n).0 h.1) j (eq-or-lt_of_le l), λ f. (f i (omega arith) (omega arith), (components_each bs (suc i) n).1 (λ j h l. f j (omega arith) (omega arith))))
  where
    each : is_component_record (read_profile bs) i (record_at bs i) ≡ true → ((j : ℕ) → suc i ≤ j → j < suc i + n → is_component_record (read_profile bs) j (record_at bs j) ≡ true)
        → (j : ℕ) → (i ≡ j) ⊎ (i < j) → j < i + suc n → is_component_record (read_profile bs) j (record_at bs j) ≡ true
    each h f j (inl e) l = rw (← e) h
    each h f j (inr k) l = f j k (omega arith)

-- ---- the four checks

-- a record keeps its layout exactly if it has its kind, and 0 in the bytes that the papers do not name
size_both : (r : List ℕ) → (is_size_record r ≡ true) ↔ ((has_size_kind r ≡ true) × (is_size_blank r ≡ true))
unfolding is_size_record
size_both r = both _ _

component_both : (p : Profile) (i : ℕ) (r : List ℕ) → (is_component_record p i r ≡ true) ↔ ((has_component_kind i r ≡ true) × (is_component_blank p r ≡ true))
unfolding is_component_record
component_both p i r = both _ _

place_both : (r : List ℕ) → (is_place_record r ≡ true) ↔ ((has_place_kind r ≡ true) × (is_place_blank r ≡ true))
unfolding is_place_record
place_both r = both _ _

module _ (bs : List ℕ) where
  -- 11 passes bytes whose records have their kinds
  kinds_pass : (check11 bs ≡ fine)
      ↔ ((has_size_kind (record_at bs 0) ≡ true)
      × ((i : ℕ) → 1 ≤ i → i ≤ component_count bs → has_component_kind i (record_at bs i) ≡ true)
      × (has_place_kind (record_at bs (suc (component_count bs))) ≡ true))
  unfolding has_kind
  kinds_pass = Iff.trans (check11_fine bs) (each_passes (component_count bs) (λ i. has_size_kind (record_at bs i)) (λ i. has_component_kind i (record_at bs i)) (λ i. has_place_kind (record_at bs i)))

  -- 21 those that have 0 where they must
  blanks_pass : (check21 bs ≡ fine)
      ↔ ((is_size_blank (record_at bs 0) ≡ true)
      × ((i : ℕ) → 1 ≤ i → i ≤ component_count bs → is_component_blank (read_profile bs) (record_at bs i) ≡ true)
      × (is_place_blank (record_at bs (suc (component_count bs))) ≡ true))
  unfolding is_unnamed_blank
  blanks_pass = Iff.trans (check21_fine bs) (each_passes (component_count bs) (λ i. is_size_blank (record_at bs i)) (λ i. is_component_blank (read_profile bs) (record_at bs i)) (λ i. is_place_blank (record_at bs i)))

  -- and both, those whose records keep their layout
  records_pass : (is_size_record (record_at bs 0) && are_component_records bs 1 (component_count bs) && is_place_record (record_at bs (suc (component_count bs))) ≡ true)
      ↔ ((check11 bs ≡ fine) × (check21 bs ≡ fine))
  records_pass = (
    λ e.
        let h = (both _ (is_place_record (record_at bs (suc (component_count bs))))).0 e in
        let g = (both (is_size_record (record_at bs 0)) (are_component_records bs 1 (component_count bs))).0 h.0 in
        let s = (size_both _).0 g.0 in
        let c = (components_each bs 1 (component_count bs)).0 g.1 in
        let p = (place_both _).0 h.1 in (
          kinds_pass.1 (s.0, λ i k l. ((component_both (read_profile bs) i _).0 (c i k (omega arith))).0, p.0),
          blanks_pass.1 (s.1, λ i k l. ((component_both (read_profile bs) i _).0 (c i k (omega arith))).1, p.1),
        ),
    λ h.
        let k = kinds_pass.0 h.0 in
        let b = blanks_pass.0 h.1 in
        let c : are_component_records bs 1 (component_count bs) ≡ true = (components_each bs 1 (component_count bs)).1 (λ i l m. (component_both (read_profile bs) i _).1 (k.1 i l (omega arith), b.1 i l (omega arith))) in
        (both _ _).1 ((both _ _).1 ((size_both _).1 (k.0, b.0), c), (place_both _).1 (k.2, b.2)),
  )

  -- 11 and 21 to 23 pass exactly the bytes that are laid out
  pub laid_out_passes : (is_laid_out bs ≡ true) ↔ ((check11 bs ≡ fine) × (check21 bs ≡ fine) × (check22 bs ≡ fine) × (check23 (read_search bs) ≡ fine))
  unfolding is_laid_out read_search
  laid_out_passes = (
    λ e.
        let p = (both _ (meets_place_rule (read_search bs).template (read_search bs).place)).0 e in
        let k = (both _ (adds_up bs)).0 p.0 in
        let r = records_pass.0 k.0 in
        (r.0, r.1, (check22_fine bs).1 k.1, (check23_fine (read_search bs)).1 p.1),
    λ h. (both _ _).1 ((both _ _).1 (records_pass.1 (h.0, h.1), (check22_fine bs).0 h.2), (check23_fine (read_search bs)).0 h.3),
  )
