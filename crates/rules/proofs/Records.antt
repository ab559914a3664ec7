-- The records of a saved search: each has 16 bytes, so record i of the bytes is the i-th record, and the bytes are as long
-- as the records that they count.
use mathlib.Core.Path.{◌≡◌, refl, sym, ap, ◌∙◌}
use mathlib.Core.Bool.{true}
use mathlib.Core.List.{List, [], ◌∷◌, ◌++◌, map, map-append}
use Prim.Native.Nat.{ℕ, zero, suc, ◌+◌, ◌*◌, ◌≤◌, ◌<◌}
use native.Mathlib.Nat.{mul-zero, mul-suc, add-zero, zero-add, add-suc, suc-add}
use native.Mathlib.Omega.{arith}
use lib.ListN.{length, get_or, take, drop, length-append, get_or-append}
use lib.Seq.{take_at, drop-append-add, get_or_at, drop-drop, take-add, take_all}
use lib.Dec.{eqb, leb}
use borrow.Author.Tests.{leb-true, eqb-true}
use Rattle.rules.specs.Limits.{record_bytes, record_extra, template_components}
use Rattle.rules.specs.Lists.{joined, run}
use Rattle.rules.specs.Saved.{low_first, size_record, component_record, place_record, component_records, records, bytes, record_at, record_count, is_sized}
use Rattle.rules.specs.Template.{components, slots, none}
use Rattle.rules.specs.declared.Component.{Component}
use Rattle.rules.specs.declared.Place.{Place}
use Rattle.rules.specs.declared.Profile.{Profile}
use Rattle.rules.specs.declared.Search.{Search}
use Rattle.rules.proofs.Lists.{run_append}
use Rattle.rules.proofs.Tests.{both}
use Rattle.rules.proofs.Components.{components_length, components_at}

-- P holds of each of a list
abbrev pub All : {A : Type 0} → (A → Type 0) → List A → Type 0
All P [] = Unit {0}
All P (x ∷ xs) = P x × All P xs

all_append : {A : Type 0} (P : A → Type 0) (xs ys : List A) → All P xs → All P ys → All P (xs ++ ys)
all_append P [] ys p q = q
all_append P (x ∷ xs) ys p q = (p.0, all_append P xs ys p.1 q)

-- LISTS OF ONE LENGTH laid end to end
module _ (w : ℕ) where
  -- how long that is
  pub joined_length : (rs : List (List ℕ)) → All (λ r. length r ≡ w) rs → length (joined rs) ≡ w * length rs
  unfolding joined
  joined_length [] e = omega (arith, mul-zero w)
  joined_length (r ∷ rs) e = omega (arith, length-append r (joined rs), joined_length rs e.1, mul-suc w (length rs))

  -- and the i-th of them in it
  pub joined_at : (rs : List (List ℕ)) (i : ℕ) → All (λ r. length r ≡ w) rs → i < length rs → take w (drop (w * i) (joined rs)) ≡ get_or rs i []
  unfolding joined
  joined_at [] i e h = absurd (omega arith)
  joined_at (r ∷ rs) zero e h = rw mul-zero (take_at r (joined rs) w e.0)
  joined_at (r ∷ rs) (suc i) e h =
      let k : w * suc i ≡ length r + w * i = omega (arith, mul-suc w i) in rw (k, drop-append-add r (joined rs) (w * i)) (joined_at rs i e.1 (omega arith))

-- A SEARCH'S RECORDS. The size record has 16 bytes
pub size_record_length : (s : Search) → length (size_record s) ≡ record_bytes
unfolding size_record low_first
size_record_length s = refl

-- so does a component's record
pub component_record_length : (p : Profile) (i : ℕ) (c : Component) → length (component_record p i c) ≡ record_bytes
unfolding component_record low_first
component_record_length p i c = refl

-- and the place record
pub place_record_length : (p : Place) → length (place_record p) ≡ record_bytes
unfolding place_record low_first
place_record_length p = refl

component_records_are : (P : List ℕ → Type 0) (p : Profile) (i : ℕ) (cs : List Component) → ((k : ℕ) → k < length cs → P (component_record p (i + k) (get_or cs k none)))
    → All P (component_records p i cs)
unfolding component_records
component_records_are P p i [] h = tt
component_records_are P p i (c ∷ cs) h = (
  rw add-zero at (h 0 (omega arith)),
  component_records_are P p (suc i) cs (λ k l. let e : suc i + k ≡ i + suc k = omega arith in rw e (h (suc k) (omega arith))),
)

-- what holds of each kind of record holds of each of a search's records
pub records_are : (P : List ℕ → Type 0) (s : Search) → P (size_record s)
    → ((k : ℕ) → k < length (components s.template) → P (component_record s.template.profile (1 + k) (get_or (components s.template) k none)))
    → P (place_record s.place) → All P (records s)
unfolding records
records_are P s h c p =
    let k = s.template.profile in
    (h, all_append P (component_records k 1 (components s.template)) (place_record s.place ∷ []) (component_records_are P k 1 (components s.template) c) (p, tt))

-- so each has 16 bytes
pub records_sixteen : (s : Search) → All (λ r. length r ≡ record_bytes) (records s)
records_sixteen s = records_are (λ r. length r ≡ record_bytes) s (size_record_length s) (λ k h. component_record_length s.template.profile (1 + k) (get_or (components s.template) k none)) (place_record_length s.place)

component_records_length : (p : Profile) (i : ℕ) (cs : List Component) → length (component_records p i cs) ≡ length cs
unfolding component_records
component_records_length p i [] = refl
component_records_length p i (c ∷ cs) = ap suc (component_records_length p (suc i) cs)

-- there is one for each component, and two
pub records_length : (s : Search) → length (records s) ≡ length (components s.template) + record_extra
unfolding records
records_length s =
    let p = s.template.profile in
    omega (arith, length-append (component_records p 1 (components s.template)) (place_record s.place ∷ []), component_records_length p 1 (components s.template))

-- a saved search has 16 bytes for each component, and 32
pub bytes_length : (s : Search) → length (bytes s) ≡ record_bytes * (length (components s.template) + record_extra)
unfolding bytes
bytes_length s = joined_length record_bytes (records s) (records_sixteen s) ∙ ap (λ n. record_bytes * n) (records_length s)

-- which is what the template counts, if that is within the limit
pub bytes_counted : (s : Search) → s.template.count ≤ template_components → length (bytes s) ≡ record_bytes * (s.template.count + record_extra)
bytes_counted s h = bytes_length s ∙ ap (λ n. record_bytes * (n + record_extra)) (components_length s.template h)

-- record i of a saved search is the i-th that was written
pub record_at_bytes : (s : Search) (i : ℕ) → i < length (records s) → record_at (bytes s) i ≡ get_or (records s) i []
unfolding record_at bytes
record_at_bytes s i h = joined_at record_bytes (records s) i (records_sixteen s) h

-- the first is the size record
pub size_at : (s : Search) → record_at (bytes s) 0 ≡ size_record s
unfolding records
size_at s = record_at_bytes s 0 (omega (arith, records_length s))

component_records_at : (p : Profile) (i k : ℕ) (cs : List Component) → k < length cs → get_or (component_records p i cs) k [] ≡ component_record p (i + k) (get_or cs k none)
unfolding component_records
component_records_at p i k [] h = absurd (omega arith)
component_records_at p i zero (c ∷ cs) h = rw add-zero
component_records_at p i (suc k) (c ∷ cs) h = rw (add-suc, ← (suc-add i k)) (component_records_at p (suc i) k cs (omega arith))

module _ (s : Search) (few : s.template.count ≤ template_components) where
  open s use {template, place}

  -- then comes the record of each component
  pub component_at : (k : ℕ) → k < template.count → record_at (bytes s) (suc k) ≡ component_record template.profile (suc k) (get_or (slots template) k none)
  unfolding records
  component_at k h =
      let cs = components template in
      let n : length (component_records template.profile 1 cs) ≡ template.count = component_records_length template.profile 1 cs ∙ components_length template few in
      record_at_bytes s (suc k) (omega (arith, records_length s, components_length template few))
      ∙ get_or-append (component_records template.profile 1 cs) (place_record place ∷ []) [] k (omega arith)
      ∙ component_records_at template.profile 1 k cs (omega (arith, components_length template few))
      ∙ rw (components_at template k h, suc-add, zero-add)

  -- and the last is the place record
  pub place_at : record_at (bytes s) (suc template.count) ≡ place_record place
  unfolding records
  place_at =
      let cs = components template in
      record_at_bytes s (suc template.count) (omega (arith, records_length s, components_length template few))
      ∙ get_or_at (component_records template.profile 1 cs) (place_record place) [] [] template.count (component_records_length template.profile 1 cs ∙ components_length template few)

-- READING. n records of some bytes, from record i on, laid end to end, are that part of the bytes
records_joined : (bs : List ℕ) (i n : ℕ) → joined (map (record_at bs) (run i n)) ≡ take (record_bytes * n) (drop (record_bytes * i) bs)
unfolding record_at joined run
records_joined bs i zero = refl
records_joined bs i (suc n) =
    let k : record_bytes * suc i ≡ record_bytes * i + record_bytes = omega arith in
    let m : record_bytes * suc n ≡ record_bytes + record_bytes * n = omega arith in
    rw (records_joined bs (suc i) n, m, k, take-add record_bytes (record_bytes * n) (drop (record_bytes * i) bs), drop-drop record_bytes (record_bytes * i) bs)

-- and all of them are the bytes, if their number is n and two
pub records_whole : (bs : List ℕ) (n : ℕ) → length bs ≡ record_bytes * (n + record_extra) → joined (record_at bs 0 ∷ map (record_at bs) (run 1 n) ++ (record_at bs (suc n) ∷ [])) ≡ bs
unfolding run
records_whole bs n h =
    let e : run 0 (suc n) ++ run (suc n) 1 ≡ run 0 (n + record_extra) = let k : n + record_extra ≡ suc n + 1 = omega arith in rw (k, ← (run_append 0 (suc n) 1), zero-add) in
    ap joined (sym (map-append (record_at bs) (run 0 (suc n)) (run (suc n) 1)) ∙ ap (map (record_at bs)) e)
    ∙ records_joined bs 0 (n + record_extra)
    ∙ take_all (record_bytes * (n + record_extra)) bs (omega arith)

-- what it is for bytes to be as long as the records that they count
pub sized_says : (bs : List ℕ) → is_sized bs ≡ true → (record_bytes ≤ length bs) × (record_extra ≤ record_count bs) × (length bs ≡ record_bytes * record_count bs)
unfolding is_sized
sized_says bs e =
    let p = (both _ (eqb (length bs) (record_bytes * record_count bs))).0 e in
    let q = (both (leb record_bytes (length bs)) (leb record_extra (record_count bs))).0 p.0 in
    (leb-true _ _ q.0, leb-true _ _ q.1, eqb-true _ _ p.1)
