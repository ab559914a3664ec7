-- Well-formed bytes are written back from the search that they hold: each record is its fields end to end, a field of n
-- bytes is written back as those bytes, and what no field holds, or the kind of search does not use, is fixed by the layout.
use mathlib.Core.Path.{◌≡◌, refl, sym, ap, ◌∙◌}
use mathlib.Core.Bool.{true}
use mathlib.Core.List.{List, [], ◌∷◌, ◌++◌, map}
use Prim.Native.Nat.{ℕ, zero, suc, ◌+◌, ◌*◌, ◌≤◌, ◌<◌}
use native.Mathlib.Omega.{arith}
use lib.Dec.{eqb, leb}
use lib.ListN.{length, get_or, take, drop, replicate, length-drop}
use lib.Seq.{take_all, take-add, drop-drop, drop-cons, get_or-drop, get_or-take, length-take-le}
use borrow.Author.Tests.{le-leb, leb-true, eqb-true}
use Rattle.rules.specs.Limits.{profile_last, record_bytes, record_size, record_component, record_place, record_extra, template_components}
use Rattle.rules.specs.Lists.{run, sum}
use Rattle.rules.specs.Profile.{profile_number, numbered_profile}
use Rattle.rules.specs.Saved.{low_first, read_low, size_record, component_record, place_record, component_records, records, bytes, record_at, field, record_count, component_count, read_profile, read_component, read_place, read_template, read_search, is_sized, is_blank, has_size_kind, has_component_kind, has_place_kind, is_size_blank, is_allowance_blank, is_component_blank, is_place_blank, is_size_record, is_component_record, is_place_record, are_component_records, is_laid_out, Bytes}
use Rattle.rules.specs.Template.{allowance_in, components, kept, size, trimmed}
use Rattle.rules.specs.declared.Component.{Component}
use Rattle.rules.specs.declared.Profile.{Profile}
use Rattle.rules.specs.declared.Profile.TheVariants.{Exact, Mixed}
use Rattle.rules.specs.declared.Search.{Search}
use Rattle.rules.proofs.All.{all_one}
use Rattle.rules.proofs.LowFirst.{bytes_take, bytes_drop, written_read}
use Rattle.rules.proofs.LaidOut.{laid_out_says}
use Rattle.rules.proofs.Tests.{both}
use Rattle.rules.proofs.Trimmed.{used, used_allowance, kept_twice}
use Rattle.rules.proofs.Records.{records_whole, sized_says}

-- pieces of a list from k on, as long as ns say, end to end
abbrev pieces : ℕ → List ℕ → List ℕ → List ℕ
pieces k [] r = []
pieces k (n ∷ ns) r = take n (drop k r) ++ pieces (k + n) ns r

pieces_joined : (k : ℕ) (ns r : List ℕ) → pieces k ns r ≡ take (sum ns) (drop k r)
unfolding sum
pieces_joined k [] r = refl
pieces_joined k (n ∷ ns) r = rw (pieces_joined (k + n) ns r, take-add n (sum ns) (drop k r), drop-drop n k r)

-- THE PIECES OF A RECORD: one byte, one byte that the layout fixes, a number of n bytes, and bytes that must be 0
module _ (r : List ℕ) (k : ℕ) where
  piece_byte : k < length r → take 1 (drop k r) ≡ field r k 1 ∷ []
  unfolding field read_low
  piece_byte h = let e : field r k 1 ≡ get_or r k 0 = rw (drop-cons r k 0 h) (omega arith) in rw (e, drop-cons r k 0 h)

  piece_fixed : (x : ℕ) → k < length r → eqb (field r k 1) x ≡ true → take 1 (drop k r) ≡ x ∷ []
  piece_fixed x h e = piece_byte h ∙ ap (λ y. y ∷ []) (eqb-true (field r k 1) x e)

  piece_number : (n : ℕ) → Bytes r → k + n ≤ length r → take n (drop k r) ≡ low_first n (field r k n)
  unfolding field
  piece_number n b h = sym (written_read n (drop k r) (omega (arith, length-drop k r)) (λ i l. bytes_drop k r b i))

piece_blank : (r : List ℕ) (k n : ℕ) → k + n ≤ length r → is_blank r k n ≡ true → take n (drop k r) ≡ replicate n 0
unfolding is_blank
piece_blank r k n h e = all_one 0 (take n (drop k r)) e ∙ ap (λ m. replicate m 0) (length-take-le n (drop k r) (omega (arith, length-drop k r)))

-- EACH KIND OF RECORD is written back
module _ (r : List ℕ) (w : length r ≡ record_bytes) (b : Bytes r) where
  -- it is its pieces
  sixteen : (ns : List ℕ) → sum ns ≡ record_bytes → pieces 0 ns r ≡ r
  sixteen ns e = pieces_joined 0 ns r ∙ take_all (sum ns) r (omega arith)

  -- the byte of an allowance: in an exact search it must be 0
  piece_allowance : (p : Profile) → is_allowance_blank p r ≡ true → take 1 (drop 3 r) ≡ allowance_in p (read_component r) ∷ []
  unfolding read_component
  piece_allowance Exact e = piece_blank r 3 1 (omega arith) e
  piece_allowance Mixed e = piece_byte r 3 (omega arith)

  -- of the component that a record holds a kind of search uses all that it lets stand there
  component_again : (p : Profile) (i : ℕ) → is_component_record p i r ≡ true → component_record p i (used p (read_component r)) ≡ r
  unfolding is_component_record has_component_kind is_component_blank component_record read_component low_first sum
  component_again p i e =
      let h = (both (has_component_kind i r) (is_component_blank p r)).0 e in
      let k = (both (eqb (field r 0 1) record_component) (eqb (field r 1 1) i)).0 h.0 in
      let q = (both (is_allowance_blank p r) (is_blank r 8 8)).0 h.1 in
      rw (used_allowance p (read_component r))
      (rw (
        piece_fixed r 0 record_component (omega arith) k.0,
        piece_fixed r 1 i (omega arith) k.1,
        piece_byte r 2 (omega arith),
        piece_allowance p q.0,
        piece_number r 4 2 b (omega arith),
        piece_number r 6 2 b (omega arith),
        piece_blank r 8 8 (omega arith) q.1,
      )
      at (sixteen (1 ∷ 1 ∷ 1 ∷ 1 ∷ 2 ∷ 2 ∷ 8 ∷ []) refl))

  place_again : is_place_record r ≡ true → place_record (read_place r) ≡ r
  unfolding is_place_record has_place_kind is_place_blank place_record read_place low_first sum
  place_again e =
      let p = (both (has_place_kind r) (is_place_blank r)).0 e in
      rw
      (piece_fixed r 0 record_place (omega arith) p.0, piece_byte r 1 (omega arith), piece_blank r 2 6 (omega arith) p.1, piece_number r 8 8 b (omega arith))
      at (sixteen (1 ∷ 1 ∷ 6 ∷ 8 ∷ []) refl)

  -- with its fields given one by one: the count, the quorum, the sequences, K, the letters and the kind of search
  size_again : (s : Search) → is_size_record r ≡ true → s.template.count + record_extra ≡ field r 1 1 → s.quorum ≡ field r 2 2 → s.set.sequences ≡ field r 4 2
      → size s.template ≡ field r 6 2 → s.set.letters ≡ field r 8 4 → profile_number s.template.profile ≡ field r 12 1 → size_record s ≡ r
  unfolding is_size_record has_size_kind is_size_blank size_record low_first sum
  size_again s e n q m k l y =
      let p = (both (has_size_kind r) (is_size_blank r)).0 e in
      let z = (both (leb (field r 12 1) profile_last) (is_blank r 13 3)).0 p.1 in
      rw (n, q, m, k, l, y)
      (rw (
        piece_fixed r 0 record_size (omega arith) p.0,
        piece_byte r 1 (omega arith),
        piece_number r 2 2 b (omega arith),
        piece_number r 4 2 b (omega arith),
        piece_number r 6 2 b (omega arith),
        piece_number r 8 4 b (omega arith),
        piece_byte r 12 (omega arith),
        piece_blank r 13 3 (omega arith) z.1,
      )
      at (sixteen (1 ∷ 1 ∷ 2 ∷ 2 ∷ 2 ∷ 4 ∷ 1 ∷ 3 ∷ []) refl))

  -- a size record that keeps its layout has the number of a kind of search
  number_again : is_size_record r ≡ true → profile_number (numbered_profile (field r 12 1)) ≡ field r 12 1
  unfolding is_size_record is_size_blank
  number_again e = go (field r 12 1) (leb-true _ _ ((both (leb (field r 12 1) profile_last) (is_blank r 13 3)).0 ((both (has_size_kind r) (is_size_blank r)).0 e).1).0)
    where
      go : (n : ℕ) → n ≤ profile_last → profile_number (numbered_profile n) ≡ n
      go zero h = refl
      go (suc zero) h = refl
      go (suc (suc n)) h = absurd (omega arith)

-- THE TEMPLATE THAT BYTES HOLD
-- it has nothing in what it does not use
pub read_trimmed : (bs : List ℕ) → trimmed (read_template bs) ≡ read_template bs
unfolding trimmed read_template
read_trimmed bs = simp kept_twice

-- the first n of what g makes of a run, if g is f on them
map_first : (f g : ℕ → Component) (i n m : ℕ) → n ≤ m → ((k : ℕ) → k < i + n → g k ≡ f k) → take n (map g (run i m)) ≡ map f (run i n)
unfolding run
map_first f g i zero m h e = refl
map_first f g i (suc n) zero h e = absurd (omega arith)
map_first f g i (suc n) (suc m) h e = rw (e i (omega arith), map_first f g (suc i) n m (omega arith) (λ k l. e k (omega arith)))

-- and its components are what its kind of search uses of those that the records hold
abbrev pub component_in : List ℕ → ℕ → Component
component_in bs i = used (read_profile bs) (read_component (record_at bs i))

pub read_components : (bs : List ℕ) → component_count bs ≤ template_components → components (read_template bs) ≡ map (component_in bs) (run 1 (component_count bs))
unfolding components read_template run
read_components bs h =
    map_first (component_in bs) (λ i. kept (read_profile bs) (component_count bs) i (read_component (record_at bs i))) 1 (component_count bs) template_components h
    (λ k l. rw (le-leb k (component_count bs) (omega arith)))

module _ (bs : List ℕ) where
  -- a record of bytes is bytes, and 16 of them if they reach so far
  record_is_bytes : Bytes bs → (i : ℕ) → Bytes (record_at bs i)
  unfolding record_at
  record_is_bytes b i = bytes_take record_bytes (drop (record_bytes * i) bs) (bytes_drop (record_bytes * i) bs b)

  record_length : (i : ℕ) → record_bytes * suc i ≤ length bs → length (record_at bs i) ≡ record_bytes
  unfolding record_at
  record_length i h = length-take-le record_bytes (drop (record_bytes * i) bs) (omega (arith, length-drop (record_bytes * i) bs))

  components_again : Bytes bs → (i n : ℕ) → record_bytes * (i + n) ≤ length bs → are_component_records bs i n ≡ true
      → component_records (read_profile bs) i (map (component_in bs) (run i n)) ≡ map (record_at bs) (run i n)
  unfolding are_component_records component_records run
  components_again b i zero h e = refl
  components_again b i (suc n) h e =
      let p = (both (is_component_record (read_profile bs) i (record_at bs i)) (are_component_records bs (suc i) n)).0 e in
      rw (component_again (record_at bs i) (record_length i (omega arith)) (record_is_bytes b i) (read_profile bs) i p.0, components_again b (suc i) n (omega arith) p.1)

-- the number of records stands in the size record
count_field : (bs : List ℕ) → field (record_at bs 0) 1 1 ≡ record_count bs
unfolding field read_low record_at record_count
count_field bs = omega (arith, get_or-drop 1 (take record_bytes bs) 0 0, get_or-take record_bytes bs 1 0 (omega arith))

-- WELL-FORMED BYTES
-- they are the bytes of the search that they hold
pub bytes_again : (bs : List ℕ) → Bytes bs → is_sized bs ≡ true → component_count bs ≤ template_components → is_laid_out bs ≡ true → bytes (read_search bs) ≡ bs
unfolding bytes records read_search read_template read_profile component_count
bytes_again bs b z few l =
    let s = read_search bs in
    let n = component_count bs in
    let d = sized_says bs z in
    let o = laid_out_says bs l in
    let w : length bs ≡ record_bytes * (n + record_extra) = omega arith in
    let a : size_record s ≡ record_at bs 0 =
    size_again (record_at bs 0) (record_length bs 0 (omega arith)) (record_is_bytes bs b 0) s o.sizes (omega (arith, count_field bs)) refl refl (sym o.adds) refl (number_again (record_at bs 0) (record_length bs 0 (omega arith)) (record_is_bytes bs b 0) o.sizes) in
    let c : component_records s.template.profile 1 (components s.template) ≡ map (record_at bs) (run 1 n) = rw (read_components bs few) (components_again bs b 1 n (omega arith) o.each) in
    let e : place_record s.place ≡ record_at bs (suc n) = place_again (record_at bs (suc n)) (record_length bs (suc n) (omega arith)) (record_is_bytes bs b (suc n)) o.place in
    rw (a, c, e) (records_whole bs n w)
