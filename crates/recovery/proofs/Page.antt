-- From an empty buffer on, what is written is a page of the list: the rows before the first one asked for are passed over, and
-- then each is written behind the last, as many as fit.
use mathlib.Core.Path.{◌≡◌, refl, ap, ◌∙◌}
use mathlib.Core.List.Memᴰ
use mathlib.Core.List.{List, [], ◌∷◌, ◌++◌, append_assoc, Memᴰ}
use Prim.Native.Nat.{ℕ, zero, suc, ◌+◌, ◌-◌, ◌*◌, ◌/◌, ◌≤◌, ◌<◌}
use native.Mathlib.Nat.{zero-add, add-zero, suc-mul, zero-mul, div-mul-le_self, lt-div-mul-add}
use native.Mathlib.Omega.{arith}
use lib.ListN.{length, take, drop, length-append, length-take, length-drop, take-append-drop}
use lib.Seq.{length-take-le, take_at, drop_at, drop-drop, take-nil}
use Rattle.descent.specs.Buffer.{Buffer, buffer, progress, emits}
use Rattle.descent.specs.declared.Progress.{Progress}
use Rattle.descent.proofs.Buffer.{emit_written, emits_full, emits_passed}
use Rattle.rules.specs.Lists.{joined, put}

-- rows of w numbers laid end to end
joined_length : (w : ℕ) (xs : List (List ℕ)) → ((x : List ℕ) → Memᴰ x xs → length x ≡ w) → length (joined xs) ≡ length xs * w
unfolding joined
joined_length w [] h = rw (zero-mul w)
joined_length w (x ∷ xs) h = rw (length-append x (joined xs), h x (Memᴰ.head refl), joined_length w xs (λ y m. h y (Memᴰ.tail m)), suc-mul (length xs) w) (omega arith)

-- a buffer with a row more in it
module _ (a w : ℕ) (row l : List ℕ) (fits : a + w ≤ length l) (wide : length row ≡ w) where
  abbrev longer : List ℕ
  longer = take a l ++ (row ++ drop (a + w) l)

  front_length : length (take a l ++ row) ≡ a + w
  front_length = rw (length-append (take a l) row, length-take-le a l (omega arith), wide)

  longer_take : take (a + w) longer ≡ take a l ++ row
  longer_take = rw (← (append_assoc (take a l) row (drop (a + w) l))) (take_at (take a l ++ row) (drop (a + w) l) (a + w) front_length)

  longer_drop : (m : ℕ) → drop (a + w + m) longer ≡ drop (a + w + m) l
  longer_drop m =
      rw (← (drop-drop m (a + w) (take a l ++ (row ++ drop (a + w) l))), ← (append_assoc (take a l) row (drop (a + w) l)), drop_at (take a l ++ row) (drop (a + w) l) (a + w) front_length)
      (drop-drop m (a + w) l)

  longer_length : length longer ≡ length l
  longer_length = simp (length-append, length-drop, length-take, wide) (omega arith)

-- a buffer with some rows of w numbers written behind the last
unfoldable wrote : ℕ → ℕ → ℕ → List ℕ → List (List ℕ) → Buffer
wrote w r a l ys = buffer (progress 0 (r + length ys) (a + length ys * w)) (take a l ++ (joined ys ++ drop (a + length ys * w) l))

wrote_none : (w r a : ℕ) (l : List ℕ) → buffer (progress 0 r a) l ≡ wrote w r a l []
unfolding wrote joined
wrote_none w r a l = rw (zero-mul w, add-zero r, add-zero a, take-append-drop a l)

wrote_more : (w r a : ℕ) (row l : List ℕ) (ys : List (List ℕ)) → a + w ≤ length l → length row ≡ w
    → wrote w (r + 1) (a + w) (take a l ++ (row ++ drop (a + w) l)) ys ≡ wrote w r a l (row ∷ ys)
unfolding wrote joined
wrote_more w r a row l ys fits wide =
    let n : r + 1 + length ys ≡ r + suc (length ys) = omega arith in
    let m : a + suc (length ys) * w ≡ a + w + length ys * w = omega arith in
    rw (n, m, longer_take a w row l fits wide, longer_drop a w row l fits wide (length ys * w), append_assoc (take a l) row (joined ys ++ drop (a + w + length ys * w) l), append_assoc row (joined ys) (drop (a + w + length ys * w) l))

-- then each is written behind the last, as long as there is room: f rows fit
emits_written : (w : ℕ) (xs : List (List ℕ)) → ((x : List ℕ) → Memᴰ x xs → length x ≡ w) → (f r a : ℕ) (l : List ℕ) → a + f * w ≤ length l → length l < a + f * w + w
    → emits w xs (buffer (progress 0 r a) l) ≡ wrote w r a l (take f xs)
unfolding emits
emits_written w [] wide f r a l h k = rw (take-nil {A = List ℕ} f) (wrote_none w r a l)
emits_written w (x ∷ xs) wide zero r a l h k = rw (← (emits_full w (x ∷ xs) (progress 0 r a) l refl (omega arith))) (wrote_none w r a l)
emits_written w (x ∷ xs) wide (suc f) r a l h k =
    let fits : a + w ≤ length l = omega arith in
    let row : length x ≡ w = wide x (Memᴰ.head refl) in
    let same : length (take a l ++ (x ++ drop (a + w) l)) ≡ length l = longer_length a w x l fits row in
    rw (← (emit_written w x (progress 0 r a) l refl fits refl))
    (emits_written w xs (λ y m. wide y (Memᴰ.tail m)) f (r + 1) (a + w) (take a l ++ (x ++ drop (a + w) l)) (omega arith) (omega arith) ∙ wrote_more w r a x l (take f xs) fits row)

drop_in : {A : Type 0} (k : ℕ) (xs : List A) {x : A} → Memᴰ x (drop k xs) → Memᴰ x xs
drop_in zero xs m = m
drop_in (suc k) [] m = m
drop_in (suc k) (y ∷ xs) m = Memᴰ.tail (drop_in k xs m)

take_in : {A : Type 0} (k : ℕ) (xs : List A) {x : A} → Memᴰ x (take k xs) → Memᴰ x xs
take_in zero xs m = absurd (Memᴰ.not-nil m)
take_in (suc k) [] m = m
take_in (suc k) (y ∷ xs) (Memᴰ.head e) = Memᴰ.head e
take_in (suc k) (y ∷ xs) (Memᴰ.tail m) = Memᴰ.tail (take_in k xs m)

-- from the start: the rows from number k on, as many as fit, at the front of the buffer
pub emits_page : (w : ℕ) (xs : List (List ℕ)) → ((x : List ℕ) → Memᴰ x xs → length x ≡ w) → 0 < w → (k : ℕ) (l : List ℕ) → k ≤ length xs → {g : Progress} {l' : List ℕ}
    → buffer g l' ≡ emits w xs (buffer (progress k 0 0) l)
    → (g.rows ≡ length (take (length l / w) (drop k xs))) × (l' ≡ put (joined (take (length l / w) (drop k xs))) l)
unfolding wrote put
emits_page w xs wide some k l h {g} {l'} e =
    let ys = take (length l / w) (drop k xs) in
    let none_left : k - length xs ≡ 0 = omega arith in
    let r : buffer g l' ≡ wrote w 0 0 l ys = e ∙ emits_passed w xs k 0 0 l ∙ rw none_left (emits_written w (drop k xs) (λ x m. wide x (drop_in k xs m)) (length l / w) 0 0 l (omega (arith, div-mul-le_self (length l) w)) (omega (arith, lt-div-mul-add {a = length l} some))) in
    let n : length (joined ys) ≡ length ys * w = joined_length w ys (λ x m. wide x (drop_in k xs (take_in (length l / w) (drop k xs) m))) in
    (ap (λ s. s.progress.rows) r ∙ zero-add (length ys), ap (λ s. s.table) r ∙ rw (n, zero-add (length ys * w)))
