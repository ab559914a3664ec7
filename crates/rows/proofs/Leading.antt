-- Counts led on by a gap, word by word from the last to the first: a turn reads only places before those that are written. Where a word
-- of the opened row is empty, nothing reaches its places, so nothing has to be written there.
use mathlib.Core.List.{List, ◌++◌}
use mathlib.Core.Path.{◌≡◌, refl, sym, ap, ◌∙◌}
use Prim.Native.Nat.{ℕ, ◌+◌, ◌-◌, ◌/◌, ◌%◌, ◌≤◌, ◌<◌}
use native.Mathlib.Decide.{dec_lt}
use native.Mathlib.Omega.{arith}
use lib.ListN.{length, take, drop, get_or, length-append, length-drop, get_or-append, get_or-eq_default}
use lib.Seq.{length-take-le, get_or-take, get_or-drop, get_or-append-add, take-take, take-append-le}
use Rattle.rows.specs.Bits.{held}
use Rattle.rows.specs.Flags.{recent, around, back, added, masked_at, masked}
use Rattle.rows.proofs.Back.{back_none, length_back, back_at, back_by, back_keeps, back_front, back_all, recent_kept, added_is, added_at}
use Rattle.rows.proofs.Bits.{held_at, digit_none}
use Rattle.rows.proofs.Masks.{length_masked, getd_masked, masked_off, masked_on, masked_at_same}

-- ONE WORD: the places from `from` on
module _ (row opened counts : List ℕ) (d n from : ℕ)
    (dark : (p : ℕ) → p < length counts → get_or (held opened) p 0 ≡ 0 → recent (masked (held row) counts) p d n ≡ 0)
    (inside : from < length counts) where
  abbrev M : List ℕ
  M = masked (held row) counts

  -- that is empty
  module _ (whole : from % 64 ≡ 0) (few : length counts ≤ from + 64) (empty : get_or opened (from / 64) 0 ≡ 0) where
    off : (p : ℕ) → from ≤ p → p < length counts → get_or (held opened) p 0 ≡ 0
    off p h u =
        let z : p / 64 ≡ from / 64 = omega arith in
        held_at opened p ∙ rw (z, empty) (digit_none (p % 64))

    pub none_sum : 0 ≡ recent M from d n
    none_sum = sym (dark from inside (off from (omega arith) inside))

    pub none_written : masked (held opened) counts ≡ back (around M d n) from (masked (held opened) counts)
    none_written =
        let l : length (masked (held opened) counts) ≡ length counts = length_masked (held opened) counts in
        back_by (around M d n) (masked (held opened) counts) from (omega arith) (masked (held opened) counts) refl (λ i _. refl)
        (λ i h u.
        let v : i < length counts = omega arith in
        getd_masked (held opened) counts i ∙ masked_off (held opened) counts i (off i h v) ∙ sym (dark i v (off i h v)))

  -- and that is written
  module _ {y : List ℕ} (e : y ≡ back (around M d n) from counts) where
    pub front_kept : take from y ≡ take from counts
    front_kept = back_front (around M d n) counts from e (omega arith)

    written_at : (i : ℕ) → from ≤ i → i < length counts → masked_at (held opened) y i ≡ recent M i d n
    written_at i h u =
        elim (dec_lt 0 (get_or (held opened) i 0)) [
          | no z ↦ (masked_off (held opened) y i (omega arith) ∙ sym (dark i u (omega arith)))
          | yes z ↦ (masked_on (held opened) y i z ∙ ap (λ (x : List ℕ). get_or x i 0) e ∙ back_at (around M d n) counts from (omega arith) i h u)
        ]

    pub word_written : masked (held opened) y ≡ back (around M d n) from (masked (held opened) counts)
    word_written =
        let l : length (masked (held opened) counts) ≡ length counts = length_masked (held opened) counts in
        let m : length y ≡ length counts = ap length e ∙ length_back (around M d n) counts from (omega arith) in
        back_by (around M d n) (masked (held opened) counts) from (omega arith) (masked (held opened) y) (length_masked (held opened) y ∙ m ∙ sym l)
        (λ i h. getd_masked (held opened) y i ∙ masked_at_same (held opened) y counts i (back_keeps (around M d n) counts from e (omega arith) i h) ∙ sym (getd_masked (held opened) counts i))
        (λ i h u. getd_masked (held opened) y i ∙ written_at i h (omega arith))

-- A TURN at the places from `from` up to `to`, those from `to` on being written
module _ (row opened l : List ℕ) (d n to : ℕ) (near : 1 ≤ d) (within : to ≤ length l) (x : List ℕ) (long : length x ≡ length l) (front : take to x ≡ take to l) where
  abbrev L : List ℕ
  L = masked (held row) l

  abbrev H : List ℕ
  H = masked (held row) (take to x)

  pub handed_length : length (take to x) ≡ to
  handed_length = length-take-le to x (omega arith)

  handed_at : (i : ℕ) → i < to → get_or (take to x) i 0 ≡ get_or l i 0
  handed_at i h = ap (λ (y : List ℕ). get_or y i 0) front ∙ get_or-take to l i 0 h

  kept_handed : (i : ℕ) → i < to → get_or H i 0 ≡ get_or L i 0
  kept_handed i h = getd_masked (held row) (take to x) i ∙ masked_at_same (held row) (take to x) l i (handed_at i h) ∙ sym (getd_masked (held row) l i)

  pub handed_most : (i : ℕ) → get_or H i 0 ≤ get_or L i 0
  handed_most i =
      elim (dec_lt i to) [
        | yes h ↦ omega (arith, kept_handed i h)
        | no h ↦ (let z : get_or H i 0 ≡ 0 = get_or-eq_default H 0 {n = i} (omega (arith, length_masked (held row) (take to x), handed_length)) in omega arith)
      ]

  pub handed_recent : (o : ℕ) → o ≤ to → recent H o d n ≡ recent L o d n
  handed_recent o h = recent_kept L H o d n (λ i u. kept_handed i (omega arith)) near

  pub handed_dark : 1 ≤ n → ((p : ℕ) → get_or (held opened) p 0 ≡ 0 → get_or (added d (d + n - 1) L) p 0 ≡ 0)
      → (p : ℕ) → p < length (take to x) → get_or (held opened) p 0 ≡ 0 → recent H p d n ≡ 0
  handed_dark some dark p h e =
      let u : p < length L = omega (arith, handed_length, length_masked (held row) l) in
      handed_recent p (omega (arith, handed_length)) ∙ sym (added_at L d n p some u) ∙ dark p e

  module _ (after : masked (held opened) x ≡ back (around L d n) to (masked (held opened) l)) (from : ℕ) (h : from ≤ to) (y : List ℕ)
      (kept : take from y ≡ take from (take to x)) (here : masked (held opened) y ≡ back (around H d n) from (masked (held opened) (take to x))) where
    turn_length : length y ≡ to
    turn_length =
        let m : length (masked (held opened) (take to x)) ≡ to = length_masked (held opened) (take to x) ∙ handed_length in
        sym (length_masked (held opened) y) ∙ ap length here ∙ length_back (around H d n) (masked (held opened) (take to x)) from (omega arith) ∙ m

    pub turn_front : take from (y ++ drop to x) ≡ take from l
    turn_front = take-append-le from y (drop to x) (omega (arith, turn_length)) ∙ kept ∙ ap (take from) front ∙ take-take from to l h

    put_length : length (y ++ drop to x) ≡ length l
    put_length = length-append y (drop to x) ∙ rw length-drop (omega (arith, turn_length))

    put_in : (i : ℕ) → i < to → get_or (y ++ drop to x) i 0 ≡ get_or y i 0
    put_in i u = get_or-append y (drop to x) 0 i (omega (arith, turn_length))

    put_past : (i : ℕ) → to ≤ i → get_or (y ++ drop to x) i 0 ≡ get_or x i 0
    put_past i u =
        let z : i ≡ length y + (i - to) = omega (arith, turn_length) in
        let w : to + (i - to) ≡ i = omega arith in
        ap (λ (j : ℕ). get_or (y ++ drop to x) j 0) z ∙ get_or-append-add y (drop to x) (i - to) 0 ∙ get_or-drop to x (i - to) 0 ∙ ap (λ (j : ℕ). get_or x j 0) w

    at_front : (i : ℕ) → i < from → get_or (y ++ drop to x) i 0 ≡ get_or l i 0
    at_front i u =
        sym (get_or-take from (y ++ drop to x) i 0 u) ∙ ap (λ (z : List ℕ). get_or z i 0) turn_front ∙ get_or-take from l i 0 u

    at_here : (i : ℕ) → from ≤ i → i < to → masked_at (held opened) (y ++ drop to x) i ≡ recent L i d n
    at_here i u v =
        let m : length (masked (held opened) (take to x)) ≡ to = length_masked (held opened) (take to x) ∙ handed_length in
        masked_at_same (held opened) (y ++ drop to x) y i (put_in i v)
        ∙ sym (getd_masked (held opened) y i) ∙ ap (λ (z : List ℕ). get_or z i 0) here
        ∙ back_at (around H d n) (masked (held opened) (take to x)) from (omega arith) i u (omega arith)
        ∙ handed_recent i (omega arith)

    at_past : (i : ℕ) → to ≤ i → i < length l → masked_at (held opened) (y ++ drop to x) i ≡ recent L i d n
    at_past i u v =
        let m : length (masked (held opened) l) ≡ length l = length_masked (held opened) l in
        masked_at_same (held opened) (y ++ drop to x) x i (put_past i u)
        ∙ sym (getd_masked (held opened) x i) ∙ ap (λ (z : List ℕ). get_or z i 0) after
        ∙ back_at (around L d n) (masked (held opened) l) to (omega arith) i u (omega arith)

    pub turn_written : masked (held opened) (y ++ drop to x) ≡ back (around L d n) from (masked (held opened) l)
    turn_written =
        let m : length (masked (held opened) l) ≡ length l = length_masked (held opened) l in
        back_by (around L d n) (masked (held opened) l) from (omega arith) (masked (held opened) (y ++ drop to x))
        (length_masked (held opened) (y ++ drop to x) ∙ put_length ∙ sym m)
        (λ i u. getd_masked (held opened) (y ++ drop to x) i ∙ masked_at_same (held opened) (y ++ drop to x) l i (at_front i u) ∙ sym (getd_masked (held opened) l i))
        (λ i u v.
        getd_masked (held opened) (y ++ drop to x) i
        ∙ elim (dec_lt i to) [
          | yes w ↦ at_here i u w
          | no w ↦ at_past i (omega arith) (omega arith)
        ])

-- before the first turn, and after the last
pub lead_begin : (row opened l : List ℕ) (d n : ℕ) → masked (held opened) l ≡ back (around (masked (held row) l) d n) (length l) (masked (held opened) l)
lead_begin row opened l d n =
    back_none (around (masked (held row) l) d n) (masked (held opened) l)
    ∙ ap (λ (k : ℕ). back (around (masked (held row) l) d n) k (masked (held opened) l)) (length_masked (held opened) l)

pub lead_end : (row opened l x : List ℕ) (d n to : ℕ) → 1 ≤ n → to ≡ 0 → masked (held opened) x ≡ back (around (masked (held row) l) d n) to (masked (held opened) l)
    → masked (held opened) x ≡ added d (d + n - 1) (masked (held row) l)
lead_end row opened l x d n to h z e =
    let m : length (masked (held opened) l) ≡ length (masked (held row) l) = length_masked (held opened) l ∙ sym (length_masked (held row) l) in
    added_is (masked (held row) l) d n h (back_all (around (masked (held row) l) d n) (masked (held opened) l) to e z ∙ rw m)
