-- Where a scan finds the byte, the first piece ends and the others begin.
use Rattle.std.specs.Prelude.{Option, None, Some, MatchOption, position}
use Rattle.std.specs.List.{list_any, position_or_len}
use Rattle.std.specs.Simd.{first_chunks}
use Rattle.std.proofs.lemmas.List.Recursion.{is_position_or_len}
use mathlib.Core.Path.{◌≡◌, refl, sym, ap, ◌∙◌}
use mathlib.Core.Bool.{Bool, true, false, cond, ◌||◌, false≢true}
use mathlib.Core.List.{List, [], ◌∷◌}
use Prim.Native.Nat.{ℕ, zero, suc, ◌+◌, ◌-◌, ◌*◌, ◌≤◌, ◌<◌}
use native.Mathlib.Nat.{zero-add}
use native.Mathlib.Numerals.{add-one}
use native.Mathlib.Omega.{arith}
use lib.Dec.{eqb, ltb, leb-suc-suc}
use lib.ListN.{length, take, drop, get_or, length-drop}
use lib.Seq.{drop-cons, drop-drop, length-take-le, take_all}
use borrow.Author.Tests.{ne_eqb, lt-ltb, le-ltb, ltb-true, ltb-false}
use Rattle.rules.specs.Lists.{if}
use Rattle.rules.specs.Text.{pieces, onto, last, but_last}
use Rattle.text.specs.Pieces.{find, others, is_two}

-- ---- the scan

-- where another byte stands the scan goes on
pub find_on : (b i : ℕ) (l : List ℕ) → i < length l → (get_or l i 0 ≡ b → ⊥) → find b (drop i l) ≡ suc (find b (drop (i + 1) l))
unfolding find
find_on b i l h e = rw (add-one, drop-cons l i 0 h, ne_eqb (get_or l i 0) b e)

find_le : (b : ℕ) (l : List ℕ) → find b l ≤ length l
unfolding find
find_le b [] = omega arith
find_le b (x ∷ xs) = go (eqb x b) (find_le b xs)
  where
    go : (t : Bool) → find b xs ≤ length xs → if t 0 (suc (find b xs)) ≤ suc (length xs)
    go true h = omega arith
    go false h = omega arith

-- where it is not among them the scan goes to their end
pub not_among : (b : ℕ) (l : List ℕ) → list_any (λ x. eqb x b) l ≡ false → find b l ≡ length l
unfolding find
not_among b [] e = refl
not_among b (x ∷ xs) e = go (eqb x b) e (not_among b xs)
  where
    go : (t : Bool) → t || list_any (λ y. eqb y b) xs ≡ false → (list_any (λ y. eqb y b) xs ≡ false → find b xs ≡ length xs) → if t 0 (suc (find b xs)) ≡ suc (length xs)
    go true e ih = absurd (false≢true (sym e))
    go false e ih = ap suc (ih e)

-- and else it ends before
pub found_among : (b : ℕ) (l : List ℕ) → list_any (λ x. eqb x b) l ≡ true → find b l < length l
unfolding find
found_among b [] e = absurd (false≢true e)
found_among b (x ∷ xs) e = go (eqb x b) e (found_among b xs)
  where
    go : (t : Bool) → t || list_any (λ y. eqb y b) xs ≡ true → (list_any (λ y. eqb y b) xs ≡ true → find b xs < length xs) → if t 0 (suc (find b xs)) < suc (length xs)
    go true e ih = omega arith
    go false e ih = omega (arith, ih e)

-- not among the first n, it stands first where it does after them
past : (b n : ℕ) (l : List ℕ) → n ≤ length l → find b (take n l) ≡ n → find b l ≡ n + find b (drop n l)
unfolding find
past b zero l h e = rw zero-add
past b (suc n) [] h e = absurd (omega arith)
past b (suc n) (x ∷ xs) h e = go (eqb x b) e (past b n xs)
  where
    go : (t : Bool) → if t 0 (suc (find b (take n xs))) ≡ suc n → (n ≤ length xs → find b (take n xs) ≡ n → find b xs ≡ n + find b (drop n xs))
        → if t 0 (suc (find b xs)) ≡ suc n + find b (drop n xs)
    go true q ih = absurd (omega arith)
    go false q ih = omega (arith, ih (omega arith) (omega arith))

-- one of the eights that a text falls into
pub eight_at : (m k : ℕ) (l : List ℕ) → k < m → get_or (first_chunks 8 m l) k [] ≡ take 8 (drop (8 * k) l)
eight_at zero k l h = absurd (omega arith)
eight_at (suc m) zero l h = refl
eight_at (suc m) (suc k) l h = let q : 8 + 8 * k ≡ 8 * suc k = omega arith in eight_at m k (drop 8 l) (omega arith) ∙ rw (drop-drop, q)

-- eight bytes without it are passed
pub eight_passed : (b n : ℕ) (l : List ℕ) → find b l ≡ n + find b (drop n l) → n + 8 ≤ length l → list_any (λ x. eqb x b) (take 8 (drop n l)) ≡ false
    → find b l ≡ n + 8 + find b (drop (n + 8) l)
eight_passed b n l f h a =
    let m : 8 ≤ length (drop n l) = omega (arith, length-drop n l) in
    let p = past b 8 (drop n l) m (not_among b (take 8 (drop n l)) a ∙ length-take-le 8 (drop n l) m) in
    omega (arith, f, p, ap (find b) (drop-drop 8 n l))

-- ---- the pieces

-- the first piece and the others
pub pieces_cut : (b : ℕ) (l : List ℕ) → pieces b l ≡ take (find b l) l ∷ others b l
unfolding pieces find others
pieces_cut b [] = refl
pieces_cut b (x ∷ xs) = go (eqb x b) refl (pieces_cut b xs)
  where
    go : (t : Bool) → eqb x b ≡ t → pieces b xs ≡ take (find b xs) xs ∷ others b xs
        → if t ([] ∷ pieces b xs) (onto x (pieces b xs))
        ≡ take (if t 0 (suc (find b xs))) (x ∷ xs)
        ∷ if (ltb (if t 0 (suc (find b xs))) (suc (length xs))) (pieces b (drop (suc (if t 0 (suc (find b xs)))) (x ∷ xs))) []
    go true e h = rw (lt-ltb 0 (suc (length xs)) (omega arith))
    go false e h = rw (h, leb-suc-suc (suc (find b xs)) (length xs))

others_more : (b : ℕ) (l : List ℕ) → find b l < length l → others b l ≡ pieces b (drop (suc (find b l)) l)
unfolding others
others_more b l h = rw (lt-ltb (find b l) (length l) h)

others_none : (b : ℕ) (l : List ℕ) → length l ≤ find b l → others b l ≡ []
unfolding others
others_none b l h = rw (le-ltb (find b l) (length l) h)

-- a list before some pieces
pub last_onto : (b : ℕ) (x l : List ℕ) → last (x ∷ pieces b l) ≡ last (pieces b l)
unfolding last
last_onto b x l = rw (pieces_cut b l)

pub but_last_onto : (b : ℕ) (x l : List ℕ) → but_last (x ∷ pieces b l) ≡ x ∷ but_last (pieces b l)
unfolding but_last
but_last_onto b x l = rw (pieces_cut b l)

-- ---- a piece from `start` up to `end`, where the scan from `start` on found the byte or the text's end

module _ (b start end : ℕ) (l : List ℕ) (e : end ≡ start + find b (drop start l)) (s : start ≤ length l) where
  left : length (drop start l) ≡ length l - start
  left = length-drop start l

  -- the scan does not go back
  pub scan_from : start ≤ end
  scan_from = omega arith

  -- nor past the end
  pub scan_to : end ≤ length l
  scan_to = omega (arith, left, find_le b (drop start l))

  -- the piece, and those after it
  pub scan_cut : pieces b (drop start l) ≡ take (end - start) (drop start l) ∷ others b (drop start l)
  scan_cut = let f : find b (drop start l) ≡ end - start = omega arith in pieces_cut b (drop start l) ∙ rw f

  -- where the byte is found the others start after it
  pub scan_others : end < length l → others b (drop start l) ≡ pieces b (drop (end + 1) l)
  scan_others h =
      let f : start + suc (find b (drop start l)) ≡ end + 1 = omega arith in
      others_more b (drop start l) (omega (arith, left)) ∙ rw (drop-drop, f)

  -- where it is not there are no others
  pub scan_none : length l ≤ end → others b (drop start l) ≡ []
  scan_none h = others_none b (drop start l) (omega (arith, left))

-- ---- what `position` answers

-- the scan stops at the first byte that is the one
pub find_place : (b : ℕ) (l : List ℕ) → find b l ≡ position_or_len (λ x. eqb x b) l
unfolding find
find_place b l = is_position_or_len (find b) (λ x. eqb x b) refl (λ x xs. go (eqb x b) xs) l
  where
    go : (t : Bool) (xs : List ℕ) → if t 0 (suc (find b xs)) ≡ cond t 0 (1 + find b xs)
    go true xs = refl
    go false xs = omega arith

position_is : (b : ℕ) (l : List ℕ) → position (λ x. eqb x b) l ≡ cond (ltb (find b l) (length l)) (Some (find b l)) None
position_is b l = ap (λ k. cond (ltb k (length l)) (Some k) None) (sym (find_place b l))

pub find_answer : (b : ℕ) (l : List ℕ) {r : Option ℕ} → r ≡ position (λ x. eqb x b) l → MatchOption r (find b l ≡ length l) (λ i. (i ≡ find b l) × (i < length l))
find_answer b l {r} e = let q = e ∙ position_is b l in rw q (go (ltb (find b l) (length l)) refl)
  where
    go : (t : Bool) → ltb (find b l) (length l) ≡ t → MatchOption (cond t (Some (find b l)) None) (find b l ≡ length l) (λ i. (i ≡ find b l) × (i < length l))
    go true h = (refl, ltb-true _ _ h)
    go false h = omega (arith, ltb-false (find b l) (length l) h, find_le b l)

position_some : (b i : ℕ) (l : List ℕ) → i ≡ find b l → i < length l → Some i ≡ position (λ x. eqb x b) l
position_some b i l e h = sym (position_is b l ∙ rw (← e, lt-ltb i (length l) h))

position_none : (b : ℕ) (l : List ℕ) → find b l ≡ length l → None ≡ position (λ x. eqb x b) l
position_none b l e = sym (position_is b l ∙ rw (le-ltb (find b l) (length l) (omega (arith, e))))

-- where it stands in a text from a place on
module _ (b at : ℕ) (l : List ℕ) (h : at ≤ length l) where
  rest_is : take (length l - at) (drop at l) ≡ drop at l
  rest_is = take_all (length l - at) (drop at l) (omega (arith, length-drop at l))

  pub found_from : (i : ℕ) → Some i ≡ position (λ x. eqb x b) (take (length l - at) (drop at l)) → (at + i ≡ at + find b (drop at l)) × (at + i < length l)
  found_from i e = let f = find_answer b (drop at l) (rw rest_is at e) in (omega (arith, f.0), omega (arith, f.1, length-drop at l, h))

  pub none_from : None ≡ position (λ x. eqb x b) (take (length l - at) (drop at l)) → length l ≡ at + find b (drop at l)
  none_from e = omega (arith, find_answer b (drop at l) (rw rest_is at e), length-drop at l, h)

-- past some bytes that are others it is the one in the rest
module _ (b : ℕ) (l rest : List ℕ) (h : length rest ≤ length l) (e : find b l ≡ length l - length rest + find b rest) where
  pub position_past_none : None ≡ position (λ x. eqb x b) rest → None ≡ position (λ x. eqb x b) l
  position_past_none q = position_none b l (omega (arith, e, h, find_answer b rest q))

  pub position_past_some : (i : ℕ) → Some i ≡ position (λ x. eqb x b) rest → Some (length l - length rest + i) ≡ position (λ x. eqb x b) l
  position_past_some i q = let f = find_answer b rest q in position_some b (length l - length rest + i) l (omega (arith, e, f.0)) (omega (arith, f.1, h))

-- and so past the first n
module _ (b n : ℕ) (l : List ℕ) (h : n ≤ length l) (e : find b l ≡ n + find b (drop n l)) where
  passed : length l - length (drop n l) ≡ n
  passed = omega (arith, length-drop n l, h)

  pub position_behind_none : None ≡ position (λ x. eqb x b) (take (length l - n) (drop n l)) → None ≡ position (λ x. eqb x b) l
  position_behind_none q = position_past_none b l (drop n l) (omega (arith, length-drop n l)) (omega (arith, passed, e)) (rw (rest_is b n l h) at q)

  pub position_behind_some : (i : ℕ) → Some i ≡ position (λ x. eqb x b) (take (length l - n) (drop n l)) → Some (n + i) ≡ position (λ x. eqb x b) l
  position_behind_some i q = rw passed at (position_past_some b l (drop n l) (omega (arith, length-drop n l)) (omega (arith, passed, e)) i (rw (rest_is b n l h) at q))

-- ---- a text that falls at a byte into what stands before it and what follows it

-- where the byte stands nowhere, the text is its only piece
pub piece_whole : (b : ℕ) (l : List ℕ) → find b l ≡ length l → pieces b l ≡ l ∷ []
piece_whole b l e = rw (pieces_cut b l, others_none b l (omega (arith, e)), e) (ap (λ (p : List ℕ). p ∷ []) (take_all (length l) l (omega arith)))

-- where it stands, the first piece ends there
pub piece_first : (b end : ℕ) (l : List ℕ) → end ≡ find b l → end < length l → pieces b l ≡ take end l ∷ pieces b (drop (end + 1) l)
piece_first b end l e h = rw (pieces_cut b l, others_more b l (omega (arith, e)), add-one, e)

-- as `split_once` has them
pub halves_none : (b : ℕ) (l : List ℕ) → None ≡ position (λ x. eqb x b) l → pieces b l ≡ l ∷ []
halves_none b l e = piece_whole b l (find_answer b l e)

pub halves_some : (b end : ℕ) (l : List ℕ) → Some end ≡ position (λ x. eqb x b) l → pieces b l ≡ take end l ∷ pieces b (take (length l - (end + 1)) (drop (end + 1) l))
halves_some b end l e =
    let f = find_answer b l e in
    rw (take_all (length l - (end + 1)) (drop (end + 1) l) (omega (arith, length-drop (end + 1) l))) (piece_first b end l f.0 f.1)

-- two pieces, where the byte does not stand again
pub two_pieces : (b : ℕ) (l x y : List ℕ) → pieces b l ≡ x ∷ pieces b y → list_any (λ z. eqb z b) y ≡ false → pieces b l ≡ x ∷ y ∷ []
two_pieces b l x y e n = e ∙ ap (λ (ps : List (List ℕ)). x ∷ ps) (piece_whole b y (not_among b y n))

-- and where it does there are more
pub not_two : (b : ℕ) (l x y : List ℕ) → pieces b l ≡ x ∷ pieces b y → list_any (λ z. eqb z b) y ≡ true → is_two (pieces b l) ≡ false
not_two b l x y e n =
    let f = found_among b y n in
    rw (e, piece_first b (find b y) y refl f, pieces_cut b (drop (find b y + 1) y))
