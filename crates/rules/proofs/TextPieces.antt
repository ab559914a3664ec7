-- The pieces of a text, cut at a byte: none of them holds the byte, joined with it they are the text again, and there is no
-- other way to cut it so. Its lines are all pieces at byte 10 but the last, which no such byte ends.
use mathlib.Core.Path.{◌≡◌, refl, sym, ap, ◌∙◌, subst}
use mathlib.Core.Logic.{◌↔◌, ⊎_elim}
use mathlib.Core.Bool.{Bool, true, false}
use mathlib.Core.List.Memᴰ
use mathlib.Core.List.{List, [], ◌∷◌, ◌++◌, append-nil, append_assoc, Memᴰ}
use Prim.Native.Nat.{ℕ}
use lib.Dec.{eqb}
use borrow.Author.Tests.{eqb-true, eqb-false, eq-eqb, ne_eqb}
use Rattle.rules.specs.Lists.{if, each}
use Rattle.rules.specs.Text.{pieces, onto, but_last, last, lines, unended}
use Rattle.rules.specs.TextRefused.{Without, WithoutAll, with_end, Lined}
use Rattle.rules.proofs.All.{no_member, members}

-- a text is its first piece and the others, each after a byte b, and none of them holds one
pub record Cut (b : ℕ) (text piece : List ℕ) (others : List (List ℕ)) : Type 0 where
  pub whole : text ≡ piece ++ each (λ p. b ∷ p) others
  pub none : WithoutAll b (piece ∷ others)

-- ---- the pieces are such a cut

-- some pieces are: there is a first, and the others
abbrev CutIn : ℕ → List ℕ → List (List ℕ) → Type 0
CutIn b text [] = ⊥
CutIn b text (p ∷ ps) = Cut b text p ps

-- one byte more that is another
without_other : (b x : ℕ) {p : List ℕ} → (x ≡ b → ⊥) → Without b p → Without b (x ∷ p)
without_other b x d h m = ⊎_elim (λ e. d (sym e)) h (Memᴰ.cases_cons m)

-- byte by byte: a b starts a piece, and any other byte goes onto the first
cut_in : (b : ℕ) (text : List ℕ) → CutIn b text (pieces b text)
unfolding pieces each
cut_in b [] = record { whole = refl; none = members (Without b) Memᴰ.not-nil (no_member (Without b)) }
cut_in b (x ∷ xs) = go (eqb x b) refl (pieces b xs) (cut_in b xs)
  where
    go : (t : Bool) → eqb x b ≡ t → (ps : List (List ℕ)) → CutIn b xs ps → CutIn b (x ∷ xs) (if t ([] ∷ ps) (onto x ps))
    go true e [] c = absurd c
    go false e [] c = absurd c
    go true e (p ∷ ps) c = record { whole = rw (eqb-true x b e, ← c.whole); none = members (Without b) Memᴰ.not-nil c.none }
    go false e (p ∷ ps) c = record {
      whole = ap (λ (l : List ℕ). x ∷ l) c.whole;
      none = members (Without b) (without_other b x (eqb-false x b e) (c.none p (Memᴰ.head refl))) (λ q m. c.none q (Memᴰ.tail m));
    }

-- ---- and such a cut is the pieces

-- a text without b is one piece
pieces_one : (b : ℕ) (xs : List ℕ) → Without b xs → pieces b xs ≡ xs ∷ []
unfolding pieces
pieces_one b [] h = refl
pieces_one b (x ∷ xs) h = rw (ne_eqb x b (λ e. h (Memᴰ.head (sym e))), pieces_one b xs (λ m. h (Memᴰ.tail m)))

-- one before a b is a piece, and the others are those of what follows
pieces_more : (b : ℕ) (xs ys : List ℕ) → Without b xs → pieces b (xs ++ b ∷ ys) ≡ xs ∷ pieces b ys
unfolding pieces
pieces_more b [] ys h = rw (eq-eqb b b refl)
pieces_more b (x ∷ xs) ys h = rw (ne_eqb x b (λ e. h (Memᴰ.head (sym e))), pieces_more b xs ys (λ m. h (Memᴰ.tail m)))

-- and so on to the last
cut_pieces : (b : ℕ) (p : List ℕ) (ps : List (List ℕ)) → WithoutAll b (p ∷ ps) → pieces b (p ++ each (λ p. b ∷ p) ps) ≡ p ∷ ps
unfolding each
cut_pieces b p [] h = rw append-nil (pieces_one b p (h p (Memᴰ.head refl)))
cut_pieces b p (q ∷ qs) h =
    pieces_more b p (q ++ each (λ p. b ∷ p) qs) (h p (Memᴰ.head refl))
    ∙ ap (λ (l : List (List ℕ)). p ∷ l) (cut_pieces b q qs (λ r m. h r (Memᴰ.tail m)))

-- the pieces of a text are the one way to cut it
pub pieces_are : (b : ℕ) (text p : List ℕ) (ps : List (List ℕ)) → (pieces b text ≡ p ∷ ps) ↔ Cut b text p ps
pieces_are b text p ps = (λ e. subst (CutIn b text) e (cut_in b text), λ c. rw c.whole (cut_pieces b p ps c.none))

-- ---- lines

-- all but the last, with their ends, and the last
lines_join : (p : List ℕ) (ps : List (List ℕ)) → each with_end (but_last (p ∷ ps)) ++ last (p ∷ ps) ≡ p ++ each (λ p. 10 ∷ p) ps
unfolding each but_last last
lines_join p [] = sym (append-nil p)
lines_join p (q ∷ qs) =
    append_assoc (p ++ (10 ∷ [])) (each with_end (but_last (q ∷ qs))) (last (q ∷ qs))
    ∙ append_assoc p (10 ∷ []) _
    ∙ ap (λ (l : List ℕ). p ++ 10 ∷ l) (lines_join q qs)

-- these are among all
but_last_in : (ps : List (List ℕ)) {l : List ℕ} → Memᴰ l (but_last ps) → Memᴰ l ps
unfolding but_last
but_last_in [] m = m
but_last_in (p ∷ []) m = absurd (Memᴰ.not-nil m)
but_last_in (p ∷ q ∷ qs) m = ⊎_elim (λ e. Memᴰ.head e) (λ n. Memᴰ.tail (but_last_in (q ∷ qs) n)) (Memᴰ.cases_cons m)

last_in : (p : List ℕ) (ps : List (List ℕ)) → Memᴰ (last (p ∷ ps)) (p ∷ ps)
unfolding last
last_in p [] = Memᴰ.head refl
last_in p (q ∷ qs) = Memᴰ.tail (last_in q qs)

-- the lines of an input and what follows them are so
pub lined : (input : List ℕ) → Lined input (lines input) (unended input)
unfolding lines unended
lined input = go (pieces 10 input) (cut_in 10 input)
  where
    go : (ps : List (List ℕ)) → CutIn 10 input ps → Lined input (but_last ps) (last ps)
    go [] c = absurd c
    go (p ∷ ps) c = record {
      whole = c.whole ∙ sym (lines_join p ps);
      no_end_within = λ l m. c.none l (but_last_in (p ∷ ps) m);
      no_end_after = c.none (last (p ∷ ps)) (last_in p ps);
    }

-- lines and a rest that are so are its pieces
pub pieces_lined : (ls : List (List ℕ)) (rest : List ℕ) → WithoutAll 10 ls → Without 10 rest → pieces 10 (each with_end ls ++ rest) ≡ ls ++ (rest ∷ [])
unfolding each
pieces_lined [] rest h k = pieces_one 10 rest k
pieces_lined (l ∷ ls) rest h k =
    rw (append_assoc (l ++ (10 ∷ [])) (each with_end ls) rest, append_assoc l (10 ∷ []) (each with_end ls ++ rest))
    (pieces_more 10 l (each with_end ls ++ rest) (h l (Memᴰ.head refl)) ∙ ap (λ (ps : List (List ℕ)). l ∷ ps) (pieces_lined ls rest (λ p m. h p (Memᴰ.tail m)) k))

-- of which the lines are all but the last, and the rest is the last
but_last_append : (ls : List (List ℕ)) (rest : List ℕ) → but_last (ls ++ (rest ∷ [])) ≡ ls
unfolding but_last
but_last_append [] rest = refl
but_last_append (l ∷ []) rest = refl
but_last_append (l ∷ m ∷ ls) rest = ap (λ (ps : List (List ℕ)). l ∷ ps) (but_last_append (m ∷ ls) rest)

last_append : (ls : List (List ℕ)) (rest : List ℕ) → last (ls ++ (rest ∷ [])) ≡ rest
unfolding last
last_append [] rest = refl
last_append (l ∷ []) rest = refl
last_append (l ∷ m ∷ ls) rest = last_append (m ∷ ls) rest

-- so an input falls into lines and a rest in no other way
pub lined_only : (input : List ℕ) (ls : List (List ℕ)) (rest : List ℕ) → Lined input ls rest → (ls ≡ lines input) × (rest ≡ unended input)
unfolding lines unended
lined_only input ls rest h =
    let e : pieces 10 input ≡ ls ++ (rest ∷ []) = rw h.whole (pieces_lined ls rest h.no_end_within h.no_end_after) in
    (rw (e, but_last_append), rw (e, last_append))
