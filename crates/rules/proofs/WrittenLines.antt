-- Lines as they are written (specs/FastaWritten.antt). Cut at the bytes 10 a file falls into the texts of its lines, a 13 behind those
-- that it was written behind; a text and a 13, without the 13, is the text; and each piece of any file is one or the other.
use mathlib.Core.Path.{◌≡◌, refl, sym, ap, ◌∙◌, subst}
use mathlib.Core.Logic.{◌⊎◌, inl, inr, ⊎_elim}
use mathlib.Core.Bool.{Bool, true, false, false≢true}
use mathlib.Core.List.Memᴰ
use mathlib.Core.List.{List, [], ◌∷◌, ◌++◌, map, append-nil, append_assoc, Memᴰ}
use Prim.Native.Nat.{ℕ, suc, ◌+◌, ◌-◌, ◌≤◌}
use native.Mathlib.Omega.{arith}
use lib.Dec.{eqb}
use lib.ListN.{length, take, get_or, length-append}
use lib.Seq.{get_or_at, take_at, take-suc, take-length}
use borrow.Author.Tests.{ne_eqb, eqb-true, eqb-false}
use Rattle.rules.specs.Fasta.{line, without_return, lines_of}
use Rattle.rules.specs.FastaWritten.{WrittenLine, written, InWrittenLines, placed}
use Rattle.rules.specs.Lists.{if, each}
use Rattle.rules.specs.Text.{pieces, lines, unended}
use Rattle.rules.specs.TextRefused.{Without, WithoutAll, with_end}
use Rattle.rules.proofs.All.{no_member, members}
use Rattle.rules.proofs.TextPieces.{pieces_lined, lined}

-- what is cut out of a file where a line was written: its text, and the 13 behind it
abbrev piece_of : WrittenLine → List ℕ
piece_of w = w.text ++ if w.return (13 ∷ []) []

pieces_ended : (ws : List WrittenLine) → each written ws ≡ each with_end (map piece_of ws)
unfolding each
pieces_ended [] = refl
pieces_ended (w ∷ ws) = ap (λ l. l ++ each written ws) (one w.return) ∙ ap (λ l. with_end (piece_of w) ++ l) (pieces_ended ws)
  where
    one : (b : Bool) → w.text ++ if b (13 ∷ 10 ∷ []) (10 ∷ []) ≡ (w.text ++ if b (13 ∷ []) []) ++ (10 ∷ [])
    one true = sym (append_assoc w.text (13 ∷ []) (10 ∷ []))
    one false = ap (λ l. l ++ (10 ∷ [])) (sym (append-nil w.text))

-- with its 10 it is as long as the line
written_long : (o : ℕ) (w : WrittenLine) → o + length (written w) ≡ o + length (piece_of w) + 1
written_long o w = go w.return
  where
    go : (b : Bool) → o + length (w.text ++ if b (13 ∷ 10 ∷ []) (10 ∷ [])) ≡ o + length (w.text ++ if b (13 ∷ []) []) + 1
    go true = omega (arith, length-append w.text (13 ∷ 10 ∷ []), length-append w.text (13 ∷ []))
    go false = omega (arith, length-append w.text (10 ∷ []), length-append w.text [])

-- no 10 is among it
piece_without : (w : WrittenLine) → Without 10 w.text → Without 10 (piece_of w)
piece_without w h m = go w.return (Memᴰ.append_cases w.text m)
  where
    go : (b : Bool) → Memᴰ {A = ℕ} 10 w.text ⊎ Memᴰ {A = ℕ} 10 (if b (13 ∷ []) []) → ⊥
    go b (inl i) = h i
    go true (inr i) = ⊎_elim (λ e. omega arith) Memᴰ.not-nil (Memᴰ.cases_cons i)
    go false (inr i) = Memᴰ.not-nil i

pieces_without : (ws : List WrittenLine) → ((w : WrittenLine) → Memᴰ w ws → Without 10 w.text) → WithoutAll 10 (map piece_of ws)
pieces_without [] h = no_member (Without 10)
pieces_without (w ∷ ws) h = members (Without 10) (piece_without w (h w (Memᴰ.head refl))) (pieces_without ws (λ v m. h v (Memᴰ.tail m)))

-- without the 13 it is the text
without_return_back : (w : WrittenLine) → (w.return ≡ false → get_or w.text (length w.text - 1) 0 ≡ 13 → ⊥) → without_return (piece_of w) ≡ w.text
unfolding without_return
without_return_back w h = go w.return refl
  where
    go : (b : Bool) → w.return ≡ b → let t = w.text ++ if b (13 ∷ []) [] in if (eqb (get_or t (length t - 1) 0) 13) (take (length t - 1) t) t ≡ w.text
    go true e =
        let n : length (w.text ++ (13 ∷ [])) - 1 ≡ length w.text = omega (arith, length-append w.text (13 ∷ [])) in
        rw (n, get_or_at w.text 13 [] 0 (length w.text) refl, take_at w.text (13 ∷ []) (length w.text) refl)
    go false e = rw (append-nil w.text, ne_eqb (get_or w.text (length w.text - 1) 0) 13 (h e))

-- the lines, cut out of a file
cut_lines : (o : ℕ) (ws : List WrittenLine) (last : List ℕ) → ((w : WrittenLine) → Memᴰ w ws → w.return ≡ false → get_or w.text (length w.text - 1) 0 ≡ 13 → ⊥)
    → lines_of o (map piece_of ws ++ (last ∷ [])) ≡ placed o ws last
unfolding lines_of placed
cut_lines o [] last h = refl
cut_lines o (w ∷ []) last h = rw (without_return_back w (h w (Memᴰ.head refl)), written_long o w)
cut_lines o (w ∷ v ∷ ws) last h =
    rw (without_return_back w (h w (Memᴰ.head refl)), written_long o w) (ap (λ ls. line o w.text ∷ ls) (cut_lines (o + length (piece_of w) + 1) (v ∷ ws) last (λ x m. h x (Memᴰ.tail m))))

-- so the lines of a file are those that it was written from
pub lines_placed : (file : List ℕ) (ws : List WrittenLine) (last : List ℕ) → InWrittenLines file ws last → lines_of 0 (pieces 10 file) ≡ placed 0 ws last
lines_placed file ws last r =
    let p : pieces 10 file ≡ map piece_of ws ++ (last ∷ []) =
    rw (r.whole, pieces_ended ws) (pieces_lined (map piece_of ws) last (pieces_without ws r.no_end_within) r.no_end_after) in
    rw p (cut_lines 0 ws last r.no_return)

-- and so are their texts
placed_texts : (o : ℕ) (ws : List WrittenLine) (last : List ℕ) → map (λ l. l.text) (placed o ws last) ≡ map (λ w. w.text) ws ++ (last ∷ [])
unfolding placed
placed_texts o [] last = refl
placed_texts o (w ∷ ws) last = ap (λ ts. w.text ∷ ts) (placed_texts (o + length (written w)) ws last)

pub lines_are : (file : List ℕ) (ws : List WrittenLine) (last : List ℕ) → InWrittenLines file ws last
    → map (λ l. l.text) (lines_of 0 (pieces 10 file)) ≡ map (λ w. w.text) ws ++ (last ∷ [])
lines_are file ws last r = rw (lines_placed file ws last r) (placed_texts 0 ws last)

-- EVERY FILE is written so: each piece before a 10 is a text, or a text and a 13
abbrev Plain : WrittenLine → Type 0
Plain w = Without 10 w.text × (w.return ≡ false → get_or w.text (length w.text - 1) 0 ≡ 13 → ⊥)

as_written : (p : List ℕ) → Without 10 p → (w : WrittenLine) × (written w ≡ with_end p) × Plain w
as_written p h = go (eqb (get_or p (length p - 1) 0) 13) refl
  where
    some : (l : List ℕ) → get_or l (length l - 1) 0 ≡ 13 → 1 ≤ length l
    some [] e = absurd (omega arith)
    some (x ∷ l) e = omega arith

    go : (b : Bool) → eqb (get_or p (length p - 1) 0) 13 ≡ b → (w : WrittenLine) × (written w ≡ with_end p) × Plain w
    go false e = (record { text = p; return = false }, refl, (h, λ q. eqb-false _ _ e))
    go true e =
        let v = eqb-true (get_or p (length p - 1) 0) 13 e in
        let j : suc (length p - 1) ≡ length p = omega (arith, some p v) in
        let f = take (length p - 1) p in
        let c : p ≡ f ++ (13 ∷ []) = sym (take-length p) ∙ ap (λ n. take n p) (sym j) ∙ take-suc p (length p - 1) 0 (omega arith) ∙ ap (λ (x : ℕ). f ++ (x ∷ [])) v in (
          record { text = f; return = true },
          sym (append_assoc f (13 ∷ []) (10 ∷ [])) ∙ ap with_end (sym c),
          (λ m. h (subst (Memᴰ 10) (sym c) (Memᴰ.append_left (13 ∷ []) m)), λ q. absurd (false≢true (sym q))),
        )

all_written : (ps : List (List ℕ)) → WithoutAll 10 ps → (ws : List WrittenLine) × (each written ws ≡ each with_end ps) × ((w : WrittenLine) → Memᴰ w ws → Plain w)
unfolding each
all_written [] h = ([], refl, no_member Plain)
all_written (p ∷ ps) h =
    let (w, a, b) = as_written p (h p (Memᴰ.head refl)) in
    let (ws, c, d) = all_written ps (λ q m. h q (Memᴰ.tail m)) in
    (w ∷ ws, ap (λ l. l ++ each written ws) a ∙ ap (λ l. with_end p ++ l) c, members Plain b d)

pub file_written : (file : List ℕ) → (ws : List WrittenLine) × (last : List ℕ) × InWrittenLines file ws last
file_written file =
    let l = lined file in
    let (ws, a, b) = all_written (lines file) l.no_end_within in (
      ws,
      unended file,
      record {
        whole = l.whole ∙ ap (λ x. x ++ unended file) (sym a);
        no_end_within = λ w m. (b w m).0;
        no_return = λ w m. (b w m).1;
        no_end_after = l.no_end_after;
      },
    )
