-- A record's name: where it ends in its line.
use Rattle.std.specs.Prelude.{None, Some, position}
use Rattle.std.specs.List.{position_or_len}
use Rattle.std.specs.Option.{unwrap_or}
use Rattle.std.proofs.lemmas.List.Recursion.{is_position_or_len}
use mathlib.Core.Path.{◌≡◌, refl, ap, ◌∙◌}
use mathlib.Core.Bool.{Bool, true, false, cond}
use mathlib.Core.List.{List, [], ◌∷◌}
use Prim.Native.Nat.{ℕ, suc, ◌+◌, ◌-◌, ◌≤◌, ◌<◌}
use native.Mathlib.Omega.{arith}
use lib.Dec.{ltb}
use lib.ListN.{length, take, drop, length-drop}
use lib.Seq.{take_all}
use borrow.Author.Tests.{ltb-false}
use Rattle.rules.specs.Fasta.{is_space_or_tab, up_to_blank}
use Rattle.rules.specs.Lists.{if}

-- a name has as many bytes as stand before the first space or tab
name_place : (text : List ℕ) → length (up_to_blank text) ≡ position_or_len is_space_or_tab text
unfolding up_to_blank
name_place = is_position_or_len (λ l. length (up_to_blank l)) is_space_or_tab refl (λ x xs. go (is_space_or_tab x) x xs)
  where
    go : (t : Bool) (x : ℕ) (xs : List ℕ) → length (if t [] (x ∷ up_to_blank xs)) ≡ cond t 0 (1 + length (up_to_blank xs))
    go true x xs = refl
    go false x xs = omega arith

pub name_short : (text : List ℕ) → length (up_to_blank text) ≤ length text
unfolding up_to_blank
name_short [] = omega arith
name_short (x ∷ xs) = go (is_space_or_tab x) (name_short xs)
  where
    go : (t : Bool) → length (up_to_blank xs) ≤ length xs → length (if t [] (x ∷ up_to_blank xs)) ≤ suc (length xs)
    go true h = omega arith
    go false h = omega (arith, h)

-- or as the text, where none stands
pub name_ends : (text : List ℕ) → unwrap_or (position is_space_or_tab text) (length text) ≡ length (up_to_blank text)
name_ends text = rw (← name_place text) (go (ltb (length (up_to_blank text)) (length text)) refl)
  where
    go : (t : Bool) → ltb (length (up_to_blank text)) (length text) ≡ t → unwrap_or (cond t (Some (length (up_to_blank text))) None) (length text) ≡ length (up_to_blank text)
    go true h = refl
    go false h = omega (arith, ltb-false (length (up_to_blank text)) (length text) h, name_short text)

-- a part from the second byte on is what follows the first; and its name ends within the line
pub name_fits : (text : List ℕ) {n : ℕ} → 0 < length text → n ≡ length (up_to_blank (take (length text - 1) (drop 1 text)))
    → (n ≡ length (up_to_blank (drop 1 text))) × (1 + n ≤ length text)
name_fits text h e =
    let d = length-drop 1 text in
    let t = take_all (length text - 1) (drop 1 text) (omega (arith, d)) in
    let q = e ∙ ap (λ x. length (up_to_blank x)) t in
    (q, omega (arith, q, d, name_short (drop 1 text)))
