-- A text cut at a byte, as a scan meets it: the first piece ends where the byte stands first, and the others follow.
use Rattle.std.specs.Prelude.{Bool, true, false, List, [], ◌∷◌, ℕ, suc, eqb, ltb, length, drop, Option, None, Some}
use Rattle.std.specs.Borrow.{Bor}
use Rattle.rules.specs.Lists.{if}
use Rattle.rules.specs.Text.{pieces}

-- where a byte stands first, and the length where it does not
unfoldable pub find : ℕ → List ℕ → ℕ
find b [] = 0
find b (x ∷ xs) = if (eqb x b) 0 (suc (find b xs))

-- the pieces after the first
unfoldable pub others : ℕ → List ℕ → List (List ℕ)
others b l = if (ltb (find b l) (length l)) (pieces b (drop (suc (find b l)) l)) []

abbrev pub is_two : List (List ℕ) → Bool
is_two [] = false
is_two (x ∷ []) = false
is_two (x ∷ y ∷ []) = true
is_two (x ∷ y ∷ z ∷ zs) = false

-- the pieces of a text that may be there, and its bytes with the one before it
abbrev pub pieces_left : ℕ → Option (Bor (List ℕ)) → List (List ℕ)
pieces_left b None = []
pieces_left b (Some text) = pieces b text.now

abbrev pub bytes_left : Option (Bor (List ℕ)) → ℕ
bytes_left None = 0
bytes_left (Some text) = suc (length text.now)
