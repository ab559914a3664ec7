-- One letter more of a prefix: which letter of which component it is, and what it is added to.
use Rattle.std.specs.Prelude.{List, [], ◌∷◌, ◌≡◌, ℕ, zero, suc, ◌+◌, ◌<◌, length, get_or, replicate}
use Rattle.rules.specs.Template.{Reading, none, distance, deal}
use Rattle.rules.specs.declared.Component.{Component}
use Rattle.rows.specs.Flags.{last_by}

-- the letters of the first k components
unfoldable pub letters_before : List Component → ℕ → ℕ
letters_before cs zero = 0
letters_before [] (suc k) = 0
letters_before (c ∷ cs) (suc k) = c.length + letters_before cs k

-- after j letters comes letter i, from 0, of component k
pub record At (cs : List Component) (j k i : ℕ) : Type 0 where
  pub there : k < length cs
  pub inside : i < (get_or cs k none).length
  pub counted : j ≡ letters_before cs k + i

-- what letter i of component k is added to, after the letters w, read by R: inside a component what there is for w; at its first
-- letter that with the gap opened, as G does it; at the first letter of all, one way everywhere
unfoldable pub before_letter : (ℕ → ℕ → List ℕ → List ℕ) → Reading → List Component → ℕ → ℕ → List ℕ → List ℕ → List ℕ
before_letter G R cs k (suc i) w s = last_by G (deal R 0 cs w) s
before_letter G R cs zero zero w s = replicate (length s) 1
before_letter G R cs (suc k) zero w s =
    G (distance (get_or cs k none).length (get_or cs (suc k) none).low) (distance (get_or cs k none).length (get_or cs (suc k) none).high) (last_by G (deal R 0 cs w) s)
