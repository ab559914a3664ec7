-- The words of the four letters' rows, by the values of the letters.
use Rattle.std.specs.Prelude.{ℕ, eqb}
use Rattle.rules.specs.Letters.{A, C, G}
use Rattle.rules.specs.Lists.{if}
use Rattle.rows.specs.declared.words.Bases.{Bases}

unfoldable pub word_of : Bases → ℕ → ℕ
word_of w x = if (eqb x A) w.a (if (eqb x C) w.c (if (eqb x G) w.g w.t))
