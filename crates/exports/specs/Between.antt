-- What is written between two calls: of a new search, and of the one that a leg leaves.
use Rattle.std.specs.Prelude.{List, ℕ}
use Rattle.records.specs.ReadWrite.{write_rule}
use Rattle.rules.specs.Calls.{Written}
use Rattle.rules.specs.declared.Stop.{Stop}
use Rattle.rules.specs.Told.{Told, refuses}
use Rattle.rules.specs.declared.Search.{Search}
use Rattle.exports.specs.Exported.{on_told}

-- a new search is written, and nothing where it is refused
abbrev pub write_begun : Told Search → List ℕ → Written ℕ
write_begun begun out = on_told begun (λ n p. record { told = refuses n p; out = out }) (λ s. write_rule s out)

-- what the save holds after a leg with this answer: what it held where the leg is refused, and else the search that is left
abbrev pub saved_after : Told Stop → Search → List ℕ → List ℕ
saved_after answer left saved = on_told answer (λ n p. saved) (λ stop. (write_rule left saved).out)
