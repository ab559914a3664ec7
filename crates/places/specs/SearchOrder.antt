-- The checks of a search before 13, in their order.
use Rattle.std.specs.Prelude.{List, ℕ}
use Rattle.checks.specs.CheckOrders.{value_checks_before_13}
use Rattle.rules.specs.Refusals.{◌else◌, first, set_checks}
use Rattle.rules.specs.Told.{Verdict}
use Rattle.rules.specs.declared.Search.{Search}

unfoldable pub before_13 : List ℕ → List ℕ → Search → Verdict
before_13 letters lengths s = first (set_checks letters lengths) else first (value_checks_before_13 letters lengths s)
