-- `all_letters`: all are letters exactly if all those passed are, and all of the rest.
use mathlib.Core.Bool.{◌&&◌}
use mathlib.Core.Path.{◌≡◌}
use lib.ListN.{drop}
use Rattle.rules.specs.Letters.{is_letter}
use Rattle.rules.specs.Lists.{all_pass}
use Rattle.checks.proofs.all_letters.Given as goal

abbrev pub invariant-loop-b : goal.invariant-loop-b
invariant-loop-b l = all_pass is_letter l.bytes ≡ l.all && all_pass is_letter (drop l.b-index l.bytes)
