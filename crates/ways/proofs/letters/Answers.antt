-- `letters` meets its contract: the library's sum is that of the rules.
use borrow.Author.Rules.{rules}
use mathlib.Core.List.{map}
use Rattle.std.proofs.iter.runs.Made.{chains}
use Rattle.ways.specs.Counts.{letters_taken}
use Rattle.ways.proofs.SumOfWays.{total_is}
use Rattle.ways.proofs.letters.Goals as goal

pub returns : goal.returns
unfolding letters_taken
returns c = total_is (map (λ x. x.length) c.args.components.now) (search (rules, chains))
