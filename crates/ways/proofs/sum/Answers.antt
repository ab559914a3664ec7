-- `sum` meets its contract: the library's sum is that of the rules.
use borrow.Author.Rules.{rules}
use Prim.Native.Nat.{◌^◌, ◌<◌}
use Rattle.std.specs.List as std
use Rattle.std.proofs.iter.runs.Made.{chains}
use Rattle.ways.proofs.SumOfWays.{total_is, total_fits}
use Rattle.ways.proofs.sum.Goals as goal

pub sum-requires-clause-fits : goal.sum-requires-clause-fits
sum-requires-clause-fits c = let h : std.sum c.args.ways.now < 2 ^ 64 = total_fits c.args.ways.now c.requires in search (rules, chains)

pub returns : goal.returns
returns c = total_is c.args.ways.now (search (rules, chains))
