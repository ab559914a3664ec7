-- `window` meets its contract: the numbers at the offsets of the range are those at the positions of the run.
use borrow.Author.Rules.{rules}
use mathlib.Core.Path.{◌∙◌}
use mathlib.Core.List.{map}
use Prim.Native.Nat.{suc, ◌+◌, ◌^◌, ◌<◌}
use native.Mathlib.Omega.{arith}
use Rattle.std.specs.List as std
use Rattle.std.proofs.lemmas.Iterator.{YieldsList-from_range, YieldsList-from_map}
use Rattle.std.proofs.lemmas.Iterator.Consumers.{sum_from_yields_List, fits_from_yields_list}
use Rattle.ways.specs.Counts.{at_position, most_ways}
use Rattle.ways.proofs.FilledTables.{window_most}
use Rattle.ways.proofs.SumOfWays.{total, mapped}
use Rattle.ways.proofs.window.Goals as goal

pub sum-requires-clause-fits : goal.sum-requires-clause-fits
sum-requires-clause-fits c =
    let a = c.args in
    let most = window_most (at_position a.a.now) most_ways c.requires.2 (suc a.from) a.count in
    let h : std.sum (map (λ i. at_position a.a.now (suc i)) (std.range_with_len a.from a.count)) < 2 ^ 64 = rw (total, mapped (at_position a.a.now)) (omega (arith, most)) in
    fits_from_yields_list c.map.result _ (YieldsList-from_map _ (λ i. at_position a.a.now (suc i)) (YieldsList-from_range a.from (a.from + a.count) a.count c.map.ensures.source (omega arith)) c.map.ensures.closure (λ x r q k. search rules)) h

pub returns : goal.returns
returns c =
    let a = c.args in
    sum_from_yields_List c.map.result _ c.sum.ensures.ran (YieldsList-from_map _ (λ i. at_position a.a.now (suc i)) (YieldsList-from_range a.from (a.from + a.count) a.count c.map.ensures.source (omega arith)) c.map.ensures.closure (λ x r q k. search rules))
    ∙ rw (total, mapped (at_position a.a.now))
