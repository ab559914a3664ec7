-- The sum so far with what the words from `q` on add is that of all. So no sum on the way is larger than the last.
use mathlib.Core.Path.{◌≡◌}
use Prim.Native.Nat.{◌+◌, ◌*◌}
use lib.ListN.{drop}
use Rattle.rules.specs.Lists.{sum}
use Rattle.rows.specs.Bits.{held}
use Rattle.rows.specs.Flags.{masked}
use Rattle.rows.proofs.Adding.{Counted}
use Rattle.rows.proofs.counts.add_words.Given as goal

abbrev pub invariant-loop-q : goal.invariant-loop-q
invariant-loop-q l =
    let words = drop l.q l.part.row.now in
    let counts = drop (64 * l.q) l.part.counts.now in
    Counted words counts × (l.total + sum (masked (held words) counts) ≡ sum (masked (held l.part.row.now) l.part.counts.now))
