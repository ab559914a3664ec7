-- All words joined are 0 if none of them has a bit.
use mathlib.Core.Path.{◌≡◌}
use Rattle.std.proofs.Common.{rules}
use Rattle.std.specs.List.{fold}
use lib.Bits.{bit_or}
use Rattle.rows.proofs.Joined.{joined_words}
use Rattle.rows.proofs.counts.empty.Goals as goal

pub returns : goal.returns
returns c =
    let e : c.fold.result ≡ fold bit_or 0 c.args.words.now = search rules in
    joined_words c.args.words.now e
