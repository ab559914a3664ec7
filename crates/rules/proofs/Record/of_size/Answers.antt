-- `Record::of_size`: each field is the low bytes of its number.
use native.Mathlib.Nat.{div-div-eq-div-mul}
use Rattle.rules.specs.Saved.{low_first, size_record}
use Rattle.rules.proofs.Record.of_size.Goals as goal

pub returns : goal.returns
unfolding low_first size_record
returns c = simp (c.from-kind.ensures, c.to_le_bytes-m.ensures, c.to_le_bytes-k.ensures, c.letters.ensures, c.to_le_bytes-n.ensures, c.to_le_bytes-q.ensures, div-div-eq-div-mul)
