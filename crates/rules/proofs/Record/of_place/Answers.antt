-- `Record::of_place`: each field is the low bytes of its number.
use native.Mathlib.Nat.{div-div-eq-div-mul}
use Rattle.rules.specs.Saved.{low_first, place_record}
use Rattle.rules.proofs.Record.of_place.Goals as goal

pub returns : goal.returns
unfolding low_first place_record
returns c = simp (c.to_le_bytes-m.ensures, div-div-eq-div-mul)
