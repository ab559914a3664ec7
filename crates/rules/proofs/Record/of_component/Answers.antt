-- `Record::of_component`: each field is the low bytes of its number.
use Rattle.rules.specs.Saved.{low_first, component_record}
use Rattle.rules.proofs.Record.of_component.Goals as goal

pub returns : goal.returns
unfolding low_first component_record
returns c = rw (c.to_le_bytes-u.ensures, c.to_le_bytes-l.ensures, c.allowance_in-allowance.ensures)
