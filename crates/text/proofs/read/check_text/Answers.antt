-- The checks in their order.
use Rattle.text.proofs.Lines.{text_long}
use Rattle.text.proofs.read.check_text.Goals as goal

pub returns-then-input-gt-BYTES : goal.returns-then-input-gt-BYTES
returns-then-input-gt-BYTES c = text_long c.args.input.now c.if-input-gt-BYTES.true
