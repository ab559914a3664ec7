-- `list_last` meets its contract: at each turn what is still to be handed out makes of the buffer so far what all of it makes of
-- the buffer at the start.
use mathlib.Core.Path.{◌≡◌}
use Prim.Native.Nat.{suc, ◌+◌}
use lib.ListN.{length, take, drop}
use Rattle.descent.specs.Buffer.{buffer}
use Rattle.descent.specs.Paths.{handed}
use Rattle.rules.specs.Limits.{template_components}
use Rattle.rules.specs.Template.{components}
use Rattle.descent.proofs.Descent.list_last.Given as goal

abbrev pub invariant-loop-at : goal.invariant-loop-at
invariant-loop-at l = let on = handed (drop l.component (components l.self.template)) l.self.letters l.self.flags.now l.initial.longer l.component in record {
  same_buffer : l.page.out.ghost_name ≡ l.initial.page.out.ghost_name;
  wide : length l.longer ≡ template_components + 1;
  same_row : take (suc l.component) l.longer ≡ take (suc l.component) l.initial.longer;
  left : on l.at l.at-end (buffer l.page.progress l.page.out.now) ≡ on l.initial.at l.at-end (buffer l.initial.page.progress l.initial.page.out.now);
}
