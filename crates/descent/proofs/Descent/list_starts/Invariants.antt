-- `list_starts` meets its contract: at each turn what is still to be handed out makes of the buffer so far what all of
-- it makes of the buffer at the start.
use mathlib.Core.Path.{◌≡◌}
use Prim.Native.Nat.{suc, ◌+◌, ◌-◌, ◌≤◌}
use Rattle.descent.specs.Buffer.{buffer}
use Rattle.descent.specs.Paths.{handed}
use Rattle.rules.specs.Template.{components}
use Rattle.descent.proofs.Descent.list_starts.Given as goal

abbrev pub invariant-loop-at : goal.invariant-loop-at
invariant-loop-at l = let on = handed (components l.self.template) l.self.letters l.self.flags.now l.row 0 in record {
  same_buffer : l.page.out.ghost_name ≡ l.initial.page.out.ghost_name;
  some : 1 ≤ l.at;
  left : on l.at (l.self.letters + 1) (buffer l.page.progress l.page.out.now) ≡ on l.initial.at (l.self.letters + 1) (buffer l.initial.page.progress l.initial.page.out.now);
}

abbrev pub decreases-loop-at : goal.decreases-loop-at
decreases-loop-at l = suc l.self.letters - l.at
