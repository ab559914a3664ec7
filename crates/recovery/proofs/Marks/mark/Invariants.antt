-- `mark` meets its contract: from `component` on the flags are right, and the ways are those of that component and the ones after it.
use mathlib.Core.Path.{◌≡◌}
use mathlib.Core.List.{map}
use Prim.Native.Nat.{◌*◌, ◌<◌}
use lib.ListN.{length, take, drop}
use Rattle.descent.specs.Paths.{Flagged}
use Rattle.rules.specs.Letters.{value}
use Rattle.rules.specs.Limits.{sequence_set_letters, template_components}
use Rattle.rules.specs.Support.{parts}
use Rattle.rules.specs.Template.{components, size}
use Rattle.ways.specs.Counts.{counts, aligned}
use Rattle.recovery.proofs.Marks.mark.Given as goal

abbrev pub invariant-loop-component : goal.invariant-loop-component
invariant-loop-component l = record {
  room : length l.self.flags ≡ template_components * sequence_set_letters;
  flagged : Flagged (parts l.motif.template (size l.motif.template) l.motif.number) (map value l.sequence.letters.now) l.self.flags l.component;
  counted : l.component < l.motif.template.count → take (length l.sequence.letters.now) l.self.ways ≡ counts (aligned (drop l.component (components l.motif.template)) l.word) l.sequence.letters.now;
}
