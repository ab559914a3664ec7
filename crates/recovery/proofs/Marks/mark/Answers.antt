use borrow.Author.Rules.{rules}
use mathlib.Core.Path.{◌≡◌}
use mathlib.Core.List.{map}
use Prim.Native.Nat.{suc, ◌-◌, ◌<◌}
use native.Mathlib.Omega.{arith}
use lib.ListN.{length, length-map}
use Rattle.recovery.proofs.FlagsFromWays.{room_kept, flagged_more, flagged_none}
use Rattle.rules.specs.Letters.{value}
use Rattle.rules.specs.Limits.{template_components, template_letters}
use Rattle.rules.specs.Support.{parts}
use Rattle.rules.specs.Template.{size}
use Rattle.ways.proofs.Motifs.{counts_motif}
use Rattle.recovery.proofs.Marks.mark.Goals as goal

pub loop-component-init : goal.loop-component-init
loop-component-init c =
    record {
      room = search rules;
      flagged = flagged_none c.args.motif.sound c.args.motif.number (map value c.args.sequence.letters.now) c.args.self.now.flags;
      counted = λ h. absurd (omega arith);
    }

pub loop-component-preserved : goal.loop-component-preserved
loop-component-preserved c =
    let a = c.args in
    let l = c.loop-component in
    let r = c.mark_component.ensures in
    let cs = parts a.motif.template (size a.motif.template) a.motif.number in
    let s = map value a.sequence.letters.now in
    let k : suc (l.component - 1) ≡ l.component = omega arith in
    let within : l.component - 1 < template_components = omega (arith, c.args.motif.sound.few) in
    let made = rw (counts_motif c.args.motif.sound a.motif.number template_letters c.args.motif.sound.deep (l.component - 1) a.sequence.letters.now c.spell.ensures r.ways_after) at r.flags_after in
    record {
      room = room_kept cs s (length a.sequence.letters.now) (l.component - 1) (length-map a.sequence.letters.now value) a.sequence.short within l.self.flags l.invariant.room made;
      flagged = flagged_more cs s (length a.sequence.letters.now) (l.component - 1) (length-map a.sequence.letters.now value) a.sequence.short within l.self.flags l.invariant.room made (rw k l.invariant.flagged);
      counted = λ h. r.ways_after;
    }

pub returns-clause-ways_after : goal.returns-clause-ways_after
returns-clause-ways_after c =
    let l = c.loop-component in
    let z : l.component ≡ 0 = omega arith in
    counts_motif c.args.motif.sound c.args.motif.number template_letters c.args.motif.sound.deep 0 c.args.sequence.letters.now c.spell.ensures (rw z at (l.invariant.counted (omega (arith, c.args.motif.sound.some))))
