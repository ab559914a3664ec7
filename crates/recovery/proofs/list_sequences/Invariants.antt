-- `list_sequences` meets its contract: at each turn the rows of the sequences that are left make of the buffer so far what all
-- rows make of the buffer at the start, and with those counted so far they are as many as all.
use mathlib.Core.Path.{◌≡◌}
use Prim.Native.Nat.{suc, ◌+◌}
use lib.ListN.{length, drop}
use Rattle.descent.specs.Buffer.{buffer}
use Rattle.recovery.proofs.SequenceBySequence.{going_through, left}
use Rattle.rules.specs.Lists.{sum}
use Rattle.rules.specs.Support.{parts}
use Rattle.rules.specs.Template.{size}
use Rattle.recovery.proofs.list_sequences.Given as goal

abbrev pub invariant-loop-i : goal.invariant-loop-i
invariant-loop-i l = let cs = parts l.motif.template (size l.motif.template) l.motif.number in
    let through = going_through (suc l.motif.template.count) cs l.set.lengths.now l.set.letters.now in record {
      same_buffer : l.page.out.ghost_name ≡ l.initial.page.out.ghost_name;
      letters_left : l.begin + sum (drop l.i l.set.lengths.now) ≡ length l.set.letters.now;
      rows_left : through l.i l.begin (buffer l.page.progress l.page.out.now) ≡ through 0 0 (buffer l.initial.page.progress l.initial.page.out.now);
      count_left : l.length + left cs l.set.lengths.now l.set.letters.now l.i l.begin ≡ left cs l.set.lengths.now l.set.letters.now 0 0;
    }
