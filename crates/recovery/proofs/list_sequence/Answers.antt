-- `list_sequence` meets its contract: with the flags that `mark` sets, what is read off them is the occurrences, and the ways of
-- the first component add up to how many there are.
use mathlib.Core.List.{map}
use mathlib.Core.Path.{◌∙◌}
use lib.ListN.{length, length-map}
use Rattle.descent.specs.Buffer.{buffer}
use Rattle.descent.proofs.RightFlags.{listed_are}
use Rattle.recovery.proofs.FlagsFromWays.{counts_sum, counted}
use Rattle.rules.specs.Letters.{value}
use Rattle.rules.specs.Support.{parts}
use Rattle.rules.specs.Template.{size}
use Rattle.recovery.proofs.list_sequence.Goals as goal

pub invariant_of-descent : goal.invariant_of-descent
invariant_of-descent c =
    let a = c.args in
    let m = c.mark.ensures in
    record {
      sound = a.motif.sound;
      short = a.sequence.short;
      counted = counted a.motif.sound a.motif.number (map value a.sequence.letters.now) _ m.flagged (length a.sequence.letters.now) (length-map a.sequence.letters.now value) _ m.ways_after;
    }

pub sum-requires : goal.sum-requires
sum-requires c =
    let a = c.args in
    rw (counts_sum (parts a.motif.template (size a.motif.template) a.motif.number) (map value a.sequence.letters.now) c.mark.ensures.ways_after) c.requires.sequence_len_bound

pub returns-clause-page_after : goal.returns-clause-page_after
returns-clause-page_after c =
    let a = c.args in
    listed_are a.motif.sound a.motif.number (map value a.sequence.letters.now) _ c.mark.ensures.flagged a.sequence.number.0 (length a.sequence.letters.now) (length-map a.sequence.letters.now value) (buffer a.page.now.progress a.page.now.out.now) c.list_starts.ensures.page_after

pub returns-clause-length_value : goal.returns-clause-length_value
returns-clause-length_value c =
    let a = c.args in
    c.sum.ensures ∙ counts_sum (parts a.motif.template (size a.motif.template) a.motif.number) (map value a.sequence.letters.now) c.mark.ensures.ways_after
