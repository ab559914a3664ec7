-- `step` meets its contract: the component's letters stand where `begins` says, and a pass of them turns the counts of the later
-- components into its own.
use mathlib.Core.List.{List}
use mathlib.Core.Path.{◌≡◌}
use Prim.Native.Nat.{ℕ, ◌+◌, ◌≤◌, ◌<◌}
use native.Mathlib.Numerals.{add-one}
use native.Mathlib.Omega.{arith}
use lib.ListN.{length, drop}
use Rattle.rules.specs.Sound.{SoundTemplate}
use Rattle.rules.specs.Template as template
use Rattle.rules.specs.declared.Component.{Component}
use Rattle.rules.specs.declared.Template.{Template}
use Rattle.ways.specs.Counts.{counts, letters_taken, aligned}
use Rattle.ways.proofs.Aligned.{Held, onward, own_ends, last_made, next_near, next_made, counts_small}
use Rattle.ways.proofs.step.Goals as goal

module _ (t : Template) {cs : List Component} (w : List ℕ) where
  held : SoundTemplate t → cs ≡ template.slots t → template.size t ≤ length w → Held t cs w
  held s e f = record { sound = s; slotted = e; fits = f }

  -- where the letters begin, and what the ways of the later components are, by the slots
  begun : cs ≡ template.slots t → (b c : ℕ) → b + letters_taken (drop c (template.components t)) ≡ length w → b + letters_taken (onward cs t.count c) ≡ length w
  unfolding template.components
  begun e b c f = rw e f

  theirs : cs ≡ template.slots t → (d : ℕ) (s : List ℕ) {ways : List ℕ} → ways ≡ counts (aligned (drop d (template.components t)) w) s → ways ≡ counts (aligned (onward cs t.count d) w) s
  unfolding template.components
  theirs e d s f = rw e f

pub slice_bounds-last-end : goal.slice_bounds-last-end
slice_bounds-last-end c =
    let q = c.requires.component_lt_count in
    let e = c.components-components.ensures in
    own_ends (held c.args.template c.args.word.now c.requires.sound_template e q.1) _ _ q.0 (begun c.args.template c.args.word.now e _ _ c.begins-begin.ensures)

pub returns-then-next-count : goal.returns-then-next-count
unfolding template.components
returns-then-next-count c =
    let q = c.requires.component_lt_count in
    let e = c.components-components.ensures in
    let h = held c.args.template c.args.word.now c.requires.sound_template e q.1 in
    rw e at (last_made h _ _ q.0 (begun c.args.template c.args.word.now e _ _ c.begins-begin.ensures) c.args.sequence.now (omega (arith, c.if-next-count.true)) c.last.ensures)

pub slice_bounds-pass-end : goal.slice_bounds-pass-end
slice_bounds-pass-end c =
    let q = c.requires.component_lt_count in
    let e = c.components-components.ensures in
    own_ends (held c.args.template c.args.word.now c.requires.sound_template e q.1) _ _ q.0 (begun c.args.template c.args.word.now e _ _ c.begins-begin.ensures)

pub pass-requires : goal.pass-requires
pass-requires c =
    let q = c.requires.component_lt_count in
    let e = c.components-components.ensures in
    let h = held c.args.template c.args.word.now c.requires.sound_template e q.1 in
    let follows : c.args.component + 1 < c.args.template.count = omega arith in
    let n = next_near h _ _ q.0 follows in
    let a = c.after-apart.ensures in
    (q.2, rw a n.near, rw a n.few, counts_small h c.args.sequence.now _ follows (theirs c.args.template c.args.word.now e _ c.args.sequence.now (c.requires.ways_value follows)))

pub returns : goal.returns
unfolding template.components
returns c =
    let q = c.requires.component_lt_count in
    let e = c.components-components.ensures in
    let h = held c.args.template c.args.word.now c.requires.sound_template e q.1 in
    let follows : c.args.component + 1 < c.args.template.count = omega arith in
    let made = rw c.after-apart.ensures at c.pass.ensures in
    rw e at (next_made h c.args.sequence.now _ _ _ (add-one c.args.component) follows q.0 (begun c.args.template c.args.word.now e _ _ c.begins-begin.ensures) (theirs c.args.template c.args.word.now e _ c.args.sequence.now (c.requires.ways_value follows)) made)
