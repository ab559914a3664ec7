use mathlib.Core.List.{List, map}
use mathlib.Core.Path.{◌≡◌}
use Prim.Native.Nat.{ℕ, ◌+◌, ◌≤◌, ◌<◌}
use native.Mathlib.Omega.{arith}
use lib.ListN.{length, take, drop, get_or, length-map, get_or-map, length-take}
use Rattle.rules.specs.Lists.{sum}
use Rattle.rules.specs.Template.{slots, none, components, size}
use Rattle.rules.specs.declared.Component.{Component}
use Rattle.rules.specs.declared.Template.{Template}
use Rattle.rules.proofs.Tables.{sum_more, sum_over, take_min}
use Rattle.rules.proofs.Template.letters.Goals as goal

-- no more than the slots are passed
few : (t : Template) (n : ℕ) {cs : List Component} → cs ≡ slots t → length (take n cs) ≤ 6
few t n e = rw (e, length-take) (omega arith)

-- one component more
more : (cs : List Component) (i : ℕ) → i < length cs → sum (drop i (map (λ c. c.length) cs)) ≡ (get_or cs i none).length + sum (drop (i + 1) (map (λ c. c.length) cs))
more cs i h = rw (sum_more (map (λ c. c.length) cs) i (rw length-map h), get_or-map (λ c. c.length) cs i none)

-- past the last nothing is left
over : (cs : List Component) (i : ℕ) → length cs ≤ i → sum (drop i (map (λ c. c.length) cs)) ≡ 0
over cs i h = sum_over (map (λ c. c.length) cs) i (rw length-map h)

pub loop-c-preserved : goal.loop-c-preserved
loop-c-preserved c =
    let l = c.loop-c in
    (omega arith, omega (arith, more (take c.held.result c.components-slots.result) l.c-index c.loop-c-test.true, l.invariant.1))

pub returns : goal.returns
unfolding size components
returns c =
    let l = c.loop-c in
    let whole : take c.held.result c.components-slots.result ≡ take c.args.self.count (slots c.args.self) = rw (c.components-slots.ensures, c.held.ensures, take_min c.args.self.count (slots c.args.self)) in
    rw (← whole) (omega (arith, over (take c.held.result c.components-slots.result) l.c-index c.loop-c-test.false, l.invariant.1))
