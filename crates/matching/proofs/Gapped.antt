-- The gap before a component, as the code reads it from the slots of a template.
use mathlib.Core.List.{List}
use mathlib.Core.Path.{◌≡◌, sym, ap, ◌∙◌}
use Prim.Native.Nat.{ℕ, ◌-◌, ◌≤◌, ◌<◌}
use native.Mathlib.Omega.{arith}
use lib.ListN.{length, get_or}
use Rattle.rules.proofs.Apart.{Apart, sound_apart}
use Rattle.rules.proofs.Components.{components_at}
use Rattle.rules.specs.Sound.{SoundTemplate}
use Rattle.rules.specs.Template.{none, slots, components, span, after}
use Rattle.rules.specs.declared.Component.{Component}
use Rattle.rules.specs.declared.Distances.{Distances}
use Rattle.rules.specs.declared.Template.{Template}
use Rattle.matching.specs.Path.{gap_near, gap_far}
use Rattle.rows.specs.Set.{is_marked, window_at, Filled}

-- the same gap
window_same : {d e n m : ℕ} → e ≡ d → m ≡ n → (ns row : List ℕ) {ys : List ℕ}
    → Filled (is_marked row) (window_at d n ns row) ns ys (length ns) → Filled (is_marked row) (window_at e m ns row) ns ys (length ns)
window_same a b ns row f = rw (a, b) f

module _ (t : Template) (sound : SoundTemplate t) (k : ℕ) (some : 1 ≤ k) (here : k < t.count) (read : List Component) (is : read ≡ slots t) where
  before_is : get_or read (k - 1) none ≡ get_or (components t) (k - 1) none
  before_is = ap (λ cs. get_or cs (k - 1) none) is ∙ sym (components_at t (k - 1) (omega arith))

  here_is : get_or read k none ≡ get_or (components t) k none
  here_is = ap (λ cs. get_or cs k none) is ∙ sym (components_at t k here)

  apart_is : after (get_or read k none) (get_or read (k - 1) none) ≡ after (get_or (components t) k none) (get_or (components t) (k - 1) none)
  apart_is = rw (before_is, here_is)

  module _ {apart : Distances} (e : apart ≡ after (get_or read k none) (get_or read (k - 1) none)) where
    pub gap_apart : Apart apart
    gap_apart = rw (e, is) (sound_apart (sound.each (k - 1) (omega arith)) (sound.each k here))

    -- opened into a slot
    pub opened_slot : (ns row ys : List ℕ) → Filled (is_marked row) (window_at apart.near apart.count ns row) ns ys (length ns)
        → Filled (is_marked row) (window_at (gap_near t k) (span (gap_near t k) (gap_far t k)) ns row) ns ys (length ns)
    opened_slot ns row ys f = window_same (ap (λ d. d.near) (sym (e ∙ apart_is))) (ap (λ d. d.count) (sym (e ∙ apart_is))) ns row f
