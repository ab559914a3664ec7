-- Each turn joins the word with itself, shifted by no more than it spans: then it spans so much more. The last shift is by the distance.
use mathlib.Core.List.{[], ◌∷◌}
use mathlib.Core.Path.{◌≡◌}
use Prim.Native.Nat.{◌-◌, ◌≤◌}
use Rattle.rows.specs.Bits.{held}
use Rattle.rows.specs.Rows.{window}
use Rattle.rows.proofs.gap.open_word.Given as goal

abbrev pub invariant-loop-have : goal.invariant-loop-have
invariant-loop-have l = (1 ≤ l.have) × (l.have ≤ l.reach.apart.count) × (held (l.all ∷ []) ≡ window 0 l.have (held (l.word ∷ [])))

abbrev pub decreases-loop-have : goal.decreases-loop-have
decreases-loop-have l = l.reach.apart.count - l.have
