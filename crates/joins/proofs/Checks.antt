-- What the checks of a join come to, and what its rule gives by what they find.
use mathlib.Core.Path.{◌≡◌, refl, ap}
use mathlib.Core.List.{List}
use Prim.Native.Nat.{ℕ}
use lib.ListN.{length}
use Rattle.rules.specs.Calls.{join_rule}
use Rattle.rules.specs.Join.{partnered}
use Rattle.rules.specs.Lists.{put}
use Rattle.rules.specs.Refusals.{◌else◌, first, join_checks, check6_head, check8_range, check16, check17}
use Rattle.rules.specs.Told.{fine, refused, gives, refuses}
use Rattle.rules.proofs.Verdicts.{else_fine}
use Rattle.joins.specs.Pass.{verdict}

module _ (xs ys : List ℕ) (head low high : ℕ) (out : List ℕ) where
  -- the four checks, of which the first that refuses is given
  pub in_order : verdict xs ys head low high out ≡ check6_head head else (check8_range low high else (check16 xs ys else check17 (length xs) out))
  unfolding first join_checks
  in_order = rw (else_fine (check17 (length xs) out))

  -- a refusal that they find is told, and nothing written
  pub rule_refused : {n p : ℕ} → verdict xs ys head low high out ≡ refused n p → (refuses n p ≡ (join_rule xs ys head low high out).told) × (out ≡ (join_rule xs ys head low high out).out)
  unfolding join_rule
  rule_refused e = rw e (refl, refl)

  -- and else those with a partner are written, and their number told
  pub rule_fine : {n : ℕ} {table : List ℕ} → verdict xs ys head low high out ≡ fine → n ≡ length (partnered xs ys head low high)
      → table ≡ put (partnered xs ys head low high) out → (gives n ≡ (join_rule xs ys head low high out).told) × (table ≡ (join_rule xs ys head low high out).out)
  unfolding join_rule
  rule_fine e en et = rw e (ap gives en, et)
