-- 17 comes last: a save's order is that of its search, and then 17.
use mathlib.Core.Path.{◌≡◌, refl}
use mathlib.Core.List.{List}
use Prim.Native.Nat.{ℕ}
use lib.ListN.{length}
use Rattle.rules.specs.Calls.{written_unless, on_refusal, save_rule}
use Rattle.rules.specs.Refusals.{◌else◌, first, check17, search_checks, save_checks}
use Rattle.rules.specs.Saved.{bytes}
use Rattle.rules.specs.Told.{Verdict, fine, refused, refuses}
use Rattle.rules.specs.declared.Search.{Search}
use Rattle.records.specs.ReadWrite.{write_rule}
use Rattle.records.proofs.Before.{then_next}

-- what is written after two checks goes by the first, and then by the second
written_else : {A : Type 0} (v w : Verdict) (a : A) (xs out : List ℕ)
    → written_unless (v else w) a xs out ≡ on_refusal v (λ n p. record { told = refuses n p; out = out }) (written_unless w a xs out)
unfolding ◌else◌
written_else fine w a xs out = refl
written_else (refused n p) w a xs out = refl

-- a save goes by what is found of its search, and then by 17
pub save_told : (letters lengths : List ℕ) (s : Search) (out : List ℕ)
    → save_rule letters lengths s out
    ≡ on_refusal (first (search_checks letters lengths s)) (λ n p. record { told = refuses n p; out = out }) (write_rule s out)
unfolding save_rule save_checks
save_told letters lengths s out =
    let v = first (search_checks letters lengths s) in
    let w = check17 (length (bytes s)) out in
    let q : v else w ≡ first (save_checks letters lengths s out) = then_next (search_checks letters lengths s) refl refl refl in
    rw (← q) (written_else v w (length (bytes s)) (bytes s) out)
