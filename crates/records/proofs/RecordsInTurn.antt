-- The records of a save are tested one after the other: the first that the search finds bad is the first bad one.
use Rattle.std.specs.Prelude.{Option, Some, None}
use Rattle.std.specs.List.{find, range_with_len}
use Rattle.std.specs.Option.{option_map}
use mathlib.Core.Path.{◌≡◌, refl, sym, ◌∙◌}
use mathlib.Core.Bool.{Bool, true, false, cond}
use mathlib.Core.List.{List, map}
use Prim.Native.Nat.{ℕ, zero, suc, ◌+◌}
use native.Mathlib.Numerals.{add-one}
use Rattle.rules.specs.Limits.{record_extra}
use Rattle.rules.specs.Lists.{if, run}
use Rattle.rules.specs.Refusals.{first_bad}
use Rattle.rules.specs.Saved.{record_at, component_count, saved_records}
use Rattle.rules.specs.Told.{Verdict, fine, refused}

-- refusal m at the record that is found, if there is one
abbrev pub found : ℕ → Option ℕ → Verdict
found m None = fine
found m (Some i) = refused m i

module _ (m : ℕ) (bad : ℕ → List ℕ → Bool) (bs : List ℕ) where
  -- the first bad one of n records from record k on
  found_first : (n k : ℕ) → first_bad m bad k (map (record_at bs) (run k n)) ≡ found m (find (λ i. bad i (record_at bs i)) (range_with_len k n))
  unfolding first_bad run
  found_first zero k = refl
  found_first (suc n) k = go (bad k (record_at bs k)) (found_first n (suc k))
    where
      go : (b : Bool) → first_bad m bad (suc k) (map (record_at bs) (run (suc k) n)) ≡ found m (find (λ i. bad i (record_at bs i)) (range_with_len (suc k) n))
          → if b (refused m k) (first_bad m bad (suc k) (map (record_at bs) (run (suc k) n)))
          ≡ found m (cond b (Some k) (find (λ i. bad i (record_at bs i)) (range_with_len (k + 1) n)))
      go true e = refl
      go false e = rw add-one e

  as_found : (r : Option ℕ) → found m (option_map (λ x. x) r) ≡ found m r
  as_found None = refl
  as_found (Some i) = refl

  -- the first bad one of all
  pub first_found : {n : ℕ} (r : Option ℕ) → n ≡ component_count bs → option_map (λ x. x) r ≡ find (λ i. bad i (record_at bs i)) (range_with_len 0 (n + record_extra))
      → found m r ≡ first_bad m bad 0 (saved_records bs)
  unfolding saved_records
  first_found {n} r e f = sym (as_found r) ∙ rw (f, ← e, found_first (n + record_extra) 0)
