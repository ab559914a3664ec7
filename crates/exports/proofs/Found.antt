-- A record that the FASTA reader hands out ends within the buffer of letters, and its row stands within the lengths table: else 20
-- is refused. So what is used of each, moved on past it, stays below what bounds their lengths.
use mathlib.Core.Path.{◌≡◌, refl}
use mathlib.Core.Bool.{◌||◌}
use mathlib.Core.List.{List, [], ◌∷◌}
use Prim.Native.Nat.{ℕ, ◌+◌, ◌≤◌, ◌<◌}
use native.Mathlib.Omega.{arith}
use lib.Dec.{leb, ltb}
use lib.ListN.{length}
use borrow.Author.Tests.{leb-false, ltb-false}
use Rattle.rules.specs.Calls.{on_refusal}
use Rattle.rules.specs.Fasta.{Entry, size_of, has_no_room, check19, check20, lines_from, entries, next_checks, reader_checks, hands_out, stays, reader_rule}
use Rattle.rules.specs.Limits.{fasta_length}
use Rattle.rules.specs.Refusals.{first}
use Rattle.rules.specs.Told.{Verdict, fine, refused, Told, refuses, Handing}
use Rattle.rules.proofs.Tests.{neither}
use Rattle.rules.proofs.Verdicts.{first_cons, refuse_if_fine}
use Rattle.exports.specs.Numbers.{found_told}
use Rattle.exports.specs.declared.told.Found.{Found}

module _ (file : List ℕ) (at : ℕ) (letters : List ℕ) (used : ℕ) (lengths : List ℕ) (count : ℕ) where
  -- what 20 leaves
  entry_fits : (e : Entry) → check20 letters used lengths count e ≡ fine → (used + size_of e ≤ length letters) × (count < length lengths)
  unfolding check20
  entry_fits e q =
      let h = (refuse_if_fine (has_no_room (length letters) used (length lengths) count (size_of e)) 20).0 q in
      let k = (neither (ltb (length letters) (used + size_of e) || leb (length lengths) count) (ltb fasta_length (size_of e))).0 h in
      let l = (neither (ltb (length letters) (used + size_of e)) (leb (length lengths) count)).0 k.0 in
      (ltb-false _ _ l.0, leb-false _ _ l.1)

  -- what is used of both, moved on past what is found
  abbrev Moves : Found → Type 0
  Moves f = (b : ℕ) → ((used < b) → (length letters < b) → used + f.letters < b) × ((count < b) → (length lengths < b) → count + f.found < b)

  moves_by : (es : List Entry) (v : Verdict) → first (check19 (lines_from file at) ∷ next_checks letters used lengths count es) ≡ v
      → Moves (found_told (on_refusal v (λ n p. stays file at letters used lengths count (refuses n p)) (hands_out file at letters used lengths count es)).told)
  unfolding found_told
  moves_by es (refused n p) q b = (λ h k. omega arith, λ h k. omega arith)
  moves_by [] fine q b = (λ h k. omega arith, λ h k. omega arith)
  moves_by (e ∷ es) fine q b =
      let h = ((first_cons _ _).0 ((first_cons _ _).0 q).1).0 in
      let k = entry_fits e h in
      (λ u l. omega (arith, k.0), λ c l. omega (arith, k.1))

  pub moves : Moves (found_told (reader_rule file at letters used lengths count).told)
  unfolding reader_rule reader_checks
  moves = moves_by (entries (lines_from file at)) _ refl

  -- the same of what a call found
  pub found_moves : {f : Found} {t : Told Handing} → f ≡ found_told t → t ≡ (reader_rule file at letters used lengths count).told → Moves f
  found_moves e q = rw (e, q) moves
