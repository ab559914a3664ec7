-- One step of the descent: at a start with a flag the last component hands out its row, and any other what stands under each
-- next start; a full buffer takes nothing more.
use mathlib.Core.Path.{◌≡◌, refl, sym, ap, ◌∙◌}
use mathlib.Core.Bool.{Bool, true, ◌&&◌}
use mathlib.Core.List.{List, [], ◌∷◌, ◌++◌, append-nil}
use Prim.Native.Nat.{ℕ, suc, min, ◌+◌, ◌-◌, ◌≤◌, ◌<◌}
use native.Mathlib.Nat.{zero-add}
use native.Mathlib.Numerals.{add-one}
use native.Mathlib.Omega.{arith}
use lib.Dec.{leb, ltb}
use lib.ListN.{length, take, drop, get_or, set, length-set, length-drop}
use lib.Seq.{take-suc-set, length-take-le}
use borrow.Author.Tests.{leb-true, ltb-true}
use Rattle.descent.specs.Buffer.{Buffer, buffer, progress, emit, emits, with_front}
use Rattle.descent.specs.Paths.{flag, paths, next_apart, handed, listed_rows}
use Rattle.descent.specs.declared.Progress.{Progress}
use Rattle.descent.proofs.Buffer.{emits_one, emits_full, with_front_one, with_front_more, passed_over}
use Rattle.rules.proofs.Components.{components_length, components_more, components_none}
use Rattle.descent.proofs.Paths.{paths_last, paths_more, rows_last, handed_within}
use Rattle.rules.specs.Limits.{template_components}
use Rattle.rules.specs.Lists.{run, keep, each}
use Rattle.rules.specs.Occurrence.{reach}
use Rattle.rules.specs.Template.{slots, none, components}
use Rattle.rules.specs.declared.Component.{Component}
use Rattle.rules.specs.declared.Template.{Template}
use Rattle.rules.proofs.Lists.{each_same}
use Rattle.rules.proofs.Tests.{both}

-- a full buffer stays as it is, whatever rows there are
pub stays : (w : ℕ) (rows : List (List ℕ)) (g : Progress) (l : List ℕ) {full : Bool} → g.at ≤ length l → full ≡ leb g.skip 0 && ltb (length l - g.at) (w + 1) → full ≡ true
    → buffer g l ≡ emits (suc w) rows (buffer g l)
stays w rows g l inside e t =
    let f = (both (leb g.skip 0) (ltb (length l - g.at) (w + 1))).0 (sym e ∙ t) in
    let z : g.skip ≤ 0 = leb-true g.skip 0 f.0 in
    let m : length l - g.at < w + 1 = ltb-true (length l - g.at) (w + 1) f.1 in
    emits_full (suc w) rows g l (omega arith) (omega arith)

-- a row with a start more
row_more : (row : List ℕ) (c p : ℕ) → c + 1 < length row → take (suc (c + 1)) (set row (c + 1) p) ≡ take (suc c) row ++ (p ∷ [])
row_more row c p h = rw (take-suc-set row (c + 1) p h, add-one c)

module _ (n : ℕ) (flags : List Bool) (row : List ℕ) (c : ℕ) where
  -- of one start, the rows under it
  pub handed_one : (xs : List Component) (q : ℕ) (s : Buffer) → handed xs n flags row c q (q + 1) s ≡ emits (suc (c + length xs)) (with_front (take (suc c) row) (paths n flags xs c q)) s
  unfolding handed each run
  handed_one xs q s = let one : q + 1 - q ≡ 1 = omega arith in rw (one, append-nil (paths n flags xs c q))

  module _ (q : ℕ) (s : Buffer) (flagged : flag n flags c q ≡ true) (longer : List ℕ) (same : take (suc c) longer ≡ take (suc c) row) (h : c + 1 < length longer) where
    -- the row of the last component
    pub last_turn : {r : Buffer} {row' : List ℕ} → row' ≡ take (c + 1 + 1) (set longer (c + 1) q) → r ≡ emit (length row') row' s → r ≡ handed (none ∷ []) n flags row c q (q + 1) s
    last_turn {r} {row'} e k =
        let z : row' ≡ take (suc c) row ++ (q ∷ []) = e ∙ rw (add-one (c + 1), row_more longer c q h, same) in
        let w : length row' ≡ suc (c + 1) = rw e (length-take-le (c + 1 + 1) (set longer (c + 1) q) (rw (length-set longer (c + 1) q) (omega arith)) ∙ add-one (c + 1)) in
        k ∙ rw (w, z, handed_one (none ∷ []) q s, paths_last n flags c q none refl flagged, with_front_one (take (suc c) row) (q ∷ [])) (sym (emits_one (suc (c + 1)) (take (suc c) row ++ (q ∷ [])) s))

    -- of any other component, what stands under the next starts
    module _ (t : Template) (few : t.count ≤ template_components) (l : c + 1 < t.count) where
      abbrev from : ℕ
      from = q + (next_apart t c).near

      abbrev end : ℕ
      end = from + (next_apart t c).count

      under : handed (drop (c + 1) (components t)) n flags (set longer (c + 1) q) (c + 1) from end s
          ≡ emits (suc (c + length (drop c (components t)))) (with_front (take (suc c) row) (paths n flags (drop c (components t)) c q)) s
      unfolding handed reach
      under =
          let x = get_or (slots t) c none in
          let y = get_or (slots t) (c + 1) none in
          let k : end - from ≡ (next_apart t c).count = omega arith in
          let z : drop c (components t) ≡ x ∷ drop (c + 1) (components t) = rw (add-one c) (components_more t few c (omega arith)) in
          let w : c + length (drop c (components t)) ≡ c + 1 + length (drop (c + 1) (components t)) = rw z (omega arith) in
          rw (w, k, row_more longer c q h, same, paths_more n flags c q x y (drop (suc (c + 1)) (components t)) z (components_more t few (c + 1) l) flagged, with_front_more (take (suc c) row) q, add-one c)

      pub next_turn : {a e : ℕ} {r : Buffer} → a ≡ from → e ≡ min (n + 1) (a + (next_apart t c).count)
          → r ≡ handed (drop (c + 1) (components t)) n flags (set longer (c + 1) q) (c + 1) a e s → r ≡ handed (drop c (components t)) n flags row c q (q + 1) s
      next_turn ea ee k =
          k ∙ rw (ee, ea) (handed_within (drop (c + 1) (components t)) n flags (set longer (c + 1) q) (c + 1) from end s ∙ under ∙ sym (handed_one (drop c (components t)) q s))

-- ---- the components of a template from c on

module _ (t : Template) (few : t.count ≤ template_components) (n : ℕ) (flags : List Bool) (row : List ℕ) (c : ℕ) where
  -- the last of them alone
  last_alone : c + 1 ≡ t.count → drop c (components t) ≡ get_or (slots t) c none ∷ []
  last_alone h = components_more t few c (omega arith) ∙ ap (λ l. get_or (slots t) c none ∷ l) (components_none t few (suc c) (omega arith))

  -- whatever it is
  pub handed_last : (a e : ℕ) (s : Buffer) {r : Buffer} → c + 1 ≡ t.count → r ≡ handed (none ∷ []) n flags row c a e s → r ≡ handed (drop c (components t)) n flags row c a e s
  unfolding handed paths
  handed_last a e s h k =
      k ∙ rw (last_alone h) (ap (λ l. emits (suc (c + 1)) (with_front (take (suc c) row) l) s) (each_same (paths n flags (none ∷ []) c) (paths n flags (get_or (slots t) c none ∷ []) c) (run a (e - a)) (λ p. refl)))

  -- and its rows are passed over at once, where none of them is asked for: u is how many starts it has
  pub last_passed : (a e : ℕ) (g : Progress) (l : List ℕ) {u : ℕ} → c + 1 ≡ t.count → u ≡ length (keep (flag n flags c) (run a (e - a))) → u ≤ g.skip
      → buffer (progress (g.skip - u) g.rows g.at) l ≡ handed (drop c (components t)) n flags row c a e (buffer g l)
  unfolding handed
  last_passed a e g l h k z =
      let m = k ∙ sym (rows_last n flags c (get_or (slots t) c none) (run a (e - a))) in
      rw (last_alone h) (passed_over (take (suc c) row) (suc (c + 1)) (each (paths n flags (get_or (slots t) c none ∷ []) c) (run a (e - a))) g l m z)

  -- nothing is left to hand out into a full buffer
  pub handed_full : (q e : ℕ) (g : Progress) (l : List ℕ) {full : Bool} → c ≤ t.count → g.at ≤ length l → full ≡ leb g.skip 0 && ltb (length l - g.at) (t.count + 1) → full ≡ true
      → handed (drop c (components t)) n flags row c q e (buffer g l) ≡ buffer g l
  unfolding handed
  handed_full q e g l h inside k z =
      let w : c + length (drop c (components t)) ≡ t.count = rw (length-drop c (components t), components_length t few) (omega arith) in
      rw w (sym (stays t.count _ g l inside k z))

-- from the first component and position on, all that there is
pub handed_all : (t : Template) → t.count ≤ template_components → (n : ℕ) (flags : List Bool) (row : List ℕ) (i : ℕ) (s : Buffer) → take 1 row ≡ i ∷ []
    → handed (components t) n flags row 0 1 (n + 1) s ≡ listed_rows t n flags i s
unfolding handed
handed_all t few n flags row i s e =
    let k : n + 1 - 1 ≡ n = omega arith in
    rw (zero-add (length (components t)), components_length t few, k, e)
