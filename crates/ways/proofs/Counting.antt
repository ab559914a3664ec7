-- Passes give the counts: what the last component's pass and each pass before it write is what the definition of `ways` adds
-- up, as no occurrence starts past the end of a sequence; and no count is too large.
use mathlib.Core.Path.{◌≡◌, refl, sym, ap, ◌∙◌}
use mathlib.Core.Bool.{true, false}
use mathlib.Core.List.{List, [], ◌∷◌, map}
use Prim.Native.Nat.{ℕ, zero, suc, ◌+◌, ◌*◌, ◌≤◌, ◌<◌}
use native.Mathlib.Nat.{le_trans, mul-le-mul_right, suc-add}
use native.Mathlib.Numerals.{one-add}
use native.Mathlib.Decide.{dec_lt}
use native.Mathlib.Omega.{arith}
use lib.ListN.{length, get_or, get_or-eq_default}
use Rattle.rules.specs.Limits.{template_gap}
use Rattle.rules.specs.Lists.{run, if, sum}
use Rattle.rules.specs.Occurrence.{stands_by, reach, ways}
use Rattle.rules.specs.Template.{Part, Reading, span, part_of, deal}
use Rattle.rules.specs.declared.Component.{Component}
use Rattle.rules.specs.declared.Distances.{Distances}
use Rattle.ways.specs.Counts.{stands_in_bytes, counts, at_position, cell, ending, leading, by_bases}
use Rattle.ways.proofs.LetterByLetter.{stands_by_short}
use Rattle.rules.proofs.Over.{length_map_run, getd_map_run}
use Rattle.rules.proofs.Tables.{map_same}
use Rattle.ways.proofs.FilledTables.{over_most, window_most}

-- one count for each letter of the sequence
pub length_counts : (cs : List Part) (s : List ℕ) → length (counts cs s) ≡ length s
unfolding counts
length_counts cs s = length_map_run (ways cs s) 1 (length s)

-- nothing starts before the first position or past the end
ways_none : (c : Part) (cs : List Part) (s : List ℕ) → ways (c ∷ cs) s 0 ≡ 0
unfolding ways stands_by
ways_none c [] s = refl
ways_none c (d ∷ ds) s = refl

ways_past : (c : Part) (cs : List Part) (s : List ℕ) (o : ℕ) → 0 < length c.word → length s ≤ o → ways (c ∷ cs) s (suc o) ≡ 0
unfolding ways
ways_past c [] s o some h = rw (← (stands_by_short c.fits c.slack c.word s o (omega arith)))
ways_past c (d ∷ ds) s o some h = rw (← (stands_by_short c.fits c.slack c.word s o (omega arith)))

-- the counts have the ways of each position
pub counts_inside : (cs : List Part) (s : List ℕ) (o : ℕ) → o < length s → get_or (counts cs s) o 0 ≡ ways cs s (suc o)
unfolding counts
counts_inside cs s o h = getd_map_run (ways cs s) 0 1 (length s) o h ∙ ap (ways cs s) (one-add o)

-- and 0 where there are none
counts_at : (c : Part) (cs : List Part) (s : List ℕ) → 0 < length c.word → (p : ℕ) → at_position (counts (c ∷ cs) s) p ≡ ways (c ∷ cs) s p
unfolding at_position
counts_at c cs s some zero = sym (ways_none c cs s)
counts_at c cs s some (suc o) =
    elim (dec_lt o (length s)) [
      | yes h ↦ counts_inside (c ∷ cs) s o h
      | no n ↦
          let h : length s ≤ o = omega arith in
          get_or-eq_default (counts (c ∷ cs) s) 0 (rw length_counts h) ∙ sym (ways_past c cs s o some h)
    ]

-- how far the first part lies from one before it makes no difference
ways_after : (R : Reading) (k n : ℕ) (c : Component) (w : List ℕ) (cs : List Part) (s : List ℕ) (p : ℕ) → ways (part_of R k c w ∷ cs) s p ≡ ways (part_of R n c w ∷ cs) s p
unfolding ways
ways_after R k n c w [] s p = refl
ways_after R k n c w (d ∷ ds) s p = refl

-- so the counts are the same however many letters the component before has
pub counts_after : (R : Reading) (k n : ℕ) (cs : List Component) (w s : List ℕ) → counts (deal R k cs w) s ≡ counts (deal R n cs w) s
unfolding counts deal
counts_after R k n [] w s = refl
counts_after R k n (c ∷ cs) [] s = refl
counts_after R k n (c ∷ cs) (x ∷ w) s = map_same _ _ (ways_after R k n c _ _ s) (run 1 (length s))

-- a part of the letters w, each given by the bases that it stands for
module _ (n : ℕ) (c : Component) (w s : List ℕ) where
  -- the pass of the last part
  pub ending_counts : map (ending w s) (run 1 (length s)) ≡ counts (part_of by_bases n c w ∷ []) s
  unfolding counts ending cell ways
  ending_counts = refl

  -- the pass of a part before others, at the distances of the next of them
  pub leading_counts : (d : Part) (ds : List Part) → 0 < length d.word
      → map (leading w (record { near = d.near; count = span d.near d.far }) s (counts (d ∷ ds) s)) (run 1 (length s)) ≡ counts (part_of by_bases n c w ∷ d ∷ ds) s
  unfolding counts leading cell ways reach
  leading_counts d ds some =
      map_same (leading w (record { near = d.near; count = span d.near d.far }) s (counts (d ∷ ds) s)) (ways (part_of by_bases n c w ∷ d ∷ ds) s)
      (λ p. rw (map_same (at_position (counts (d ∷ ds) s)) (ways (d ∷ ds) s) (counts_at d ds s some) (run (p + d.near) (span d.near d.far))))
      (run 1 (length s))

-- what a sliding sum has at an offset goes into the cell there
pub leading_at : (w : List ℕ) (apart : Distances) (s later : List ℕ) (o : ℕ) {t v : ℕ}
    → t ≡ sum (map (at_position later) (run (suc (o + apart.near)) apart.count)) → v ≡ cell w s (suc o) t → v ≡ leading w apart s later (suc o)
unfolding leading
leading_at w apart s later o et ev = ev ∙ ap (cell w s (suc o)) (et ∙ rw (suc-add o apart.near))

-- ---- no count is too large

cell_most : (w s : List ℕ) (p v : ℕ) → cell w s p v ≤ v
unfolding cell
cell_most w s p v = elim (stands_in_bytes w s p) as (λ b. if b v 0 ≤ v) [ true ↦ omega arith | false ↦ omega arith ]

-- the last part stands at a position or does not
pub ending_most : (w s : List ℕ) (n : ℕ) {y : List ℕ} → y ≡ map (ending w s) (run 1 n) → (p : ℕ) → at_position y p ≤ 1
unfolding ending
ending_most w s n e = over_most (ending w s) 1 (λ p. cell_most w s p 1) n e

-- a pass multiplies by no more than the distances at which the next part may start
pub leading_most : (w : List ℕ) (apart : Distances) (s later : List ℕ) (b n : ℕ) → apart.count ≤ template_gap + 1 → ((p : ℕ) → at_position later p ≤ b)
    → {y : List ℕ} → y ≡ map (leading w apart s later) (run 1 n) → (p : ℕ) → at_position y p ≤ (template_gap + 1) * b
unfolding leading
leading_most w apart s later b n few h e =
    over_most (leading w apart s later) ((template_gap + 1) * b)
    (λ p. le_trans (cell_most w s p _) (le_trans (window_most (at_position later) b h (p + apart.near) apart.count) (mul-le-mul_right b few)))
    n
    e
