-- The counts of a prefix are, where its flags are set, those before the first letter of its last component: inside a component a
-- letter only keeps or drops what stands at a place, and where the flag is not set the count is 0 anyway. So counts serve that are right
-- only where the flags before that letter are set.
use mathlib.Core.Bool.{Bool, true, false}
use mathlib.Core.List.{List, [], ◌∷◌, ◌++◌, map, append-nil, append_assoc}
use mathlib.Core.Path.{◌≡◌, refl, sym, ap, ◌∙◌}
use Prim.Native.Nat.{ℕ, zero, suc, ◌+◌, ◌≤◌, ◌<◌}
use native.Mathlib.Decide.{dec_lt}
use native.Mathlib.Nat.{add-zero, zero-add}
use native.Mathlib.Omega.{arith}
use lib.Dec.{eqb}
use lib.ListN.{length, get_or, length-append}
use lib.Seq.{ext_get_or}
use Rattle.rules.proofs.Over.{map_agree}
use Rattle.rules.specs.Lists.{if, sign, run}
use Rattle.rules.specs.Occurrence.{stands_by}
use Rattle.rules.specs.Template.{Reading, none, deal}
use Rattle.rules.specs.declared.Component.{Component}
use Rattle.rows.specs.Flags.{kept_flags, matched, reached, added, last_by, last_starts, last_ways, masked_at, masked}
use Rattle.rows.specs.NextLetter.{letters_before, At, before_letter}
use Rattle.rows.proofs.Grow.{Lettered, matched_more, grow}
use Rattle.rows.proofs.Last.{length_added, length_last, length_before_letter}
use Rattle.rows.proofs.Masks.{length_masked, getd_masked, masked_off, masked_on, masked_inner}
use Rattle.rows.proofs.Signs.{sign_some, sign_none, sign_at, starts_sign}
use Rattle.rows.proofs.Sums.{list_is}
use Rattle.rows.proofs.CountsAddUp.{matched_is}

-- ---- the letters of one component

module _ (G : ℕ → ℕ → List ℕ → List ℕ) (R : Reading) (cs : List Component) (f : Lettered cs) (u s : List ℕ) (k : ℕ) (there : k < length cs) (full : length u ≡ letters_before cs k) where
  -- what there is for the prefix of which v are the letters in component k
  Kept : List ℕ → Type 0
  Kept v = last_by G (deal R 0 cs (u ++ v)) s ≡ matched R.fits v 0 s (before_letter G R cs k 0 u s)

  one_letter : (x : ℕ) → 0 < (get_or cs k none).length → Kept (x ∷ [])
  unfolding Kept matched
  one_letter x h = grow G R x s cs f u k 0 (record { there = there; inside = h; counted = full ∙ sym (add-zero _) })

  letter_more : (v : List ℕ) (x : ℕ) → 1 ≤ length v → length v < (get_or cs k none).length → Kept v → Kept (v ++ (x ∷ []))
  unfolding Kept before_letter
  letter_more [] x o h e = absurd (omega arith)
  letter_more (y ∷ v) x o h e =
      let at : At cs (length (u ++ (y ∷ v))) k (suc (length v)) = record { there = there; inside = h; counted = length-append u (y ∷ v) ∙ rw full } in
      ap (λ (w : List ℕ). last_by G (deal R 0 cs w) s) (sym (append_assoc u (y ∷ v) (x ∷ [])))
      ∙ grow G R x s cs f (u ++ (y ∷ v)) k (suc (length v)) at
      ∙ ap (kept_flags R.fits x (suc (length v)) s) e
      ∙ ap (λ (i : ℕ). kept_flags R.fits x i s (matched R.fits (y ∷ v) 0 s (before_letter G R cs k 0 u s))) (sym (zero-add (suc (length v))))
      ∙ sym (matched_more R.fits (y ∷ v) x 0 s (before_letter G R cs k 0 u s))

  letters_more : (w v : List ℕ) → 1 ≤ length v → length v + length w ≤ (get_or cs k none).length → Kept v → Kept (v ++ w)
  letters_more [] v o h e = rw (append-nil v) e
  letters_more (x ∷ w) v o h e =
      let n : length (v ++ (x ∷ [])) ≡ length v + 1 = length-append v (x ∷ []) in
      rw (append_assoc v (x ∷ []) w) at (letters_more w (v ++ (x ∷ [])) (omega arith) (omega arith) (letter_more v x o (omega arith) e))

  -- all of them
  component_by : (v : List ℕ) → 1 ≤ length v → length v ≤ (get_or cs k none).length → last_by G (deal R 0 cs (u ++ v)) s ≡ matched R.fits v 0 s (before_letter G R cs k 0 u s)
  unfolding Kept
  component_by [] o h = absurd (omega arith)
  component_by (x ∷ v) o h = letters_more v (x ∷ []) (omega arith) (omega arith) (one_letter x (omega arith))

-- ---- flags and counts

flag_count : (b : Bool) (n : ℕ) → if (eqb (sign (if b n 0)) 0) 0 n ≡ if b n 0
flag_count true zero = rw sign_none
flag_count true (suc n) = rw (sign_some n)
flag_count false n = rw sign_none

component_counts : (R : Reading) (cs : List Component) → ((m : ℕ) → m < length cs → 1 ≤ (get_or cs m none).length) → (u v s : List ℕ) (k : ℕ) → k < length cs
    → length u ≡ letters_before cs k → 1 ≤ length v → length v ≤ (get_or cs k none).length
    → masked (last_starts (deal R 0 cs (u ++ v)) s) (before_letter added R cs k 0 u s) ≡ last_ways (deal R 0 cs (u ++ v)) s
unfolding masked masked_at
component_counts R cs f u v s k h e some fits =
    ap (λ (n : ℕ). map (masked_at S B) (run 0 n)) (length_before_letter added length_added R cs k 0 u s)
    ∙ map_agree (masked_at S B) _ 0 (length s) (λ o _ l. at o (omega arith))
    ∙ sym (list_is W (length s) (length_last added length_added (deal R 0 cs (u ++ v)) s))
  where
    S : List ℕ
    S = last_starts (deal R 0 cs (u ++ v)) s

    W : List ℕ
    W = last_ways (deal R 0 cs (u ++ v)) s

    B : List ℕ
    B = before_letter added R cs k 0 u s

    count : (o : ℕ) → o < length s → get_or W o 0 ≡ if (stands_by R.fits 0 v s (suc (o + 0))) (get_or B o 0) 0
    count o l = ap (λ (ks : List ℕ). get_or ks o 0) (component_by added R cs f u s k h e v some fits) ∙ matched_is R.fits v 0 s B o l

    flag : (o : ℕ) → get_or S o 0 ≡ sign (get_or W o 0)
    flag o = ap (λ (ks : List ℕ). get_or ks o 0) (starts_sign (deal R 0 cs (u ++ v)) s) ∙ sign_at W o

    at : (o : ℕ) → o < length s → if (eqb (get_or S o 0) 0) 0 (get_or B o 0) ≡ get_or W o 0
    at o l =
        ap (λ (i : ℕ). if (eqb i 0) 0 (get_or B o 0)) (flag o ∙ ap sign (count o l))
        ∙ flag_count (stands_by R.fits 0 v s (suc (o + 0))) (get_or B o 0)
        ∙ sym (count o l)

if_none : (b : Bool) (n : ℕ) → n ≡ 0 → if b n 0 ≡ 0
if_none true n e = e
if_none false n e = refl

-- THE LAW
pub component_ways : (R : Reading) (cs : List Component) → ((m : ℕ) → m < length cs → 1 ≤ (get_or cs m none).length) → (u v s : List ℕ) (k : ℕ) → k < length cs
    → length u ≡ letters_before cs k → 1 ≤ length v → length v ≤ (get_or cs k none).length → (vs : List ℕ)
    → masked (before_letter reached R cs k 0 u s) vs ≡ before_letter added R cs k 0 u s
    → masked (last_starts (deal R 0 cs (u ++ v)) s) vs ≡ last_ways (deal R 0 cs (u ++ v)) s
component_ways R cs f u v s k h e some fits vs same =
    sym (masked_inner S (before_letter reached R cs k 0 u s) vs (λ o l z. off o (omega (arith, many)) z))
    ∙ ap (masked S) same
    ∙ component_counts R cs f u v s k h e some fits
  where
    S : List ℕ
    S = last_starts (deal R 0 cs (u ++ v)) s

    many : length vs ≡ length s
    many = sym (length_masked (before_letter reached R cs k 0 u s) vs) ∙ ap length same ∙ length_before_letter added length_added R cs k 0 u s

    off : (o : ℕ) → o < length s → get_or (before_letter reached R cs k 0 u s) o 0 ≡ 0 → get_or S o 0 ≡ 0
    off o l z =
        ap (λ (ks : List ℕ). get_or ks o 0) (component_by reached R cs f u s k h e v some fits)
        ∙ matched_is R.fits v 0 s (before_letter reached R cs k 0 u s) o l
        ∙ if_none (stands_by R.fits 0 v s (suc (o + 0))) (get_or (before_letter reached R cs k 0 u s) o 0) z

-- COUNTS THAT ARE RIGHT where some bits are set, and elsewhere anything, are right where they are above 0
pub masked_sign : (hs vs ks : List ℕ) → masked hs vs ≡ ks → masked (map sign ks) vs ≡ ks
masked_sign hs vs ks e =
    ext_get_or 0 (masked (map sign ks) vs) ks (length_masked (map sign ks) vs ∙ sym (length_masked hs vs) ∙ ap length e)
    (λ o _. getd_masked (map sign ks) vs o ∙ at o (get_or ks o 0) refl)
  where
    at : (o n : ℕ) → get_or ks o 0 ≡ n → masked_at (map sign ks) vs o ≡ get_or ks o 0
    at o zero z = masked_off (map sign ks) vs o (sign_at ks o ∙ ap sign z ∙ sign_none) ∙ sym z
    at o (suc n) z =
        let flag : get_or (map sign ks) o 0 ≡ 1 = sign_at ks o ∙ ap sign z ∙ sign_some n in
        let here : masked_at hs vs o ≡ get_or ks o 0 = sym (getd_masked hs vs o) ∙ ap (λ (l : List ℕ). get_or l o 0) e in
        masked_on (map sign ks) vs o (omega arith)
        ∙ elim (dec_lt 0 (get_or hs o 0)) [
          | yes u ↦ sym (masked_on hs vs o u) ∙ here
          | no u ↦ absurd (omega (arith, z, here, masked_off hs vs o (omega arith)))
        ]
