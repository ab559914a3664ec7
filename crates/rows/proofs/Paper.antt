-- What a row is, in the paper's own words: a bit stands at o exactly if some occurrence of the parts has its last start at position
-- o + 1, and the count there is the number of such occurrences. It is true since weights that stand at the places of the first part, and
-- that are taken from part to part as a gap and letters take counts, are added up at the last start of each occurrence alone.
use mathlib.Core.Bool.{Bool, true, false}
use mathlib.Core.List.{List, [], ◌∷◌, map, Memᴰ}
use mathlib.Core.Logic.{◌↔◌}
use mathlib.Core.Path.{◌≡◌, refl, sym, ap, ◌∙◌}
use Prim.Native.Nat.{ℕ, zero, suc, ◌+◌, ◌-◌, ◌*◌, ◌≤◌}
use native.Mathlib.Nat.{mul-zero, mul-one, one-mul}
use native.Mathlib.Omega.{arith}
use lib.Dec.{eqb, eqb-suc-suc}
use lib.ListN.{length, get_or, replicate, length-append, length-replicate, get_or-replicate}
use borrow.Author.Tests.{eq-eqb, ne_eqb, eqb-true}
use Rattle.rules.proofs.Lengths.{keep_some}
use Rattle.rules.proofs.Lists.{keep_append}
use Rattle.rules.proofs.Members.{each_out}
use Rattle.rules.proofs.Occurs.{Worded, starts_lead, occurrences_are}
use Rattle.rules.proofs.Over.{map_shift}
use Rattle.rules.specs.Lists.{if, sign, run, keep, each, sum}
use Rattle.rules.specs.Occurrence.{found, reach, starts, occurrences, Occurs}
use Rattle.rules.specs.Template.{Part, span}
use Rattle.rows.specs.Flags.{matched, added, following, last_by, last_starts, last_ways}
use Rattle.rows.proofs.Last.{length_matched, length_added}
use Rattle.rows.proofs.Signs.{sign_some, sign_none, sign_at, starts_sign}
use Rattle.rows.proofs.Sums.{sum_agree, sum_none, exchanged}
use Rattle.rows.proofs.CountsAddUp.{Tight, stands_past, added_is, found_is, times_if}

-- the last start of an occurrence
abbrev last_start : List ℕ → ℕ
last_start ps = get_or ps (length ps - 1) 0

-- it is position o + 1
abbrev ends : ℕ → List ℕ → Bool
ends o ps = eqb (last_start ps) (suc o)

-- ---- lists

-- those kept of lists laid end to end
sum_kept : {A B : Type 0} (f : B → Bool) (g : A → List B) (xs : List A) → length (keep f (each g xs)) ≡ sum (map (λ x. length (keep f (g x))) xs)
unfolding keep each sum
sum_kept f g [] = refl
sum_kept f g (x ∷ xs) = ap length (keep_append f (g x) (each g xs)) ∙ omega (arith, length-append (keep f (g x)) (keep f (each g xs)), sum_kept f g xs)

-- a test that a start put in front does not change
keep_behind : (f : List ℕ → Bool) (p : ℕ) (ts : List (List ℕ)) → ((t : List ℕ) → Memᴰ t ts → f (p ∷ t) ≡ f t) → length (keep f (map (λ t. p ∷ t) ts)) ≡ length (keep f ts)
unfolding keep
keep_behind f p [] h = refl
keep_behind f p (t ∷ ts) h = go (f (p ∷ t)) (f t) (h t (Memᴰ.head refl)) (keep_behind f p ts (λ u m. h u (Memᴰ.tail m)))
  where
    go : (a b : Bool) → a ≡ b → length (keep f (map (λ t. p ∷ t) ts)) ≡ length (keep f ts)
        → length (if a ((p ∷ t) ∷ keep f (map (λ t. p ∷ t) ts)) (keep f (map (λ t. p ∷ t) ts))) ≡ length (if b (t ∷ keep f ts) (keep f ts))
    go a true e ih = rw e (ap suc ih)
    go a false e ih = rw e ih

-- something is kept where a member passes
keep_one : {A : Type 0} (f : A → Bool) (xs : List A) {x : A} → Memᴰ x xs → f x ≡ true → 1 ≤ length (keep f xs)
unfolding keep
keep_one {A = A} f [] m p = elim m [ ]
keep_one f (y ∷ ys) (Memᴰ.head e) p = rw (← e, p) (omega arith)
keep_one f (y ∷ ys) (Memᴰ.tail m) p = go (f y) (keep_one f ys m p)
  where
    go : (b : Bool) → 1 ≤ length (keep f ys) → 1 ≤ length (if b (y ∷ keep f ys) (keep f ys))
    go true h = omega arith
    go false h = h

-- of numbers times 1 at o and times 0 elsewhere, the one at o is left
picked : (ks : List ℕ) (n o : ℕ) → length ks ≡ n → sum (map (λ i. get_or ks i 0 * if (eqb i o) 1 0) (run 0 n)) ≡ get_or ks o 0
unfolding run sum
picked [] zero o h = refl
picked [] (suc n) o h = absurd (omega arith)
picked (k ∷ ks) zero o h = absurd (omega arith)
picked (k ∷ ks) (suc n) zero h =
    let none : sum (map (λ i. get_or (k ∷ ks) i 0 * if (eqb i 0) 1 0) (run 1 n)) ≡ 0 =
    sym (ap sum (map_shift (λ i. get_or (k ∷ ks) i 0 * if (eqb i 0) 1 0) 0 n))
    ∙ sum_none (λ i. get_or (k ∷ ks) (suc i) 0 * if (eqb (suc i) 0) 1 0) 0 n (λ i. rw (ne_eqb (suc i) 0 (λ e. omega arith)) (mul-zero (get_or ks i 0))) in
    let one : k * if (eqb 0 0) 1 0 ≡ k = mul-one k in
    omega (arith, none, one)
picked (k ∷ ks) (suc n) (suc o) h =
    let rest : sum (map (λ i. get_or (k ∷ ks) i 0 * if (eqb i (suc o)) 1 0) (run 1 n)) ≡ get_or ks o 0 =
    sym (ap sum (map_shift (λ i. get_or (k ∷ ks) i 0 * if (eqb i (suc o)) 1 0) 0 n))
    ∙ sum_agree _ (λ i. get_or ks i 0 * if (eqb i o) 1 0) n (λ i l. ap (λ (b : Bool). get_or ks i 0 * if b 1 0) (eqb-suc-suc i o))
    ∙ picked ks n o (omega arith) in
    let none : k * if (eqb 0 (suc o)) 1 0 ≡ 0 = rw (ne_eqb 0 (suc o) (λ e. omega arith)) (mul-zero k) in
    omega (arith, none, rest)

-- ---- the occurrences under a first start that end at o

module _ (o : ℕ) (s : List ℕ) where
  -- how many there are
  abbrev ending : List Part → ℕ → ℕ
  ending cs p = length (keep (ends o) (starts cs s p))

  -- one part ends where it starts
  ending_one : (c : Part) (q : ℕ) → ending (c ∷ []) (suc q) ≡ if (found c s (suc q)) (if (eqb q o) 1 0) 0
  unfolding starts keep
  ending_one c q = go (found c s (suc q)) (eqb (suc q) (suc o)) (eqb q o) refl (eqb-suc-suc q o)
    where
      go : (b e d : Bool) → eqb (suc q) (suc o) ≡ e → e ≡ d → length (keep (ends o) (if b ((suc q ∷ []) ∷ []) [])) ≡ if b (if d 1 0) 0
      go true e true h k = rw (h, k)
      go true e false h k = rw (h, k)
      go false e d h k = refl

  -- more parts end where those after the first do
  ends_behind : (p : ℕ) (t : List ℕ) → (q : ℕ) × (rest : List ℕ) × (t ≡ q ∷ rest) → ends o (p ∷ t) ≡ ends o t
  ends_behind p t (q, rest, e) =
      let all : suc (suc (length rest)) - 1 ≡ suc (length rest) = omega arith in
      let less : suc (length rest) - 1 ≡ length rest = omega arith in
      rw (e, all, less) refl

  ending_more : (c d : Part) (ds : List Part) (p : ℕ) → ending (c ∷ d ∷ ds) p ≡ if (found c s p) (sum (map (ending (d ∷ ds)) (reach d.near d.far p))) 0
  unfolding starts keep
  ending_more c d ds p = go (found c s p)
    where
      later : List (List ℕ)
      later = each (starts (d ∷ ds) s) (reach d.near d.far p)

      behind : (t : List ℕ) → Memᴰ t later → ends o (p ∷ t) ≡ ends o t
      behind t m =
          let r = each_out (starts (d ∷ ds) s) (reach d.near d.far p) m in
          let l = starts_lead (d ∷ ds) s r.0 t r.2 in
          ends_behind p t (r.0, l.0, l.1)

      go : (b : Bool) → length (keep (ends o) (if b (map (λ t. p ∷ t) later) [])) ≡ if b (sum (map (ending (d ∷ ds)) (reach d.near d.far p))) 0
      go true = keep_behind (ends o) p later behind ∙ sum_kept (ends o) (starts (d ∷ ds) s) (reach d.near d.far p)
      go false = refl

  -- and none past the end
  ending_past : (c : Part) (cs : List Part) → 1 ≤ length c.word → (q : ℕ) → length s ≤ q → ending (c ∷ cs) (suc q) ≡ 0
  unfolding starts keep
  ending_past c [] h q l = rw (stands_past c.fits c.slack c.word s q h l)
  ending_past c (d ∷ ds) h q l = rw (stands_past c.fits c.slack c.word s q h l)

  -- weights at the places of the first part, each taken as often as an occurrence leads from there to o, are what is handed on to o
  weighted : (c : Part) (cs : List Part) → Worded (c ∷ cs) → Tight (c ∷ cs) → (ks : List ℕ) → length ks ≡ length s
      → sum (map (λ q. get_or ks q 0 * ending (c ∷ cs) (suc q)) (run 0 (length s))) ≡ get_or (following added cs s (matched c.fits c.word 0 s ks)) o 0
  unfolding following reach
  weighted c [] f t ks h =
      let E : List ℕ = matched c.fits c.word 0 s ks in
      sum_agree _ (λ q. get_or E q 0 * if (eqb q o) 1 0) (length s)
      (λ q l. ap (λ (k : ℕ). get_or ks q 0 * k) (ending_one c q) ∙ times_if s (found c s (suc q)) (get_or ks q 0) (if (eqb q o) 1 0) ∙ ap (λ (k : ℕ). k * if (eqb q o) 1 0) (sym (found_is s c t.0 ks q l)))
      ∙ picked E (length s) o (length_matched c.fits c.word 0 s ks h)
  weighted c (d ∷ ds) f t ks h =
      let E : List ℕ = matched c.fits c.word 0 s ks in
      let v : ℕ → ℕ = ending (d ∷ ds) in
      let m : ℕ = span d.near d.far in
      let e : length E ≡ length s = length_matched c.fits c.word 0 s ks h in
      sum_agree _ (λ q. get_or E q 0 * sum (map v (run (suc q + d.near) m))) (length s)
      (λ q l. ap (λ (k : ℕ). get_or ks q 0 * k) (ending_more c d ds (suc q)) ∙ times_if s (found c s (suc q)) (get_or ks q 0) (sum (map v (run (suc q + d.near) m))) ∙ ap (λ (k : ℕ). k * sum (map v (run (suc q + d.near) m))) (sym (found_is s c t.0 ks q l)))
      ∙ exchanged E (length s) v (ending_past d ds (f 1 (omega arith))) d.near m
      ∙ sum_agree _ _ (length s) (λ q l. ap (λ (k : ℕ). k * v (suc q)) (sym (added_is d.near d.far E q (omega arith))))
      ∙ weighted d ds (λ i l. f (suc i) (omega arith)) t.1 (added d.near d.far E) (length_added d.near d.far E ∙ e)

-- ---- the row

-- a sign is 1 exactly of what is above 0
sign_one : (n : ℕ) → sign n ≡ 1 → 1 ≤ n
sign_one zero h = absurd (omega (arith, sign_none, h))
sign_one (suc n) h = omega arith

one_sign : (n : ℕ) → 1 ≤ n → sign n ≡ 1
one_sign zero h = absurd (omega arith)
one_sign (suc n) h = sign_some n

-- THE LAW. The count at o is the number of the occurrences that have their last start at position o + 1
pub count_is : (cs : List Part) (s : List ℕ) → Worded cs → Tight cs → 1 ≤ length cs → (o : ℕ)
    → get_or (last_ways cs s) o 0 ≡ length (keep (λ ps. eqb (get_or ps (length ps - 1) 0) (suc o)) (occurrences cs s))
unfolding last_by occurrences
count_is [] s f t h o = absurd (omega arith)
count_is (c ∷ cs) s f t h o =
    sym (weighted o s c cs f t (replicate (length s) 1) (length-replicate (length s) 1))
    ∙ sum_agree _ (λ q. ending o s (c ∷ cs) (suc q)) (length s) (λ q l. ap (λ (k : ℕ). k * ending o s (c ∷ cs) (suc q)) (get_or-replicate (length s) q 1 0 l) ∙ one-mul (ending o s (c ∷ cs) (suc q)))
    ∙ ap sum (map_shift (ending o s (c ∷ cs)) 0 (length s))
    ∙ sym (sum_kept (ends o) (starts (c ∷ cs) s) (run 1 (length s)))

-- and the row has a bit there exactly if there is one
pub row_is : (cs : List Part) (s : List ℕ) → Worded cs → Tight cs → 1 ≤ length cs → (o : ℕ)
    → (get_or (last_starts cs s) o 0 ≡ 1) ↔ ((ps : List ℕ) × Occurs cs s ps × (get_or ps (length ps - 1) 0 ≡ suc o))
row_is cs s f t h o = (
  λ b. let r = keep_some (ends o) (occurrences cs s) (sign_one _ (sym bit_is ∙ b)) in (r.0, (occurrences_are cs s f h r.0).0 r.1, eqb-true (last_start r.0) (suc o) r.2),
  λ r. bit_is ∙ one_sign _ (keep_one (ends o) (occurrences cs s) ((occurrences_are cs s f h r.0).1 r.1) (eq-eqb (last_start r.0) (suc o) r.2)),
)
  where
    bit_is : get_or (last_starts cs s) o 0 ≡ sign (length (keep (ends o) (occurrences cs s)))
    bit_is = ap (λ (l : List ℕ). get_or l o 0) (starts_sign cs s) ∙ sign_at (last_ways cs s) o ∙ ap sign (count_is cs s f t h o)
