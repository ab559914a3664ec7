-- The counts are those of the lists: ways that are added up part by part are the occurrences that are listed part by part,
-- and a mark is true if something is listed at all.
use mathlib.Core.Path.{◌≡◌, refl, sym, ap, ◌∙◌}
use mathlib.Core.Logic.{◌↔◌}
use mathlib.Core.Bool.{Bool, true, false, false≢true}
use mathlib.Core.List.Memᴰ
use mathlib.Core.List.{List, [], ◌∷◌, map, Memᴰ}
use Prim.Native.Nat.{ℕ, suc, ◌≤◌}
use native.Mathlib.Omega.{arith}
use lib.ListN.{length, length-append, length-map}
use Rattle.rules.specs.Lists.{run, if, keep, each, has_some, sum}
use Rattle.rules.specs.Occurrence.{found, reach, starts, occurrences, ways, Occurs}
use Rattle.rules.specs.Support.{marks, support, rows_from, occurrence_rows, weight}
use Rattle.rules.specs.Template.{Part}
use Rattle.rules.proofs.Occurs.{Worded, occurrences_are}

-- the lengths of lists laid end to end add up
each_count : {A B : Type 0} (f : A → ℕ) (g : A → List B) → ((x : A) → f x ≡ length (g x)) → (xs : List A) → sum (map f xs) ≡ length (each g xs)
unfolding sum each
each_count f g h [] = refl
each_count f g h (x ∷ xs) = omega (arith, h x, each_count f g h xs, length-append (g x) (each g xs))

-- the ways in which later parts can follow a first start are as many as the occurrences under it
pub ways_count : (cs : List Part) (s : List ℕ) (p : ℕ) → ways cs s p ≡ length (starts cs s p)
unfolding ways starts
ways_count [] s p = refl
ways_count (c ∷ []) s p = go (found c s p)
  where
    go : (b : Bool) → if b 1 0 ≡ length (if b ((p ∷ []) ∷ []) [])
    go true = refl
    go false = refl
ways_count (c ∷ d ∷ ds) s p = go (found c s p) (each_count (ways (d ∷ ds) s) (starts (d ∷ ds) s) (ways_count (d ∷ ds) s) next)
  where
    next : List ℕ
    next = reach d.near d.far p

    later : List (List ℕ)
    later = each (starts (d ∷ ds) s) next

    go : {n : ℕ} (b : Bool) → n ≡ length later → if b n 0 ≡ length (if b (map (λ t. p ∷ t) later) [])
    go true e = e ∙ sym (length-map later (λ t. p ∷ t))
    go false e = refl

-- the occurrences in a sequence are as many as the ways from all its positions
pub occurrences_count : (cs : List Part) (s : List ℕ) → length (occurrences cs s) ≡ sum (map (ways cs s) (run 1 (length s)))
unfolding occurrences
occurrences_count cs s = sym (each_count (ways cs s) (starts cs s) (ways_count cs s) (run 1 (length s)))

rows_from_count : (i : ℕ) (cs : List Part) (ss : List (List ℕ)) → length (rows_from i cs ss) ≡ sum (map (λ s. length (occurrences cs s)) ss)
unfolding rows_from sum
rows_from_count i cs [] = refl
rows_from_count i cs (s ∷ ss) = omega (arith, length-append (map (λ t. i ∷ t) (occurrences cs s)) (rows_from (suc i) cs ss), length-map (occurrences cs s) (λ t. i ∷ t), rows_from_count (suc i) cs ss)

-- the weighted support, the length of the whole list, is the number of occurrences in all sequences
pub weight_count : (cs : List Part) (ss : List (List ℕ)) → weight cs ss ≡ sum (map (λ s. length (occurrences cs s)) ss)
unfolding weight occurrence_rows
weight_count cs ss = rows_from_count 1 cs ss

-- a list has something in it exactly if it has a member
pub some_is : {A : Type 0} (xs : List A) → (has_some xs ≡ true) ↔ ((x : A) × Memᴰ x xs)
unfolding has_some
some_is [] = (λ e. absurd (false≢true e), λ m. absurd (Memᴰ.not-nil m.1))
some_is (x ∷ xs) = (λ e. (x, Memᴰ.head refl), λ m. refl)

-- a sequence is marked exactly if the parts occur in it
pub support_counts : (cs : List Part) (s : List ℕ) → Worded cs → 1 ≤ length cs → (has_some (occurrences cs s) ≡ true) ↔ ((ps : List ℕ) × Occurs cs s ps)
support_counts cs s worded some = (
  λ e. let r = (some_is (occurrences cs s)).0 e in (r.0, (occurrences_are cs s worded some r.0).0 r.1),
  λ r. (some_is (occurrences cs s)).1 (r.0, (occurrences_are cs s worded some r.0).1 r.1),
)

-- the support is the number of sequences that are marked
pub support_sequences : (cs : List Part) (ss : List (List ℕ)) → support cs ss ≡ length (keep (λ s. has_some (occurrences cs s)) ss)
unfolding support marks keep
support_sequences cs [] = refl
support_sequences cs (s ∷ ss) = go (has_some (occurrences cs s)) (marks cs ss) (support_sequences cs ss)
  where
    found : List (List ℕ)
    found = keep (λ s. has_some (occurrences cs s)) ss

    go : (b : Bool) (ms : List Bool) → length (keep (λ b. b) ms) ≡ length found → length (keep (λ b. b) (b ∷ ms)) ≡ length (if b (s ∷ found) found)
    go true ms e = ap suc e
    go false ms e = e
