-- The flags that the ways give are right: a component has a way from a position exactly if an occurrence of it and those
-- after it starts there, and each component has a part of the flags to itself.
use mathlib.Core.Path.{◌≡◌, refl, sym, ap, ◌∙◌}
use mathlib.Core.Bool.{Bool, true, false}
use mathlib.Core.List.{List, [], ◌∷◌, ◌++◌, map, append_assoc}
use Prim.Native.Nat.{ℕ, suc, ◌+◌, ◌-◌, ◌*◌, ◌≤◌, ◌<◌}
use native.Mathlib.Omega.{arith}
use lib.Dec.{ltb}
use lib.ListN.{length, take, drop, get_or, length-append, length-drop, length-map, length-take, get_or-append, get_or-map}
use lib.Seq.{get_or-append-add, get_or-drop, get_or-take, length-take-le}
use borrow.Author.Tests.{lt-ltb, ltb-true, ltb-false}
use Rattle.descent.specs.Paths.{flag, paths, Flagged, WaysCounted}
use Rattle.descent.proofs.RightFlags.{parts_count, paths_are}
use Rattle.descent.proofs.Paths.{flag_in}
use Rattle.rules.specs.Limits.{sequence_set_letters, template_components}
use Rattle.rules.specs.Lists.{has_some, sum}
use Rattle.rules.specs.Occurrence.{starts, occurrences, ways}
use Rattle.rules.specs.Sound.{SoundTemplate}
use Rattle.rules.specs.Support.{parts}
use Rattle.rules.specs.Template.{Part, components, size}
use Rattle.rules.specs.declared.Template.{Template}
use Rattle.rules.proofs.Ways.{ways_count, occurrences_count}
use Rattle.ways.specs.Counts.{counts}
use Rattle.ways.proofs.Counting.{length_counts}
use Rattle.rules.proofs.Over.{getd_map_run}

-- ---- a table with m in the place of those from b on

module _ (b : ℕ) (table m : List Bool) (fits : b ≤ length table) where
  abbrev placed : List Bool
  placed = take b table ++ (m ++ drop (b + length m) table)

  at_place : (i : ℕ) → i < length m → get_or placed (b + i) false ≡ get_or m i false
  at_place i h =
      let e : length (take b table) ≡ b = length-take-le b table fits in
      ap (λ k. get_or placed (k + i) false) (sym e) ∙ get_or-append-add (take b table) (m ++ drop (b + length m) table) i false ∙ get_or-append m (drop (b + length m) table) false i h

  past_place : (i : ℕ) → b + length m ≤ i → get_or placed i false ≡ get_or table i false
  past_place i h =
      let e : length (take b table ++ m) ≡ b + length m = rw (length-append (take b table) m, length-take-le b table fits) in
      let k : i ≡ b + length m + (i - (b + length m)) = omega arith in
      ap (λ l. get_or l i false) (sym (append_assoc (take b table) m (drop (b + length m) table)))
      ∙ ap (λ j. get_or (take b table ++ m ++ drop (b + length m) table) j false) (k ∙ ap (λ j. j + (i - (b + length m))) (sym e))
      ∙ get_or-append-add (take b table ++ m) (drop (b + length m) table) (i - (b + length m)) false
      ∙ get_or-drop (b + length m) table (i - (b + length m)) false
      ∙ ap (λ j. get_or table j false) (sym k)

-- ---- the ways of some parts

-- they add up to the occurrences
pub counts_sum : (cs : List Part) (s : List ℕ) {y : List ℕ} → y ≡ counts cs s → sum y ≡ length (occurrences cs s)
unfolding counts
counts_sum cs s e = ap sum e ∙ sym (occurrences_count cs s)

-- at each position of the sequence
counts_at : (cs : List Part) (s : List ℕ) (p : ℕ) → 1 ≤ p → p ≤ length s → get_or (counts cs s) (p - 1) 0 ≡ length (starts cs s p)
unfolding counts
counts_at cs s p some inside = let e : 1 + (p - 1) ≡ p = omega arith in getd_map_run (ways cs s) 0 1 (length s) (p - 1) (omega arith) ∙ ap (ways cs s) e ∙ ways_count cs s p

flag_at : (l : List ℕ) (i : ℕ) → get_or (map (ltb 0) l) i false ≡ ltb 0 (get_or l i 0)
flag_at l i = get_or-map (ltb 0) l i 0

-- a number of ways is above 0 exactly if there is something to count
flag_some : {A : Type 0} (l : List A) → ltb 0 (length l) ≡ has_some l
unfolding has_some
flag_some [] = refl
flag_some (x ∷ l) = lt-ltb 0 (suc (length l)) (omega arith)

-- ---- the flags of one component more

module _ (cs : List Part) (s : List ℕ) (n c : ℕ) (letters : length s ≡ n) (short : n ≤ sequence_set_letters) (within : c < template_components)
    (flags : List Bool) (room : length flags ≡ template_components * sequence_set_letters) {flags' : List Bool}
    (made : flags' ≡ take (c * sequence_set_letters) flags ++ (map (ltb 0) (counts (drop c cs) s) ++ drop (c * sequence_set_letters + n) flags)) where
  signs : List Bool
  signs = map (ltb 0) (counts (drop c cs) s)

  signs_length : length signs ≡ n
  unfolding signs
  signs_length = length-map (counts (drop c cs) s) (ltb 0) ∙ length_counts (drop c cs) s ∙ letters

  is_placed : flags' ≡ placed (c * sequence_set_letters) flags signs (omega arith)
  unfolding signs
  is_placed = made ∙ ap (λ k. take (c * sequence_set_letters) flags ++ (map (ltb 0) (counts (drop c cs) s) ++ drop (c * sequence_set_letters + k) flags)) (sym signs_length)

  here : (p : ℕ) → 1 ≤ p → p ≤ length s → flag (length s) flags' c p ≡ has_some (starts (drop c cs) s p)
  unfolding signs
  here p some inside =
      flag_in (length s) flags' c p some inside
      ∙ ap (λ l. get_or l (c * sequence_set_letters + (p - 1)) false) is_placed
      ∙ at_place (c * sequence_set_letters) flags signs (omega arith) (p - 1) (rw signs_length (omega arith))
      ∙ flag_at (counts (drop c cs) s) (p - 1)
      ∙ ap (ltb 0) (counts_at (drop c cs) s p some inside)
      ∙ flag_some (starts (drop c cs) s p)

  later : (i p : ℕ) → c < i → 1 ≤ p → p ≤ length s → flag (length s) flags' i p ≡ flag (length s) flags i p
  later i p h some inside =
      flag_in (length s) flags' i p some inside
      ∙ ap (λ l. get_or l (i * sequence_set_letters + (p - 1)) false) is_placed ∙ past_place (c * sequence_set_letters) flags signs (omega arith) (i * sequence_set_letters + (p - 1)) (rw signs_length (omega arith))
      ∙ sym (flag_in (length s) flags i p some inside)

  -- there are as many flags as before
  pub room_kept : length flags' ≡ template_components * sequence_set_letters
  room_kept = ap length is_placed ∙ simp (length-append, length-take, length-drop, signs_length) (omega arith)

  -- with those of component c, the flags are right from c on
  pub flagged_more : Flagged cs s flags (suc c) → Flagged cs s flags' c
  flagged_more h i l k p some inside = go (ltb c i) refl
    where
      go : (b : Bool) → ltb c i ≡ b → flag (length s) flags' i p ≡ has_some (starts (drop i cs) s p)
      go true e = later i p (ltb-true c i e) some inside ∙ h i (ltb-true c i e) k p some inside
      go false e = let z : i ≡ c = omega (arith, ltb-false) in rw z (here p some inside)

-- ---- all of a motif's

module _ {t : Template} (sound : SoundTemplate t) (m : ℕ) (s : List ℕ) where
  -- past the last component there are none to set
  pub flagged_none : (flags : List Bool) → Flagged (parts t (size t) m) s flags t.count
  flagged_none flags i l k = absurd (omega (arith, parts_count sound m))

  -- the ways of the first component and those after it, at the front of a table, count what is read off under each position
  pub counted : (flags : List Bool) → Flagged (parts t (size t) m) s flags 0 → (n : ℕ) → length s ≡ n → (table : List ℕ)
      → take n table ≡ counts (parts t (size t) m) s → WaysCounted n flags (components t) table
  counted flags flagged n e table h p some inside =
      let l : p ≤ length s = rw e inside in
      sym (get_or-take n table (p - 1) 0 (omega arith)) ∙ ap (λ x. get_or x (p - 1) 0) h ∙ counts_at (parts t (size t) m) s p some l
      ∙ ap length (sym (paths_are sound m s flags flagged p)) ∙ ap (λ k. length (paths k flags (components t) 0 p)) e
