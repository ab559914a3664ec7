-- With the right flags, the starts that are read off them are the occurrences: a component with a flag stands there, and one
-- without a flag has nothing under it. So no descent is in vain, and none is left out.
use mathlib.Core.Path.{◌≡◌, refl, sym, ap, ◌∙◌}
use mathlib.Core.Bool.{Bool, true, false}
use mathlib.Core.List.{List, [], ◌∷◌, map}
use Prim.Native.Nat.{ℕ, suc, ◌+◌, ◌≤◌, ◌<◌}
use native.Mathlib.Nat.{zero-add, add-zero}
use native.Mathlib.Omega.{arith}
use lib.Dec.{ltb}
use lib.ListN.{length, drop, get_or, length-drop}
use borrow.Author.Tests.{ltb-true, ltb-false}
use Rattle.descent.specs.Buffer.{Buffer, emits, with_front}
use Rattle.descent.specs.Paths.{flag, paths, listed_rows, Flagged}
use Rattle.rules.specs.Profile.{profile_of, base_of}
use Rattle.rules.proofs.Components.{components_length, components_some}
use Rattle.descent.proofs.Paths.{flag_zero, flag_past}
use Rattle.rules.specs.Lists.{run, if, each, has_some, sum}
use Rattle.rules.specs.Motif.{spell}
use Rattle.rules.specs.Occurrence.{found, reach, starts, occurrences}
use Rattle.rules.specs.Sound.{SoundTemplate}
use Rattle.rules.specs.Support.{parts_in, parts}
use Rattle.rules.specs.Template.{Part, Reading, none, components, size, distance, deal}
use Rattle.rules.specs.declared.Component.{Component}
use Rattle.rules.specs.declared.Template.{Template}
use Rattle.rules.proofs.Lists.{each_same}
use Rattle.rules.proofs.Occurs.{Worded, parts_worded}
use Rattle.rules.proofs.Spelling.{length_spell}
use Rattle.rules.proofs.Stands.{found_is}

-- ---- the parts of a motif have the distances of the components, the first of which follows one of n letters

abbrev Shaped : ℕ → List Component → List Part → Type 0
Shaped n [] [] = Unit {0}
Shaped n [] (c ∷ cs) = ⊥
Shaped n (x ∷ xs) [] = ⊥
Shaped n (x ∷ xs) (c ∷ cs) = (c.near ≡ distance n x.low) × (c.far ≡ distance n x.high) × Shaped x.length xs cs

deal_shaped : (R : Reading) (n : ℕ) (xs : List Component) (w : List ℕ) → ((i : ℕ) → i < length xs → 1 ≤ (get_or xs i none).length) → sum (map (λ c. c.length) xs) ≡ length w
    → Shaped n xs (deal R n xs w)
unfolding deal sum
deal_shaped R n [] w some e = tt
deal_shaped R n (x ∷ xs) [] some e = absurd (omega (arith, some 0 (omega arith)))
deal_shaped R n (x ∷ xs) (y ∷ w) some e =
    (refl, refl, deal_shaped R x.length xs (drop x.length (y ∷ w)) (λ i h. some (suc i) (omega arith)) (omega (arith, length-drop x.length (y ∷ w))))

shaped_length : (n : ℕ) (xs : List Component) (cs : List Part) → Shaped n xs cs → length cs ≡ length xs
shaped_length n [] [] h = refl
shaped_length n [] (c ∷ cs) h = absurd h
shaped_length n (x ∷ xs) [] h = absurd h
shaped_length n (x ∷ xs) (c ∷ cs) h = ap suc (shaped_length x.length xs cs h.2)

-- ---- where nothing starts

outside : (c : Part) (s : List ℕ) (p : ℕ) → 1 ≤ length c.word → (1 ≤ p → p ≤ length s → ⊥) → found c s p ≡ false
outside c s p some h = go (found c s p) refl
  where
    go : (b : Bool) → found c s p ≡ b → b ≡ false
    go true e = let k = (found_is c s p some).0 e in absurd (h k.counted (omega (arith, k.room)))
    go false e = refl

starts_outside : (c : Part) (cs : List Part) (s : List ℕ) (p : ℕ) → 1 ≤ length c.word → (1 ≤ p → p ≤ length s → ⊥) → starts (c ∷ cs) s p ≡ []
unfolding starts
starts_outside c [] s p some h = rw (outside c s p some h)
starts_outside c (d ∷ ds) s p some h = rw (outside c s p some h)

-- ---- the flags of some parts, c the number of the first

-- what a list is, where it is kept only if there is something in it
kept_some : {A : Type 0} (l : List A) → if (has_some l) l [] ≡ l
unfolding has_some
kept_some [] = refl
kept_some (x ∷ l) = refl

-- a test that says whether there is something in such a list does as well
same_if : {A : Type 0} (b : Bool) (l : List A) {f : Bool} → f ≡ has_some (if b l []) → if f l [] ≡ if b l []
unfolding has_some
same_if true l e = rw e (kept_some l)
same_if false l e = rw e

module _ (s : List ℕ) (flags : List Bool) where
  Said : List Part → ℕ → Type 0
  Said cs c = (i : ℕ) → i < length cs → (p : ℕ) → 1 ≤ p → p ≤ length s → flag (length s) flags (c + i) p ≡ has_some (starts (drop i cs) s p)

  -- the first flag says it of every position, those outside the sequence too
  said_first : (d : Part) (ds : List Part) (c p : ℕ) → Worded (d ∷ ds) → Said (d ∷ ds) c → flag (length s) flags c p ≡ has_some (starts (d ∷ ds) s p)
  unfolding Said has_some
  said_first d ds c p worded said = go (ltb 0 p) (ltb (length s) p) refl refl
    where
      out : (1 ≤ p → p ≤ length s → ⊥) → flag (length s) flags c p ≡ false → flag (length s) flags c p ≡ has_some (starts (d ∷ ds) s p)
      out h e = e ∙ rw (starts_outside d ds s p (worded 0 (omega arith)) h)

      go : (a b : Bool) → ltb 0 p ≡ a → ltb (length s) p ≡ b → flag (length s) flags c p ≡ has_some (starts (d ∷ ds) s p)
      go false b e k = let z : p ≡ 0 = omega (arith, ltb-false) in out (λ h l. omega arith) (flag_zero (length s) flags c p z)
      go true true e k = let z = ltb-true (length s) p k in out (λ h l. omega arith) (flag_past (length s) flags c p z)
      go true false e k = rw (← (add-zero c)) (said 0 (omega arith) p (ltb-true 0 p e) (ltb-false (length s) p k))

  said_later : (d : Part) (ds : List Part) (c : ℕ) → Said (d ∷ ds) c → Said ds (suc c)
  unfolding Said
  said_later d ds c said i h p l k = let e : suc c + i ≡ c + suc i = omega arith in rw e (said (suc i) (omega arith) p l k)

  -- the starts that are read off are those that there are
  paths_starts : (n : ℕ) (xs : List Component) (cs : List Part) (c : ℕ) → Shaped n xs cs → Worded cs → Said cs c → (p : ℕ) → paths (length s) flags xs c p ≡ starts cs s p
  unfolding paths starts
  paths_starts n [] [] c shaped worded said p = refl
  paths_starts n [] (d ∷ ds) c shaped worded said p = absurd shaped
  paths_starts n (x ∷ xs) [] c shaped worded said p = absurd shaped
  paths_starts n (x ∷ []) (d ∷ []) c shaped worded said p = same_if (found d s p) ((p ∷ []) ∷ []) (said_first d [] c p worded said)
  paths_starts n (x ∷ []) (d ∷ e ∷ es) c shaped worded said p = absurd shaped.2
  paths_starts n (x ∷ y ∷ ys) (d ∷ []) c shaped worded said p = absurd shaped.2
  paths_starts n (x ∷ y ∷ ys) (d ∷ e ∷ es) c shaped worded said p =
      let h = shaped.2 in
      let later = paths_starts x.length (y ∷ ys) (e ∷ es) (suc c) h (λ i l. worded (suc i) (omega arith)) (said_later d (e ∷ es) c said) in
      rw (← h.0, ← h.1, each_same (paths (length s) flags (y ∷ ys) (suc c)) (starts (e ∷ es) s) (reach e.near e.far p) later)
      (same_if (found d s p) (map (λ t. p ∷ t) (each (starts (e ∷ es) s) (reach e.near e.far p))) (said_first d (e ∷ es) c p worded said))

-- ---- a motif's parts

module _ {t : Template} (sound : SoundTemplate t) (m : ℕ) where
  parts_shaped : Shaped 0 (components t) (parts t (size t) m)
  unfolding parts_in size
  parts_shaped = deal_shaped (profile_of t).reading 0 (components t) (spell (base_of t) (size t) m) (components_some sound) (sym (length_spell (base_of t) (size t) m))

  -- a part for each component
  pub parts_count : length (parts t (size t) m) ≡ t.count
  parts_count = shaped_length 0 (components t) (parts t (size t) m) parts_shaped ∙ components_length t sound.few

  module _ (s : List ℕ) (flags : List Bool) (flagged : Flagged (parts t (size t) m) s flags 0) where
    -- under each first start stand the occurrences that begin there
    pub paths_are : (p : ℕ) → paths (length s) flags (components t) 0 p ≡ starts (parts t (size t) m) s p
    unfolding Said
    paths_are = paths_starts s flags 0 (components t) (parts t (size t) m) 0 parts_shaped (parts_worded t sound (size t) m) (λ i h p l k. rw (zero-add i) (flagged i (omega arith) h p l k))

    -- so all that is listed are the occurrences
    pub listed_are : (i n : ℕ) → length s ≡ n → (b : Buffer) {r : Buffer} → r ≡ listed_rows t n flags i b → r ≡ emits (suc t.count) (with_front (i ∷ []) (occurrences (parts t (size t) m) s)) b
    unfolding occurrences
    listed_are i n e b q = q ∙ rw (← e, each_same (paths (length s) flags (components t) 0) (starts (parts t (size t) m) s) (run 1 (length s)) paths_are)
