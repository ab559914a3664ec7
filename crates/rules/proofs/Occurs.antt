-- The list of occurrences holds exactly the tuples that Occur: the starts under a first start are those that follow it within
-- the range, part by part, just as the sentence has it with its first part taken off.
use mathlib.Core.Path.{◌≡◌, refl, sym, ap, ◌∙◌, subst}
use mathlib.Core.Logic.{◌↔◌, ◌⊎◌, inl, inr}
use mathlib.Core.Bool.{Bool, true, false}
use mathlib.Core.List.Memᴰ
use mathlib.Core.List.{List, [], ◌∷◌, map, Memᴰ}
use Prim.Native.Nat.{ℕ, zero, suc, ◌+◌, ◌≤◌, ◌<◌}
use native.Mathlib.Nat.{add-zero}
use native.Mathlib.Numerals.{one-add}
use native.Mathlib.Omega.{arith}
use lib.ListN.{length, take, drop, get_or, length-take}
use lib.Seq.{get_or-take}
use Rattle.rules.specs.Lists.{run, if, each}
use Rattle.rules.specs.Motif.{spell}
use Rattle.rules.specs.Occurrence.{stands, found, reach, starts, occurrences, Found, nth, Follows, Occurs}
use Rattle.rules.specs.Profile.{profile_of, base_of}
use Rattle.rules.specs.Sound.{SoundTemplate}
use Rattle.rules.specs.Support.{rows_from, occurrence_rows, parts, parts_in}
use Rattle.rules.specs.Template.{Part, Reading, none, slots, components, deal, cut_after}
use Rattle.rules.specs.declared.Component.{Component}
use Rattle.rules.specs.declared.Template.{Template}
use Rattle.rules.proofs.Members.{each_in, each_out}
use Rattle.rules.proofs.Stands.{found_is, run_in, reach_is}

-- every part has a letter
abbrev pub Worded : List Part → Type 0
Worded cs = (i : ℕ) → i < length cs → 1 ≤ length (nth cs i).word

-- a part, and parts, that are read exactly
abbrev pub Literal : Part → Type 0
Literal c = (s : List ℕ) (p : ℕ) → found c s p ≡ stands c.word s p

abbrev pub AllLiteral : List Part → Type 0
AllLiteral [] = Unit {0}
AllLiteral (c ∷ cs) = Literal c × AllLiteral cs

-- those of the exact search are
pub cut_literal : (n : ℕ) (cs : List Component) (w : List ℕ) → AllLiteral (cut_after n cs w)
unfolding deal
cut_literal n [] w = tt
cut_literal n (c ∷ cs) [] = tt
cut_literal n (c ∷ cs) (x ∷ w) = (λ s p. refl, cut_literal c.length cs (drop c.length (x ∷ w)))

-- letters dealt out to components of at least one letter leave no part without one
deal_worded : (R : Reading) (n : ℕ) (cs : List Component) (w : List ℕ) → ((i : ℕ) → i < length cs → 1 ≤ (get_or cs i none).length) → Worded (deal R n cs w)
unfolding deal
deal_worded R n [] w h i l = absurd (omega arith)
deal_worded R n (c ∷ cs) [] h i l = absurd (omega arith)
deal_worded R n (c ∷ cs) (x ∷ w) h zero l = omega (arith, h 0 (omega arith), length-take c.length (x ∷ w))
deal_worded R n (c ∷ cs) (x ∷ w) h (suc i) l = deal_worded R c.length cs (drop c.length (x ∷ w)) (λ i k. h (suc i) (omega arith)) i (omega arith)

-- the parts of a motif, or of a prefix, under a sound template all have a letter
pub parts_worded : (t : Template) → SoundTemplate t → (j m : ℕ) → Worded (parts t j m)
unfolding parts_in components
parts_worded t sound j m = deal_worded (profile_of t).reading 0 (take t.count (slots t)) (spell (base_of t) j m) some
  where
    some : (i : ℕ) → i < length (take t.count (slots t)) → 1 ≤ (get_or (take t.count (slots t)) i none).length
    some i l = let k : i < t.count = omega (arith, length-take t.count (slots t)) in rw (get_or-take t.count (slots t) i none k) (sound.each i k).some

-- and there is a part as soon as there is a letter
pub parts_some : (t : Template) → SoundTemplate t → (j m : ℕ) → 1 ≤ j → 1 ≤ length (parts t j m)
unfolding parts_in components deal spell
parts_some t sound zero m l = absurd (omega arith)
parts_some t sound (suc j) m l = go t.count sound.some
  where
    go : (n : ℕ) → 1 ≤ n → 1 ≤ length (deal (profile_of t).reading 0 (take n (slots t)) (spell (base_of t) (suc j) m))
    go zero k = absurd (omega arith)
    go (suc n) k = omega arith

-- an occurrence of one part
occurs_one : (c : Part) (s : List ℕ) (p : ℕ) → Found c s p → Occurs (c ∷ []) s (p ∷ [])
occurs_one c s p h = record { one_each = refl; standing = standing; gaps = λ i l. absurd (omega arith) }
  where
    standing : (i : ℕ) → i < 1 → Found (nth (c ∷ []) i) s (get_or (p ∷ []) i 0)
    standing zero l = h
    standing (suc i) l = absurd (omega arith)

module _ (c d : Part) (ds : List Part) (s : List ℕ) (p q : ℕ) (qs : List ℕ) where
  -- an occurrence of the later parts that a part stands before
  occurs_more : Found c s p → Follows d.near d.far p q → Occurs (d ∷ ds) s (q ∷ qs) → Occurs (c ∷ d ∷ ds) s (p ∷ q ∷ qs)
  occurs_more h g o = record { one_each = ap suc o.one_each; standing = standing; gaps = gaps }
    where
      standing : (i : ℕ) → i < length (c ∷ d ∷ ds) → Found (nth (c ∷ d ∷ ds) i) s (get_or (p ∷ q ∷ qs) i 0)
      standing zero l = h
      standing (suc i) l = o.standing i (omega arith)

      gaps : (i : ℕ) → suc i < length (c ∷ d ∷ ds) → Follows (nth (d ∷ ds) i).near (nth (d ∷ ds) i).far (get_or (p ∷ q ∷ qs) i 0) (get_or (q ∷ qs) i 0)
      gaps zero l = g
      gaps (suc i) l = o.gaps i (omega arith)

  -- and back: what is left of an occurrence without its first part
  occurs_rest : Occurs (c ∷ d ∷ ds) s (p ∷ q ∷ qs) → Occurs (d ∷ ds) s (q ∷ qs)
  occurs_rest o = record { one_each = omega (arith, o.one_each); standing = λ i l. o.standing (suc i) (omega arith); gaps = λ i l. o.gaps (suc i) (omega arith) }

-- each tuple under a first start begins with it
pub starts_lead : (cs : List Part) (s : List ℕ) (p : ℕ) (ps : List ℕ) → Memᴰ ps (starts cs s p) → (rest : List ℕ) × (ps ≡ p ∷ rest)
unfolding starts
starts_lead [] s p ps m = absurd (Memᴰ.not-nil m)
starts_lead (c ∷ []) s p ps m = go (found c s p) m
  where
    go : (b : Bool) → Memᴰ ps (if b ((p ∷ []) ∷ []) []) → (rest : List ℕ) × (ps ≡ p ∷ rest)
    go true m = ([], Memᴰ.eq_of_singleton m)
    go false m = absurd (Memᴰ.not-nil m)
starts_lead (c ∷ d ∷ ds) s p ps m = go (found c s p) m
  where
    later : List (List ℕ)
    later = each (starts (d ∷ ds) s) (reach d.near d.far p)

    go : (b : Bool) → Memᴰ ps (if b (map (λ t. p ∷ t) later) []) → (rest : List ℕ) × (ps ≡ p ∷ rest)
    go true m = let r = Memᴰ.of_map (λ t. p ∷ t) later m in (r.0, sym r.2)
    go false m = absurd (Memᴰ.not-nil m)

starts_only : (cs : List Part) (s : List ℕ) (p : ℕ) (ps : List ℕ) → Worded cs → Memᴰ ps (starts cs s p) → Occurs cs s ps
unfolding starts
starts_only [] s p ps w m = absurd (Memᴰ.not-nil m)
starts_only (c ∷ []) s p ps w m = go (found c s p) refl m
  where
    go : (b : Bool) → found c s p ≡ b → Memᴰ ps (if b ((p ∷ []) ∷ []) []) → Occurs (c ∷ []) s ps
    go true e m = subst (Occurs (c ∷ []) s) (sym (Memᴰ.eq_of_singleton m)) (occurs_one c s p ((found_is c s p (w 0 (omega arith))).0 e))
    go false e m = absurd (Memᴰ.not-nil m)
starts_only (c ∷ d ∷ ds) s p ps w m = go (found c s p) refl m (λ q qs m. starts_only (d ∷ ds) s q qs (λ i l. w (suc i) (omega arith)) m)
  where
    next : List ℕ
    next = reach d.near d.far p

    go : (b : Bool) → found c s p ≡ b → Memᴰ ps (if b (map (λ t. p ∷ t) (each (starts (d ∷ ds) s) next)) []) → ((q : ℕ) (qs : List ℕ) → Memᴰ qs (starts (d ∷ ds) s q) → Occurs (d ∷ ds) s qs) → Occurs (c ∷ d ∷ ds) s ps
    go true e m ih =
        let r = Memᴰ.of_map (λ t. p ∷ t) (each (starts (d ∷ ds) s) next) m in
        let k = each_out (starts (d ∷ ds) s) next r.1 in
        let l = starts_lead (d ∷ ds) s k.0 r.0 k.2 in
        subst (Occurs (c ∷ d ∷ ds) s) (ap (λ t. p ∷ t) (sym l.1) ∙ r.2)
        (occurs_more c d ds s p k.0 l.0 ((found_is c s p (w 0 (omega arith))).0 e) ((reach_is d.near d.far p k.0).0 k.1) (subst (Occurs (d ∷ ds) s) l.1 (ih k.0 r.0 k.2)))
    go false e m ih = absurd (Memᴰ.not-nil m)

starts_all : (cs : List Part) (s : List ℕ) (p : ℕ) (ps : List ℕ) → Worded cs → Occurs cs s (p ∷ ps) → Memᴰ (p ∷ ps) (starts cs s p)
unfolding starts
starts_all [] s p ps w o = absurd (omega (arith, o.one_each))
starts_all (c ∷ []) s p [] w o = rw ((found_is c s p (w 0 (omega arith))).1 (o.standing 0 (omega arith))) (Memᴰ.head refl)
starts_all (c ∷ []) s p (q ∷ qs) w o = absurd (omega (arith, o.one_each))
starts_all (c ∷ d ∷ ds) s p [] w o = absurd (omega (arith, o.one_each))
starts_all (c ∷ d ∷ ds) s p (q ∷ qs) w o =
    rw ((found_is c s p (w 0 (omega arith))).1 (o.standing 0 (omega arith)))
    (Memᴰ.map (λ t. p ∷ t)
    (each_in (starts (d ∷ ds) s) (reach d.near d.far p)
    ((reach_is d.near d.far p q).1 (o.gaps 0 (omega arith)))
    (starts_all (d ∷ ds) s q qs (λ i l. w (suc i) (omega arith)) (occurs_rest c d ds s p q qs o))))

module _ (cs : List Part) (s : List ℕ) (worded : Worded cs) where
  -- the list of occurrences holds exactly the tuples that Occur
  pub occurrences_are : 1 ≤ length cs → (ps : List ℕ) → Memᴰ ps (occurrences cs s) ↔ Occurs cs s ps
  unfolding occurrences
  occurrences_are some ps = (λ m. let r = each_out (starts cs s) (run 1 (length s)) m in starts_only cs s r.0 ps worded r.2, all ps)
    where
      all : (ps : List ℕ) → Occurs cs s ps → Memᴰ ps (each (starts cs s) (run 1 (length s)))
      all [] o = absurd (omega (arith, o.one_each))
      all (p ∷ ps) o = let h = o.standing 0 some in each_in (starts cs s) (run 1 (length s)) (run_in 1 (length s) p h.counted (omega (arith, h.room, worded 0 some))) (starts_all cs s p ps worded o)

-- the rows from a number on are those of the sequences in turn
pub rows_out : (i : ℕ) (cs : List Part) (ss : List (List ℕ)) {row : List ℕ} → Memᴰ row (rows_from i cs ss)
    → (k : ℕ) × (ps : List ℕ) × (k < length ss) × (row ≡ (i + k) ∷ ps) × Memᴰ ps (occurrences cs (get_or ss k []))
unfolding rows_from
rows_out i cs [] m = absurd (Memᴰ.not-nil m)
rows_out i cs (s ∷ ss) {row} m = go (Memᴰ.append_cases (map (λ t. i ∷ t) (occurrences cs s)) m) (rows_out (suc i) cs ss)
  where
    Found : ℕ → List (List ℕ) → Type 0
    Found i ss = (k : ℕ) × (ps : List ℕ) × (k < length ss) × (row ≡ (i + k) ∷ ps) × Memᴰ ps (occurrences cs (get_or ss k []))

    go : Memᴰ row (map (λ t. i ∷ t) (occurrences cs s)) ⊎ Memᴰ row (rows_from (suc i) cs ss) → (Memᴰ row (rows_from (suc i) cs ss) → Found (suc i) ss) → Found i (s ∷ ss)
    go (inl m) ih = let r = Memᴰ.of_map (λ t. i ∷ t) (occurrences cs s) m in (0, r.0, omega arith, rw add-zero (sym r.2), r.1)
    go (inr m) ih = let r = ih m in let e : i + suc r.0 ≡ suc i + r.0 = omega arith in (suc r.0, r.1, omega (arith, r.2), rw e r.3, r.4)

rows_in : (i : ℕ) (cs : List Part) (ss : List (List ℕ)) (k : ℕ) {ps : List ℕ} → k < length ss → Memᴰ ps (occurrences cs (get_or ss k [])) → Memᴰ ((i + k) ∷ ps) (rows_from i cs ss)
unfolding rows_from
rows_in i cs [] k l m = absurd (omega arith)
rows_in i cs (s ∷ ss) zero l m = rw add-zero (Memᴰ.append_left (rows_from (suc i) cs ss) (Memᴰ.map (λ t. i ∷ t) m))
rows_in i cs (s ∷ ss) (suc k) l m = let e : i + suc k ≡ suc i + k = omega arith in rw e (Memᴰ.append_right (map (λ t. i ∷ t) (occurrences cs s)) (rows_in (suc i) cs ss k (omega arith) m))

-- the whole list holds exactly the rows of a sequence's number and the starts of an occurrence in that sequence
pub rows_are : (cs : List Part) (ss : List (List ℕ)) → Worded cs → 1 ≤ length cs → (row : List ℕ)
    → Memᴰ row (occurrence_rows cs ss) ↔ ((i : ℕ) × (ps : List ℕ) × (i < length ss) × (row ≡ suc i ∷ ps) × Occurs cs (get_or ss i []) ps)
unfolding occurrence_rows
rows_are cs ss worded some row = (
  λ m. let r = rows_out 1 cs ss m in (r.0, r.1, r.2, rw (← (one-add r.0)) r.3, (occurrences_are cs (get_or ss r.0 []) worded some r.1).0 r.4),
  λ r. Memᴰ.cast r.3 (rw (← (one-add r.0)) (rows_in 1 cs ss r.0 r.2 ((occurrences_are cs (get_or ss r.0 []) worded some r.1).1 r.4))),
)
