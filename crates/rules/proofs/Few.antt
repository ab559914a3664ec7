-- A whole exact search takes fewer than 2 ^ 63 steps, so that a 64-bit count of steps never runs over. A frequent prefix is read off
-- a sequence at the starts of an occurrence. From one first start on, parts of the same lengths and ranges can be placed in at
-- most 256 ways for each of at most five later parts, and there are no more first starts than letters, of which there are at
-- most 65,536: so at most 2 ^ 56 prefixes of each length are frequent. With the empty one, at most 1 + 31 * 2 ^ 56 are shorter
-- than a motif, and the search takes four steps for each.
use mathlib.Core.Path.{◌≡◌, refl, sym, ◌∙◌}
use mathlib.Core.Bool.{Bool, true, false, false≢true}
use mathlib.Core.List.Memᴰ
use mathlib.Core.List.{List, [], ◌∷◌, ◌++◌, map, append-nil, Memᴰ}
use Prim.Native.Nat.{ℕ, zero, suc, ◌+◌, ◌-◌, ◌*◌, ◌^◌, ◌≤◌, ◌<◌}
use native.Mathlib.Nat.{le_trans, pow-zero, pow-succ', pow-le-pow_right, mul-le-mul_right}
use native.Mathlib.Omega.{arith}
use lib.Dec.{eqb}
use lib.ListN.{length, take, drop, length-map, length-take, length-drop, take-append-drop}
use borrow.Author.Tests.{eqb-true, leb-true}
use Rattle.rules.specs.Limits.{letter_bases, sequence_set_letters}
use Rattle.rules.specs.Lists.{run, if, each, keep, joined, sum}
use Rattle.rules.specs.Motif.{number, spell}
use Rattle.rules.specs.Occurrence.{front, front_by, stands, stands_by, found, reach, starts, occurrences}
use Rattle.rules.specs.Profile.{exactly, profile_of}
use Rattle.rules.specs.Relay.{whole_steps}
use Rattle.rules.specs.Sequences.{sequences}
use Rattle.rules.specs.Sound.{SoundSet, SoundTemplate}
use Rattle.rules.specs.Support.{support, parts_in, measure, reaches}
use Rattle.rules.specs.Template.{Part, components, size, deal, cut_after}
use Rattle.rules.specs.Walk.{walk_in, goods}
use Rattle.rules.specs.declared.Component.{Component}
use Rattle.rules.specs.declared.Template.{Template}
use Rattle.rules.proofs.Bound.{Near, parts_in_few, parts_in_near, sequences_letters}
use Rattle.rules.proofs.Exact.{exact_steps}
use Rattle.rules.proofs.Lengths.{rising_within, each_run, each_times, keep_some}
use Rattle.rules.proofs.Members.{each_in, each_out, keep_run_out}
use Rattle.rules.proofs.OccurrenceOrder.{keep_run_rising}
use Rattle.rules.proofs.Occurs.{AllLiteral, cut_literal}
use Rattle.rules.proofs.Prefix.{size_some}
use Rattle.rules.proofs.Spelling.{length_spell, number_spell}
use Rattle.rules.proofs.Ways.{some_is, support_sequences}

-- ---- words read off a sequence

-- the n letters of s from a position on
abbrev letters_at : ℕ → List ℕ → ℕ → List ℕ
letters_at n s zero = []
letters_at n s (suc o) = take n (drop o s)

-- the length and the distances of a part, without its letters
record Form : Type 0 where
  letters : ℕ
  near : ℕ
  far : ℕ

abbrev form : Part → Form
form c = record { letters = length c.word; near = c.near; far = c.far }

-- what can be read off s where such parts are placed, the first at p and each next within its distances
unfoldable placed : List Form → List ℕ → ℕ → List (List ℕ)
placed [] s p = []
placed (c ∷ []) s p = letters_at c.letters s p ∷ []
placed (c ∷ d ∷ ds) s p = map (λ w. letters_at c.letters s p ++ w) (each (placed (d ∷ ds) s) (reach d.near d.far p))

-- the letters of parts, one part after another
abbrev spelt : List Part → List ℕ
spelt cs = joined (map (λ c. c.word) cs)

-- parts whose first is at p can be placed in at most b ways for each later one
placed_most : (b : ℕ) (c : Part) (cs : List Part) (s : List ℕ) → Near b (c ∷ cs) → (p : ℕ) → length (placed (map form (c ∷ cs)) s p) ≤ b ^ length cs
unfolding placed reach
placed_most b c [] s h p = rw pow-zero (omega arith)
placed_most b c (d ∷ ds) s h p =
    let later : List (List ℕ) = each (placed (map form (d ∷ ds)) s) (reach d.near d.far p) in
    let most : length later ≤ (d.far + 1 - d.near) * b ^ length ds = each_run _ _ (placed_most b d ds s (λ i l. h (suc i) (omega arith))) _ _ in
    rw pow-succ' (omega (arith, length-map later (λ w. letters_at (length c.word) s p ++ w), most, mul-le-mul_right (b ^ length ds) (h 1 (omega arith))))

-- letters that are the first of s are read off it
front_read : (w s : List ℕ) → front w s ≡ true → take (length w) s ≡ w
unfolding front_by
front_read [] s e = refl
front_read (x ∷ w) [] e = absurd (false≢true e)
front_read (x ∷ w) (y ∷ s) e = go (eqb x y) refl e (front_read w s)
  where
    go : (b : Bool) → eqb x y ≡ b → if b (front w s) false ≡ true → (front w s ≡ true → take (length w) s ≡ w) → y ∷ take (length w) s ≡ x ∷ w
    go true q e ih = rw (ih e, eqb-true x y q)
    go false q e ih = absurd (false≢true e)

-- and so are letters at the position where they stand
stands_read : (w s : List ℕ) (p : ℕ) → stands w s p ≡ true → letters_at (length w) s p ≡ w
unfolding stands_by
stands_read w s zero e = absurd (false≢true e)
stands_read w s (suc o) e = front_read w (drop o s) e

-- the letters of parts that occur are among those that can be read off where such parts are placed
placed_in : (cs : List Part) (s : List ℕ) (p : ℕ) (ps : List ℕ) → AllLiteral cs → Memᴰ ps (starts cs s p) → Memᴰ (spelt cs) (placed (map form cs) s p)
unfolding placed starts joined
placed_in [] s p ps x m = absurd (Memᴰ.not-nil m)
placed_in (c ∷ []) s p ps x m = go (found c s p) refl m
  where
    go : (b : Bool) → found c s p ≡ b → Memᴰ ps (if b ((p ∷ []) ∷ []) []) → Memᴰ (c.word ++ []) (letters_at (length c.word) s p ∷ [])
    go true e m = Memᴰ.head (append-nil c.word ∙ sym (stands_read c.word s p (sym (x.0 s p) ∙ e)))
    go false e m = absurd (Memᴰ.not-nil m)
placed_in (c ∷ d ∷ ds) s p ps x m = go (found c s p) refl m (λ q qs. placed_in (d ∷ ds) s q qs x.1)
  where
    next : List ℕ
    next = reach d.near d.far p

    later : List (List ℕ)
    later = each (placed (map form (d ∷ ds)) s) next

    go : (b : Bool) → found c s p ≡ b → Memᴰ ps (if b (map (λ t. p ∷ t) (each (starts (d ∷ ds) s) next)) [])
        → ((q : ℕ) (qs : List ℕ) → Memᴰ qs (starts (d ∷ ds) s q) → Memᴰ (spelt (d ∷ ds)) (placed (map form (d ∷ ds)) s q))
        → Memᴰ (c.word ++ spelt (d ∷ ds)) (map (λ w. letters_at (length c.word) s p ++ w) later)
    go true e m ih =
        let r = Memᴰ.of_map (λ t. p ∷ t) (each (starts (d ∷ ds) s) next) m in
        let k = each_out (starts (d ∷ ds) s) next r.1 in
        rw (stands_read c.word s p (sym (x.0 s p) ∙ e)) (Memᴰ.map (λ w. c.word ++ w) (each_in (placed (map form (d ∷ ds)) s) next k.1 (ih k.0 r.0 k.2)))
    go false e m ih = absurd (Memᴰ.not-nil m)

-- ---- the parts of a prefix

-- the lengths and distances go by how many letters are dealt out, not by which
cut_forms : (b : ℕ) (cs : List Component) (v w : List ℕ) → length v ≡ length w → map form (cut_after b cs v) ≡ map form (cut_after b cs w)
unfolding deal
cut_forms b [] v w e = refl
cut_forms b (c ∷ cs) [] [] e = refl
cut_forms b (c ∷ cs) [] (y ∷ w) e = absurd (omega arith)
cut_forms b (c ∷ cs) (x ∷ v) [] e = absurd (omega arith)
cut_forms b (c ∷ cs) (x ∷ v) (y ∷ w) e =
    let n : ℕ = c.length in
    let k : length (take n (x ∷ v)) ≡ length (take n (y ∷ w)) = omega (arith, length-take n (x ∷ v), length-take n (y ∷ w)) in
    rw (k, cut_forms n cs (drop n (x ∷ v)) (drop n (y ∷ w)) (omega (arith, length-drop n (x ∷ v), length-drop n (y ∷ w))))

-- letters dealt out to components that have room for them are all there
cut_spelt : (n : ℕ) (cs : List Component) (w : List ℕ) → length w ≤ sum (map (λ c. c.length) cs) → spelt (cut_after n cs w) ≡ w
unfolding deal joined sum
cut_spelt n [] [] h = refl
cut_spelt n [] (x ∷ w) h = absurd (omega arith)
cut_spelt n (c ∷ cs) [] h = refl
cut_spelt n (c ∷ cs) (x ∷ w) h =
    rw (cut_spelt c.length cs (drop c.length (x ∷ w)) (omega (arith, length-drop c.length (x ∷ w)))) (take-append-drop c.length (x ∷ w))

-- at most five parts after the first
few_placed : (cs : List Part) → length cs ≤ 6 → Near 256 cs → (s : List ℕ) (p : ℕ) → length (placed (map form cs) s p) ≤ 2 ^ 40
few_placed [] l h s p = unfold placed in omega arith
few_placed (c ∷ cs) l h s p = le_trans (placed_most 256 c cs s h p) (le_trans (pow-le-pow_right {n = 256} (omega arith) {j = 5} (omega arith)) (omega arith))

-- what can be read off a sequence where the parts of a prefix of j letters are placed
unfoldable readings : Template → ℕ → List ℕ → List (List ℕ)
readings t j s = each (placed (map form (parts_in exactly t j 0)) s) (run 1 (length s))

-- all sequences have at most 2 ^ 40 of them for each letter
readings_few : (t : Template) → SoundTemplate t → (j : ℕ) (ss : List (List ℕ)) → length (each (readings t j) ss) ≤ sum (map length ss) * 2 ^ 40
unfolding readings
readings_few t sound j ss = each_times (readings t j) length (2 ^ 40) (λ s. each_run _ (2 ^ 40) (few_placed (parts_in exactly t j 0) few (parts_in_near exactly t sound j 0) s) 1 (length s)) ss
  where
    few : length (parts_in exactly t j 0) ≤ 6
    few = omega (arith, parts_in_few exactly t j 0, sound.few)

module _ (t : Template) (j m : ℕ) (deep : j ≤ size t) where
  -- a prefix that occurs is among them
  occurs_read : (s ps : List ℕ) → Memᴰ ps (occurrences (parts_in exactly t j m) s) → Memᴰ (spell letter_bases j m) (readings t j s)
  unfolding readings occurrences parts_in exactly size
  occurs_read s ps o =
      let r = each_out (starts (parts_in exactly t j m) s) (run 1 (length s)) o in
      let same = cut_forms 0 (components t) (spell letter_bases j 0) (spell letter_bases j m) (length_spell letter_bases j 0 ∙ sym (length_spell letter_bases j m)) in
      let whole = cut_spelt 0 (components t) (spell letter_bases j m) (omega (arith, length_spell letter_bases j m)) in
      each_in _ (run 1 (length s)) r.1 (rw same (Memᴰ.cast (sym whole) (placed_in (parts_in exactly t j m) s r.0 ps (cut_literal 0 (components t) (spell letter_bases j m)) r.2)))

  -- and so is one whose support is at least 1
  support_read : (ss : List (List ℕ)) → 1 ≤ support (parts_in exactly t j m) ss → Memᴰ (spell letter_bases j m) (each (readings t j) ss)
  support_read ss h =
      let k = keep_some _ ss (rw (support_sequences (parts_in exactly t j m) ss) at h) in
      let o = (some_is (occurrences (parts_in exactly t j m) k.0)).0 k.2 in
      each_in (readings t j) ss k.1 (occurs_read k.0 o.0 o.1)

-- ---- the count

module _ (t : Template) (quorum : ℕ) (ss : List (List ℕ)) (sound : SoundTemplate t) (some : 1 ≤ quorum) (short : sum (map length ss) ≤ sequence_set_letters) where
  -- the numbers of the frequent prefixes of one length rise, and each of them is read off somewhere
  level_few : (j : ℕ) → suc j ≤ size t → length (keep (reaches (measure exactly t ss) quorum (suc j)) (run 0 (letter_bases ^ suc j))) ≤ 2 ^ 56
  unfolding reaches measure exactly
  level_few j deep =
      omega
      (arith, rising_within level (map (number letter_bases) all) (keep_run_rising _ 0 (letter_bases ^ suc j)) within, length-map all (number letter_bases), readings_few t sound (suc j) ss)
    where
      level : List ℕ
      level = keep (reaches (measure exactly t ss) quorum (suc j)) (run 0 (letter_bases ^ suc j))

      all : List (List ℕ)
      all = each (readings t (suc j)) ss

      within : (m : ℕ) → Memᴰ m level → Memᴰ m (map (number letter_bases) all)
      within m k =
          let r = keep_run_out _ 0 (letter_bases ^ suc j) m k in
          let is : number letter_bases (spell letter_bases (suc j) m) ≡ m = number_spell letter_bases (suc j) m (omega arith) (omega (arith, r.1)) in
          Memᴰ.cast (sym is) (Memᴰ.map (number letter_bases) (support_read t (suc j) m deep ss (omega (arith, leb-true quorum _ r.2))))

  -- the empty prefix, and those of 1 to k letters
  goods_few : (k : ℕ) → k ≤ size t → goods (walk_in exactly t quorum ss) (suc k) ≤ 1 + k * 2 ^ 56
  unfolding goods walk_in reaches measure exactly keep run
  goods_few zero h = omega arith
  goods_few (suc k) h = omega (arith, goods_few k (omega arith), level_few k h)

  steps_few : letter_bases * goods (walk_in exactly t quorum ss) (size t) < 2 ^ 63
  steps_few = go (size t) refl
    where
      go : (k : ℕ) → size t ≡ k → letter_bases * goods (walk_in exactly t quorum ss) (size t) < 2 ^ 63
      go zero e = absurd (omega (arith, size_some t sound))
      go (suc k) e = rw e (omega (arith, goods_few k (omega arith), sound.deep))

-- a whole exact search takes fewer than 2 ^ 63 steps
pub exact_steps_few : (t : Template) → profile_of t ≡ exactly → (quorum : ℕ) (letters lengths : List ℕ) → SoundTemplate t → SoundSet letters lengths → 1 ≤ quorum
    → whole_steps t quorum (sequences letters lengths) < 2 ^ 63
exact_steps_few t e quorum letters lengths sound set some =
    rw (exact_steps t e quorum (sequences letters lengths), e)
    (steps_few t quorum (sequences letters lengths) sound some (omega (arith, sequences_letters letters lengths set, set.short)))
