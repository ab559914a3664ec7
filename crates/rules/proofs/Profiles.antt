-- Every kind of search walks lawfully: one proof for all profiles, and what each profile has to show for it.
use mathlib.Core.Path.{◌≡◌, refl, sym, ap, ◌∙◌}
use mathlib.Core.Bool.{Bool, true, false, ◌&&◌}
use mathlib.Core.List.{List, [], ◌∷◌, ◌++◌}
use Prim.Native.Nat.{ℕ, zero, suc, ◌/◌, ◌%◌, ◌≤◌}
use native.Mathlib.Nat.{pow-zero, div-one, mod-eq_of_lt}
use native.Mathlib.Omega.{arith}
use lib.Dec.{leb}
use lib.ListN.{length, take, drop, length-append, drop_of_length-le}
use lib.Seq.{take_all, take-append-le, drop-append-le}
use borrow.Author.Tests.{leb-true, leb-false, le-leb}
use Rattle.rules.specs.Lists.{keep, all_pass}
use Rattle.rules.specs.Motif.{spell}
use Rattle.rules.specs.Profile.{Basis, by-sequence, by-occurrence, Profile, Proper, allowed, to_come, four_letters, exactly, repeated, substituted, several, within, mixed}
use Rattle.rules.specs.Sound.{SoundTemplate}
use Rattle.rules.specs.Support.{counted, counted_with, allowed_in, reaches, parts_in, measure}
use Rattle.rules.specs.Template.{Part, Reading, literal, components, size, deal}
use Rattle.rules.specs.Walk.{walk_in, Lawful, spelled}
use Rattle.rules.specs.declared.Component.{Component}
use Rattle.rules.specs.declared.Template.{Template}
use Rattle.rules.proofs.Components.{components_sound}
use Rattle.rules.proofs.Lists.{keep_append}
use Rattle.rules.proofs.Prefix.{weight_antitone, support_antitone, none_to_come, size_some}
use Rattle.rules.proofs.Spelling.{spell_more, length_spell}
use Rattle.rules.proofs.Tests.{both}

-- ---- letters that are allowed

pub allowed_nil : (f : Component → List ℕ → Bool) (cs : List Component) → allowed f cs [] ≡ true
unfolding allowed
allowed_nil f [] = refl
allowed_nil f (c ∷ cs) = refl

module _ (P : Profile) (proper : Proper P) where
  allowed_first : (cs : List Component) → allowed P.allows cs (0 ∷ []) ≡ true
  unfolding allowed
  allowed_first [] = refl
  allowed_first (c ∷ cs) = go c.length (allowed_first cs)
    where
      go : (n : ℕ) → allowed P.allows cs (0 ∷ []) ≡ true → P.allows c (take n (0 ∷ [])) && allowed P.allows cs (drop n (0 ∷ [])) ≡ true
      go zero ih = (both _ _).1 (proper.none c, ih)
      go (suc n) ih = let z : List ℕ = [] in rw (take_all n z (omega arith), drop_of_length-le z {i = n} (omega arith)) ((both _ _).1 (proper.first c, allowed_nil P.allows cs))

  -- where some letters are allowed, so are those before the last
  pub allowed_less : (cs : List Component) (v : List ℕ) (y : ℕ) → allowed P.allows cs (v ++ (y ∷ [])) ≡ true → allowed P.allows cs v ≡ true
  unfolding allowed
  allowed_less [] v y e = refl
  allowed_less (c ∷ cs) [] y e = refl
  allowed_less (c ∷ cs) (x ∷ w) y e = go (leb c.length (suc (length w))) refl (allowed_less cs (drop c.length (x ∷ w)) y)
    where
      v : List ℕ
      v = x ∷ w

      go : (b : Bool) → leb c.length (suc (length w)) ≡ b
          → (allowed P.allows cs (drop c.length v ++ (y ∷ [])) ≡ true → allowed P.allows cs (drop c.length v) ≡ true)
          → P.allows c (take c.length v) && allowed P.allows cs (drop c.length v) ≡ true
      go true f ih =
          let l = leb-true c.length (suc (length w)) f in
          let h = (both (P.allows c (take c.length v)) (allowed P.allows cs (drop c.length v ++ (y ∷ [])))).0 (rw (take-append-le c.length v (y ∷ []) l, drop-append-le c.length v (y ∷ []) l) at e) in
          (both (P.allows c (take c.length v)) _).1 (h.0, ih h.1)
      go false f ih =
          let l = leb-false c.length (suc (length w)) f in
          let short : length v ≤ c.length = omega arith in
          let long : length (v ++ (y ∷ [])) ≤ c.length = omega (arith, length-append v (y ∷ [])) in
          let h : P.allows c (v ++ (y ∷ [])) ≡ true = rw (take_all c.length (v ++ (y ∷ [])) long) at ((both (P.allows c (take c.length (v ++ (y ∷ [])))) _).0 e).0 in
          rw (take_all c.length v short, drop_of_length-le v {i = c.length} short) ((both (P.allows c v) _).1 (proper.closed c v y h, allowed_nil P.allows cs))

  module _ (t : Template) where
    -- what a prefix comes to, and one shorter
    measure_antitone : SoundTemplate t → (ss : List (List ℕ)) (j m : ℕ) → 1 ≤ j → measure P t ss (suc j) m ≤ measure P t ss j (m / P.base)
    unfolding measure parts_in
    measure_antitone o ss j m h = go P.basis
      where
        go : (a : Basis) → counted_with a (deal P.reading 0 (components t) (spell P.base (suc j) m)) (to_come (components t) (spell P.base (suc j) m)) ss
            ≤ counted_with a (deal P.reading 0 (components t) (spell P.base j (m / P.base))) (to_come (components t) (spell P.base j (m / P.base))) ss
        go by-sequence = support_antitone P.reading P.base 0 (components t) j m (components_sound o) h ss
        go by-occurrence = weight_antitone P.reading P.base 0 (components t) j m (components_sound o) h ss

    module _ (quorum : ℕ) (ss : List (List ℕ)) where
      good_anti : SoundTemplate t → (j m : ℕ) → reaches (measure P t ss) quorum (suc j) m ≡ true → reaches (measure P t ss) quorum j (m / P.base) ≡ true
      unfolding reaches
      good_anti o zero m e = refl
      good_anti o (suc j) m e = le-leb quorum _ (omega (arith, leb-true quorum _ e, measure_antitone o ss (suc j) m (omega arith)))

      first_may : allowed_in P t 1 0 ≡ true
      unfolding allowed_in spell
      first_may = rw (pow-zero, div-one, mod-eq_of_lt proper.pos) (allowed_first (components t))

      -- EVERY PROFILE walks lawfully
      pub lawful_in : SoundTemplate t → Lawful (walk_in P t quorum ss)
      unfolding walk_in reaches
      lawful_in o = record { pos = proper.pos; lettered = size_some t o; first = first_may; root = refl; anti = good_anti o }

      -- and a prefix whose last letter may follow is one whose letters all may
      pub spelled_in : (j m : ℕ) → spelled (walk_in P t quorum ss) (suc j) m ≡ allowed_in P t (suc j) m
      unfolding walk_in spelled allowed_in
      spelled_in zero m = go (allowed P.allows (components t) (spell P.base 1 m))
        where
          go : (b : Bool) → b && true ≡ b
          go true = refl
          go false = refl
      spelled_in (suc j) m = rw (spelled_in j (m / P.base)) (go _ _ (λ e. allowed_less (components t) (spell P.base (suc j) (m / P.base)) (m % P.base) (rw (spell_more P.base (suc j) m) at e)))
        where
          go : (a b : Bool) → (a ≡ true → b ≡ true) → a && b ≡ a
          go true b h = h refl
          go false b h = refl

-- ---- whole motifs

counted_one : (a : Basis) (cs : List Part) (ss : List (List ℕ)) → counted_with a cs 1 ss ≡ counted a cs ss
counted_one by-sequence cs ss = refl
counted_one by-occurrence cs ss = omega arith

-- a motif has no gap to come: it is good exactly if what is counted of it reaches the quorum
pub good_whole : (P : Profile) (t : Template) → SoundTemplate t → (quorum : ℕ) (ss : List (List ℕ)) (m : ℕ)
    → reaches (measure P t ss) quorum (size t) m ≡ leb quorum (counted P.basis (parts_in P t (size t) m) ss)
unfolding size
good_whole P t o quorum ss m = go (size t) refl (size_some t o)
  where
    go : (k : ℕ) → size t ≡ k → 1 ≤ k → reaches (measure P t ss) quorum k m ≡ leb quorum (counted P.basis (parts_in P t k m) ss)
    go zero e h = absurd (omega arith)
    go (suc k) e h = good_at k (none_to_come (components t) (spell P.base (suc k) m) (components_sound o) (e ∙ sym (length_spell P.base (suc k) m)))
      where
        good_at : (k : ℕ) → to_come (components t) (spell P.base (suc k) m) ≡ 1 → reaches (measure P t ss) quorum (suc k) m ≡ leb quorum (counted P.basis (parts_in P t (suc k) m) ss)
        good_at k z = unfold reaches measure in rw z (ap (leb quorum) (counted_one P.basis _ ss))

-- ---- THE PROFILES

four_proper : (R : Reading) (a : Basis) → Proper (four_letters R a)
four_proper R a = record { pos = omega arith; short = omega arith; wide = omega arith; none = λ c. refl; first = λ c. refl; closed = λ c w y e. refl }

pub exactly_proper : Proper exactly
unfolding exactly
exactly_proper = four_proper literal by-sequence

pub repeated_proper : Proper repeated
unfolding repeated
repeated_proper = four_proper literal by-occurrence

pub substituted_proper : (e : Component → ℕ) → Proper (substituted e)
unfolding substituted
substituted_proper e = four_proper _ by-sequence

all_less : {A : Type 0} (f : A → Bool) (xs ys : List A) → all_pass f (xs ++ ys) ≡ true → all_pass f xs ≡ true
unfolding all_pass
all_less f [] ys e = refl
all_less f (x ∷ xs) ys e = let h = (both (f x) _).0 e in (both _ _).1 (h.0, all_less f xs ys h.1)

several_less : (w : List ℕ) (y : ℕ) → several w ≤ several (w ++ (y ∷ []))
unfolding several
several_less w y = rw (keep_append, length-append) (omega arith)

none_leb : (n : ℕ) → leb 0 n ≡ true
none_leb n = le-leb 0 n (omega arith)

leb_less : (a b n : ℕ) → a ≤ b → leb b n ≡ true → leb a n ≡ true
leb_less a b n l e = le-leb a n (omega (arith, leb-true b n e))

pub mixed_proper : (allowance : Component → ℕ) → Proper (mixed allowance)
unfolding mixed within several all_pass keep
mixed_proper allowance = record {
  pos = omega arith;
  short = omega arith;
  wide = omega arith;
  none = λ c. rw none_leb;
  first = λ c. rw none_leb;
  closed = λ c w y e. let h = (both (all_pass _ (w ++ (y ∷ []))) _).0 e in (both _ _).1 (all_less _ w (y ∷ []) h.0, leb_less _ _ _ (several_less w y) h.1);
}
