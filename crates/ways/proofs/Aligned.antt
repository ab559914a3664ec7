-- The parts that components are over the last letters of a word: each next one to the front takes the letters just before
-- those of the later ones, and a pass of it turns their counts into its own.
use mathlib.Core.Path.{◌≡◌, refl, sym, ap, ◌∙◌}
use mathlib.Core.List.{List, [], ◌∷◌, map}
use Prim.Native.Nat.{ℕ, zero, suc, ◌+◌, ◌-◌, ◌^◌, ◌≤◌, ◌<◌}
use native.Mathlib.Nat.{le_trans, pow-zero, pow-succ', pow-le-pow_right}
use native.Mathlib.Omega.{arith}
use lib.ListN.{length, take, drop, get_or, length-take, length-drop, drop_of_length-le}
use lib.Seq.{drop-cons, drop-drop, get_or-take}
use Rattle.std.proofs.lemmas.List.{drop-take}
use Rattle.rules.specs.Limits.{template_components, template_gap}
use Rattle.rules.specs.Lists.{run, sum}
use Rattle.rules.specs.Sound.{SoundComponent, SoundTemplate}
use Rattle.rules.specs.Template.{Part, Reading, none, slots, components, size, after, part_of, deal}
use Rattle.rules.specs.declared.Component.{Component}
use Rattle.rules.specs.declared.Template.{Template}
use Rattle.ways.specs.Counts.{counts, most_ways, at_position, ending, leading, letters_taken, by_bases, aligned}
use Rattle.rules.proofs.Apart.{Apart, sound_apart}
use Rattle.ways.proofs.Counting.{counts_after, ending_counts, ending_most, leading_counts, leading_most}

-- ---- dealing out the letters

-- the first component takes the first letters, if there are any
pub deal_some : (R : Reading) (n : ℕ) (c : Component) (cs : List Component) (w : List ℕ) → 0 < length w
    → deal R n (c ∷ cs) w ≡ part_of R n c (take c.length w) ∷ deal R c.length cs (drop c.length w)
unfolding deal
deal_some R n c cs [] h = absurd (omega arith)
deal_some R n c cs (x ∷ w) h = refl

-- the later components take no more letters than all
pub letters_within : (cs : List Component) (c : ℕ) → letters_taken (drop c cs) ≤ letters_taken cs
unfolding letters_taken sum
letters_within cs zero = omega arith
letters_within [] (suc c) = omega arith
letters_within (x ∷ cs) (suc c) = omega (arith, letters_within cs c)

-- the components that are left of a template, as a part of its slots, and how many letters they take
pub left_components : (t : Template) (c : ℕ) → c ≤ t.count → take (t.count - c) (drop c (slots t)) ≡ drop c (components t)
unfolding components
left_components t c h = let e : t.count ≡ c + (t.count - c) = omega arith in sym (drop-take c (t.count - c) (slots t)) ∙ ap (λ n. drop c (take n (slots t))) (sym e)

pub left_fit : (t : Template) (c : ℕ) → letters_taken (drop c (components t)) ≤ size t
unfolding size letters_taken
left_fit t c = letters_within (components t) c

-- ---- the components of a template, as they stand in its slots

-- cs are the slots of a sound template, and w has its letters
pub record Held (t : Template) (cs : List Component) (w : List ℕ) : Type 0 where
  pub sound : SoundTemplate t
  pub slotted : cs ≡ slots t
  pub fits : size t ≤ length w

-- those of the n components in cs from the component c on
abbrev pub onward : List Component → ℕ → ℕ → List Component
onward cs n c = drop c (take n cs)

module _ {t : Template} {cs : List Component} {w : List ℕ} (held : Held t cs w) where
  counted : length (take t.count cs) ≡ t.count
  counted = rw (held.slotted, length-take) (omega (arith, held.sound.few))

  -- each keeps to the limits
  pub component_sound : (c : ℕ) → c < t.count → SoundComponent (get_or cs c none)
  component_sound c h = rw held.slotted (held.sound.each c h)

  onward_step : (c : ℕ) → c < t.count → onward cs t.count c ≡ get_or cs c none ∷ onward cs t.count (suc c)
  onward_step c h = let l : c < length (take t.count cs) = rw counted h in drop-cons (take t.count cs) c none l ∙ rw (get_or-take t.count cs c none h)

  onward_end : (c : ℕ) → t.count ≤ c → onward cs t.count c ≡ []
  onward_end c h = drop_of_length-le (take t.count cs) {i = c} (rw counted h)

  letters_step : (c : ℕ) → c < t.count → letters_taken (onward cs t.count c) ≡ (get_or cs c none).length + letters_taken (onward cs t.count (suc c))
  unfolding letters_taken sum
  letters_step c h = rw (onward_step c h)

  letters_fit : (c : ℕ) → letters_taken (onward cs t.count c) ≤ length w
  unfolding size components letters_taken
  letters_fit c = let e : letters_taken (take t.count cs) ≡ size t = rw held.slotted in omega (arith, held.fits, letters_within (take t.count cs) c)

  -- the letters of the component c, which begin at b
  module _ (c b : ℕ) (within : c < t.count) (begins : b + letters_taken (onward cs t.count c) ≡ length w) where
    abbrev pub own : List ℕ
    own = take (b + (get_or cs c none).length - b) (drop b w)

    pub own_ends : b + (get_or cs c none).length ≤ length w
    own_ends = omega (arith, letters_step c within)

    own_length : length own ≡ (get_or cs c none).length
    own_length = simp (length-take, length-drop) (omega (arith, own_ends))

    -- its part after a component of n letters, and the parts from it on
    own_part : ℕ → Part
    own_part n = part_of by_bases n (get_or cs c none) own

    own_dealt : (n : ℕ) → deal by_bases n (onward cs t.count c) (drop b w) ≡ own_part n ∷ deal by_bases (get_or cs c none).length (onward cs t.count (suc c)) (drop (b + (get_or cs c none).length) w)
    unfolding own_part
    own_dealt n =
        let x = get_or cs c none in
        let left : 0 < length (drop b w) = simp length-drop (omega (arith, letters_step c within, (component_sound c within).some)) in
        let whole : b + x.length - b ≡ x.length = omega arith in
        rw (onward_step c within, deal_some by_bases n x (onward cs t.count (suc c)) (drop b w) left, drop-drop x.length b w, whole)

    -- with none before them
    aligned_dealt : aligned (onward cs t.count c) w ≡ deal by_bases 0 (onward cs t.count c) (drop b w)
    unfolding aligned
    aligned_dealt = let here : length w - letters_taken (onward cs t.count c) ≡ b = omega arith in rw here

    -- the pass of the last component
    pub last_made : (s : List ℕ) → suc c ≡ t.count → {y : List ℕ} → y ≡ map (ending own s) (run 1 (length s)) → y ≡ counts (aligned (onward cs t.count c) w) s
    unfolding deal own_part
    last_made s h e = e ∙ rw (aligned_dealt, own_dealt 0, onward_end (suc c) (omega arith)) (ending_counts 0 (get_or cs c none) own s)

  -- how far the start of component d may lie from that of c
  pub next_near : (c d : ℕ) → c < t.count → d < t.count → Apart (after (get_or cs d none) (get_or cs c none))
  next_near c d h l = sound_apart (component_sound c h) (component_sound d l)

  -- the pass of a component c before others, d the next
  pub next_made : (s : List ℕ) (c d b : ℕ) (follows : d ≡ suc c) (h : d < t.count) (k : c < t.count) (e : b + letters_taken (onward cs t.count c) ≡ length w) → {x y : List ℕ}
      → x ≡ counts (aligned (onward cs t.count d) w) s
      → y ≡ map (leading (own c b k e) (after (get_or cs d none) (get_or cs c none)) s x) (run 1 (length s))
      → y ≡ counts (aligned (onward cs t.count c) w) s
  unfolding own_part
  next_made s c d b follows h k e {x} {y} ex ey =
      let n = (get_or cs c none).length in
      let l : onward cs t.count (suc c) ≡ onward cs t.count d = rw follows in
      let e' : b + n + letters_taken (onward cs t.count d) ≡ length w = rw follows (omega (arith, letters_step c k)) in
      let some : 0 < length (own d (b + n) h e') = rw (own_length d (b + n) h e') (component_sound d h).some in
      let later : x ≡ counts (deal by_bases n (onward cs t.count d) (drop (b + n) w)) s = ex ∙ rw (aligned_dealt d (b + n) h e') (counts_after by_bases 0 n (onward cs t.count d) (drop (b + n) w) s) in
      ey ∙ rw (later, aligned_dealt c b k e, own_dealt c b k e 0, l, own_dealt d (b + n) h e' n) (leading_counts 0 (get_or cs c none) (own c b k e) s (own_part d (b + n) h e' n) _ some)

  -- no count is too large: k components follow, each at one of so many distances
  counts_most : (s : List ℕ) (k c : ℕ) → suc (c + k) ≡ t.count → (p : ℕ) → at_position (counts (aligned (onward cs t.count c) w) s) p ≤ (template_gap + 1) ^ k
  counts_most s zero c h p =
      let e : length w - letters_taken (onward cs t.count c) + letters_taken (onward cs t.count c) ≡ length w = omega (arith, letters_fit c) in
      rw pow-zero (ending_most _ s (length s) (sym (last_made c _ (omega arith) e s (omega arith) refl)) p)
  counts_most s (suc k) c h p =
      let e : length w - letters_taken (onward cs t.count c) + letters_taken (onward cs t.count c) ≡ length w = omega (arith, letters_fit c) in
      let next : suc c < t.count = omega arith in
      rw pow-succ' (leading_most _ _ s _ _ (length s) (next_near c (suc c) (omega arith) next).few (counts_most s k (suc c) (omega arith)) (sym (next_made s c (suc c) _ refl next (omega arith) e refl refl)) p)

  pub counts_small : (s : List ℕ) (c : ℕ) → c < t.count → {y : List ℕ} → y ≡ counts (aligned (onward cs t.count c) w) s → (p : ℕ) → at_position y p ≤ most_ways
  counts_small s c h e p =
      let k : suc (c + (t.count - suc c)) ≡ t.count = omega arith in
      let few : t.count - suc c ≤ template_components - 1 = omega (arith, held.sound.few) in
      rw e (le_trans (counts_most s (t.count - suc c) c k p) (pow-le-pow_right {n = template_gap + 1} (omega arith) few))
