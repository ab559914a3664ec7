-- The base sets that a motif is spelled in give its own parts: what is dropped from the front of a spelling leaves the spelling of
-- the later letters, so the components from one on have the last letters whatever stands before them.
use mathlib.Core.Path.{◌≡◌, refl, ap, ◌∙◌}
use mathlib.Core.List.{List, [], ◌∷◌, map}
use Prim.Native.Nat.{ℕ, zero, suc, ◌+◌, ◌-◌, ◌≤◌, ◌<◌}
use native.Mathlib.Omega.{arith}
use lib.ListN.{length, drop, get_or, length-map}
use Rattle.rules.specs.Letters.{value}
use Rattle.rules.specs.Lists.{sum}
use Rattle.rules.specs.Motif.{spell}
use Rattle.rules.specs.Profile.{profile_of, base_of}
use Rattle.rules.specs.Sound.{SoundTemplate}
use Rattle.rules.specs.Support.{parts, parts_in}
use Rattle.rules.specs.Template.{Reading, none, components, size, deal}
use Rattle.rules.specs.declared.Component.{Component}
use Rattle.rules.specs.declared.Template.{Template}
use Rattle.rules.proofs.Components.{components_some}
use Rattle.rules.proofs.EachKind.{kind_proper}
use Rattle.rules.proofs.Spelling.{length_spell, spell_below, spell_drop}
use Rattle.rules.proofs.Tables.{map_drop}
use Rattle.ways.specs.Counts.{counts, letters_taken, by_bases, aligned}
use Rattle.ways.proofs.Aligned.{deal_some, letters_within}
use Rattle.ways.proofs.SetsInBytes.{base_set, counts_sets}
use Rattle.ways.proofs.Counting.{counts_after}

-- the parts from the component c on are those of the later components and letters alone, after the k letters of the one before
drop_dealt : (R : Reading) (base n : ℕ) (cs : List Component) → ((i : ℕ) → i < length cs → 1 ≤ (get_or cs i none).length) → (c m : ℕ)
    → (k : ℕ) × (drop c (deal R n cs (spell base (letters_taken cs) m)) ≡ deal R k (drop c cs) (spell base (letters_taken (drop c cs)) m))
unfolding letters_taken sum deal
drop_dealt R base n cs some zero m = (n, refl)
drop_dealt R base n [] some (suc c) m = (n, refl)
drop_dealt R base n (x ∷ cs) some (suc c) m =
    let h : 0 < length (spell base (x.length + letters_taken cs) m) = rw length_spell (omega (arith, some 0 (omega arith))) in
    let r = drop_dealt R base x.length cs (λ i l. some (suc i) (omega arith)) c m in
    (r.0, rw (deal_some R n x cs _ h, spell_drop base x.length (letters_taken cs) m) r.1)

aligned_sets : (cs : List Component) (base n m : ℕ) → letters_taken cs ≤ n
    → aligned cs (map base_set (spell base n m)) ≡ deal by_bases 0 cs (map base_set (spell base (letters_taken cs) m))
unfolding aligned
aligned_sets cs base n m h =
    let e : n ≡ (n - letters_taken cs) + letters_taken cs = omega arith in
    let k : drop (n - letters_taken cs) (spell base n m) ≡ spell base (letters_taken cs) m =
    ap (λ j. drop (n - letters_taken cs) (spell base j m)) e ∙ spell_drop base (n - letters_taken cs) (letters_taken cs) m in
    rw (length-map (spell base n m) base_set, length_spell, map_drop base_set (n - letters_taken cs) (spell base n m), k)

-- ---- the motif m of a template, spelled in n base sets

module _ {t : Template} (sound : SoundTemplate t) (m n : ℕ) (fits : size t ≤ n) where
  parts_from : (c : ℕ) → (k : ℕ) × (drop c (parts t (size t) m) ≡ deal (profile_of t).reading k (drop c (components t)) (spell (base_of t) (letters_taken (drop c (components t))) m))
  unfolding size letters_taken parts_in
  parts_from c = drop_dealt (profile_of t).reading (base_of t) 0 (components t) (components_some sound) c m

  -- the counts from the component c on in one sequence
  pub counts_motif : (c : ℕ) (s : List ℕ) {w y : List ℕ} → w ≡ map base_set (spell (base_of t) n m)
      → y ≡ counts (aligned (drop c (components t)) w) s → y ≡ counts (drop c (parts t (size t) m)) (map value s)
  unfolding size letters_taken
  counts_motif c s ew ey =
      let cs = drop c (components t) in
      let v = spell (base_of t) (letters_taken cs) m in
      let fit : letters_taken cs ≤ n = omega (arith, letters_within (components t) c) in
      let digits = spell_below (base_of t) (letters_taken cs) m (kind_proper t.profile).pos in
      let r = parts_from c in
      rw (ey, ew, aligned_sets cs (base_of t) n m fit, counts_sets t.profile 0 cs v s digits, r.1) (counts_after (profile_of t).reading 0 r.0 cs v (map value s))
