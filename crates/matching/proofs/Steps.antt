-- A candidate of a search: from what its last letter is added to, to its row and its support.
use mathlib.Core.List.{List, map}
use mathlib.Core.Path.{◌≡◌, sym, ap, ◌∙◌}
use Prim.Native.Nat.{ℕ, suc, ◌-◌, ◌/◌, ◌%◌, ◌≤◌, ◌<◌}
use native.Mathlib.Omega.{arith}
use lib.ListN.{length}
use Rattle.rules.proofs.Components.{components_at, components_length, components_some}
use Rattle.rules.proofs.Spelling.{spell_more, length_spell}
use Rattle.rules.specs.Lists.{keep}
use Rattle.rules.specs.Motif.{spell}
use Rattle.rules.specs.Profile.{profile_of, base_of}
use Rattle.rules.specs.Sequences.{sequences}
use Rattle.rules.specs.Sound.{SoundSet, SoundTemplate}
use Rattle.rules.specs.Support.{parts_in}
use Rattle.rules.specs.Template.{components, deal}
use Rattle.rules.specs.declared.Template.{Template}
use Rattle.rows.specs.Flags.{kept_flags, reached, last_by, has_left}
use Rattle.matching.specs.Path.{prefix_starts, before_next, Tests}
use Rattle.rows.specs.NextLetter.{At}
use Rattle.rows.specs.Set.{first_word, sequence, is_marked, tally, extended_at, is_extended_marked, Filled, Marked, Row, Source}
use Rattle.rows.proofs.ByFlags.{mark_same, letter_row, row_same, flags_tally}
use Rattle.rows.proofs.Grow.{grow}
use Rattle.rows.proofs.Last.{length_last, length_before_letter, length_reached}

-- a component is shorter than a word
pub small_letter : (t : Template) → SoundTemplate t → (j k i : ℕ) → At (components t) j k i → i < 16
small_letter t sound j k i a =
    let h : k < t.count = omega (arith, a.there, components_length t sound.few) in
    let e = components_at t k h in
    omega (arith, a.inside, ap (λ c. c.length) e, (sound.each k h).short)

-- the flags of a prefix are as many as the letters, and so are those that a letter is added to
pub prefix_long : (t : Template) (j m : ℕ) (s : List ℕ) → length (prefix_starts t j m s) ≡ length s
prefix_long t j m s = length_last reached length_reached _ s

pub before_long : (t : Template) (k i j m : ℕ) (s : List ℕ) → length (before_next reached t k i j m s) ≡ length s
before_long t k i j m s = length_before_letter reached length_reached (profile_of t).reading (components t) k i (spell (base_of t) j m) s

module _ (t : Template) (sound : SoundTemplate t) (j m k i : ℕ) (some : 1 ≤ j) (at : At (components t) (j - 1) k i) where
  -- one letter more, whatever a gap does
  pub more : (G : ℕ → ℕ → List ℕ → List ℕ) (s : List ℕ) → kept_flags (profile_of t).reading.fits (m % base_of t) i s (before_next G t k i (j - 1) (m / base_of t) s) ≡ last_by G (parts_in (profile_of t) t j m) s
  unfolding parts_in
  more G s =
      let e : suc (j - 1) ≡ j = omega arith in
      let w = spell (base_of t) (j - 1) (m / base_of t) in
      let a : At (components t) (length w) k i = rw (length_spell (base_of t) (j - 1) (m / base_of t)) at in
      sym (ap (λ (n : ℕ). last_by G (deal (profile_of t).reading 0 (components t) (spell (base_of t) n m)) s) (sym e)
      ∙ ap (λ (v : List ℕ). last_by G (deal (profile_of t).reading 0 (components t) v) s) (spell_more (base_of t) (j - 1) m)
      ∙ grow G (profile_of t).reading (m % base_of t) s (components t) (components_some sound) w k i a)

  -- its row
  pub candidate_row : (l ns : List ℕ) → SoundSet l ns → (row : List ℕ) → Source (before_next reached t k i (j - 1) (m / base_of t)) ns l row
      → first_word ns (length ns) ≤ length row → (letter : List ℕ) (by : ℕ) → Tests t ns l (m % base_of t) i letter by
      → (out : List ℕ) → Filled (is_marked row) (extended_at by ns letter row) ns out (length ns) → Marked (is_extended_marked by ns letter row) out 1024
      → Row (prefix_starts t j m) ns l out
  candidate_row l ns set row source wide letter by tests out q n =
      row_same ns l set.adds set.few _ (prefix_starts t j m) out
      (letter_row ns l set.adds set.few (before_next reached t k i (j - 1) (m / base_of t)) (before_long t k i (j - 1) (m / base_of t)) row source wide (profile_of t).reading.fits (m % base_of t) i letter by tests.same out q n)
      (more reached)

  -- and the new marks, written or not, are as many as the sequences in which a flag is left
  pub candidate_tally : (l ns : List ℕ) → SoundSet l ns → (row : List ℕ) → Source (before_next reached t k i (j - 1) (m / base_of t)) ns l row
      → first_word ns (length ns) ≤ length row → (letter : List ℕ) (by : ℕ) → Tests t ns l (m % base_of t) i letter by
      → tally (is_extended_marked by ns letter row) 0 1024 ≡ length (keep (λ b. b) (map (λ s. has_left (prefix_starts t j m s)) (sequences l ns)))
  candidate_tally l ns set row source wide letter by tests =
      flags_tally ns l set.adds set.few (prefix_starts t j m) (prefix_long t j m) (is_extended_marked by ns letter row)
      (λ n h. mark_same ns l set.adds set.few (before_next reached t k i (j - 1) (m / base_of t)) (before_long t k i (j - 1) (m / base_of t)) row source wide (profile_of t).reading.fits (m % base_of t) i letter by tests.same n h
      ∙ ap has_left (more reached (sequence ns l n)))
