-- One sequence after the other: the whole list is the rows of the first sequence, with its number in front, and then those of
-- the later ones.
use mathlib.Core.Path.{◌≡◌, refl, sym, ◌∙◌}
use mathlib.Core.List.{List, [], ◌∷◌, ◌++◌, map}
use Prim.Native.Nat.{ℕ, suc, ◌+◌, ◌-◌, ◌^◌, ◌≤◌, ◌<◌}
use native.Mathlib.Numerals.{add-one}
use native.Mathlib.Omega.{arith}
use lib.ListN.{length, take, drop, get_or, length-append, length-map, drop_of_length-le}
use lib.Seq.{drop-cons, drop-drop}
use Rattle.descent.specs.Buffer.{Buffer, emits, with_front}
use Rattle.descent.proofs.Buffer.{emits_append}
use Rattle.rules.specs.Letters.{value}
use Rattle.rules.specs.Occurrence.{occurrences}
use Rattle.rules.specs.Recovery.{whole_list}
use Rattle.rules.specs.Sequences.{split, sequences}
use Rattle.rules.specs.Sound.{SoundSet, SoundTemplate}
use Rattle.rules.specs.Support.{rows_from, occurrence_rows, parts}
use Rattle.rules.specs.Template.{Part, size}
use Rattle.rules.specs.declared.Template.{Template}
use Rattle.rules.proofs.Bound.{list_bound}
use Rattle.rules.proofs.Tables.{map_take, map_drop}

module _ (w : ℕ) (cs : List Part) (ns l : List ℕ) where
  -- a buffer after the rows of the sequences from i on, whose letters begin at b
  unfoldable pub going_through : ℕ → ℕ → Buffer → Buffer
  going_through i b s = emits w (rows_from (i + 1) cs (split (drop i ns) (drop b (map value l)))) s

  -- from the first on they are the whole list
  pub through_all : (s : Buffer) → going_through 0 0 s ≡ emits w (occurrence_rows cs (sequences l ns)) s
  unfolding going_through occurrence_rows sequences
  through_all s = refl

  -- past the last there are none
  pub through_none : (i b : ℕ) (s : Buffer) → length ns ≤ i → going_through i b s ≡ s
  unfolding going_through split rows_from emits
  through_none i b s h = rw (drop_of_length-le ns {i = i} h)

  -- first those of sequence i
  through_on : (i b : ℕ) (s : Buffer) → i < length ns
      → going_through i b s ≡ going_through (i + 1) (b + get_or ns i 0) (emits w (with_front ((i + 1) ∷ []) (occurrences cs (map value (take (get_or ns i 0) (drop b l))))) s)
  unfolding going_through split rows_from with_front
  through_on i b s h =
      rw (add-one i, drop-cons ns i 0 h, drop-drop (get_or ns i 0) b (map value l), add-one (suc i), map_drop value b l, map_take value (get_or ns i 0) (drop b l))
      (emits_append w _ _ s)

  -- so after the turn of sequence i there is as much left to do
  pub through_again : (i b e : ℕ) (s : Buffer) {s' x : Buffer} {z : List ℕ} → i < length ns → e ≡ b + get_or ns i 0 → z ≡ take (e - b) (drop b l)
      → s' ≡ emits w (with_front ((i + 1) ∷ []) (occurrences cs (map value z))) s → going_through i b s ≡ x → going_through (i + 1) e s' ≡ x
  through_again i b e s h q p k r = let d : e - b ≡ get_or ns i 0 = omega arith in rw (k, p, d, q) (sym (through_on i b s h) ∙ r)

-- ---- how many there are

numbered_length : (i : ℕ) (xs rows : List (List ℕ)) → length (map (λ t. i ∷ t) xs ++ rows) ≡ length xs + length rows
numbered_length i xs rows = rw (length-append (map (λ t. i ∷ t) xs) rows, length-map xs (λ t. i ∷ t))

module _ (cs : List Part) (ns l : List ℕ) where
  -- the rows of the sequences from i on, whose letters begin at b
  unfoldable pub left : ℕ → ℕ → ℕ
  left i b = length (rows_from (i + 1) cs (split (drop i ns) (drop b (map value l))))

  -- from the first on they are all
  pub left_all : left 0 0 ≡ length (occurrence_rows cs (sequences l ns))
  unfolding left occurrence_rows sequences
  left_all = refl

  -- past the last there are none
  pub left_none : (i b : ℕ) → length ns ≤ i → left i b ≡ 0
  unfolding left split rows_from
  left_none i b h = rw (drop_of_length-le ns {i = i} h)

  -- those of sequence i, and of the later ones
  pub left_more : (i b e : ℕ) {z : List ℕ} → i < length ns → e ≡ b + get_or ns i 0 → z ≡ take (e - b) (drop b l)
      → left i b ≡ length (occurrences cs (map value z)) + left (i + 1) e
  unfolding left split rows_from
  left_more i b e h q p =
      let d : e - b ≡ get_or ns i 0 = omega arith in
      rw (p, d, q, add-one i, drop-cons ns i 0 h, drop-drop (get_or ns i 0) b (map value l), add-one (suc i), map_drop value b l, map_take value (get_or ns i 0) (drop b l))
      (numbered_length (suc i) (occurrences cs (map value (take (get_or ns i 0) (drop b l)))) (rows_from (suc (suc i)) cs (split (drop (suc i) ns) (drop (b + get_or ns i 0) (map value l)))))

-- fewer than a number of 64 bits holds
pub left_few : {t : Template} → SoundTemplate t → (letters lengths : List ℕ) → SoundSet letters lengths → (m : ℕ) → left (parts t (size t) m) lengths letters 0 0 < 2 ^ 64
unfolding whole_list
left_few {t} sound letters lengths set m = rw (left_all (parts t (size t) m) lengths letters) (omega (arith, list_bound t sound letters lengths set m))
