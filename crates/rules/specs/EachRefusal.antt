-- The checks of Refusals.antt beside the sentences of Refused.antt. proofs/Refused.antt proves that each check says its sentence.
use Rattle.std.specs.Prelude.{◌≡◌, ◌↔◌, ◌⊎◌, List, ℕ, suc, ◌+◌, ◌*◌, ◌≤◌, ◌<◌, ◌^◌, length, get_or}
use Rattle.rules.specs.Limits.{letter_bases, letter_digits, profile_mixed, record_bytes, record_extra, template_components, template_length, template_letters, template_mixed, sequence_set_sequences, sequence_set_letters}
use Rattle.rules.specs.Lists.{sum}
use Rattle.rules.specs.Motif.{spell}
use Rattle.rules.specs.Profile.{profile_of}
use Rattle.rules.specs.Recovery.{whole_list}
use Rattle.rules.specs.Refusals.{check1, check2, check3, check4, check5, check6, check7, check8, check9, check10, check11, check12, check13, check14, check15, check6_head, check8_range, check16, check17, check21, check22, check23, check24}
use Rattle.rules.specs.Refused.{letters_in, Allows, Spells, CandidateIn, FirstBad, RefusesAt, RefusesIf, Outside, IsLetter, numbered, BadRange, BadGap, byte, WrongKind, NotBlank, RecordsLaid, saved_size, saved_lengths, saved_place, PlaceRule, BadList}
use Rattle.rules.specs.Saved.{bytes, read_search, record_count, component_count, read_profile, read_template}
use Rattle.rules.specs.Sequences.{sequences}
use Rattle.rules.specs.Template.{none, components, size, allowance_in}
use Rattle.rules.specs.Told.{fine}
use Rattle.rules.specs.Walk.{ended_place}
use Rattle.rules.specs.declared.Profile.TheVariants.{Exact, Mixed}
use Rattle.rules.specs.declared.Search.{Search}
use Rattle.rules.specs.declared.Template.{Template}

-- WHAT EACH REFUSAL SAYS: a check refuses, with its number, exactly if the paper's sentence holds of what it is given, and tells the place
-- that the paper names, or 0
pub record EachRefusal : Type 0 where
  -- 1: number of sequences
  pub one : (lengths : List ℕ) → RefusesIf (check1 lengths) 1 (Outside 1 sequence_set_sequences (length lengths))
  -- 2: letter buffer above 65,536 bytes
  pub two : (letters : List ℕ) → RefusesIf (check2 letters) 2 (sequence_set_letters < length letters)
  -- 3: lengths do not add up to the buffer
  pub three : (letters lengths : List ℕ) → RefusesIf (check3 letters lengths) 3 (sum lengths ≡ length letters → ⊥)
  -- 4: byte that is no letter, with the offset of the first
  pub four : (letters : List ℕ) → RefusesAt (check4 letters) 4 (FirstBad 0 (length letters) (λ o. IsLetter (get_or letters o 0) → ⊥))
  -- 5: number of components
  pub five : (t : Template) → RefusesIf (check5 t) 5 (Outside 1 template_components t.count)
  -- 6: component length, with the first such component; and of a join's head, with place 1
  pub six : (t : Template) → RefusesAt (check6 t) 6 (FirstBad 1 (length (components t)) (λ i. Outside 1 template_length (numbered t i).length))
  pub six_head : (head : ℕ) → RefusesAt (check6_head head) 6 (λ p. (p ≡ 1) × Outside 1 template_length head)
  -- 7: K above what the kind of search takes: 32 letters, and 16 in a mixed one
  pub seven : (t : Template) → RefusesIf (check7 t) 7 ((profile_of t).most < size t)
  pub seven_exact : (t : Template) → t.profile ≡ Exact → RefusesIf (check7 t) 7 (template_letters < size t)
  pub seven_mixed : (t : Template) → t.profile ≡ Mixed → RefusesIf (check7 t) 7 (template_mixed < size t)
  -- 8: gap range, also a first component's that is not 0, 0, with the first such component; in a join only l <= u, 0 to 255, with place 1
  pub eight : (t : Template) → RefusesAt (check8 t) 8 (FirstBad 1 (length (components t)) (λ i. BadGap i (numbered t i)))
  pub eight_range : (low high : ℕ) → RefusesAt (check8_range low high) 8 (λ p. (p ≡ 1) × BadRange low high)
  -- 9: quorum
  pub nine : (lengths : List ℕ) (quorum : ℕ) → RefusesIf (check9 lengths quorum) 9 (Outside 1 (length lengths) quorum)
  -- 10: saved bytes fewer than 16, record count below 2, or length not 16 times the count
  pub ten : (bs : List ℕ) → RefusesIf (check10 bs) 10 ((length bs < record_bytes) ⊎ (record_count bs < record_extra) ⊎ (length bs ≡ record_bytes * record_count bs → ⊥))
  -- 11: a record of the wrong kind, or a component's with the wrong number, with the first such record. By then 10 has been fine, and
  -- so these are all the records that the bytes have
  pub eleven : (bs : List ℕ) → RefusesAt (check11 bs) 11 (FirstBad 0 (component_count bs + record_extra) (WrongKind bs))
  -- 12: sequence or letter count differs from the lent ones
  pub twelve : (letters lengths : List ℕ) (s : Search)
      → RefusesIf (check12 letters lengths s) 12 ((s.set.sequences ≡ length lengths → ⊥) ⊎ (s.set.letters ≡ length letters → ⊥))
  -- 13: place is neither a candidate of this search nor the ended place. By then 23 has been fine, and so the place keeps its rule
  pub thirteen : (letters lengths : List ℕ) (s : Search) → PlaceRule s.template s.place
      → RefusesIf (check13 letters lengths s) 13 ((CandidateIn s.template s.quorum (sequences letters lengths) s.place → ⊥) × (s.place ≡ ended_place → ⊥))
  pub thirteen_fine : (letters lengths : List ℕ) (s : Search) → PlaceRule s.template s.place
      → (check13 letters lengths s ≡ fine) ↔ (CandidateIn s.template s.quorum (sequences letters lengths) s.place ⊎ (s.place ≡ ended_place))
  -- 14: a number that is not one of K allowed letters; in an exact search every letter is allowed, and so it is a number not below 4^K
  pub fourteen : (t : Template) (m : ℕ) → RefusesIf (check14 t m) 14 (Spells t (size t) m → ⊥)
  pub fourteen_exact : (t : Template) → t.profile ≡ Exact → (m : ℕ) → RefusesIf (check14 t m) 14 (letter_bases ^ size t ≤ m)
  -- what a number spells: in an exact search any letters, if it lies below 4 to the power of their number; in a mixed one it lies below 16
  -- to that power, and of each component the letters are among the fourteen, and no more than its allowance stand for several bases
  pub spells_exact : (t : Template) → t.profile ≡ Exact → (j m : ℕ) → Spells t j m ↔ (m < letter_bases ^ j)
  pub spells_mixed : (t : Template) → t.profile ≡ Mixed → (j m : ℕ)
      → Spells t j m ↔ ((m < letter_digits ^ j) × ((i : ℕ) → i < length (components t) → Allows Mixed (get_or (components t) i none) (letters_in t i (spell letter_digits j m))))
  -- 15: first row above the list's length
  pub fifteen : (letters lengths : List ℕ) (t : Template) (m f : ℕ)
      → RefusesIf (check15 letters lengths t m f) 15 (length (whole_list t (sequences letters lengths) m) < f)
  -- 16: join list not strictly rising, or a position outside 1 to 65,536
  pub sixteen : (xs ys : List ℕ) → RefusesIf (check16 xs ys) 16 (BadList xs ⊎ BadList ys)
  -- 17: save buffer shorter than the save, or join table shorter than the first list
  pub seventeen : (needed : ℕ) (out : List ℕ) → RefusesIf (check17 needed out) 17 (length out < needed)
  -- a save has 16 bytes for each record, and k + 2 records. By then 5 has been fine, and so k is no more than a template has
  pub seventeen_save : (s : Search) → s.template.count ≤ template_components → length (bytes s) ≡ record_bytes * (s.template.count + record_extra)
  -- 21: a byte that must be 0 is not, or the size record's byte 12 is neither 0 nor 1, with the first such record
  pub twenty_one : (bs : List ℕ) → RefusesAt (check21 bs) 21 (FirstBad 0 (component_count bs + record_extra) (NotBlank bs))
  -- 22: K is not the sum of lengths, with the record that it stands in, 0. By then 5 has been fine, and so there are no more components
  -- than a template has
  pub twenty_two : (bs : List ℕ) → component_count bs ≤ template_components → RefusesAt (check22 bs) 22 (λ p. (p ≡ 0) × (saved_size bs ≡ sum (saved_lengths bs) → ⊥))
  -- 23: the place breaks its rule, with the number that the place record has, or would have: it comes after those of the components
  pub twenty_three : (s : Search) → RefusesAt (check23 s) 23 (λ p. (p ≡ suc s.template.count) × (PlaceRule s.template s.place → ⊥))
  -- of saved bytes it is the K, the place and the record that they have, and the kind of search: a mixed one exactly if byte 12 of the
  -- size record is 1; a component's length is byte 2 of its record, and its allowance, in a mixed search, byte 3
  pub twenty_three_read : (bs : List ℕ) → component_count bs ≤ template_components
      → (size (read_search bs).template ≡ sum (saved_lengths bs)) × ((read_search bs).place ≡ saved_place bs) × ((read_search bs).template.count ≡ component_count bs)
  pub twenty_three_kind : (bs : List ℕ) → ((read_search bs).template.profile ≡ read_profile bs) × ((read_profile bs ≡ Mixed) ↔ (byte bs 0 12 ≡ profile_mixed))
  pub twenty_three_lengths : (bs : List ℕ) → component_count bs ≤ template_components → (i : ℕ) → 1 ≤ i → i ≤ component_count bs
      → (numbered (read_search bs).template i).length ≡ byte bs i 2
  pub twenty_three_allowances : (bs : List ℕ) → component_count bs ≤ template_components → read_profile bs ≡ Mixed → (i : ℕ) → 1 ≤ i → i ≤ component_count bs
      → (numbered (read_search bs).template i).allowance ≡ byte bs i 3
  -- 11 and 21 to 23 are fine exactly if each record keeps its layout, K is the sum of lengths, and the place keeps its rule
  pub layout_fine : (bs : List ℕ) → component_count bs ≤ template_components
      → ((check11 bs ≡ fine) × (check21 bs ≡ fine) × (check22 bs ≡ fine) × (check23 (read_search bs) ≡ fine))
      ↔ (RecordsLaid bs × (saved_size bs ≡ sum (saved_lengths bs)) × PlaceRule (read_template bs) (saved_place bs))
  -- 24: an allowance above the length; only a mixed search has allowances
  pub twenty_four : (t : Template)
      → RefusesIf (check24 t) 24 ((i : ℕ) × (i < length (components t)) × ((get_or (components t) i none).length < allowance_in t.profile (get_or (components t) i none)))
