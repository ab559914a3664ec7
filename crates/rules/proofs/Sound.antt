-- What the checks give: each call's checks pass exactly if what it is given is sound. None of a list refuses exactly if
-- each is fine, and EachCheck.antt has what each says.
use mathlib.Core.Path.{◌≡◌, refl}
use mathlib.Core.Bool.{true}
use mathlib.Core.List.{List, [], ◌∷◌}
use Prim.Native.Nat.{ℕ, ◌≤◌, ◌<◌}
use native.Mathlib.Omega.{arith}
use lib.ListN.{length}
use Rattle.rules.specs.Join.{is_rising}
use Rattle.rules.specs.Limits.{template_length, template_gap}
use Rattle.rules.specs.Recovery.{whole_list}
use Rattle.rules.specs.Refusals.{first, check5, check6, check7, check8, check9, check10, check11, is_passing, check14, check15, check17, check21, check22, check24, set_checks, value_checks, new_checks, restore_checks, search_checks, save_checks, recover_checks, join_checks}
use Rattle.rules.specs.Saved.{bytes, is_sized, is_laid_out, meets_place_rule, read_search}
use Rattle.rules.specs.Sequences.{sequences}
use Rattle.rules.specs.Sound.{SoundSet, SoundTemplate}
use Rattle.rules.specs.Support.{valid}
use Rattle.rules.specs.Template.{size}
use Rattle.rules.specs.Told.{Verdict, fine}
use Rattle.rules.specs.declared.Search.{Search}
use Rattle.rules.specs.declared.Template.{Template}
use Rattle.rules.proofs.Components.{components_at, components_length}
use Rattle.rules.proofs.Searches.{profile_proper}
use Rattle.rules.proofs.EachCheck.{check1_fine, check2_fine, check3_fine, check4_fine, check5_fine, check6_fine, check7_fine, check8_fine, check9_fine, check10_fine, check12_fine, check13_fine, check14_fine, check15_fine, check6_head_fine, check8_range_fine, check16_fine, check17_fine, check23_fine, check24_fine}
use Rattle.rules.proofs.LaidOut.{laid_out_passes}
use Rattle.rules.proofs.Verdicts.{first_both, none_of, Fine, all_fine}

-- ---- the sequences and the template

module _ (letters lengths : List ℕ) where
  -- what 1 to 4 pass is sound, and back
  pub set_sound : first (set_checks letters lengths) ≡ fine → SoundSet letters lengths
  set_sound e =
      let c = none_of (set_checks letters lengths) e in
      let n = (check1_fine lengths).0 (c 0) in
      record {
        some = n.0;
        few = n.1;
        short = (check2_fine letters).0 (c 1);
        adds = (check3_fine letters lengths).0 (c 2);
        spelt = (check4_fine letters).0 (c 3);
      }

  pub set_fine : SoundSet letters lengths → first (set_checks letters lengths) ≡ fine
  set_fine s =
      all_fine (set_checks letters lengths)
      ((check1_fine lengths).1 (s.some, s.few), ((check2_fine letters).1 s.short, ((check3_fine letters lengths).1 s.adds, ((check4_fine letters).1 s.spelt, tt))))

module _ (t : Template) where
  -- a template from what each of 5 to 8 and 24 says
  from_checks : check5 t ≡ fine → check6 t ≡ fine → check7 t ≡ fine → check8 t ≡ fine → check24 t ≡ fine → SoundTemplate t
  from_checks e5 e6 e7 e8 e24 =
      let n = (check5_fine t).0 e5 in
      let l = (check6_fine t n.1).0 e6 in
      let g = (check8_fine t n.1).0 e8 in
      let z = (g 0 n.0).2 refl in
      record {
        some = n.0;
        few = n.1;
        deep = omega (arith, (check7_fine t).0 e7, (profile_proper t).short);
        short = (check7_fine t).0 e7;
        each = λ i h. record { some = (l i h).0; short = (l i h).1; ordered = (g i h).0; near = (g i h).1 };
        within = λ i h. rw (components_at t i h) at ((check24_fine t).0 e24 i (rw (components_length t n.1) h));
        low = z.0;
        high = z.1;
      }

  module _ (s : SoundTemplate t) where
    fine5 : check5 t ≡ fine
    fine5 = (check5_fine t).1 (s.some, s.few)

    fine6 : check6 t ≡ fine
    fine6 = (check6_fine t s.few).1 (λ i h. ((s.each i h).some, (s.each i h).short))

    fine7 : check7 t ≡ fine
    fine7 = (check7_fine t).1 s.short

    fine8 : check8 t ≡ fine
    fine8 = (check8_fine t s.few).1 (λ i h. ((s.each i h).ordered, (s.each i h).near, λ q. rw q (s.low, s.high)))

    fine24 : check24 t ≡ fine
    fine24 = (check24_fine t).1 (λ i h. let l : i < t.count = rw (components_length t s.few) at h in rw (components_at t i l) (s.within i l))

  -- what 5 to 8 and 24 pass is sound
  pub template_sound : first (check5 t ∷ check6 t ∷ check7 t ∷ check8 t ∷ check24 t ∷ []) ≡ fine → SoundTemplate t
  template_sound e = let c = none_of (check5 t ∷ check6 t ∷ check7 t ∷ check8 t ∷ check24 t ∷ []) e in from_checks (c 0) (c 1) (c 2) (c 3) (c 4)

-- ---- the calls

-- what a new search passes
pub record SoundNew (letters lengths : List ℕ) (t : Template) (quorum : ℕ) : Type 0 where
  pub set : SoundSet letters lengths
  pub template : SoundTemplate t
  pub some : 1 ≤ quorum
  pub most : quorum ≤ length lengths

-- what a leg or a save passes
pub record SoundSearch (letters lengths : List ℕ) (s : Search) : Type 0 where
  pub set : SoundSet letters lengths
  pub template : SoundTemplate s.template
  pub place : meets_place_rule s.template s.place ≡ true
  pub count : s.set.sequences ≡ length lengths
  pub total : s.set.letters ≡ length letters
  pub some : 1 ≤ s.quorum
  pub most : s.quorum ≤ length lengths
  pub passes : is_passing letters lengths s ≡ true

-- what a restore passes
pub record SoundBytes (letters lengths bs : List ℕ) : Type 0 where
  pub sized : is_sized bs ≡ true
  pub laid_out : is_laid_out bs ≡ true
  pub search : SoundSearch letters lengths (read_search bs)

-- what a recovery passes
pub record SoundRecovery (letters lengths : List ℕ) (t : Template) (m f : ℕ) : Type 0 where
  pub set : SoundSet letters lengths
  pub template : SoundTemplate t
  pub motif : valid t (size t) m ≡ true
  pub row : f ≤ length (whole_list t (sequences letters lengths) m)

-- what a join passes
pub record SoundJoin (xs ys : List ℕ) (head low high : ℕ) (out : List ℕ) : Type 0 where
  pub some : 1 ≤ head
  pub short : head ≤ template_length
  pub ordered : low ≤ high
  pub near : high ≤ template_gap
  pub first_rising : is_rising 0 xs ≡ true
  pub second_rising : is_rising 0 ys ≡ true
  pub room : length xs ≤ length out

module _ (letters lengths : List ℕ) where
  module _ (t : Template) (quorum : ℕ) where
    new_rest : List Verdict
    new_rest = check5 t ∷ check6 t ∷ check7 t ∷ check8 t ∷ check24 t ∷ check9 lengths quorum ∷ []

    -- what 1 to 9 and 24 pass is sound, and back
    pub new_sound : first (new_checks letters lengths t quorum) ≡ fine → SoundNew letters lengths t quorum
    unfolding new_checks new_rest
    new_sound e =
        let h = (first_both (set_checks letters lengths) new_rest).0 e in
        let c = none_of new_rest h.1 in
        let q = (check9_fine lengths quorum).0 (c 5) in
        record { set = set_sound letters lengths h.0; template = from_checks t (c 0) (c 1) (c 2) (c 3) (c 4); some = q.0; most = q.1 }

    pub new_fine : SoundNew letters lengths t quorum → first (new_checks letters lengths t quorum) ≡ fine
    unfolding new_checks new_rest
    new_fine s =
        let k = s.template in
        (first_both (set_checks letters lengths) new_rest).1
        (set_fine letters lengths s.set, all_fine new_rest (fine5 t k, (fine6 t k, (fine7 t k, (fine8 t k, (fine24 t k, ((check9_fine lengths quorum).1 (s.some, s.most), tt)))))))

  module _ (s : Search) where
    search_rest : List Verdict
    search_rest = check5 s.template ∷ value_checks letters lengths s

    -- a search that passes restore's order without 10 is sound, and back
    pub search_sound : first (search_checks letters lengths s) ≡ fine → SoundSearch letters lengths s
    unfolding search_checks search_rest
    search_sound e =
        let h = (first_both (set_checks letters lengths) search_rest).0 e in
        let c = none_of search_rest h.1 in
        let n = (check12_fine letters lengths s).0 (c 6) in
        let q = (check9_fine lengths s.quorum).0 (c 7) in
        record {
          set = set_sound letters lengths h.0;
          template = from_checks s.template (c 0) (c 2) (c 3) (c 4) (c 5);
          place = (check23_fine s).0 (c 1);
          count = n.0;
          total = n.1;
          some = q.0;
          most = q.1;
          passes = (check13_fine letters lengths s).0 (c 8);
        }

    -- the end of a restore's order, of a sound search
    fine_value : SoundSearch letters lengths s → Fine (value_checks letters lengths s)
    fine_value o =
        let k = o.template in
        ((check23_fine s).1 o.place, (fine6 s.template k, (fine7 s.template k, (fine8 s.template k, (fine24 s.template k, ((check12_fine letters lengths s).1 (o.count, o.total), ((check9_fine lengths s.quorum).1 (o.some, o.most), ((check13_fine letters lengths s).1 o.passes, tt))))))))

    pub search_fine : SoundSearch letters lengths s → first (search_checks letters lengths s) ≡ fine
    unfolding search_checks search_rest
    search_fine o =
        (first_both (set_checks letters lengths) search_rest).1
        (set_fine letters lengths o.set, all_fine search_rest (fine5 s.template o.template, fine_value o))

    -- with 17 last there is room for the save, and back
    pub save_sound : (out : List ℕ) → first (save_checks letters lengths s out) ≡ fine → SoundSearch letters lengths s × (length (bytes s) ≤ length out)
    unfolding save_checks
    save_sound out e =
        let room = check17 (length (bytes s)) out ∷ [] in
        let h = (first_both (search_checks letters lengths s) room).0 e in
        (search_sound h.0, (check17_fine (length (bytes s)) out).0 (none_of room h.1 0))

    pub save_fine : (out : List ℕ) → SoundSearch letters lengths s → length (bytes s) ≤ length out → first (save_checks letters lengths s out) ≡ fine
    unfolding save_checks
    save_fine out o l =
        let room = check17 (length (bytes s)) out ∷ [] in
        (first_both (search_checks letters lengths s) room).1 (search_fine o, all_fine room ((check17_fine (length (bytes s)) out).1 l, tt))

  module _ (bs : List ℕ) where
    restore_rest : List Verdict
    restore_rest = check10 bs ∷ check5 (read_search bs).template ∷ check11 bs ∷ check21 bs ∷ check22 bs ∷ value_checks letters lengths (read_search bs)

    -- bytes that pass restore's order are sound, and back
    pub restore_sound : first (restore_checks letters lengths bs) ≡ fine → SoundBytes letters lengths bs
    unfolding restore_checks restore_rest
    restore_sound e =
        let s : Search = read_search bs in
        let h = (first_both (set_checks letters lengths) restore_rest).0 e in
        let c = none_of restore_rest h.1 in
        let n = (check12_fine letters lengths s).0 (c 10) in
        let q = (check9_fine lengths s.quorum).0 (c 11) in
        record {
          sized = (check10_fine bs).0 (c 0);
          laid_out = (laid_out_passes bs).1 (c 2, c 3, c 4, c 5);
          search = record {
            set = set_sound letters lengths h.0;
            template = from_checks s.template (c 1) (c 6) (c 7) (c 8) (c 9);
            place = (check23_fine s).0 (c 5);
            count = n.0;
            total = n.1;
            some = q.0;
            most = q.1;
            passes = (check13_fine letters lengths s).0 (c 12);
          };
        }

    pub restore_fine : SoundBytes letters lengths bs → first (restore_checks letters lengths bs) ≡ fine
    unfolding restore_checks restore_rest
    restore_fine o =
        let l = (laid_out_passes bs).0 o.laid_out in
        (first_both (set_checks letters lengths) restore_rest).1 (
          set_fine letters lengths o.search.set,
          all_fine restore_rest ((check10_fine bs).1 o.sized, (fine5 (read_search bs).template o.search.template, (l.0, (l.1, (l.2, fine_value (read_search bs) o.search))))),
        )

  module _ (t : Template) (m f : ℕ) where
    recover_rest : List Verdict
    recover_rest = check5 t ∷ check6 t ∷ check7 t ∷ check8 t ∷ check24 t ∷ check14 t m ∷ check15 letters lengths t m f ∷ []

    -- what 1 to 8, 24, 14 and 15 pass is sound, and back
    pub recover_sound : first (recover_checks letters lengths t m f) ≡ fine → SoundRecovery letters lengths t m f
    unfolding recover_checks recover_rest
    recover_sound e =
        let h = (first_both (set_checks letters lengths) recover_rest).0 e in
        let c = none_of recover_rest h.1 in
        record {
          set = set_sound letters lengths h.0;
          template = from_checks t (c 0) (c 1) (c 2) (c 3) (c 4);
          motif = (check14_fine t m).0 (c 5);
          row = (check15_fine letters lengths t m f).0 (c 6);
        }

    pub recover_fine : SoundRecovery letters lengths t m f → first (recover_checks letters lengths t m f) ≡ fine
    unfolding recover_checks recover_rest
    recover_fine s =
        let k = s.template in
        (first_both (set_checks letters lengths) recover_rest).1 (
          set_fine letters lengths s.set,
          all_fine recover_rest (fine5 t k, (fine6 t k, (fine7 t k, (fine8 t k, (fine24 t k, ((check14_fine t m).1 s.motif, ((check15_fine letters lengths t m f).1 s.row, tt))))))),
        )

module _ (xs ys : List ℕ) (head low high : ℕ) (out : List ℕ) where
  -- what 6, 8, 16 and 17 pass is sound, and back
  pub join_sound : first (join_checks xs ys head low high out) ≡ fine → SoundJoin xs ys head low high out
  unfolding join_checks
  join_sound e =
      let c = none_of (join_checks xs ys head low high out) e in
      let h = (check6_head_fine head).0 (c 0) in
      let r = (check8_range_fine low high).0 (c 1) in
      let l = (check16_fine xs ys).0 (c 2) in
      record {
        some = h.0;
        short = h.1;
        ordered = r.0;
        near = r.1;
        first_rising = l.0;
        second_rising = l.1;
        room = (check17_fine (length xs) out).0 (c 3);
      }

  pub join_fine : SoundJoin xs ys head low high out → first (join_checks xs ys head low high out) ≡ fine
  unfolding join_checks
  join_fine s =
      all_fine (join_checks xs ys head low high out) (
        (check6_head_fine head).1 (s.some, s.short),
        ((check8_range_fine low high).1 (s.ordered, s.near), ((check16_fine xs ys).1 (s.first_rising, s.second_rising), ((check17_fine (length xs) out).1 s.room, tt))),
      )
