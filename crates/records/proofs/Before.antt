-- 13 comes last: a restore's order is the one before 13, and then 13, for which all that it wants has been checked.
use mathlib.Core.Path.{◌≡◌, refl, sym, ◌∙◌}
use mathlib.Core.Bool.{true}
use mathlib.Core.List.{List, [], ◌∷◌, ◌++◌}
use Prim.Native.Nat.{ℕ}
use Rattle.rules.specs.Calls.{unless, restore_rule}
use Rattle.rules.specs.Refusals.{◌else◌, first, check5, check6, check7, check8, check24, check13, set_checks, restore_checks}
use Rattle.rules.specs.Saved.{read_search, meets_place_rule}
use Rattle.rules.specs.Sound.{SoundSet, SoundTemplate}
use Rattle.rules.specs.Told.{Verdict, fine, gives, refuses}
use Rattle.rules.specs.declared.Search.{Search}
use Rattle.rules.proofs.EachCheck.{check23_fine}
use Rattle.rules.proofs.First.{unless_refuses}
use Rattle.rules.proofs.Saves.{unless_gives}
use Rattle.rules.proofs.Sound.{set_sound, template_sound}
use Rattle.rules.proofs.Verdicts.{else_fine, first_append, first_both, none_of, all_fine}
use Rattle.records.specs.ReadWrite.{read_rule}
use Rattle.records.specs.RestoreOrder.{saved_checks_before_13, restore_checks_before_13}

-- THE ORDER BEFORE 13 is that of the sequences and then that of the bytes
pub in_turn : (letters lengths bs : List ℕ) → first (restore_checks_before_13 letters lengths bs) ≡ first (set_checks letters lengths) else first (saved_checks_before_13 letters lengths bs)
in_turn letters lengths bs = first_append (set_checks letters lengths) (saved_checks_before_13 letters lengths bs)

-- a check made after others
pub then_next : (us : List Verdict) {q r w v : Verdict} → r ≡ q else w → q ≡ first us → w ≡ v → r ≡ first (us ++ (v ∷ []))
unfolding first
then_next us {v = v} e f g = e ∙ rw (f, g, first_append us (v ∷ []), else_fine)

-- what 13 wants of a search
pub record Ready (letters lengths : List ℕ) (s : Search) : Type 0 where
  pub set : SoundSet letters lengths
  pub template : SoundTemplate s.template
  pub place : meets_place_rule s.template s.place ≡ true

module _ (letters lengths bs : List ℕ) where
  -- the whole order
  restore_last : first (restore_checks letters lengths bs) ≡ first (restore_checks_before_13 letters lengths bs) else check13 letters lengths (read_search bs)
  unfolding restore_checks
  restore_last = sym (then_next (restore_checks_before_13 letters lengths bs) refl refl refl)

  -- what is refused before 13 is refused so by the whole order
  pub refused_before : {n p : ℕ} → refuses n p ≡ read_rule letters lengths bs → refuses n p ≡ restore_rule letters lengths bs
  unfolding restore_rule ◌else◌
  refused_before {n} {p} e = rw (restore_last, (unless_refuses (first (restore_checks_before_13 letters lengths bs)) (read_search bs) n p).0 (sym e))

  -- bytes that pass before 13 hold a search that is ready for it
  ready_bytes : first (restore_checks_before_13 letters lengths bs) ≡ fine → Ready letters lengths (read_search bs)
  ready_bytes e =
      let s = read_search bs in
      let t = s.template in
      let rest = saved_checks_before_13 letters lengths bs in
      let h = (first_both (set_checks letters lengths) rest).0 e in
      let c = none_of rest h.1 in
      record {
        set = set_sound letters lengths h.0;
        template = template_sound t (all_fine (check5 t ∷ check6 t ∷ check7 t ∷ check8 t ∷ check24 t ∷ []) (c 1, (c 6, (c 7, (c 8, (c 9, tt))))));
        place = (check23_fine s).0 (c 5);
      }

  -- bytes of which a search was read pass before 13,
  module _ (s : Search) (e : gives s ≡ read_rule letters lengths bs) where
    pub passed : first (restore_checks_before_13 letters lengths bs) ≡ fine
    passed = (unless_gives _ (read_search bs) s (sym e)).0

    -- hold it,
    pub held : s ≡ read_search bs
    held = (unless_gives (first (restore_checks_before_13 letters lengths bs)) (read_search bs) s (sym e)).1

    -- leave the rest to 13,
    pub left_to_13 : restore_rule letters lengths bs ≡ unless (check13 letters lengths s) s
    unfolding restore_rule ◌else◌
    left_to_13 = rw (restore_last, passed, held)

    -- and it is ready for that
    pub ready : Ready letters lengths s
    ready = rw held (ready_bytes passed)
