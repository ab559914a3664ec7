-- What the exported calls that are made of two refuse: a begin a profile that is none, what a new search refuses, and then 17; a leg
-- what a restore refuses, and nothing else.
use mathlib.Core.Path.{◌≡◌, refl, ap, ◌∙◌}
use mathlib.Core.List.{List, [], ◌∷◌, ◌++◌}
use Prim.Native.Nat.{ℕ}
use lib.ListN.{length}
use Rattle.rules.specs.Calls.{on_refusal, begun, begin_rule, leg_rule, unless, written_unless, save_rule, restore_rule}
use Rattle.rules.specs.Refusals.{◌else◌, first, check17, new_checks, search_checks, save_checks}
use Rattle.rules.specs.Saved.{bytes}
use Rattle.rules.specs.Told.{Verdict, fine, refused, gives, refuses}
use Rattle.rules.specs.declared.Search.{Search}
use Rattle.rules.specs.declared.Template.{Template}
use Rattle.rules.proofs.Begins.{begins}
use Rattle.rules.proofs.Saves.{restore_saved, restored_passes, restored_trimmed}
use Rattle.rules.proofs.Sound.{search_fine}
use Rattle.rules.proofs.Trimmed.{trimmed_same}
use Rattle.rules.proofs.Verdicts.{first_append}
use Rattle.exports.specs.Exported.{checked_written, save_begun, leg_of, leg_from, leg_outcome}
use Rattle.exports.specs.Numbers.{stopped_answer, leg_told}
use Rattle.exports.proofs.Resaved.{after_sound, after_template, after_long}

module _ (letters lengths : List ℕ) where
  -- where a search that the checks pass can be saved but for its room, 17 is checked after them
  saves_unless : (v : Verdict) (s : Search) (out : List ℕ) → (v ≡ fine → first (search_checks letters lengths s) ≡ fine)
      → save_begun letters lengths (unless v s) out ≡ written_unless (v else first (check17 (length (bytes s)) out ∷ [])) (length (bytes s)) (bytes s) out
  unfolding save_begun save_rule save_checks ◌else◌
  saves_unless fine s out h = rw (first_append, h refl)
  saves_unless (refused n p) s out h = refl

  -- 1 to 8, 24, 9, and 17 last; past them the bytes of the search that stands at its first candidate are written
  pub begin_saves : (t : Template) (quorum : ℕ) (out : List ℕ) → let s = begun letters lengths t quorum in
      save_begun letters lengths (begin_rule letters lengths t quorum) out
      ≡ written_unless (first (new_checks letters lengths t quorum ++ (check17 (length (bytes s)) out ∷ []))) (length (bytes s)) (bytes s) out
  unfolding begin_rule
  begin_saves t quorum out =
      let s = begun letters lengths t quorum in
      rw (first_append) (saves_unless (first (new_checks letters lengths t quorum)) s out (λ e. search_fine letters lengths s (begins letters lengths t quorum s (rw e)).sound))

  -- the same after the profile's check, which may refuse before them
  pub checked_saves : (v : Verdict) (t : Template) (quorum : ℕ) (out : List ℕ) → let s = begun letters lengths t quorum in
      save_begun letters lengths (on_refusal v refuses (begin_rule letters lengths t quorum)) out
      ≡ checked_written v (written_unless (first (new_checks letters lengths t quorum ++ (check17 (length (bytes s)) out ∷ []))) (length (bytes s)) (bytes s) out) out
  unfolding save_begun
  checked_saves fine t quorum out = begin_saves t quorum out
  checked_saves (refused n p) t quorum out = refl

  module _ (bs : List ℕ) (budget : ℕ) (motifs supports weights : List ℕ) where
    -- a leg is refused as the restore is, and leaves all as it was
    pub leg_refused : (n p : ℕ) → restore_rule letters lengths bs ≡ refuses n p → leg_outcome letters lengths bs budget motifs supports weights ≡ leg_of (stopped_answer n p 0 0 0) bs motifs supports weights
    unfolding leg_outcome leg_from
    leg_refused n p e = rw e

    -- a leg of bytes that restore is not refused, and leaves bytes of the same length
    module _ (s : Search) (e : restore_rule letters lengths bs ≡ gives s) where
      pub leg_runs : (leg_outcome letters lengths bs budget motifs supports weights).numbers.number ≡ 0
      unfolding leg_outcome leg_from leg_told leg_rule
      leg_runs = rw (e, restored_passes letters lengths bs s e)

      pub leg_long : length (leg_outcome letters lengths bs budget motifs supports weights).saved ≡ length bs
      unfolding leg_outcome leg_from
      leg_long = rw e (after_long letters lengths s budget motifs supports weights bs e)

      -- that restore to the search where the leg left it
      pub leg_restores : restore_rule letters lengths (leg_outcome letters lengths bs budget motifs supports weights).saved
          ≡ gives (leg_rule letters lengths s budget motifs supports weights).told.search
      unfolding leg_outcome leg_from
      leg_restores =
          let p = restored_passes letters lengths bs s e in
          let t = after_template letters lengths s budget motifs supports weights p in
          rw e
          (restore_saved letters lengths _ (search_fine letters lengths _ (after_sound letters lengths s budget motifs supports weights p))
          ∙ ap gives (trimmed_same _ (rw t (restored_trimmed letters lengths bs s e))))
