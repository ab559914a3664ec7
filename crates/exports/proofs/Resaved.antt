-- The search that a leg leaves can be written over the bytes that it was restored from: it passes its checks, and its save is as
-- long as they are.
use mathlib.Core.Path.{◌≡◌, ap, ◌∙◌}
use mathlib.Core.List.{List, append-nil}
use Prim.Native.Nat.{ℕ, ◌+◌, ◌*◌}
use native.Mathlib.Omega.{arith}
use lib.ListN.{length}
use lib.Seq.{drop-length}
use Rattle.records.specs.ReadWrite.{write_rule}
use Rattle.rules.specs.Calls.{stretch, leg_rule, restore_rule}
use Rattle.rules.specs.Limits.{record_bytes, record_extra}
use Rattle.rules.specs.Lists.{put}
use Rattle.rules.specs.Refusals.{first, search_checks}
use Rattle.rules.specs.Saved.{bytes, component_count, read_search, read_template}
use Rattle.rules.specs.Told.{fine, gives}
use Rattle.rules.specs.declared.Search.{Search}
use Rattle.rules.proofs.EachCheck.{check17_fine}
use Rattle.rules.proofs.Places.{sound_passing, moved_sound}
use Rattle.rules.proofs.Records.{bytes_counted, sized_says}
use Rattle.rules.proofs.Relayed.{leg_passing}
use Rattle.rules.proofs.Saves.{restore_exactly, restored_passes}
use Rattle.rules.proofs.Sound.{SoundSearch, SoundBytes, search_sound}

-- what is written over a list as long as itself
put_over : (xs table : List ℕ) → length xs ≡ length table → put xs table ≡ xs
unfolding put
put_over xs table e = rw (e, drop-length table) (append-nil xs)

-- bytes that restore are as long as the records of the search that they hold
sound_long : (letters lengths bs : List ℕ) → SoundBytes letters lengths bs → length bs ≡ record_bytes * ((read_search bs).template.count + record_extra)
unfolding read_search read_template component_count
sound_long letters lengths bs o = let z = sized_says bs o.sized in omega (arith, z.1, z.2)

module _ (letters lengths : List ℕ) (s : Search) (budget : ℕ) (motifs supports weights : List ℕ) where
  -- the search that a leg leaves
  abbrev pub after_leg : Search
  after_leg = (leg_rule letters lengths s budget motifs supports weights).told.search

  -- it passes its checks, and is the same but for its place
  pub after_sound : first (search_checks letters lengths s) ≡ fine → SoundSearch letters lengths after_leg
  unfolding leg_rule stretch
  after_sound e =
      let o = search_sound letters lengths s e in
      rw (after_leg, e) (moved_sound letters lengths s o _ (leg_passing letters lengths s o budget _ s.place (sound_passing letters lengths s o)))

  pub after_template : first (search_checks letters lengths s) ≡ fine → after_leg.template ≡ s.template
  unfolding leg_rule
  after_template e = rw (after_leg, e)

  module _ (bs : List ℕ) (e : restore_rule letters lengths bs ≡ gives s) where
    pub after_long : length (bytes after_leg) ≡ length bs
    after_long =
        let h = (restore_exactly letters lengths bs s).0 e in
        let p = restored_passes letters lengths bs s e in
        let n : after_leg.template.count ≡ (read_search bs).template.count = ap (λ t. t.count) (after_template p) ∙ ap (λ r. r.template.count) h.1 in
        omega (arith, n, sound_long letters lengths bs h.0, bytes_counted after_leg (after_sound p).template.few)

    -- so it is written, and is all that the bytes hold then
    pub resaved : (write_rule after_leg bs).out ≡ bytes after_leg
    resaved =
        let z = after_long in
        rw ((check17_fine (length (bytes after_leg)) bs).1 (omega arith)) (put_over (bytes after_leg) bs z)
