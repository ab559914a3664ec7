-- Save and restore, over their rules: a search that passes its checks comes back from its own bytes, and so from what a save wrote; bytes
-- that restore are those of the search that they give, and so saving it again writes them; and a save that was cut short is refused.
use mathlib.Core.Path.{◌≡◌, refl, sym, ap, ◌∙◌}
use mathlib.Core.Logic.{◌↔◌}
use mathlib.Core.List.{List}
use Prim.Native.Nat.{ℕ, ◌+◌, ◌*◌, ◌≤◌, ◌<◌}
use native.Mathlib.Omega.{arith}
use lib.ListN.{length, take}
use lib.Seq.{take-append-le}
use Rattle.rules.specs.Calls.{unless, trimmed_search, written_unless, save_rule, restore_rule}
use Rattle.rules.specs.Limits.{record_bytes, record_extra}
use Rattle.rules.specs.Lists.{put}
use Rattle.rules.specs.Refusals.{first, is_passing, search_checks, restore_checks, save_checks}
use Rattle.rules.specs.Relay.{RefusedAsCut}
use Rattle.rules.specs.Saved.{bytes, read_search, read_template, Bytes}
use Rattle.rules.specs.Sequences.{sequences}
use Rattle.rules.specs.Template.{trimmed}
use Rattle.rules.specs.Told.{Verdict, fine, refused, gives}
use Rattle.rules.specs.Walk.{ended_place}
use Rattle.rules.specs.declared.Search.{Search}
use Rattle.rules.proofs.Records.{bytes_counted}
use Rattle.rules.proofs.Rewritten.{bytes_again, read_trimmed}
use Rattle.rules.proofs.RoundTrip.{Fits, sound_fits, search_back, saved_sized, saved_laid_out}
use Rattle.rules.proofs.Sound.{SoundSearch, SoundBytes, search_sound, search_fine, save_sound, save_fine, restore_sound, restore_fine}
use Rattle.rules.proofs.Tables.{put_front}
use Rattle.rules.proofs.Trimmed.{trimmed_sound, trimmed_rule, walk_trimmed}
use Rattle.rules.proofs.Truncated.{cut_refused}

-- where something is given, the checks found nothing, and it is what follows them
pub unless_gives : {A : Type 0} (v : Verdict) (a s : A) → unless v a ≡ gives s → (v ≡ fine) × (s ≡ a)
unless_gives fine a s e = (refl, cc)
unless_gives (refused n p) a s e = let z : ◌≡◌ {A = ℕ} 0 1 = cc in absurd (omega arith)

-- and where something is told of what was written, that was put to the front of the buffer
pub written_gives : {A : Type 0} (v : Verdict) (a c : A) (xs out : List ℕ) → (written_unless v a xs out).told ≡ gives c
    → (v ≡ fine) × (c ≡ a) × ((written_unless v a xs out).out ≡ put xs out)
written_gives fine a c xs out e = (refl, cc, refl)
written_gives (refused n p) a c xs out e = let z : ◌≡◌ {A = ℕ} 0 1 = cc in absurd (omega arith)

module _ (letters lengths : List ℕ) where
  -- bytes restore exactly if they are well formed and hold a search that passes its checks, and give that search
  pub restore_exactly : (bs : List ℕ) (s : Search) → (restore_rule letters lengths bs ≡ gives s) ↔ (SoundBytes letters lengths bs × (s ≡ read_search bs))
  unfolding restore_rule
  restore_exactly bs s = (
    λ e. let u = unless_gives (first (restore_checks letters lengths bs)) (read_search bs) s e in (restore_sound letters lengths bs u.0, u.1),
    λ h. rw (restore_fine letters lengths bs h.0, h.1),
  )

  -- a search that passes its checks fits the fields of its records
  pub checked_fits : (s : Search) → SoundSearch letters lengths s → Fits s
  checked_fits s o = sound_fits letters lengths s o.set o.template o.count o.total o.most o.place

  -- and passes them with nothing in what it does not use
  trimmed_passes : (s : Search) → SoundSearch letters lengths s → SoundSearch letters lengths (trimmed_search s)
  unfolding is_passing
  trimmed_passes s o =
      record {
        set = o.set;
        template = trimmed_sound s.template o.template;
        place = trimmed_rule s.template s.place ∙ o.place;
        count = o.count;
        total = o.total;
        some = o.some;
        most = o.most;
        passes = rw (walk_trimmed s.template s.quorum (sequences letters lengths)) o.passes;
      }

  -- such a search, saved and restored over the same sequences, is the search again, so trimmed
  pub restore_saved : (s : Search) → first (search_checks letters lengths s) ≡ fine → restore_rule letters lengths (bytes s) ≡ gives (trimmed_search s)
  restore_saved s e =
      let o = search_sound letters lengths s e in
      let f = checked_fits s o in
      let q : read_search (bytes s) ≡ trimmed_search s = search_back s f in
      (restore_exactly (bytes s) (trimmed_search s)).1 (record { sized = saved_sized s f.count; laid_out = saved_laid_out s f o.place; search = rw q (trimmed_passes s o) }, sym q)

  module _ (bs : List ℕ) (s : Search) (e : restore_rule letters lengths bs ≡ gives s) where
    -- a restored search passes its checks,
    pub restored_passes : first (search_checks letters lengths s) ≡ fine
    restored_passes = let h = (restore_exactly bs s).0 e in rw h.1 (search_fine letters lengths (read_search bs) h.0.search)

    -- has nothing in what it does not use,
    pub restored_trimmed : trimmed s.template ≡ s.template
    unfolding read_search
    restored_trimmed = let h = (restore_exactly bs s).0 e in rw h.1 (read_trimmed bs)

    -- and is saved as the bytes that it was restored from
    pub save_restored : Bytes bs → bytes s ≡ bs
    unfolding read_search read_template
    save_restored b = let h = (restore_exactly bs s).0 e in ap bytes h.1 ∙ bytes_again bs b h.0.sized h.0.search.template.few h.0.laid_out

    -- which, cut short anywhere, are refused over any sequences
    pub restored_cut : (n : ℕ) → n < length bs → RefusedAsCut (take n bs)
    restored_cut n h = cut_refused bs n ((restore_exactly bs s).0 e).0.sized h

  -- A SAVE of a search that passes its checks is not refused where there is room, and tells its length
  pub saves : (s : Search) (out : List ℕ) → first (search_checks letters lengths s) ≡ fine → let n = record_bytes * (s.template.count + record_extra) in n ≤ length out
      → (save_rule letters lengths s out).told ≡ gives n
  unfolding save_rule
  saves s out e h =
      let o = search_sound letters lengths s e in
      let n : length (bytes s) ≡ record_bytes * (s.template.count + record_extra) = bytes_counted s o.template.few in
      rw (save_fine letters lengths s out o (omega (arith, n, h)), n)

  -- what it wrote are the bytes of the search, which passed its checks
  wrote : (s : Search) (out : List ℕ) (k : ℕ) → (save_rule letters lengths s out).told ≡ gives k
      → SoundSearch letters lengths s × (k ≡ length (bytes s)) × (take k (save_rule letters lengths s out).out ≡ bytes s)
  unfolding save_rule
  wrote s out k e =
      let w = written_gives (first (save_checks letters lengths s out)) (length (bytes s)) k (bytes s) out e in
      ((save_sound letters lengths s out w.0).0, w.1, rw w.2 (put_front k (bytes s) out (sym w.1)))

  -- so it is restored as the same search, trimmed,
  pub saved_restores : (s : Search) (out : List ℕ) (k : ℕ) → (save_rule letters lengths s out).told ≡ gives k
      → restore_rule letters lengths (take k (save_rule letters lengths s out).out) ≡ gives (trimmed_search s)
  saved_restores s out k e = let w = wrote s out k e in rw w.2 (restore_saved s (search_fine letters lengths s w.0))

  -- an ended one as ended,
  pub ended_restores : (s r : Search) (out : List ℕ) (k : ℕ) → (save_rule letters lengths s out).told ≡ gives k → s.place ≡ ended_place
      → restore_rule letters lengths (take k (save_rule letters lengths s out).out) ≡ gives r → r.place ≡ ended_place
  ended_restores s r out k e p q = let h : gives (trimmed_search s) ≡ gives r = sym (saved_restores s out k e) ∙ q in cc

  -- a restored search is saved, where there is room, as the bytes that it was restored from,
  pub saved_again : (bs : List ℕ) (s : Search) (out : List ℕ) → restore_rule letters lengths bs ≡ gives s → Bytes bs → length bs ≤ length out
      → save_rule letters lengths s out ≡ record { told = gives (length bs); out = put bs out }
  unfolding save_rule
  saved_again bs s out e b h =
      let q : bytes s ≡ bs = save_restored bs s e b in
      let l : length (bytes s) ≤ length out = omega (arith, h, ap length q) in
      rw (save_fine letters lengths s out (search_sound letters lengths s (restored_passes bs s e)) l, q)

  -- and what a save wrote, cut short anywhere, is refused
  pub saved_cut : (s : Search) (out : List ℕ) (k n : ℕ) → (save_rule letters lengths s out).told ≡ gives k → n < k → RefusedAsCut (take n (save_rule letters lengths s out).out)
  unfolding save_rule put
  saved_cut s out k n e h =
      let w = written_gives (first (save_checks letters lengths s out)) (length (bytes s)) k (bytes s) out e in
      let o = (save_sound letters lengths s out w.0).0 in
      let q : n ≤ length (bytes s) = omega (arith, w.1) in
      rw (w.2, take-append-le n (bytes s) _ q) (cut_refused (bytes s) n (saved_sized s o.template.few) (omega (arith, w.1)))
