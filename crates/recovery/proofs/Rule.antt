-- The rule of a recovery, part by part: what 1 to 8, 24 and 14 refuse is refused; else 15 is refused if the first row lies past the
-- list, and else the rows that went out are a page of it, since each has a number for the sequence and one for each component.
use mathlib.Core.Path.{◌≡◌, refl, sym, ap, ◌∙◌}
use mathlib.Core.List.{List, [], ◌∷◌, ◌++◌, Memᴰ}
use Prim.Native.Nat.{ℕ, suc, ◌-◌, ◌≤◌, ◌<◌}
use native.Mathlib.Omega.{arith}
use lib.ListN.{length, drop, drop_of_length-le}
use borrow.Author.Tests.{lt-ltb, le-ltb}
use Rattle.descent.specs.Buffer.{buffer, progress, emits}
use Rattle.descent.specs.declared.Progress.{Progress}
use Rattle.descent.proofs.Buffer.{emits_none, emits_passed}
use Rattle.descent.proofs.RightFlags.{parts_count}
use Rattle.recovery.specs.Rule.{first_checks, rows_rule}
use Rattle.recovery.proofs.Page.{emits_page}
use Rattle.rules.specs.Calls.{recover_rule}
use Rattle.rules.specs.Recovery.{whole_list}
use Rattle.rules.specs.Recovery as list
use Rattle.rules.specs.Refusals.{◌else◌, first, check14, check15, set_checks, recover_checks}
use Rattle.rules.specs.Sequences.{sequences}
use Rattle.rules.specs.Sound.{SoundSet, SoundTemplate}
use Rattle.rules.specs.Support.{occurrence_rows, parts}
use Rattle.rules.specs.Template.{size}
use Rattle.rules.specs.Told.{Told, fine, refused, gives, refuses}
use Rattle.rules.specs.declared.Template.{Template}
use Rattle.rules.specs.declared.Recovered.{Recovered}
use Rattle.rules.proofs.Occurs.{parts_worded, rows_are}
use Rattle.rules.proofs.Sound.{set_sound, template_sound}
use Rattle.rules.proofs.Verdicts.{first_append, first_both, else_assoc, else_fine}
use Rattle.checks.specs.CheckOrders.{template_checks}

-- ---- 1 to 8, 24 and 14

-- the sequences, the template, the motif
pub in_turn : (letters lengths : List ℕ) (t : Template) (m : ℕ) → first (first_checks letters lengths t m) ≡ first (set_checks letters lengths) else (first (template_checks t) else check14 t m)
unfolding first
in_turn letters lengths t m = simp (else_assoc, else_fine)

-- what they pass is sound
pub first_sound : (letters lengths : List ℕ) (t : Template) (m : ℕ) → fine ≡ first (first_checks letters lengths t m) → SoundSet letters lengths × SoundTemplate t
first_sound letters lengths t m e =
    let h = (first_both (set_checks letters lengths) (template_checks t ++ (check14 t m ∷ []))).0 (sym e) in
    let k = (first_both (template_checks t) (check14 t m ∷ [])).0 h.1 in
    (set_sound letters lengths h.0, template_sound t k.0)

module _ (letters lengths : List ℕ) (t : Template) (m f : ℕ) (out : List ℕ) where
  -- the whole list
  abbrev whole : List (List ℕ)
  whole = occurrence_rows (parts t (size t) m) (sequences letters lengths)

  -- each row has a number for the sequence and one for each component
  row_width : SoundTemplate t → (row : List ℕ) → Memᴰ row whole → length row ≡ suc t.count
  row_width sound row h =
      let k = parts_count sound m in
      let r = (rows_are (parts t (size t) m) (sequences letters lengths) (parts_worded t sound (size t) m) (rw k sound.some) row).0 h in
      ap length r.3 ∙ ap suc (r.4.one_each ∙ k)

  -- 15 comes last
  then_15 : first (recover_checks letters lengths t m f) ≡ first (first_checks letters lengths t m) else check15 letters lengths t m f
  unfolding recover_checks first
  then_15 = first_append (first_checks letters lengths t m) (check15 letters lengths t m f ∷ []) ∙ ap (λ v. first (first_checks letters lengths t m) else v) (else_fine (check15 letters lengths t m f))

  -- what 1 to 8, 24 and 14 refuse is told, and the buffer stays
  pub rule_refused : {n p : ℕ} → refused n p ≡ first (first_checks letters lengths t m)
      → (refuses n p ≡ (recover_rule letters lengths t m f out).told) × (out ≡ (recover_rule letters lengths t m f out).out)
  unfolding recover_rule ◌else◌
  rule_refused e = rw (then_15, ← e) (refl, refl)

  -- what they pass is told by the rest of the rule
  pub rule_fine : fine ≡ first (first_checks letters lengths t m) → {told : Told Recovered} {out' : List ℕ}
      → told ≡ (rows_rule letters lengths t m f out).told → out' ≡ (rows_rule letters lengths t m f out).out
      → (told ≡ (recover_rule letters lengths t m f out).told) × (out' ≡ (recover_rule letters lengths t m f out).out)
  unfolding recover_rule rows_rule ◌else◌
  rule_fine e k q = rw (then_15, ← e) (k, q)

  -- ---- the rest: n is the length of the whole list, and all of it went out
  module _ {n : ℕ} (all : n ≡ length whole) {g : Progress} {out' : List ℕ} (went : buffer g out' ≡ emits (suc t.count) whole (buffer (progress f 0 0) out)) where
    -- a first row above it is refused, and nothing was written
    pub past_the_end : n < f → (refuses 15 0 ≡ (rows_rule letters lengths t m f out).told) × (out' ≡ (rows_rule letters lengths t m f out).out)
    unfolding rows_rule check15 whole_list
    past_the_end h =
        let none : drop f whole ≡ [] = drop_of_length-le whole {i = f} (omega arith) in
        let passed : emits (suc t.count) whole (buffer (progress f 0 0) out) ≡ buffer (progress (f - length whole) 0 0) out =
        emits_passed (suc t.count) whole f 0 0 out ∙ rw none (emits_none (suc t.count) (buffer (progress (f - length whole) 0 0) out)) in
        rw (← all, lt-ltb n f h) (refl, ap (λ s. s.table) (went ∙ passed))

    -- and else what went out is the page
    pub listed : f ≤ n → SoundTemplate t → (gives (record { rows = g.rows; length = n }) ≡ (rows_rule letters lengths t m f out).told) × (out' ≡ (rows_rule letters lengths t m f out).out)
    unfolding rows_rule check15 whole_list list.page
    listed h sound =
        let l : f ≤ length whole = rw all at h in
        let r = emits_page (suc t.count) whole (row_width sound) (omega arith) f out l went in
        rw (r.0, r.1, all, le-ltb (length whole) f l) (refl, refl)
