-- What one call has checked, the next need not: a search that was read of a save passes every check of a leg up to 13, so that 13 alone
-- decides whether the save restores; and a new search and the one that a leg leaves pass all that a save checks but for the room.
use mathlib.Core.Path.{◌≡◌, refl, sym, ap, ◌∙◌}
use mathlib.Core.List.{List}
use Prim.Native.Nat.{ℕ}
use native.Mathlib.Omega.{arith}
use Rattle.checks.specs.CheckOrders.{value_checks_before_13}
use Rattle.places.specs.SearchOrder.{before_13}
use Rattle.places.proofs.ChecksInTurn as places
use Rattle.records.specs.ReadWrite.{read_rule, write_rule}
use Rattle.records.specs.RestoreOrder.{saved_checks_before_13}
use Rattle.records.proofs.Before as records
use Rattle.rules.specs.Calls.{unless, on_refusal, begin_rule, leg_rule, restore_rule}
use Rattle.rules.specs.Refusals.{first, set_checks, search_checks}
use Rattle.rules.specs.Saved.{bytes, read_search}
use Rattle.rules.specs.Sound.{SoundTemplate}
use Rattle.rules.specs.Told.{Verdict, fine, refused, Told, gives, refuses, LegTold, told_answer, told_leg}
use Rattle.rules.specs.declared.Leg.{Leg}
use Rattle.rules.specs.declared.Search.{Search}
use Rattle.rules.specs.declared.Template.{Template}
use Rattle.rules.proofs.Begins.{begins}
use Rattle.rules.proofs.Sound.{SoundSearch, search_fine}
use Rattle.rules.proofs.Verdicts.{else_both, first_both, none_of, all_fine}
use Rattle.saved.proofs.RoomLast.{save_told}
use Rattle.exports.specs.Between.{write_begun, saved_after}
use Rattle.exports.specs.Exported.{save_begun, leg_of, leg_from, leg_outcome}
use Rattle.exports.specs.Numbers.{stopped_answer, leg_told}
use Rattle.exports.specs.declared.told.Stopped.{Stopped}
use Rattle.exports.proofs.Resaved.{resaved}

-- BEGIN. A search that begins, once its profile was checked, passes its checks
module _ (letters lengths : List ℕ) (t : Template) (quorum : ℕ) where
  begun_sound : (v : Verdict) (s : Search) → on_refusal v refuses (begin_rule letters lengths t quorum) ≡ gives s → SoundSearch letters lengths s
  begun_sound fine s e = (begins letters lengths t quorum s e).sound
  begun_sound (refused n p) s e = let z : ◌≡◌ {A = ℕ} 0 1 = cc in absurd (omega arith)

  -- so its template is sound,
  module _ (v : Verdict) {b : Told Search} (f : b ≡ on_refusal v refuses (begin_rule letters lengths t quorum)) where
    pub begun_template : (s : Search) → b ≡ gives s → SoundTemplate s.template
    begun_template s e = (begun_sound v s (sym f ∙ e)).template

  -- and a save of it checks the room alone
  pub begun_written : (v : Verdict) (out : List ℕ)
      → write_begun (on_refusal v refuses (begin_rule letters lengths t quorum)) out ≡ save_begun letters lengths (on_refusal v refuses (begin_rule letters lengths t quorum)) out
  unfolding save_begun
  begun_written v out = go (on_refusal v refuses (begin_rule letters lengths t quorum)) refl
    where
      go : (c : Told Search) → on_refusal v refuses (begin_rule letters lengths t quorum) ≡ c → write_begun c out ≡ save_begun letters lengths c out
      go (gives s) e = sym (save_told letters lengths s out ∙ rw (search_fine letters lengths s (begun_sound v s e)))
      go (refuses n p) e = refl

-- LEG
module _ (letters lengths bs : List ℕ) (s : Search) (e : gives s ≡ read_rule letters lengths bs) where
  before_bytes : before_13 letters lengths (read_search bs) ≡ fine
  unfolding before_13
  before_bytes =
      let rest = saved_checks_before_13 letters lengths bs in
      let h = (first_both (set_checks letters lengths) rest).0 (records.passed letters lengths bs s e) in
      let c = none_of rest h.1 in
      (else_both _ _).1 (h.0, all_fine (value_checks_before_13 letters lengths (read_search bs)) (c 1, (c 5, (c 6, (c 7, (c 8, (c 9, (c 10, (c 11, tt)))))))))

  -- the search passes what a leg checks before 13
  pub read_before : before_13 letters lengths s ≡ fine
  read_before = rw (records.held letters lengths bs s e) before_bytes

  -- and the save restores exactly if it passes all that a leg checks
  restores_by : restore_rule letters lengths bs ≡ unless (first (search_checks letters lengths s)) s
  restores_by = records.left_to_13 letters lengths bs s e ∙ ap (λ v. unless v s) (places.left_to_13 letters lengths s (sym read_before) refl)

  module _ (budget : ℕ) (motifs supports weights : List ℕ) where
    -- the template stays, whether the leg is refused or not
    pub left_template : (l : LegTold) → l ≡ (leg_rule letters lengths s budget motifs supports weights).told → SoundTemplate l.search.template
    unfolding leg_rule
    left_template l f = rw f (go (first (search_checks letters lengths s)) refl)
      where
        go : (v : Verdict) → first (search_checks letters lengths s) ≡ v → SoundTemplate (leg_rule letters lengths s budget motifs supports weights).told.search.template
        go fine q = rw q (records.ready letters lengths bs s e).template
        go (refused n p) q = rw q (records.ready letters lengths bs s e).template

    -- where the leg is not refused, what it leaves is written,
    wrote : first (search_checks letters lengths s) ≡ fine → let l = (leg_rule letters lengths s budget motifs supports weights).told in
        saved_after l.answer l.search bs ≡ (write_rule l.search bs).out
    unfolding leg_rule
    wrote q = rw q

    left_saved : first (search_checks letters lengths s) ≡ fine → let l = (leg_rule letters lengths s budget motifs supports weights).told in
        saved_after l.answer l.search bs ≡ bytes l.search
    left_saved q = wrote q ∙ resaved letters lengths s budget motifs supports weights bs (restores_by ∙ ap (λ v. unless v s) q)

    -- and where it is, all stays
    stayed : {n p : ℕ} → first (search_checks letters lengths s) ≡ refused n p → let l = leg_rule letters lengths s budget motifs supports weights in
        leg_of (leg_told l.told) (saved_after l.told.answer l.told.search bs) l.motifs l.supports l.weights ≡ leg_of (stopped_answer n p 0 0 0) bs motifs supports weights
    unfolding leg_rule leg_told
    stayed q = rw q

    -- so that the leg and what is written come to the rule
    once : (v : Verdict) → first (search_checks letters lengths s) ≡ v → let l = leg_rule letters lengths s budget motifs supports weights in
        leg_of (leg_told l.told) (saved_after l.told.answer l.told.search bs) l.motifs l.supports l.weights ≡ leg_from letters lengths (unless v s) budget bs motifs supports weights
    unfolding leg_from
    once fine q = rw (left_saved q)
    once (refused n p) q = stayed q

    -- what a leg of a search that was read leaves, from what the leg and the writing promise
    pub ran : (leg : Leg) {r : Stopped} {saved ms ss ws : List ℕ} → let l = leg_rule letters lengths s budget motifs supports weights in
        (told_leg leg ≡ l.told) × ((ms ≡ l.motifs) × ((ss ≡ l.supports) × (ws ≡ l.weights)))
        → saved ≡ saved_after (told_answer leg.answer) leg.search bs → r ≡ leg_told (told_leg leg)
        → leg_of r saved ms ss ws ≡ leg_outcome letters lengths bs budget motifs supports weights
    unfolding leg_outcome
    ran leg {r = r} {saved = saved} k w q =
        let l = leg_rule letters lengths s budget motifs supports weights in
        let f : saved ≡ saved_after l.told.answer l.told.search bs = w ∙ ap (λ (t : LegTold). saved_after t.answer t.search bs) k.0 in
        let g : r ≡ leg_told l.told = q ∙ ap leg_told k.0 in
        rw (f, g, k.1.0, k.1.1.0, k.1.1.1) (rw restores_by (once (first (search_checks letters lengths s)) refl))
