-- THE RULE OF EACH EXPORTED CALL: from what a caller passes, the numbers it gets back and what each table that it lent holds
-- afterwards, refused calls too. Each is put together from the rules of the public calls, `Calls` of the crate `rules`.
use Rattle.std.specs.Prelude.{List, ℕ, ◌+◌, leb}
use Rattle.rules.specs.Calls.{on_refusal, Written, begin_rule, leg_rule, save_rule, restore_rule, recover_rule, join_rule}
use Rattle.rules.specs.Fasta.{reader_rule}
use Rattle.rules.specs.Limits.{profile_last}
use Rattle.rules.specs.Lists.{if}
use Rattle.rules.specs.Refusals.{◌else◌, first, check5, set_checks}
use Rattle.rules.specs.Saved.{bytes}
use Rattle.rules.specs.Told.{Verdict, fine, refused, Told, gives, refuses}
use Rattle.rules.specs.Walk.{place}
use Rattle.rules.specs.declared.Search.{Search}
use Rattle.rules.specs.declared.Template.{Template}
use Rattle.exports.specs.Numbers.{count_told, page_told, stopped_answer, leg_told, restored_told, found_told}
use Rattle.exports.specs.Shape.{shaped_template, shape_of, allowances_of, fill}
use Rattle.exports.specs.declared.told.Count.{Count}
use Rattle.exports.specs.declared.told.Page.{Page}
use Rattle.exports.specs.declared.told.Restored.{Restored}
use Rattle.exports.specs.declared.told.Stopped.{Stopped}

-- what comes of what is told: of a refusal r, and else g
abbrev pub on_told : {A B : Type 0} → Told A → (ℕ → ℕ → B) → (A → B) → B
on_told (gives a) r g = g a
on_told (refuses n p) r g = r n p

-- the numbers that a caller gets back, and the table that it lent
pub record Outcome (A : Type 0) : Type 0 where
  pub numbers : A
  pub table : List ℕ

abbrev pub outcome : {A : Type 0} → A → List ℕ → Outcome A
outcome numbers table = record { numbers = numbers; table = table }

-- from the rule of a save, a recovery or a join, by how the numbers are read off what is told
abbrev pub outcome_of : {A B : Type 0} → (Told A → B) → Written A → Outcome B
outcome_of read w = outcome (read w.told) w.out

-- the search of a profile, so many components, a shape, allowances and the rest
abbrev pub search_of : ℕ → ℕ → List ℕ → List ℕ → ℕ → ℕ → ℕ → ℕ → ℕ → Search
search_of profile components shape allowances quorum sequences total letters number =
    record { template = shaped_template profile components shape allowances; quorum = quorum; set = record { sequences = sequences; letters = total }; place = place letters number }

-- THE PROFILE is a number here: one that is none is refused, with 21 and place 0, where 1 to 5 pass, as a restore refuses it
unfoldable pub no_profile : List ℕ → List ℕ → Template → Verdict
no_profile letters lengths t = first (set_checks letters lengths) else check5 t else refused 21 0

unfoldable pub profile_check : List ℕ → List ℕ → ℕ → Template → Verdict
profile_check letters lengths profile t = if (leb profile profile_last) fine (no_profile letters lengths t)

-- what a save or a recovery comes to, unless it is
abbrev pub checked_written : {A : Type 0} → Verdict → Written A → List ℕ → Written A
checked_written v w out = on_refusal v (λ n p. record { told = refuses n p; out = out }) w

-- BEGIN: a new search, saved
unfoldable pub save_begun : List ℕ → List ℕ → Told Search → List ℕ → Written ℕ
save_begun letters lengths begun out = on_told begun (λ n p. record { told = refuses n p; out = out }) (λ s. save_rule letters lengths s out)

unfoldable pub begin_outcome : List ℕ → List ℕ → ℕ → ℕ → List ℕ → List ℕ → ℕ → List ℕ → Outcome Count
begin_outcome letters lengths profile components shape allowances quorum saved =
    let t = shaped_template profile components shape allowances in
    outcome_of count_told (save_begun letters lengths (on_refusal (profile_check letters lengths profile t) refuses (begin_rule letters lengths t quorum)) saved)

-- LEG: the search is restored, and saved again at its new place
pub record LegOutcome : Type 0 where
  pub numbers : Stopped
  pub saved : List ℕ
  pub motifs : List ℕ
  pub supports : List ℕ
  pub weights : List ℕ

abbrev pub leg_of : Stopped → List ℕ → List ℕ → List ℕ → List ℕ → LegOutcome
leg_of numbers saved motifs supports weights = record { numbers = numbers; saved = saved; motifs = motifs; supports = supports; weights = weights }

module _ (letters lengths : List ℕ) (restored : Told Search) (budget : ℕ) (saved motifs supports weights : List ℕ) where
  unfoldable pub leg_from : LegOutcome
  leg_from =
      on_told restored
      (λ n p. leg_of (stopped_answer n p 0 0 0) saved motifs supports weights)
      (λ s. let l = leg_rule letters lengths s budget motifs supports weights in
      leg_of (leg_told l.told) (bytes l.told.search) l.motifs l.supports l.weights)

unfoldable pub leg_outcome : List ℕ → List ℕ → List ℕ → ℕ → List ℕ → List ℕ → List ℕ → LegOutcome
leg_outcome letters lengths saved budget motifs supports weights =
    leg_from letters lengths (restore_rule letters lengths saved) budget saved motifs supports weights

-- RESTORE: the tables are the shape and the allowances
pub record RestoreOutcome : Type 0 where
  pub numbers : Restored
  pub shape : List ℕ
  pub allowances : List ℕ

abbrev pub restore_of : Restored → List ℕ → List ℕ → RestoreOutcome
restore_of numbers shape allowances = record { numbers = numbers; shape = shape; allowances = allowances }

-- a table, once such numbers of the search's template are written to it
unfoldable pub table_after : (Template → List ℕ) → Told Search → List ℕ → List ℕ
table_after numbers t table = on_told t (λ n p. table) (λ s. fill (numbers s.template) table)

unfoldable pub restore_outcome : List ℕ → List ℕ → List ℕ → List ℕ → List ℕ → RestoreOutcome
restore_outcome letters lengths saved shape allowances =
    let t = restore_rule letters lengths saved in restore_of (restored_told t) (table_after shape_of t shape) (table_after allowances_of t allowances)

-- SAVE
unfoldable pub save_outcome : List ℕ → List ℕ → ℕ → Search → List ℕ → Outcome Count
save_outcome letters lengths profile s out =
    outcome_of count_told (checked_written (profile_check letters lengths profile s.template) (save_rule letters lengths s out) out)

-- RECOVER
unfoldable pub recover_outcome : List ℕ → List ℕ → ℕ → ℕ → List ℕ → List ℕ → ℕ → ℕ → List ℕ → Outcome Page
recover_outcome letters lengths profile components shape allowances motif first out =
    let t = shaped_template profile components shape allowances in
    outcome_of page_told (checked_written (profile_check letters lengths profile t) (recover_rule letters lengths t motif first out) out)

-- JOIN
unfoldable pub join_outcome : List ℕ → List ℕ → ℕ → ℕ → ℕ → List ℕ → Outcome Count
join_outcome first second head low high out = outcome_of count_told (join_rule first second head low high out)

-- FASTA: what the call says of the next record, the numbers that it moves on, and both tables. At the file's end and in a refusal
-- 0 is added to what is used of each table
pub record FastaOutcome : Type 0 where
  pub refusal_number : ℕ
  pub refusal_place : ℕ
  pub found : ℕ
  pub name_start : ℕ
  pub name_end : ℕ
  pub at : ℕ
  pub used : ℕ
  pub count : ℕ
  pub letters : List ℕ
  pub lengths : List ℕ

abbrev pub fasta_of : ℕ → ℕ → ℕ → ℕ → ℕ → ℕ → ℕ → ℕ → List ℕ → List ℕ → FastaOutcome
fasta_of n p found name_start name_end at used count letters lengths =
    record { refusal_number = n; refusal_place = p; found = found; name_start = name_start; name_end = name_end; at = at; used = used; count = count; letters = letters; lengths = lengths }

unfoldable pub fasta_outcome : List ℕ → List ℕ → List ℕ → ℕ → ℕ → ℕ → FastaOutcome
fasta_outcome file letters lengths at used count =
    let r = reader_rule file at letters used lengths count in
    let f = found_told r.told in
    fasta_of f.number f.place f.found f.name_start f.name_end r.at (used + f.letters) (count + f.found) r.letters r.lengths
