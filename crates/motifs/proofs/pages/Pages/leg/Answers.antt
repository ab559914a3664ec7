-- What the leg leaves at the front of its tables is what is printed.
use Rattle.std.proofs.Common.{◌≡◌, ◌*◌, ap, arith, rules, length}
use Rattle.rules.specs.Told.{LegTold}
use Rattle.text.specs.Printed.{Page}
use Rattle.legs.specs.AcceptedLeg.{room_of}
use Rattle.motifs.specs.Pages.{page_rows, leg_page}
use Rattle.motifs.proofs.Leg.{rows_fit, rows_sound, page_left, all_room}
use Rattle.motifs.proofs.pages.Pages.leg.Goals as goal
use Rattle.motifs.proofs.pages.Pages.leg.Goals.{After-print_page-length}

-- how many rows a leg is told to have
rows_told : {l m : LegTold} → l ≡ m → l.rows ≡ m.rows
rows_told e = ap (λ (l : LegTold). l.rows) e

pub print_page-length-requires-clause-sound_template : goal.print_page-length-requires-clause-sound_template
print_page-length-requires-clause-sound_template c =
    let s = c.args.self.now in
    let e = rows_told c.leg-leg.ensures.result_value in
    λ h. rows_sound s.set.letters.now s.set.lengths.now c.args.search c.args.budget s.motifs s.supports s.weights (omega (arith, e))

pub print_page-length-requires-clause-rows_in_bounds : goal.print_page-length-requires-clause-rows_in_bounds
print_page-length-requires-clause-rows_in_bounds c =
    let s = c.args.self.now in
    let e = rows_told c.leg-leg.ensures.result_value in
    let f = rows_fit s.set.letters.now s.set.lengths.now c.args.search c.args.budget s.motifs s.supports s.weights in
    (omega (arith, e, f), omega (arith, e, f), omega (arith, e, f))

pub print_page-length-requires-clause-rows_in_bounds_2 : goal.print_page-length-requires-clause-rows_in_bounds_2
print_page-length-requires-clause-rows_in_bounds_2 c =
    let s = c.args.self.now in
    let e = rows_told c.leg-leg.ensures.result_value in
    let f = rows_fit s.set.letters.now s.set.lengths.now c.args.search c.args.budget s.motifs s.supports s.weights in
    let m : length s.motifs ≡ page_rows = search rules in
    let o : length s.out ≡ page_rows * 256 = search rules in
    omega (arith, e, f, m, o)

-- the page that was written
page_is : (c : After-print_page-length) → let s = c.args.self.now in
    Page c.leg-leg.result.rows (leg_page s.set.letters.now s.set.lengths.now c.args.search c.args.budget page_rows) s.out c.print_page-length.new.out c.print_page-length.result
page_is c =
    let s = c.args.self.now in
    let l = c.leg-leg.ensures in
    let r : room_of s.motifs s.supports s.weights ≡ page_rows = all_room _ _ _ (search rules) (search rules) (search rules) in
    let p = page_left s.set.letters.now s.set.lengths.now c.args.search c.args.budget s.motifs s.supports s.weights (rows_told l.result_value) l.motifs_after l.supports_after l.weights_after c.print_page-length.ensures in
    rw r at p

pub returns-clause-length_value : goal.returns-clause-length_value
returns-clause-length_value c = (page_is (goal.at.returns-clause-length_value c).After-print_page-length).end

pub returns-clause-out_after : goal.returns-clause-out_after
returns-clause-out_after c = (page_is (goal.at.returns-clause-out_after c).After-print_page-length).out

pub returns-clause-length_in_bounds : goal.returns-clause-length_in_bounds
returns-clause-length_in_bounds c =
    let s = c.args.self.now in
    let e = rows_told c.leg-leg.ensures.result_value in
    let f = rows_fit s.set.letters.now s.set.lengths.now c.args.search c.args.budget s.motifs s.supports s.weights in
    let m : length s.motifs ≡ page_rows = search rules in
    let o : length c.print_page-length.new.out ≡ page_rows * 256 = search rules in
    omega (arith, c.print_page-length.ensures.short, e, f, m, o)
