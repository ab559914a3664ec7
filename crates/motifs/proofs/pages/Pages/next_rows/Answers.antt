-- The leg that is run has the page, and its steps and rows can be counted.
use Rattle.std.proofs.Common.{List, ℕ, ◌≡◌, ap, ◌∙◌, length, rules}
use Rattle.rules.specs.Lists.{put}
use Rattle.legs.specs.AcceptedLeg.{room_of}
use Rattle.motifs.specs.Pages.{page_rows}
use Rattle.motifs.proofs.Leg.{all_room}
use Rattle.motifs.proofs.PagesLaid.{leg_page_is, leg_counts, leg_leaves}
use Rattle.motifs.proofs.pages.Pages.next_rows.Goals as goal

pub after-requires : goal.after-requires
after-requires c =
    let s = c.args.self.now in
    leg_counts s.set.letters.now s.set.lengths.now c.args.way c.requires s.motifs s.supports s.weights (all_room _ _ _ (search rules) (search rules) (search rules)) c.leg-length.ensures.leg_value

pub returns-clause-next : goal.returns-clause-next
returns-clause-next c =
    let s = c.args.self.now in
    let p = c.leg-length.ensures in
    let r : room_of s.motifs s.supports s.weights ≡ page_rows = all_room _ _ _ (search rules) (search rules) (search rules) in
    let e = leg_page_is s.set.letters.now s.set.lengths.now c.args.way c.requires in
    record {
      out = p.out_after ∙ ap (λ (t : List ℕ). put t s.out) e;
      end = p.length_value ∙ ap length e;
      left = c.after.ensures ∙ leg_leaves s.set.letters.now s.set.lengths.now c.args.way c.requires s.motifs s.supports s.weights r p.leg_value;
      short = p.length_in_bounds;
    }
