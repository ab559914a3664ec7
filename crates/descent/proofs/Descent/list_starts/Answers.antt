use mathlib.Core.Path.{refl, sym, ap, ◌∙◌}
use mathlib.Core.List.{◌∷◌}
use Prim.Native.Nat.{◌+◌}
use native.Mathlib.Omega.{arith}
use lib.ListN.{replicate}
use Rattle.descent.specs.Buffer.{buffer}
use Rattle.descent.specs.Paths.{handed}
use Rattle.descent.proofs.StartByStart.{handed_full, handed_all}
use Rattle.descent.proofs.Paths.{handed_on, handed_over, handed_done}
use Rattle.rules.specs.Limits.{template_components}
use Rattle.rules.specs.Template.{components}
use Rattle.descent.proofs.Descent.list_starts.Goals as goal

pub loop-at-init : goal.loop-at-init
loop-at-init c = record { same_buffer = refl; some = c.seek-at.ensures.from_le_result.0; left = refl }

pub returns-then-is_full-clause-page_after : goal.returns-then-is_full-clause-page_after
returns-then-is_full-clause-page_after c =
    let a = c.args in
    let s = a.self.now in
    let l = c.loop-at in
    let row = a.number.0 ∷ replicate template_components 0 in
    let before = buffer a.page.now.progress a.page.now.out.now in
    let full = handed_full s.template s.sound.few s.letters s.flags.now row 0 l.at (s.letters + 1) l.page.progress l.page.out.now (omega arith) l.page.inside.ends c.is_full.ensures c.if-is_full.true in
    let first = handed_over (components s.template) s.letters s.flags.now row 0 1 _ (s.letters + 1) before c.seek-at.ensures.from_le_result in
    sym full ∙ l.invariant.left ∙ sym first ∙ handed_all s.template s.sound.few s.letters s.flags.now row a.number.0 before refl

pub loop-at-preserved : goal.loop-at-preserved
loop-at-preserved c =
    let a = c.args in
    let s = a.self.now in
    let l = c.loop-at in
    let r = c.list_start.ensures in
    let row = a.number.0 ∷ replicate template_components 0 in
    let before = buffer l.page.progress l.page.out.now in
    let on = handed_on (components s.template) s.letters s.flags.now row 0 l.at (s.letters + 1) before (omega arith) in
    let u = c.seek-at-in-loop-at.ensures.from_le_result in
    let next = handed_over (components s.template) s.letters s.flags.now row 0 (l.at + 1) c.seek-at-in-loop-at.result.0 (s.letters + 1) _ (omega (arith, u.0), λ p h k. u.1 p (omega (arith, h)) k) in
    record {
      same_buffer = r.same_buffer ∙ l.invariant.same_buffer;
      some = omega (arith, u.0);
      left = sym next ∙ ap (handed (components s.template) s.letters s.flags.now row 0 (l.at + 1) (s.letters + 1)) r.page_after ∙ sym on ∙ l.invariant.left;
    }

pub returns-clause-page_after : goal.returns-clause-page_after
returns-clause-page_after c =
    let a = c.args in
    let s = a.self.now in
    let l = c.loop-at in
    let row = a.number.0 ∷ replicate template_components 0 in
    let before = buffer a.page.now.progress a.page.now.out.now in
    let done = handed_done (components s.template) s.letters s.flags.now row 0 l.at (s.letters + 1) (buffer l.page.progress l.page.out.now) (omega arith) in
    let first = handed_over (components s.template) s.letters s.flags.now row 0 1 _ (s.letters + 1) before c.seek-at.ensures.from_le_result in
    sym done ∙ l.invariant.left ∙ sym first ∙ handed_all s.template s.sound.few s.letters s.flags.now row a.number.0 before refl
