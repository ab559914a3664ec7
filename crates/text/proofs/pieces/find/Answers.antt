-- The eights pass bytes that are others, and `position` finds it among the rest.
use Rattle.std.proofs.Common.{rules, sym, ◌∙◌, eqb}
use borrow.Author.Tests.{tests}
use Rattle.std.proofs.lemmas.Iterator.{YieldsList-from_slice}
use Rattle.std.proofs.lemmas.Iterator.Search.{position_from_yields_List}
use Rattle.text.proofs.Scan.{position_behind_none, position_behind_some}
use Rattle.text.proofs.pieces.find.Goals as goal

pub returns-in_err-at : goal.returns-in_err-at
returns-in_err-at c =
    let p = c.pass_eights-passed in
    let h = position_from_yields_List (λ x. eqb x c.args.b) _ _ _ c.position.ensures.ran (YieldsList-from_slice _ c.iter.ensures.rest) (λ x b q k. search (rules, tests)) in
    c.from_residual.ensures ∙ position_behind_none c.args.b p.result c.args.text.now p.ensures.0 p.ensures.1 (sym c.in_err-at.was ∙ h)

pub returns : goal.returns
returns c =
    let p = c.pass_eights-passed in
    let h = position_from_yields_List (λ x. eqb x c.args.b) _ _ _ c.position.ensures.ran (YieldsList-from_slice _ c.iter.ensures.rest) (λ x b q k. search (rules, tests)) in
    position_behind_some c.args.b p.result c.args.text.now p.ensures.0 p.ensures.1 c.in_ok-at.at (sym c.in_ok-at.was ∙ h)
