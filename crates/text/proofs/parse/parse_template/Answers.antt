use Rattle.std.proofs.Common.{sym, ap, ◌∙◌, arith}
use Rattle.rules.specs.Text.{parsed, template_of, parse_components}
use Rattle.text.specs.Parsed.{told_parse, parsed_by}
use Rattle.text.specs.Pieces.{pieces_left, bytes_left}
use Rattle.text.proofs.ComponentsByPiece.{first_bad, read_first, read_bad, read_more, read_past, template_read}
use Rattle.text.proofs.parse.parse_template.Goals as goal
use Rattle.text.proofs.parse.parse_template.Goals.{then-count-lt6, else-count-lt6}

pub returns-in_err-slots : goal.returns-in_err-slots
unfolding parse_components
returns-in_err-slots c =
    let q = sym c.parse_first.ensures ∙ ap told_parse c.in_err-slots.was in
    ap told_parse c.from_residual.ensures ∙ ap (parsed_by template_of) (first_bad _ c.first_piece.ensures.pieces q)

pub loop-rest-init : goal.loop-rest-init
loop-rest-init c =
    let q = sym c.parse_first.ensures ∙ ap told_parse c.in_ok-slots.was in
    (omega (arith, c.first_piece.ensures.long), rw c.none-slots.ensures (read_first _ c.in_ok-slots.field-0 c.first_piece.ensures.pieces q))

pub returns-in_err-component : goal.returns-in_err-component
unfolding parse_components
returns-in_err-component c =
    let q = sym c.parse_component.ensures ∙ ap told_parse c.in_err-component.was in
    let v = c.loop-rest.invariant.1 in
    ap told_parse c.from_residual-in_err-component.ensures
    ∙ ap (parsed_by template_of) (read_bad v _ (ap (pieces_left 91) c.in-Some.is ∙ c.first_piece-in-Some.ensures.pieces) q)

pub loop-rest-preserved : goal.loop-rest-preserved
loop-rest-preserved c =
    let q = sym c.parse_component.ensures ∙ ap told_parse c.in_ok-component.was in
    let v = c.loop-rest.invariant in
    let e = ap (pieces_left 91) c.in-Some.is ∙ c.first_piece-in-Some.ensures.pieces in
    let m = ap bytes_left c.in-Some.is in (
      omega (arith, v.0, m, c.first_piece-in-Some.ensures.long),
      elim c.if-count-lt6.branch [
        | then-count-lt6 w ↦ rw w.slots-is (read_more v.1 _ e c.in_ok-component.component q w.if-count-lt6.true)
        | else-count-lt6 w ↦ rw w.slots-is (read_past v.1 _ e c.in_ok-component.component q w.if-count-lt6.false)
      ],
    )

pub returns : goal.returns
unfolding parse_components
returns c =
    let e = ap (pieces_left 91) c.in_default.is in
    ap parsed c.new.ensures ∙ template_read (rw e at c.loop-rest.invariant.1)
