-- `room_left`: `inside` says which letter of which component the last one is, and the component is one of the template's.
use Rattle.legs.proofs.Kind.{code_component, room_is}
use Rattle.legs.proofs.step.Candidate.room_left.Goals as goal

pub returns : goal.returns
returns c =
    let p = c.args.self in
    let s = p.plan.now in
    room_is s.search.template s.sound_template s.inside.now s.placed p.place.letters p.place.number c.components-components.ensures c.several.ensures

pub bounds-components-spot : goal.bounds-components-spot
bounds-components-spot c =
    let p = c.args.self in
    let s = p.plan.now in
    code_component s.search.template s.sound_template s.inside.now s.placed p.place.letters p.some p.few
