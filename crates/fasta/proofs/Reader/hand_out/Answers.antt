-- By what its lines hold the record is refused, or written and handed out: the cases of the reader's rule at a header.
use Rattle.std.proofs.Common.{◌∙◌}
use native.Mathlib.Omega.{arith}
use Rattle.fasta.proofs.Handing.{rule_no_room, rule_bad, rule_record, put_rest, put_one, room_for}
use Rattle.fasta.proofs.Names.{name_fits}
use Rattle.fasta.proofs.Reader.hand_out.Goals as goal

pub returns-then-no_room-clause-rule : goal.returns-then-no_room-clause-rule
returns-then-no_room-clause-rule c =
    let a = c.args in
    rule_no_room a.self.now.file.now a.self.now.at a.letters.now a.used a.lengths.now a.count c.requires c.measure-body.ensures c.no_room.ensures c.if-no_room.true

pub returns-in-Some-clause-rule : goal.returns-in-Some-clause-rule
returns-in-Some-clause-rule c =
    let a = c.args in
    rule_bad a.self.now.file.now a.self.now.at a.letters.now a.used a.lengths.now a.count c.requires c.measure-body.ensures c.no_room.ensures c.if-no_room.false c.in-Some.is

pub returns-clause-rule : goal.returns-clause-rule
returns-clause-rule c =
    let a = c.args in
    let b = c.measure-body.ensures in
    let e = c.no_room.ensures in
    let t = c.if-no_room.false in
    let r = room_for a.letters.now a.used a.lengths.now a.count c.measure-body.result.size e t in
    let n = name_fits a.header.text.now c.requires.first.some c.name_length.ensures in
    rule_record a.self.now.file.now a.self.now.at a.letters.now a.used a.lengths.now a.count c.requires b e t c.in_default.is
    ∙ rw (n.0, put_rest a.used _ a.letters.now (omega (arith, r.0)) c.copy_body.ensures, put_one a.count c.measure-body.result.size a.lengths.now r.1)
