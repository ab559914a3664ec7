-- The search is begun over what was read to the fronts of the tables.
use Rattle.std.proofs.Common.{arith}
use Rattle.text.proofs.Lines.{text_short}
use Rattle.motifs.proofs.InputRead.{sound, begin_fronts}
use Rattle.motifs.proofs.input.begin.Goals as goal

pub read_sequences-read-requires : goal.read_sequences-read-requires
read_sequences-read-requires c =
    let h = text_short c.args.input.now c.requires in
    (c.requires, omega (arith, h), omega (arith, h))

pub front-requires : goal.front-requires
front-requires c =
    let h = text_short c.args.input.now c.requires in
    let r = c.read_sequences-read.ensures.sequences_in_bounds in
    (omega (arith, h, r), omega (arith, h, r))

pub returns-clause-fits : goal.returns-clause-fits
returns-clause-fits c =
    let h = text_short c.args.input.now c.requires in
    let r = c.read_sequences-read.ensures.sequences_in_bounds in
    (omega (arith, h, r), omega (arith, h, r))

pub returns-clause-begun_value : goal.returns-clause-begun_value
returns-clause-begun_value c =
    let t = c.args.tables.now in
    let r = c.read_sequences-read.ensures in
    let f = c.front.ensures in
    rw (sound c.args.input.now t.letters t.lengths c.requires) (begin_fronts _ _ t.letters t.lengths r.sequences_value.1 r.sequences_value.0 r.letters_after r.lengths_after c.read_template-template.ensures c.read_quorum-quorum.ensures f.letters f.lengths c.begin-begun.ensures)

pub returns-clause-letters_value : goal.returns-clause-letters_value
returns-clause-letters_value c =
    let t = c.args.tables.now in
    let r = c.read_sequences-read.ensures in
    rw (sound c.args.input.now t.letters t.lengths c.requires) (r.sequences_value.1, r.sequences_value.0)

pub returns-clause-letters_after : goal.returns-clause-letters_after
returns-clause-letters_after c = let t = c.args.tables.now in rw (sound c.args.input.now t.letters t.lengths c.requires) c.read_sequences-read.ensures.letters_after

pub returns-clause-lengths_after : goal.returns-clause-lengths_after
returns-clause-lengths_after c = let t = c.args.tables.now in rw (sound c.args.input.now t.letters t.lengths c.requires) c.read_sequences-read.ensures.lengths_after
