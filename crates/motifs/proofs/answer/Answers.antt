-- What was read stands at the fronts of the tables, and what it comes to can be printed over them.
use Rattle.motifs.proofs.Program.{read_ready}
use Rattle.motifs.proofs.answer.Goals as goal

pub write_pages-requires : goal.write_pages-requires
write_pages-requires g c =
    let t = c.args.tables.now in
    let r = c.read-begun.ensures in
    let f = c.front.ensures in
    read_ready c.args.input.now t.letters t.lengths r.letters_value r.letters_after r.lengths_after f.letters f.lengths r.begun_value c.opening.ensures
