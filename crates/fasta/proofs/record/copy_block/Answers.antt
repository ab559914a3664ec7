use Rattle.fasta.proofs.Body.{block_copied}
use Rattle.fasta.proofs.record.copy_block.Goals as goal

pub returns-in-Some : goal.returns-in-Some
returns-in-Some g c =
    let a = c.args in
    let r = c.requires in
    block_copied a.at g.row.N a.text.now a.to.now r.0 r.1 r.2 c.in-Some.ensures.cases.same c.copy_from_slice.ensures.after
