-- Each record's line goes behind those before it, and fewer are left each time; the whole printout is always what is printed from there.
use Rattle.std.proofs.Common.{length}
use Rattle.rules.specs.Fasta.{records_from}
use Rattle.lines.proofs.Turns.{Reading}
use Rattle.lines.proofs.print.print_records.Given as goal

abbrev pub invariant-loop-record : goal.invariant-loop-record
invariant-loop-record l = Reading l.file l.reader.file.now l.out l.used l.reader.at

abbrev pub decreases-loop-record : goal.decreases-loop-record
decreases-loop-record l = length (records_from l.file l.reader.at)
