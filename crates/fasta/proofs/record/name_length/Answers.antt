-- The first space or tab ends the name.
use Rattle.std.proofs.Common.{rules, ap, ◌∙◌, length}
use Rattle.std.specs.Option.{unwrap_or}
use borrow.Author.Tests.{tests}
use Rattle.std.proofs.lemmas.Iterator.{YieldsList-from_slice}
use Rattle.std.proofs.lemmas.Iterator.Search.{position_from_yields_List}
use Rattle.rules.specs.Fasta.{is_space_or_tab}
use Rattle.fasta.proofs.Names.{name_ends}
use Rattle.fasta.proofs.record.name_length.Goals as goal

pub returns : goal.returns
returns c =
    let h = position_from_yields_List is_space_or_tab _ _ _ c.position.ensures.ran (YieldsList-from_slice _ c.iter.ensures.rest) (λ x b q k. search (rules, tests)) in
    c.unwrap_or.ensures ∙ ap (λ o. unwrap_or o (length c.args.text.now)) h ∙ name_ends c.args.text.now
