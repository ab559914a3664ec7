-- Each write goes into the row of its letter and leaves the three others.
use Rattle.matching.proofs.BaseRows.{words_put}
use Rattle.matching.proofs.letters.put_words.Goals as goal

pub returns-clause-by_index : goal.returns-clause-by_index
returns-clause-by_index c =
    let a = c.args in
    words_put a.q a.bases a.standing.now c.requires.1
