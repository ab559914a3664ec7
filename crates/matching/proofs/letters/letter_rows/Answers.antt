-- Each kind of search has its own rows past those of the four letters.
use native.Mathlib.Omega.{arith}
use Rattle.matching.proofs.Standing.{mixed_sixteen, exact_letters, mixed_letters}
use Rattle.matching.proofs.letters.letter_rows.Goals as goal

pub mixed_rows-requires : goal.mixed_rows-requires
mixed_rows-requires c =
    rw (mixed_sixteen c.args.plan.now.search.template c.in-Mixed.is) at c.requires.standing_len.0

pub returns-in-Exact-clause-letters : goal.returns-in-Exact-clause-letters
returns-in-Exact-clause-letters c =
    let a = c.args in
    let p = c.requires in
    let o = c.exact_rows.ensures in
    let e = c.in-Exact.is in
    exact_letters a.plan.now.search.template a.plan.now.layout.lengths.now a.plan.now.letters.now a.standing.now _ p.base_rows o.standing_unchanged.0 e (omega (arith, o.standing_unchanged.1, p.base_rows.long)) _ (omega (arith, o.standing_unchanged.1)) o.by_index

pub returns-in-Mixed-clause-letters : goal.returns-in-Mixed-clause-letters
returns-in-Mixed-clause-letters c =
    let a = c.args in
    let p = c.requires in
    let z = p.standing_len in
    let o = c.mixed_rows.ensures in
    let e = c.in-Mixed.is in
    let n = mixed_sixteen a.plan.now.search.template e in
    mixed_letters a.plan.now.search.template a.plan.now.layout.lengths.now a.plan.now.letters.now a.standing.now _ p.base_rows o.standing_unchanged.0 e a.plan.now.sound_set (omega (arith, o.standing_unchanged.1, rw n at z.0)) (omega (arith, o.standing_unchanged.1, z.1)) o.by_index
