-- The slot below and the letter's row give the candidate's row where it is made whole, and its marks, written or not, its support.
use mathlib.Core.Path.{◌∙◌}
use borrow.Author.Rules.{rules}
use native.Mathlib.Omega.{arith}
use Rattle.matching.proofs.Extend.{below_bounded, kept_row, kept_support}
use Rattle.rows.specs.Set.{Bounded}
use Rattle.matching.proofs.path.extend.Goals as goal

pub keep_all-requires : goal.keep_all-requires
keep_all-requires c =
    let s = c.args.plan.now in
    let q = c.args.place in
    let deep = c.requires.le_size in
    let bounded : Bounded s.layout.lengths.now c.args.slot.now = below_bounded s.search.template s.sound_template s.letters.now s.layout.lengths.now s.sound_set q.letters q.number deep.0 deep.1 c.args.slot.now c.requires.slot in
    (omega arith, (bounded, (omega (arith, s.layout.inside), omega arith, omega arith)))

pub returns-clause-lower_bound : goal.returns-clause-lower_bound
returns-clause-lower_bound c =
    let s = c.args.plan.now in
    let q = c.args.place in
    let p = c.requires in
    let all = kept_support s.search.template s.sound_template s.letters.now s.layout.lengths.now s.sound_set q.letters q.number p.le_size.0 p.le_size.1 c.args.slot.now p.slot (search rules) c.args.test.row.now c.args.test.by.places p.tests_last in
    omega (arith, all, c.keep_all.ensures.lower_bound)

pub returns-clause-value : goal.returns-clause-value
returns-clause-value c =
    let s = c.args.plan.now in
    let q = c.args.place in
    let p = c.requires in
    let all = kept_support s.search.template s.sound_template s.letters.now s.layout.lengths.now s.sound_set q.letters q.number p.le_size.0 p.le_size.1 c.args.slot.now p.slot (search rules) c.args.test.row.now c.args.test.by.places p.tests_last in
    λ h. c.keep_all.ensures.value h ∙ all

pub returns-clause-row : goal.returns-clause-row
returns-clause-row c =
    let s = c.args.plan.now in
    let q = c.args.place in
    let p = c.requires in
    let k = c.keep_all.ensures in
    λ h. kept_row s.search.template s.sound_template s.letters.now s.layout.lengths.now s.sound_set q.letters q.number p.le_size.0 p.le_size.1 c.args.slot.now p.slot (search rules) c.args.test.row.now c.args.test.by.places p.tests_last _ (k.filled h) (k.marked h)
