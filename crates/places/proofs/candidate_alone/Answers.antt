-- Whether a place with letters is a candidate: by the support of the prefix that is one letter shorter, as `Through` has it, in two slots,
-- one of which is at first that of the prefix with no letters.
use Rattle.places.proofs.Through.{passes_by}
use Rattle.rules.proofs.Spells.{place_rule_says}
use Rattle.places.proofs.candidate_alone.Goals as goal

pub shorter-found-requires-clause-le_letters : goal.shorter-found-requires-clause-le_letters
shorter-found-requires-clause-le_letters c =
    let a = c.args in
    let rule = (place_rule_says a.s.template a.s.place).0 c.requires.place_value in
    rw c.begin-plan.ensures.plan.0 (c.requires.le_letters, rule.most, rule.spells.below)

pub returns : goal.returns
returns c =
    let a = c.args in
    let e = c.begin-plan.ensures.plan in
    let r = c.shorter-found.ensures in
    let f = c.frequent.ensures in
    passes_by a.set.now.letters.now a.set.now.lengths.now a.s c.requires.place_value c.requires.le_letters (λ h. f.none (rw e.0 at r.none h)) (λ h. f.some _ (rw (e.0, e.1, e.2) at r.value h))
