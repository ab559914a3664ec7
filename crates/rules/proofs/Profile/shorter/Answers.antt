-- Each kind goes by its own definition.
use Rattle.rules.specs.Profile.{profile_by, exactly, mixed}
use Rattle.rules.proofs.Profile.shorter.Goals as goal

pub returns-in-Exact : goal.returns-in-Exact
unfolding profile_by exactly
returns-in-Exact c = rw c.in-Exact.is

pub returns-in-Mixed : goal.returns-in-Mixed
unfolding profile_by mixed
returns-in-Mixed c = rw c.in-Mixed.is
