-- The last component's letters are those after the prefix before it.
use Rattle.legs.proofs.Rowed.{last_sound, last_prefix}
use Rattle.legs.proofs.run.last_letters.Goals as goal

pub returns : goal.returns
returns c =
    rw c.components-components.ensures
    (last_prefix c.args.template c.requires, (last_sound c.args.template c.requires).some)
