-- `save`: a search that passed its checks is sound.
use mathlib.Core.Path.{sym}
use Rattle.rules.proofs.Sound.{search_sound}
use Rattle.saved.proofs.save.Goals as goal

pub write_search-requires : goal.write_search-requires
write_search-requires c = (search_sound _ _ _ (sym c.in_ok-check_alone.ensures)).template
