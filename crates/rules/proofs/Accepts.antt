-- Restore accepts bytes exactly if they are well formed and the uninterrupted search passes through their place: its checks are the
-- fields of that sentence, and a place passes them exactly if the walk from the start meets it.
use mathlib.Core.Path.{◌≡◌}
use mathlib.Core.Logic.{◌↔◌}
use mathlib.Core.List.{List}
use Prim.Native.Nat.{ℕ}
use Rattle.rules.specs.Calls.{restore_rule}
use Rattle.rules.specs.Relay.{WellFormed, Through}
use Rattle.rules.specs.Saved.{read_search}
use Rattle.rules.specs.Sequences.{sequences}
use Rattle.rules.specs.Told.{gives}
use Rattle.rules.specs.Walk.{walk_over}
use Rattle.rules.specs.declared.Search.{Search}
use Rattle.rules.proofs.Passing.{passing_from, from_passing}
use Rattle.rules.proofs.Places.{sound_passing, passing_rule, passing_passes}
use Rattle.rules.proofs.Searches.{walk_lawful}
use Rattle.rules.proofs.Saves.{restore_exactly}
use Rattle.rules.proofs.Sound.{SoundBytes}

-- bytes that are well formed, with a place that the search passes through, pass the checks, and back
well_formed : (letters lengths bs : List ℕ) → SoundBytes letters lengths bs → WellFormed letters lengths bs × Through letters lengths (read_search bs)
well_formed letters lengths bs o =
    let k = o.search in
    let t = (read_search bs).template in let q = (read_search bs).quorum in let ss = sequences letters lengths in (
      record { set = k.set; sized = o.sized; laid_out = o.laid_out; template = k.template; count = k.count; total = k.total; some = k.some; most = k.most },
      passing_from (walk_over t q ss) (walk_lawful t q ss k.template) _ (sound_passing letters lengths (read_search bs) k),
    )

passes_checks : (letters lengths bs : List ℕ) → WellFormed letters lengths bs → Through letters lengths (read_search bs) → SoundBytes letters lengths bs
passes_checks letters lengths bs w h =
    let t = (read_search bs).template in let q = (read_search bs).quorum in let ss = sequences letters lengths in
    let p = from_passing (walk_over t q ss) (walk_lawful t q ss w.template) _ h in
    record {
      sized = w.sized;
      laid_out = w.laid_out;
      search = record {
        set = w.set;
        template = w.template;
        place = passing_rule t q ss w.template _ p;
        count = w.count;
        total = w.total;
        some = w.some;
        most = w.most;
        passes = passing_passes letters lengths (read_search bs) _ p;
      };
    }

pub restore_accepts : (letters lengths bs : List ℕ) (s : Search)
    → (restore_rule letters lengths bs ≡ gives s) ↔ (WellFormed letters lengths bs × Through letters lengths (read_search bs) × (s ≡ read_search bs))
restore_accepts letters lengths bs s = (
  λ e. let h = (restore_exactly letters lengths bs s).0 e in let w = well_formed letters lengths bs h.0 in (w.0, w.1, h.1),
  λ h. (restore_exactly letters lengths bs s).1 (passes_checks letters lengths bs h.0 h.1, h.2),
)
