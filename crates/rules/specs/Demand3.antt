-- The third of the user's three demands, of the rules of the public calls (Calls.antt), which the calls promise to keep.
-- proofs/Demands.antt proves it.
use Rattle.std.specs.Prelude.{◌≡◌, ◌↔◌, List, ◌++◌, ℕ, ◌+◌, ◌*◌, ◌≤◌, ◌<◌, length, take}
use Rattle.rules.specs.Calls.{begin_rule, leg_rule, save_rule, restore_rule, trimmed_search}
use Rattle.rules.specs.declared.Stop.{Stop}
use Rattle.rules.specs.declared.Stop.TheVariants.{Ended}
use Rattle.rules.specs.Limits.{record_bytes, record_extra}
use Rattle.rules.specs.Lists.{put}
use Rattle.rules.specs.Refusals.{first, search_checks}
use Rattle.rules.specs.Relay.{whole_steps, Complete, Lent, Roomy, Ample, relay, RefusedAsCut, WellFormed, Through}
use Rattle.rules.specs.Saved.{Bytes, read_search}
use Rattle.rules.specs.Sequences.{sequences}
use Rattle.rules.specs.Told.{gives, fine}
use Rattle.rules.specs.Walk.{ended_place, walk_of, from, listed}
use Rattle.rules.specs.declared.Place.{Place}
use Rattle.rules.specs.declared.Search.{Search}
use Rattle.rules.specs.declared.Template.{Template}

-- DEMAND 3: legs, saves and restores come to what an uninterrupted search comes to.
pub record Demand3 : Type 0 where
  -- the lists of a new search's legs, laid end to end, are demand 2's list once one answers ended, and the steps add up
  pub end_to_end : (letters lengths : List ℕ) (t : Template) (quorum : ℕ) (s : Search) (gs : List Lent) → begin_rule letters lengths t quorum ≡ gives s
      → (relay letters lengths gs s).answer ≡ gives Ended
      → let r = relay letters lengths gs s in Complete t quorum (sequences letters lengths) r.steps r.motifs r.supports r.weights
  -- it ends within that many legs, if each has a budget and room of at least one
  pub ends : (letters lengths : List ℕ) (t : Template) (quorum : ℕ) (s : Search) (gs : List Lent) → begin_rule letters lengths t quorum ≡ gives s → Roomy t gs → Ample gs
      → whole_steps t quorum (sequences letters lengths) ≤ length gs → (relay letters lengths gs s).answer ≡ gives Ended
  -- nothing on the way is refused
  pub answers : (letters lengths : List ℕ) (t : Template) (quorum : ℕ) (s : Search) (gs : List Lent) → begin_rule letters lengths t quorum ≡ gives s → Roomy t gs
      → (a : Stop) × ((relay letters lengths gs s).answer ≡ gives a)
  -- a leg's steps and rows are those of the candidates between its old place and its new
  pub between : (letters lengths : List ℕ) (s : Search) (budget : ℕ) (motifs supports weights : List ℕ) → first (search_checks letters lengths s) ≡ fine
      → let l = leg_rule letters lengths s budget motifs supports weights in let W = walk_of letters lengths s in
      (taken : List Place) × (from W s.place ≡ taken ++ from W l.told.search.place) × (l.told.steps ≡ length taken) × (take l.told.rows l.motifs ≡ listed W taken)
  -- restore accepts bytes exactly if they are well formed and the uninterrupted search passes through their place
  pub accepts : (letters lengths bs : List ℕ) (s : Search)
      → (restore_rule letters lengths bs ≡ gives s) ↔ (WellFormed letters lengths bs × Through letters lengths (read_search bs) × (s ≡ read_search bs))
  -- a search that passes a leg's checks is saved where there is room, and the save tells its length: 16 bytes for each component, and 32
  pub saves : (letters lengths : List ℕ) (s : Search) (out : List ℕ) → first (search_checks letters lengths s) ≡ fine
      → let n = record_bytes * (s.template.count + record_extra) in n ≤ length out → (save_rule letters lengths s out).told ≡ gives n
  -- what a save wrote, so many bytes as it told, restores over the same sequences to the same search, with nothing in what its template does
  -- not use: the slots that it does not count, and in an exact search the allowances; an ended one as ended
  pub restores : (letters lengths : List ℕ) (s : Search) (out : List ℕ) (k : ℕ) → (save_rule letters lengths s out).told ≡ gives k
      → restore_rule letters lengths (take k (save_rule letters lengths s out).out) ≡ gives (trimmed_search s)
  pub ended_restores : (letters lengths : List ℕ) (s r : Search) (out : List ℕ) (k : ℕ) → (save_rule letters lengths s out).told ≡ gives k → s.place ≡ ended_place
      → restore_rule letters lengths (take k (save_rule letters lengths s out).out) ≡ gives r → r.place ≡ ended_place
  -- saving a restored search gives the same bytes: where there is room for them the save tells their length, and writes them to the front of
  -- its buffer, which stays past them. What is restored are bytes: numbers below 256
  pub same_bytes : (letters lengths bs : List ℕ) (s : Search) (out : List ℕ) → restore_rule letters lengths bs ≡ gives s → Bytes bs → length bs ≤ length out
      → save_rule letters lengths s out ≡ record { told = gives (length bs); out = put bs out }
  -- what a save wrote, cut short at any byte, is refused, whatever sequences are lent; and so are any bytes that restore accepts
  pub cut_short : (letters lengths : List ℕ) (s : Search) (out : List ℕ) (k n : ℕ) → (save_rule letters lengths s out).told ≡ gives k → n < k
      → RefusedAsCut (take n (save_rule letters lengths s out).out)
  pub cut_accepted : (letters lengths bs : List ℕ) (s : Search) (n : ℕ) → restore_rule letters lengths bs ≡ gives s → n < length bs → RefusedAsCut (take n bs)
