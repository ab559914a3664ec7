-- THE RULE OF EACH PUBLIC CALL: from what a call is given, what it tells and what each lent table holds afterwards, refused
-- calls too. The promises of the calls cite these.
use Rattle.std.specs.Prelude.{List, map, ℕ, min, length}
use Rattle.rules.specs.Join.{partnered}
use Rattle.rules.specs.Legs.{Stretch, leg}
use Rattle.rules.specs.Lists.{joined, put}
use Rattle.rules.specs.Recovery.{whole_list, page}
use Rattle.rules.specs.Refusals.{first, new_checks, restore_checks, search_checks, save_checks, recover_checks, join_checks}
use Rattle.rules.specs.Saved.{bytes, read_search}
use Rattle.rules.specs.Sequences.{sequences}
use Rattle.rules.specs.Support.{support, weight, parts}
use Rattle.rules.specs.Template.{Part, size, trimmed}
use Rattle.rules.specs.Told.{Verdict, fine, refused, Told, gives, refuses, LegTold}
use Rattle.rules.specs.Walk.{first_place, walk_of}
use Rattle.rules.specs.declared.Place.{Place}
use Rattle.rules.specs.declared.Search.{Search}
use Rattle.rules.specs.declared.Template.{Template}
use Rattle.rules.specs.declared.Recovered.{Recovered}

-- what is told after the checks: the refusal that they found, or a
abbrev pub unless : {A : Type 0} → Verdict → A → Told A
unless fine a = gives a
unless (refused n p) a = refuses n p

-- what comes of the checks: on a refusal r, and else a
abbrev pub on_refusal : {A : Type 0} → Verdict → (ℕ → ℕ → A) → A → A
on_refusal fine r a = a
on_refusal (refused n p) r a = r n p

-- NEW SEARCH: it stands at the first candidate
unfoldable pub begun : List ℕ → List ℕ → Template → ℕ → Search
begun letters lengths t quorum =
    record { template = trimmed t; quorum = quorum; set = record { sequences = length lengths; letters = length letters }; place = first_place }

unfoldable pub begin_rule : List ℕ → List ℕ → Template → ℕ → Told Search
begin_rule letters lengths t quorum = unless (first (new_checks letters lengths t quorum)) (begun letters lengths t quorum)

-- LEG: what it tells, and its three tables afterwards
pub record LegRule : Type 0 where
  pub told : LegTold
  pub motifs : List ℕ
  pub supports : List ℕ
  pub weights : List ℕ

-- a search at another place
abbrev pub moved : Search → Place → Search
moved s p = record { template = s.template; quorum = s.quorum; set = s.set; place = p }

-- a search with nothing in what its template does not use: as it comes back from a save
abbrev pub trimmed_search : Search → Search
trimmed_search s = record { template = trimmed s.template; quorum = s.quorum; set = s.set; place = s.place }

-- the stretch of the walk that a leg covers: its room is the shortest table
unfoldable pub stretch : List ℕ → List ℕ → Search → ℕ → ℕ → Stretch
stretch letters lengths s budget room = leg (walk_of letters lengths s) budget room s.place

-- the parts of a motif of a search
abbrev pub motif_parts : Search → ℕ → List Part
motif_parts s m = parts s.template (size s.template) m

unfoldable pub supports_of : List ℕ → List ℕ → Search → List ℕ → List ℕ
supports_of letters lengths s ms = map (λ m. support (motif_parts s m) (sequences letters lengths)) ms

unfoldable pub weights_of : List ℕ → List ℕ → Search → List ℕ → List ℕ
weights_of letters lengths s ms = map (λ m. weight (motif_parts s m) (sequences letters lengths)) ms

module _ (letters lengths : List ℕ) (s : Search) (budget : ℕ) (motifs supports weights : List ℕ) where
  unfoldable pub leg_rule : LegRule
  leg_rule =
      let l = stretch letters lengths s budget (min (length motifs) (min (length supports) (length weights))) in
      on_refusal (first (search_checks letters lengths s))
      (λ n p. record { told = record { answer = refuses n p; steps = 0; rows = 0; search = s }; motifs = motifs; supports = supports; weights = weights })
      (record {
        told = record { answer = gives l.stop; steps = l.steps; rows = length l.motifs; search = moved s l.at };
        motifs = put l.motifs motifs;
        supports = put (supports_of letters lengths s l.motifs) supports;
        weights = put (weights_of letters lengths s l.motifs) weights;
      })

-- SAVE, RECOVERY, JOIN: what is told, and the lent buffer afterwards
pub record Written (A : Type 0) : Type 0 where
  pub told : Told A
  pub out : List ℕ

-- a is told and xs written to the front of a buffer, unless the checks refuse
abbrev pub written_unless : {A : Type 0} → Verdict → A → List ℕ → List ℕ → Written A
written_unless v a xs out = on_refusal v (λ n p. record { told = refuses n p; out = out }) (record { told = gives a; out = put xs out })

unfoldable pub save_rule : List ℕ → List ℕ → Search → List ℕ → Written ℕ
save_rule letters lengths s out = written_unless (first (save_checks letters lengths s out)) (length (bytes s)) (bytes s) out

-- RESTORE
unfoldable pub restore_rule : List ℕ → List ℕ → List ℕ → Told Search
restore_rule letters lengths bs = unless (first (restore_checks letters lengths bs)) (read_search bs)

unfoldable pub recover_rule : List ℕ → List ℕ → Template → ℕ → ℕ → List ℕ → Written Recovered
recover_rule letters lengths t m f out =
    let rows = page t (sequences letters lengths) m f (length out) in
    written_unless (first (recover_checks letters lengths t m f))
    (record { rows = length rows; length = length (whole_list t (sequences letters lengths) m) })
    (joined rows)
    out

unfoldable pub join_rule : List ℕ → List ℕ → ℕ → ℕ → ℕ → List ℕ → Written ℕ
join_rule xs ys head low high out =
    let kept = partnered xs ys head low high in
    written_unless (first (join_checks xs ys head low high out)) (length kept) kept out
