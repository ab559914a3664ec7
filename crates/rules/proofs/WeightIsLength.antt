-- The weighted support of a row is the length of the motif's occurrence list, so a recovery of that motif answers the same number. A
-- leg lists motifs of its search alone, so no such recovery is refused but for a first row above that number.
use mathlib.Core.Path.{◌≡◌, refl, sym, ap, ◌∙◌, subst₂}
use mathlib.Core.Bool.{true}
use mathlib.Core.List.{List, [], ◌∷◌, map}
use Prim.Native.Nat.{ℕ, zero, suc, min, ◌^◌, ◌<◌}
use native.Mathlib.Omega.{arith}
use lib.ListN.{length, get_or, length-map}
use lib.Seq.{get_or-take}
use Rattle.rules.specs.Calls.{motif_parts, stretch, weights_of, LegRule, on_refusal, leg_rule, recover_rule}
use Rattle.rules.specs.Legs.{leg}
use Rattle.rules.specs.Lists.{put}
use Rattle.rules.specs.Recovery.{whole_list}
use Rattle.rules.specs.Refusals.{first, search_checks}
use Rattle.rules.specs.Relay.{frequent_motifs, their_weights, Recovers}
use Rattle.rules.specs.Sequences.{sequences}
use Rattle.rules.specs.Sound.{SoundSet, SoundTemplate}
use Rattle.rules.specs.Support.{weight, valid, parts}
use Rattle.rules.specs.Template.{size, trimmed}
use Rattle.rules.specs.Told.{Verdict, fine, refused}
use Rattle.rules.specs.Walk.{walk_of}
use Rattle.rules.specs.declared.Search.{Search}
use Rattle.rules.specs.declared.Template.{Template}
use Rattle.rules.proofs.All.{member_at}
use Rattle.rules.proofs.Bound.{list_bound}
use Rattle.rules.proofs.Places.{sound_passing}
use Rattle.rules.proofs.Searches.{walk_lawful, list_holds}
use Rattle.rules.proofs.Sound.{SoundSearch, search_sound, recover_fine}
use Rattle.rules.proofs.Tables.{put_front}
use Rattle.rules.proofs.Trimmed.{recover_trimmed}
use Rattle.rules.proofs.WalkDemands.{walk_demands}

-- a motif's weighted support is the length of its list
pub weight_list : (t : Template) (ss : List (List ℕ)) (m : ℕ) → weight (parts t (size t) m) ss ≡ length (whole_list t ss m)
unfolding weight whole_list
weight_list t ss m = refl

-- and so are those of all motifs of a search
pub their_lengths : (t : Template) (quorum : ℕ) (ss : List (List ℕ)) → their_weights t quorum ss ≡ map (λ m. length (whole_list t ss m)) (frequent_motifs t quorum ss)
unfolding their_weights weight whole_list
their_lengths t quorum ss = refl

-- a row of a table that a list was put to the front of, and of a list that f made of another
put_row : (xs table : List ℕ) (i : ℕ) → i < length xs → get_or (put xs table) i 0 ≡ get_or xs i 0
put_row xs table i h = sym (get_or-take (length xs) (put xs table) i 0 h) ∙ ap (λ l. get_or l i 0) (put_front (length xs) xs table refl)

map_row : (f : ℕ → ℕ) (xs : List ℕ) (i : ℕ) → i < length xs → get_or (map f xs) i 0 ≡ f (get_or xs i 0)
map_row f [] i h = absurd (omega arith)
map_row f (x ∷ xs) zero h = refl
map_row f (x ∷ xs) (suc i) h = map_row f xs i (omega arith)

module _ (letters lengths : List ℕ) where
  -- what is known of a weighted support w of the motif m
  abbrev Weighs : Template → ℕ → ℕ → Type 0
  Weighs t m w = (w < 2 ^ 57) × Recovers letters lengths t m w

  weighs : (t : Template) (m : ℕ) → SoundSet letters lengths → SoundTemplate t → valid t (size t) m ≡ true → Weighs t m (weight (parts t (size t) m) (sequences letters lengths))
  unfolding recover_rule
  weighs t m set sound v =
      rw (weight_list t (sequences letters lengths) m) (
        list_bound t sound letters lengths set m,
        λ f out h. rw (recover_fine letters lengths t m f (record { set = set; template = sound; motif = v; row = h })) (_, refl, refl),
      )

  -- what a template does not use makes no difference
  recovers_same : (t u : Template) (m w : ℕ) → trimmed u ≡ trimmed t → Recovers letters lengths t m w → Recovers letters lengths u m w
  recovers_same t u m w e r f out h =
      let same = sym (recover_trimmed letters lengths u m f out) ∙ ap (λ v. recover_rule letters lengths v m f out) e ∙ recover_trimmed letters lengths t m f out in
      rw same (r f out h)

  -- the same of the row i of a leg
  abbrev RowWeighs : Template → ℕ → LegRule → Type 0
  RowWeighs t i l = i < l.told.rows → Weighs t (get_or l.motifs i 0) (get_or l.weights i 0)

  -- it is so whether the checks refuse or not
  either_weighs : (t : Template) (i : ℕ) (v : Verdict) (f : ℕ → ℕ → LegRule) (l : LegRule) → ((n p : ℕ) → RowWeighs t i (f n p)) → (v ≡ fine → RowWeighs t i l) → RowWeighs t i (on_refusal v f l)
  either_weighs t i fine f l h k = k refl
  either_weighs t i (refused n p) f l h k = h n p

  row_weighs : (s : Search) (budget : ℕ) (motifs supports weights : List ℕ) (i : ℕ) → RowWeighs s.template i (leg_rule letters lengths s budget motifs supports weights)
  unfolding leg_rule stretch weights_of frequent_motifs
  row_weighs s budget motifs supports weights i = either_weighs s.template i (first (search_checks letters lengths s)) _ _ (λ n p h. absurd (omega arith)) (λ e. accepted (search_sound letters lengths s e))
    where
      room : ℕ
      room = min (length motifs) (min (length supports) (length weights))

      listed : List ℕ
      listed = (leg (walk_of letters lengths s) budget room s.place).motifs

      found : ℕ → ℕ
      found m = weight (motif_parts s m) (sequences letters lengths)

      accepted : SoundSearch letters lengths s → i < length listed → Weighs s.template (get_or (put listed motifs) i 0) (get_or (put (map found listed) weights) i 0)
      accepted o h =
          let W = walk_demands (walk_of letters lengths s) (walk_lawful s.template s.quorum (sequences letters lengths) o.template) in
          let m = W.lists_only budget room s.place (sound_passing letters lengths s o) (get_or listed i 0) (member_at listed i 0 h) in
          let v = (list_holds s.template s.quorum (sequences letters lengths) o.template (get_or listed i 0)).0 m in
          subst₂ (Weighs s.template) (sym (put_row listed motifs i h)) (sym (put_row (map found listed) weights i (rw length-map h) ∙ map_row found listed i h))
          (weighs s.template (get_or listed i 0) o.set o.template v.0)

  -- the weighted support in a row of a leg
  pub leg_weights : (s : Search) (budget : ℕ) (motifs supports weights : List ℕ) (t : Template) (i : ℕ) → trimmed t ≡ trimmed s.template
      → let l = leg_rule letters lengths s budget motifs supports weights in i < l.told.rows
      → (get_or l.weights i 0 < 2 ^ 57) × Recovers letters lengths t (get_or l.motifs i 0) (get_or l.weights i 0)
  leg_weights s budget motifs supports weights t i e h =
      let r = row_weighs s budget motifs supports weights i h in
      (r.0, recovers_same s.template t _ _ e r.1)
