-- Emptying what a template does not use changes nothing that is read of it: the slots that it does not count, and in an exact search
-- the allowances, which only a mixed one reads.
use mathlib.Core.Path.{◌≡◌, refl, ap, ◌∙◌, fun_ext}
use mathlib.Core.Bool.{Bool, true, false}
use mathlib.Core.List.{List, [], ◌∷◌, map}
use Prim.Native.Nat.{ℕ, zero, suc, ◌≤◌, ◌<◌}
use native.Mathlib.Omega.{arith}
use lib.Dec.{leb}
use lib.ListN.{length, take, drop, get_or}
use borrow.Author.Tests.{le-leb}
use Rattle.rules.specs.Calls.{begun, begin_rule, trimmed_search, recover_rule}
use Rattle.rules.specs.Lists.{if, keep, has_some}
use Rattle.rules.specs.Motif.{spell}
use Rattle.rules.specs.Sound.{SoundTemplate}
use Rattle.rules.specs.Profile.{profile_by, profile_of, base_of, allowed, to_come, exactly, mixed, within}
use Rattle.rules.specs.Recovery.{whole_list, page}
use Rattle.rules.specs.Refusals.{bad_length, bad_gap, bad_allowance, check5, check6, check7, check8, check14, check15, check24, new_checks, recover_checks}
use Rattle.rules.specs.Saved.{meets_place_rule}
use Rattle.rules.specs.Support.{allowed_in, parts, parts_in, measure}
use Rattle.rules.specs.Template.{allowing, allowance_in, none, slots, components, size, kept, trimmed, Reading, deal}
use Rattle.rules.specs.Walk.{walk_in, walk_over}
use Rattle.rules.specs.declared.Component.{Component}
use Rattle.rules.specs.declared.Place.{Place}
use Rattle.rules.specs.declared.Profile.{Profile}
use Rattle.rules.specs.declared.Profile.TheVariants.{Exact, Mixed}
use Rattle.rules.specs.declared.Search.{Search}
use Rattle.rules.specs.declared.Template.{Template}
use Rattle.rules.proofs.EachKind.{kind_tight}
use Rattle.rules.proofs.Verdicts.{first_bad_map}

-- what a kind of search uses of a component
abbrev pub used : Profile → Component → Component
used p c = allowing (allowance_in p c) c

-- of that it uses all
pub used_twice : (p : Profile) (c : Component) → used p (used p c) ≡ used p c
used_twice Exact c = refl
used_twice Mixed c = refl

pub used_allowance : (p : Profile) (c : Component) → allowance_in p (used p c) ≡ allowance_in p c
used_allowance Exact c = refl
used_allowance Mixed c = refl

-- emptying a slot twice is emptying it once
pub kept_twice : (p : Profile) (n i : ℕ) (c : Component) → kept p n i (kept p n i c) ≡ kept p n i c
kept_twice p n i c = go (leb i n)
  where
    go : (b : Bool) → if b (used p (if b (used p c) none)) none ≡ if b (used p c) none
    go true = used_twice p c
    go false = refl

-- a trimmed template is trimmed
pub trimmed_twice : (t : Template) → trimmed (trimmed t) ≡ trimmed t
unfolding trimmed
trimmed_twice t = simp kept_twice

-- and a search that has one is as it is
pub trimmed_same : (s : Search) → trimmed s.template ≡ s.template → trimmed_search s ≡ s
trimmed_same s e = rw e

kept_counted : (p : Profile) (n i : ℕ) (c : Component) → i ≤ n → kept p n i c ≡ used p c
kept_counted p n i c h = rw (le-leb i n h)

-- what is used of a slot that is counted stays
pub trimmed_slot : (t : Template) (i : ℕ) → i < t.count → get_or (slots (trimmed t)) i none ≡ used t.profile (get_or (slots t) i none)
unfolding trimmed
trimmed_slot t zero h = kept_counted t.profile t.count 1 t.c1 (omega arith)
trimmed_slot t (suc zero) h = kept_counted t.profile t.count 2 t.c2 (omega arith)
trimmed_slot t (suc (suc zero)) h = kept_counted t.profile t.count 3 t.c3 (omega arith)
trimmed_slot t (suc (suc (suc zero))) h = kept_counted t.profile t.count 4 t.c4 (omega arith)
trimmed_slot t (suc (suc (suc (suc zero)))) h = kept_counted t.profile t.count 5 t.c5 (omega arith)
trimmed_slot t (suc (suc (suc (suc (suc zero))))) h = kept_counted t.profile t.count 6 t.c6 (omega arith)
trimmed_slot t (suc (suc (suc (suc (suc (suc i)))))) h = go t.profile
  where
    go : (p : Profile) → none ≡ used p none
    go Exact = refl
    go Mixed = refl

-- and so the components are what is used of them
pub trimmed_components : (t : Template) → components (trimmed t) ≡ map (used t.profile) (components t)
unfolding components trimmed
trimmed_components t = take_same t.count (slots (trimmed t)) (slots t) refl (trimmed_slot t)
  where
    take_same : (n : ℕ) (xs ys : List Component) → length xs ≡ length ys → ((i : ℕ) → i < n → get_or xs i none ≡ used t.profile (get_or ys i none))
        → take n xs ≡ map (used t.profile) (take n ys)
    take_same zero xs ys l h = refl
    take_same (suc n) [] [] l h = refl
    take_same (suc n) [] (y ∷ ys) l h = absurd (omega arith)
    take_same (suc n) (x ∷ xs) [] l h = absurd (omega arith)
    take_same (suc n) (x ∷ xs) (y ∷ ys) l h = let e : x ≡ used t.profile y = h 0 (omega arith) in rw (e, take_same n xs ys (omega arith) (λ i k. h (suc i) (omega arith)))

-- WHAT IS READ OF COMPONENTS: their lengths, the parts of a motif, whether its letters are allowed, the spans of the gaps to come, and what
-- the checks look at
module _ (p : Profile) where
  lengths_used : (cs : List Component) → map (λ c. c.length) (map (used p) cs) ≡ map (λ c. c.length) cs
  lengths_used [] = refl
  lengths_used (c ∷ cs) = rw (lengths_used cs)

  parts_used : (R : Reading) → ((c : Component) → R.slack (used p c) ≡ R.slack c) → (n : ℕ) (cs : List Component) (w : List ℕ) → deal R n (map (used p) cs) w ≡ deal R n cs w
  unfolding deal
  parts_used R e n [] w = refl
  parts_used R e n (c ∷ cs) [] = refl
  parts_used R e n (c ∷ cs) (x ∷ w) = rw (e c, parts_used R e c.length cs (drop c.length (x ∷ w)))

  allowed_used : (f : Component → List ℕ → Bool) → ((c : Component) (w : List ℕ) → f (used p c) w ≡ f c w) → (cs : List Component) (w : List ℕ)
      → allowed f (map (used p) cs) w ≡ allowed f cs w
  unfolding allowed
  allowed_used f e [] w = refl
  allowed_used f e (c ∷ cs) [] = refl
  allowed_used f e (c ∷ cs) (x ∷ w) = rw (e c (take c.length (x ∷ w)), allowed_used f e cs (drop c.length (x ∷ w)))

  to_come_used : (cs : List Component) (w : List ℕ) → to_come (map (used p) cs) w ≡ to_come cs w
  unfolding to_come
  to_come_used [] w = refl
  to_come_used (c ∷ cs) [] = rw (to_come_used cs [])
  to_come_used (c ∷ cs) (x ∷ w) = to_come_used cs (drop c.length (x ∷ w))

  allowances_used : (cs : List Component) → has_some (keep (bad_allowance p) (map (used p) cs)) ≡ has_some (keep (bad_allowance p) cs)
  unfolding has_some keep
  allowances_used [] = refl
  allowances_used (c ∷ cs) = rw (used_allowance p c) (go (bad_allowance p c) (allowances_used cs))
    where
      go : (b : Bool) → has_some (keep (bad_allowance p) (map (used p) cs)) ≡ has_some (keep (bad_allowance p) cs)
          → has_some (if b (used p c ∷ keep (bad_allowance p) (map (used p) cs)) (keep (bad_allowance p) (map (used p) cs))) ≡ has_some (if b (c ∷ keep (bad_allowance p) cs) (keep (bad_allowance p) cs))
      go true e = refl
      go false e = e

-- a kind of search allows a component what it allows what is used of it
allows_used : (p : Profile) (c : Component) (w : List ℕ) → (profile_by p).allows (used p c) w ≡ (profile_by p).allows c w
unfolding profile_by exactly mixed within
allows_used Exact c w = refl
allows_used Mixed c w = refl

-- THE SAME OF A TEMPLATE
pub trimmed_size : (t : Template) → size (trimmed t) ≡ size t
unfolding size
trimmed_size t = rw (trimmed_components t, lengths_used t.profile (components t))

-- it asks for the same kind of search
pub trimmed_profile : (t : Template) → profile_of (trimmed t) ≡ profile_of t
unfolding trimmed
trimmed_profile t = refl

pub trimmed_parts : (t : Template) (j m : ℕ) → parts (trimmed t) j m ≡ parts t j m
unfolding parts_in
trimmed_parts t j m =
    let p = t.profile in
    rw (trimmed_profile t, trimmed_components t)
    (parts_used p (profile_by p).reading (λ c. rw (kind_tight p (used p c), kind_tight p c)) 0 (components t) (spell (base_of t) j m))

pub trimmed_allowed : (t : Template) → allowed_in (profile_of t) (trimmed t) ≡ allowed_in (profile_of t) t
unfolding allowed_in
trimmed_allowed t = let p = t.profile in fun_ext (λ j. fun_ext (λ m. rw (trimmed_components t) (allowed_used p (profile_by p).allows (allows_used p) (components t) (spell (base_of t) j m))))

pub trimmed_measure : (t : Template) (ss : List (List ℕ)) → measure (profile_of t) (trimmed t) ss ≡ measure (profile_of t) t ss
unfolding measure trimmed
trimmed_measure t ss = fun_ext (λ j. fun_ext (λ m. rw (trimmed_parts t j m, trimmed_components t, to_come_used t.profile (components t) (spell (base_of t) j m))))

-- so its walk is the same, and its places keep the same rule
pub walk_trimmed : (t : Template) (quorum : ℕ) (ss : List (List ℕ)) → walk_over (trimmed t) quorum ss ≡ walk_over t quorum ss
unfolding walk_in
walk_trimmed t quorum ss = rw (trimmed_profile t, trimmed_allowed t, trimmed_measure t ss, trimmed_size t)

pub trimmed_rule : (t : Template) (p : Place) → meets_place_rule (trimmed t) p ≡ meets_place_rule t p
unfolding meets_place_rule
trimmed_rule t p = rw (trimmed_profile t, trimmed_allowed t, trimmed_size t)

-- and it is sound where the template is
pub trimmed_sound : (t : Template) → SoundTemplate t → SoundTemplate (trimmed t)
unfolding trimmed
trimmed_sound t o =
    let p = t.profile in
    record {
      some = o.some;
      few = o.few;
      deep = rw (trimmed_size t) o.deep;
      short = rw (trimmed_size t) o.short;
      each = λ i h. rw (trimmed_slot t i h) (let c = o.each i h in record { some = c.some; short = c.short; ordered = c.ordered; near = c.near });
      within = λ i h. rw (trimmed_slot t i h, used_allowance p (get_or (slots t) i none)) (o.within i h);
      low = ap (λ (c : Component). c.low) (kept_counted p t.count 1 t.c1 o.some) ∙ o.low;
      high = ap (λ (c : Component). c.high) (kept_counted p t.count 1 t.c1 o.some) ∙ o.high;
    }

-- so a new search begins alike, and a recovery answers the same
pub begin_trimmed : (letters lengths : List ℕ) (t : Template) (quorum : ℕ) → begin_rule letters lengths (trimmed t) quorum ≡ begin_rule letters lengths t quorum
unfolding begin_rule begun new_checks check5 check6 check7 check8 check24 trimmed
begin_trimmed letters lengths t quorum =
    let p = t.profile in
    rw (
      trimmed_twice t,
      trimmed_components t,
      first_bad_map 6 bad_length (used p) (λ i c. refl) 1 (components t),
      first_bad_map 8 bad_gap (used p) (λ i c. refl) 1 (components t),
      allowances_used p (components t),
      trimmed_size t,
    )

pub recover_trimmed : (letters lengths : List ℕ) (t : Template) (m f : ℕ) (out : List ℕ) → recover_rule letters lengths (trimmed t) m f out ≡ recover_rule letters lengths t m f out
unfolding recover_rule recover_checks check5 check6 check7 check8 check14 check15 check24 page whole_list trimmed
recover_trimmed letters lengths t m f out =
    let p = t.profile in
    rw (
      trimmed_parts t (size (trimmed t)) m,
      trimmed_components t,
      first_bad_map 6 bad_length (used p) (λ i c. refl) 1 (components t),
      first_bad_map 8 bad_gap (used p) (λ i c. refl) 1 (components t),
      allowances_used p (components t),
      trimmed_size t,
      trimmed_allowed t,
    )
