-- Past the last thing that a call writes, its tables stay: what it writes is put to the front, and fits. A save fits by 17, a
-- join keeps no more than its first list has, a recovery's page has as many rows as fit whole, and a leg no more than its room.
use mathlib.Core.Path.{◌≡◌, refl, ap, ◌∙◌}
use mathlib.Core.Logic.{◌⊎◌, inl, inr}
use mathlib.Core.List.{List, [], ◌∷◌, ◌++◌, Memᴰ}
use Prim.Native.Nat.{ℕ, zero, suc, ◌+◌, ◌-◌, ◌*◌, ◌/◌, ◌≤◌, ◌<◌, min}
use native.Mathlib.Nat.{div-mul-le_self, mul-le-mul_right}
use native.Mathlib.Omega.{arith}
use lib.ListN.{length, take, drop, get_or, length-append, length-drop, length-take, length-map}
use lib.Seq.{get_or-append-add, get_or-drop}
use Rattle.rules.specs.Calls.{LegRule, stretch, supports_of, weights_of, leg_rule, on_refusal, written_unless, save_rule, recover_rule, join_rule}
use Rattle.rules.specs.Join.{partners, partnered}
use Rattle.rules.specs.Legs.{leg}
use Rattle.rules.specs.Lists.{keep, joined, put, put_at, has_some}
use Rattle.rules.specs.Recovery.{whole_list, page}
use Rattle.rules.specs.Refusals.{first, search_checks, save_checks, recover_checks, join_checks}
use Rattle.rules.specs.Refused.{Stays, StaysOutside}
use Rattle.rules.specs.Saved.{bytes}
use Rattle.rules.specs.Sequences.{sequences}
use Rattle.rules.specs.Sound.{SoundTemplate}
use Rattle.rules.specs.Support.{parts}
use Rattle.rules.specs.Template.{size}
use Rattle.rules.specs.Told.{Verdict, fine, refused, gives}
use Rattle.rules.specs.Walk.{walk_of}
use Rattle.rules.specs.declared.Search.{Search}
use Rattle.rules.specs.declared.Template.{Template}
use Rattle.rules.specs.declared.Recovered.{Recovered}
use Rattle.rules.proofs.Bound.{parts_few}
use Rattle.rules.proofs.Legs.{leg_why}
use Rattle.rules.proofs.Lists.{keep_few}
use Rattle.rules.proofs.Occurs.{parts_worded, parts_some, rows_are}
use Rattle.rules.proofs.Prefix.{size_some}
use Rattle.rules.proofs.Sound.{save_sound, recover_sound, join_sound}
use Rattle.rules.proofs.Tables.{put_at_long, put_at_before, put_at_past}

-- ---- a list put to the front of a table

-- if it fits, and is no longer than n, the table stays past the first n
pub put_stays : (n : ℕ) (xs table : List ℕ) → length xs ≤ length table → length xs ≤ n → Stays n table (put xs table)
unfolding put
put_stays n xs table fits few = record { long = omega (arith, length-append xs (drop (length xs) table), length-drop (length xs) table); past = past }
  where
    past : (i : ℕ) → n ≤ i → get_or (xs ++ drop (length xs) table) i 0 ≡ get_or table i 0
    past i h =
        let e : length xs + (i - length xs) ≡ i = omega arith in
        rw e at (get_or-append-add xs (drop (length xs) table) (i - length xs) 0 ∙ get_or-drop (length xs) table (i - length xs) 0)

-- and if it is put to it from place n on, the table stays before that and past it
pub put_at_stays : (n : ℕ) (xs table : List ℕ) → n + length xs ≤ length table → StaysOutside n (n + length xs) table (put_at n xs table)
put_at_stays n xs table fits = record { long = put_at_long n xs table fits; past = past }
  where
    past : (i : ℕ) → (i < n) ⊎ (n + length xs ≤ i) → get_or (put_at n xs table) i 0 ≡ get_or table i 0
    past i (inl h) = put_at_before n xs table i (omega arith) h
    past i (inr h) = put_at_past n xs table i (omega arith) h

-- where something is told the checks found nothing, and what is written then is put to the front
written_stays : {A : Type 0} (v : Verdict) (a c : A) (xs out : List ℕ) (n : ℕ) → (written_unless v a xs out).told ≡ gives c
    → (v ≡ fine → c ≡ a → (length xs ≤ length out) × (length xs ≤ n)) → Stays n out (written_unless v a xs out).out
written_stays fine a c xs out n e h = let k = h refl cc in put_stays n xs out k.0 k.1
written_stays (refused m p) a c xs out n e h = let z : ◌≡◌ {A = ℕ} 0 1 = cc in absurd (omega arith)

-- ---- save and join

-- a save tells how many bytes it wrote
pub save_stays : (letters lengths : List ℕ) (s : Search) (out : List ℕ) (k : ℕ) → (save_rule letters lengths s out).told ≡ gives k → Stays k out (save_rule letters lengths s out).out
unfolding save_rule
save_stays letters lengths s out k e = written_stays (first (save_checks letters lengths s out)) _ k (bytes s) out k e (λ v q. ((save_sound letters lengths s out v).1, omega arith))

-- a join, how many positions it kept
pub join_stays : (xs ys : List ℕ) (head low high : ℕ) (out : List ℕ) (k : ℕ) → (join_rule xs ys head low high out).told ≡ gives k → Stays k out (join_rule xs ys head low high out).out
unfolding join_rule partnered
join_stays xs ys head low high out k e =
    let kept = keep (λ p. has_some (partners ys head low high p)) xs in
    written_stays (first (join_checks xs ys head low high out)) (length kept) k kept out k e (λ v q. (omega (arith, keep_few (λ p. has_some (partners ys head low high p)) xs, (join_sound xs ys head low high out v).room), omega arith))

-- ---- recovery

-- the first n of some rows, each of at most w numbers, laid end to end
front_wide : (w n : ℕ) (rows : List (List ℕ)) → ((row : List ℕ) → Memᴰ row rows → length row ≤ w) → length (joined (take n rows)) ≤ length (take n rows) * w
unfolding joined
front_wide w zero rows h = omega arith
front_wide w (suc n) [] h = omega arith
front_wide w (suc n) (r ∷ rows) h = omega (arith, length-append r (joined (take n rows)), h r (Memᴰ.head refl), front_wide w n rows (λ x m. h x (Memᴰ.tail m)))

-- and so from row f on
page_wide : (w n f : ℕ) (rows : List (List ℕ)) → ((row : List ℕ) → Memᴰ row rows → length row ≤ w) → length (joined (take n (drop f rows))) ≤ length (take n (drop f rows)) * w
page_wide w n zero rows h = front_wide w n rows h
page_wide w n (suc f) [] h = front_wide w n [] h
page_wide w n (suc f) (r ∷ rows) h = page_wide w n f rows (λ x m. h x (Memᴰ.tail m))

-- a row has a number for its sequence and at most one for each component
row_short : (t : Template) → SoundTemplate t → (ss : List (List ℕ)) (m : ℕ) (row : List ℕ) → Memᴰ row (whole_list t ss m) → length row ≤ suc t.count
unfolding whole_list
row_short t sound ss m row h =
    let r = (rows_are (parts t (size t) m) ss (parts_worded t sound (size t) m) (parts_some t sound (size t) m (size_some t sound)) row).0 h in
    omega (arith, ap length r.3, r.4.one_each, parts_few t (size t) m)

-- a recovery tells its rows, each of which has that many numbers at the most
pub recover_stays : (letters lengths : List ℕ) (t : Template) (m f : ℕ) (out : List ℕ) (c : Recovered)
    → (recover_rule letters lengths t m f out).told ≡ gives c → Stays (c.rows * suc t.count) out (recover_rule letters lengths t m f out).out
unfolding recover_rule page
recover_stays letters lengths t m f out c e = written_stays (first (recover_checks letters lengths t m f)) _ c (joined rows) out (c.rows * w) e fits
  where
    w : ℕ
    w = suc t.count

    rows : List (List ℕ)
    rows = take (length out / w) (drop f (whole_list t (sequences letters lengths) m))

    fits : first (recover_checks letters lengths t m f) ≡ fine → c ≡ record { rows = length rows; length = length (whole_list t (sequences letters lengths) m) }
        → (length (joined rows) ≤ length out) × (length (joined rows) ≤ c.rows * w)
    fits v q =
        let wide : length (joined rows) ≤ length rows * w = page_wide w (length out / w) f (whole_list t (sequences letters lengths) m) (row_short t (recover_sound letters lengths t m f v).template (sequences letters lengths) m) in
        let few : length rows ≤ length out / w = omega (arith, length-take (length out / w) (drop f (whole_list t (sequences letters lengths) m))) in
        (omega (arith, wide, mul-le-mul_right w few, div-mul-le_self (length out) w), rw q wide)

-- ---- a leg, refused or not

-- each of three tables stays past the rows that are told
abbrev TablesStay : List ℕ → List ℕ → List ℕ → LegRule → Type 0
TablesStay motifs supports weights l = let n = l.told.rows in Stays n motifs l.motifs × Stays n supports l.supports × Stays n weights l.weights

-- they stay whether the checks refuse or not
either_stays : (motifs supports weights : List ℕ) (v : Verdict) (f : ℕ → ℕ → LegRule) (l : LegRule)
    → ((n p : ℕ) → TablesStay motifs supports weights (f n p)) → TablesStay motifs supports weights l → TablesStay motifs supports weights (on_refusal v f l)
either_stays motifs supports weights fine f l h k = k
either_stays motifs supports weights (refused n p) f l h k = h n p

-- a table that nothing was written to stays whole
untouched : (table : List ℕ) → Stays 0 table table
untouched table = record { long = refl; past = λ i h. refl }

-- a leg tells its rows, which are none where it is refused
pub leg_stays : (letters lengths : List ℕ) (s : Search) (budget : ℕ) (motifs supports weights : List ℕ) → TablesStay motifs supports weights (leg_rule letters lengths s budget motifs supports weights)
unfolding leg_rule stretch supports_of weights_of
leg_stays letters lengths s budget motifs supports weights =
    either_stays motifs supports weights (first (search_checks letters lengths s)) _ _
    (λ n p. (untouched motifs, untouched supports, untouched weights)) (
      put_stays (length listed) listed motifs (omega (arith, fit)) (omega arith),
      put_stays (length listed) (supports_of letters lengths s listed) supports (omega (arith, fit, a)) (omega (arith, a)),
      put_stays (length listed) (weights_of letters lengths s listed) weights (omega (arith, fit, b)) (omega (arith, b)),
    )
  where
    room : ℕ
    room = min (length motifs) (min (length supports) (length weights))

    listed : List ℕ
    listed = (leg (walk_of letters lengths s) budget room s.place).motifs

    fit : length listed ≤ room
    fit = (leg_why (walk_of letters lengths s) budget room s.place).listed_fit

    -- a support and a weighted support for each row
    a : length (supports_of letters lengths s listed) ≡ length listed
    a = length-map listed _

    b : length (weights_of letters lengths s listed) ≡ length listed
    b = length-map listed _
