-- A leg passes the candidates between its two places; legs laid end to end pass them all.
use mathlib.Core.Path.{◌≡◌, refl, sym, ap, ◌∙◌}
use mathlib.Core.Bool.{Bool, true, false, ◌&&◌, false≢true}
use mathlib.Core.List.{List, [], ◌∷◌, ◌++◌, append_assoc, append-nil}
use Prim.Native.Nat.{ℕ, zero, suc, ◌+◌, ◌/◌, ◌≤◌}
use native.Mathlib.Omega.{arith}
use lib.ListN.{length, length-append}
use lib.Dec.{ltb, eqb}
use borrow.Author.Tests.{eqb-true, eqb-false, eq-eqb, ne_eqb, ltb-true}
use Rattle.rules.specs.Lists.{if, keep}
use Rattle.rules.specs.Walk.{Walk, place, children, later, choose, up, from, next, start, motif, listed}
use Rattle.rules.specs.Legs.{is_ended, Stretch, halt, then, on, Grant, leg, legs, Passed, AmpleGrants}
use Rattle.rules.specs.declared.Stop.{Stop}
use Rattle.rules.specs.declared.Stop.TheVariants.{Ended, Spent, Full}
use Rattle.rules.specs.declared.Place.{Place}
use Rattle.rules.proofs.Step.{step_at, at_end}
use Rattle.rules.proofs.Whole.{listed_append, listed_skip}

-- a loop's way along a leg: s steps taken, ns listed, and q the place
abbrev pub so_far : ℕ → List ℕ → Place → Stretch
so_far s ns q = record { stop = Spent; steps = s; motifs = ns; at = q }

pub so_far_start : (p : Place) (l : Stretch) → l ≡ on (so_far 0 [] p) l
so_far_start p l = let h : 0 + l.steps ≡ l.steps = omega arith in rw h

pub so_far_step : (s : ℕ) (ns ms : List ℕ) (q q' : Place) (l : Stretch) → on (so_far s ns q) (then ms l) ≡ on (so_far (suc s) (ns ++ ms) q') l
so_far_step s ns ms q q' l = let h : s + suc l.steps ≡ suc s + l.steps = omega arith in rw (h, append_assoc)

pub so_far_stop : (s : ℕ) (ns : List ℕ) (a : Stop) (q : Place) → on (so_far s ns q) (halt a q) ≡ record { stop = a; steps = s; motifs = ns; at = q }
so_far_stop s ns a q = let h : s + 0 ≡ s = omega arith in rw (h, append-nil)

ended_true : (a : Stop) → is_ended a ≡ true → a ≡ Ended
ended_true Ended e = refl
ended_true Spent e = absurd (false≢true e)
ended_true Full e = absurd (false≢true e)

module _ (W : Walk) where
  open W use {base, may, good, depth}

  choose_size : (p : Place) (j k : ℕ) (ns : List ℕ) → p.letters ≤ k → j ≤ k → (choose p j ns).letters ≤ k
  choose_size p j k [] h l = h
  choose_size p j k (n ∷ ns) h l = l

  up_size : (j m : ℕ) → (up W j m).letters ≤ j
  unfolding up
  up_size zero m = omega arith
  up_size (suc j) m = choose_size (up W j (m / base)) (suc j) (suc j) (later W (suc j) m) (omega (arith, up_size j (m / base))) (omega arith)

  pub next_size : (p : Place) → p.letters ≤ depth → (next W p).letters ≤ depth
  unfolding next
  next_size p h = go (ltb p.letters depth) (good p.letters p.number) refl
    where
      u : (up W p.letters p.number).letters ≤ depth
      u = omega (arith, up_size p.letters p.number)

      go : (a b : Bool) → ltb p.letters depth ≡ a → (if (a && b) (choose (up W p.letters p.number) (suc p.letters) (children W p.letters p.number)) (up W p.letters p.number)).letters ≤ depth
      go true true e = choose_size _ (suc p.letters) depth (children W p.letters p.number) u (ltb-true _ _ e)
      go true false e = u
      go false b e = u

  pub start_size : 1 ≤ depth → (start W).letters ≤ depth
  unfolding start
  start_size h = choose_size (place 0 0) 1 depth (children W 0 0) (omega arith) h

  listed_take : (p : Place) (ps : List Place) → motif W p ≡ true → listed W (p ∷ ps) ≡ p.number ∷ listed W ps
  unfolding listed keep
  listed_take p ps e = rw e

  listed_none : listed W [] ≡ []
  unfolding listed keep
  listed_none = refl

  halted : (a : Stop) (p : Place) → p.letters ≤ depth → is_ended a ≡ eqb p.letters 0 → Passed W p (halt a p)
  halted a p h e = record { taken = []; split = refl; counts = refl; lists = sym listed_none; says = e; fits = h }

  -- a leg's clauses, for a loop that follows it
  module _ (b r : ℕ) (p : Place) where
    pub leg_ended : p.letters ≡ 0 → leg W b r p ≡ halt Ended p
    unfolding leg
    leg_ended e = go b
      where
        go : (b : ℕ) → leg W b r p ≡ halt Ended p
        go zero = rw (eq-eqb p.letters 0 e)
        go (suc b) = rw (eq-eqb p.letters 0 e)

    module _ (h : 1 ≤ p.letters) where
      pub leg_spent : leg W 0 r p ≡ halt Spent p
      unfolding leg
      leg_spent = rw (ne_eqb p.letters 0 (omega arith))

      pub leg_full : motif W p ≡ true → leg W (suc b) 0 p ≡ halt Full p
      unfolding leg
      leg_full e = rw (ne_eqb p.letters 0 (omega arith), e)

      pub leg_lists : motif W p ≡ true → leg W (suc b) (suc r) p ≡ then (p.number ∷ []) (leg W b r (next W p))
      unfolding leg
      leg_lists e = rw (ne_eqb p.letters 0 (omega arith), e)

      pub leg_passes : motif W p ≡ false → leg W (suc b) r p ≡ then [] (leg W b r (next W p))
      unfolding leg
      leg_passes e = rw (ne_eqb p.letters 0 (omega arith), e)

  -- what a leg's answer says of its budget and room
  pub record Why (b r : ℕ) (l : Stretch) : Type 0 where
    pub steps_fit : l.steps ≤ b
    pub listed_fit : length l.motifs ≤ r
    pub if_spent : l.stop ≡ Spent → l.steps ≡ b
    pub if_full : l.stop ≡ Full → (length l.motifs ≡ r) × (motif W l.at ≡ true)

  pub leg_why : (b r : ℕ) (p : Place) → Why b r (leg W b r p)
  unfolding leg
  leg_why zero r p = record { steps_fit = omega arith; listed_fit = omega arith; if_spent = λ e. refl; if_full = go (eqb p.letters 0) }
    where
      go : (c : Bool) → if c Ended Spent ≡ Full → (◌≡◌ {A = ℕ} 0 r) × (motif W p ≡ true)
      go true e = (cc, cc)
      go false e = (cc, cc)
  leg_why (suc b) r p = go (eqb p.letters 0) (motif W p) r refl refl (λ k. leg_why b k (next W p))
    where
      go : (a c : Bool) (r : ℕ) → eqb p.letters 0 ≡ a → motif W p ≡ c → ((k : ℕ) → Why b k (leg W b k (next W p))) → Why (suc b) r (leg W (suc b) r p)
      go true c r e f ih = rw e (record { steps_fit = omega arith; listed_fit = omega arith; if_spent = λ q. cc; if_full = λ q. (cc, cc) })
      go false true zero e f ih = rw (e, f) (record { steps_fit = omega arith; listed_fit = omega arith; if_spent = λ q. cc; if_full = λ q. (refl, f) })
      go false true (suc r) e f ih = rw (e, f) (record { steps_fit = omega (arith, (ih r).steps_fit); listed_fit = omega (arith, (ih r).listed_fit); if_spent = λ q. ap suc ((ih r).if_spent q); if_full = λ q. (ap suc ((ih r).if_full q).0, ((ih r).if_full q).1) })
      go false false r e f ih = rw (e, f) (record { steps_fit = omega (arith, (ih r).steps_fit); listed_fit = (ih r).listed_fit; if_spent = λ q. ap suc ((ih r).if_spent q); if_full = (ih r).if_full })

  module _ (pos : 1 ≤ base) where
    stepped : (p : Place) (l : Stretch) (ms : List ℕ) → 1 ≤ p.letters → p.letters ≤ depth → Passed W (next W p) l → ((ps : List Place) → listed W (p ∷ ps) ≡ ms ++ listed W ps) → Passed W p (then ms l)
    stepped p l ms h k r e = record {
      taken = p ∷ r.taken;
      split = step_at W pos p h k ∙ ap (λ ps. p ∷ ps) r.split;
      counts = ap suc r.counts;
      lists = ap (λ ns. ms ++ ns) r.lists ∙ sym (e r.taken);
      says = r.says;
      fits = r.fits;
    }

    -- T4
    pub leg_law : (b r : ℕ) (p : Place) → p.letters ≤ depth → Passed W p (leg W b r p)
    unfolding leg
    leg_law zero r p h = halted (if (eqb p.letters 0) Ended Spent) p h (go (eqb p.letters 0))
      where
        go : (b : Bool) → is_ended (if b Ended Spent) ≡ b
        go true = refl
        go false = refl
    leg_law (suc b) r p h = go (eqb p.letters 0) (motif W p) r refl refl (λ k. leg_law b k (next W p) (next_size p h))
      where
        go : (a c : Bool) (r : ℕ) → eqb p.letters 0 ≡ a → motif W p ≡ c → ((k : ℕ) → Passed W (next W p) (leg W b k (next W p))) → Passed W p (leg W (suc b) r p)
        go true c r e f ih = rw e (halted Ended p h (sym e))
        go false true zero e f ih = rw (e, f) (halted Full p h (sym e))
        go false true (suc r) e f ih = rw (e, f) (stepped p _ (p.number ∷ []) (omega (arith, eqb-false)) h (ih r) (λ ps. listed_take p ps f))
        go false false r e f ih = rw (e, f) (stepped p _ [] (omega (arith, eqb-false)) h (ih r) (λ ps. listed_skip W p ps f))

    -- a leg with a budget and room that does not start at the end takes a step
    moves : (b r : ℕ) (p : Place) → 1 ≤ b → 1 ≤ r → 1 ≤ p.letters → 1 ≤ (leg W b r p).steps
    unfolding leg
    moves zero r p h k l = absurd (omega arith)
    moves (suc b) zero p h k l = absurd (omega arith)
    moves (suc b) (suc r) p h k l = rw (ne_eqb p.letters 0 (omega arith)) (go (motif W p))
      where
        go : (c : Bool) → 1 ≤ (if c (then (p.number ∷ []) (leg W b r (next W p))) (then [] (leg W b (suc r) (next W p)))).steps
        go true = omega arith
        go false = omega arith

    joins : (p : Place) (k l : Stretch) → Passed W p k → Passed W k.at l → Passed W p (on k l)
    joins p k l q r = record {
      taken = q.taken ++ r.taken;
      split = q.split ∙ ap (λ ps. q.taken ++ ps) r.split ∙ sym (append_assoc q.taken r.taken (from W l.at));
      counts = rw length-append (omega (arith, q.counts, r.counts));
      lists = rw (q.lists, r.lists) (sym (listed_append W q.taken r.taken));
      says = r.says;
      fits = r.fits;
    }

    pub legs_law : (gs : List Grant) (p : Place) → p.letters ≤ depth → Passed W p (legs W gs p)
    unfolding legs leg
    legs_law [] p h = leg_law 0 0 p h
    legs_law (g ∷ gs) p h = go (is_ended (leg W g.budget g.room p).stop) (leg_law g.budget g.room p h) (λ q. legs_law gs q)
      where
        l : Stretch
        l = leg W g.budget g.room p

        go : (b : Bool) → Passed W p l → ((q : Place) → q.letters ≤ depth → Passed W q (legs W gs q)) → Passed W p (if b l (on l (legs W gs l.at)))
        go true r ih = r
        go false r ih = joins p l (legs W gs l.at) r (ih l.at r.fits)

    -- legs that answer `ended` passed all there is
    pub ended_all : (gs : List Grant) (p : Place) → p.letters ≤ depth → (legs W gs p).stop ≡ Ended → ((legs W gs p).motifs ≡ listed W (from W p)) × ((legs W gs p).steps ≡ length (from W p))
    ended_all gs p h e = (r.lists ∙ ap (listed W) (sym whole), r.counts ∙ ap length (sym whole))
      where
        r : Passed W p (legs W gs p)
        r = legs_law gs p h

        whole : from W p ≡ r.taken
        whole = r.split ∙ ap (λ ps. r.taken ++ ps) (at_end W pos (legs W gs p).at (eqb-true _ 0 (sym r.says ∙ ap is_ended e))) ∙ append-nil r.taken

    -- with a budget and room in each leg, as many legs as there are candidates are enough
    pub legs_end : (gs : List Grant) (p : Place) → AmpleGrants gs → 1 ≤ p.letters → p.letters ≤ depth → length (from W p) ≤ length gs → (legs W gs p).stop ≡ Ended
    unfolding legs
    legs_end [] p a h k l = absurd (omega (arith, ap length (step_at W pos p h k)))
    legs_end (g ∷ gs) p a h k l = go (is_ended t.stop) refl (legs_end gs t.at a.2)
      where
        t : Stretch
        t = leg W g.budget g.room p

        r : Passed W p t
        r = leg_law g.budget g.room p k

        go : (b : Bool) → is_ended t.stop ≡ b → (1 ≤ t.at.letters → t.at.letters ≤ depth → length (from W t.at) ≤ length gs → (legs W gs t.at).stop ≡ Ended)
            → (if b t (on t (legs W gs t.at))).stop ≡ Ended
        go true e ih = ended_true t.stop e
        go false e ih = ih (omega (arith, eqb-false t.at.letters 0 (sym r.says ∙ e))) r.fits
            (omega (arith, r.counts, simp length-append at (ap length r.split), moves g.budget g.room p a.0 a.1 h))

    -- one leg is enough, with a budget of as many and room for all that are listed: else a candidate is left, and for it a step of
    -- the budget, or it is a motif and there is a row for it
    pub leg_end : (b r : ℕ) (p : Place) → p.letters ≤ depth → length (from W p) ≤ b → length (listed W (from W p)) ≤ r → (leg W b r p).stop ≡ Ended
    leg_end b r p k h l = go t.stop refl
      where
        t : Stretch
        t = leg W b r p

        q : Passed W p t
        q = leg_law b r p k

        left : is_ended t.stop ≡ false → from W p ≡ q.taken ++ (t.at ∷ from W (next W t.at))
        left e = q.split ∙ ap (λ ps. q.taken ++ ps) (step_at W pos t.at (omega (arith, eqb-false t.at.letters 0 (sym q.says ∙ e))) q.fits)

        rows : motif W t.at ≡ true → listed W (q.taken ++ (t.at ∷ from W (next W t.at))) ≡ t.motifs ++ (t.at.number ∷ listed W (from W (next W t.at)))
        rows m = listed_append W q.taken _ ∙ rw (q.lists, listed_take t.at (from W (next W t.at)) m)

        go : (a : Stop) → t.stop ≡ a → t.stop ≡ Ended
        go Ended e = e
        go Spent e = absurd (omega (arith, (leg_why b r p).if_spent e, q.counts, simp length-append at (ap length (left (ap is_ended e)))))
        go Full e =
            let w = (leg_why b r p).if_full e in
            absurd (omega (arith, w.0, simp length-append at (ap length (ap (listed W) (left (ap is_ended e)) ∙ rows w.1))))
