-- The paper's own sentence of an occurrence. What `Occurs` says of parts whose every letter must fit, `OccursBy` says of the
-- components and their ranges, and back: a part's distances are its range after the length of the component before it.
use mathlib.Core.Path.{◌≡◌, refl, sym, ap, ◌∙◌}
use mathlib.Core.Bool.{true}
use mathlib.Core.Logic.Iff
use mathlib.Core.Logic.{◌↔◌}
use mathlib.Core.List.{List, [], ◌∷◌}
use Prim.Native.Nat.{ℕ, zero, suc, ◌<◌}
use native.Mathlib.Omega.{arith}
use lib.ListN.{length, drop, get_or}
use borrow.Author.Tests.{eqb-true, eq-eqb}
use Rattle.rules.specs.Occurrence.{nth, Found, Follows, Occurs, Stands, Gap, OccursBy, OccursExactly}
use Rattle.rules.specs.Template.{Reading, literal, none, distance, deal, cut_after, cut}
use Rattle.rules.specs.declared.Component.{Component}
use Rattle.rules.proofs.Apart.{follows_range}
use Rattle.rules.proofs.Stands.{stands_fitting}

-- the distances of a component's part, if the one before has n letters
record Placed (n : ℕ) (c : Component) (near far : ℕ) : Type 0 where
  least : near ≡ distance n c.low
  most : far ≡ distance n c.high

first_placed : (R : Reading) (n : ℕ) (cs : List Component) (w : List ℕ) → 0 < length (deal R n cs w)
    → Placed n (get_or cs 0 none) (nth (deal R n cs w) 0).near (nth (deal R n cs w) 0).far
unfolding deal
first_placed R n [] w l = absurd (omega arith)
first_placed R n (c ∷ cs) [] l = absurd (omega arith)
first_placed R n (c ∷ cs) (x ∷ w) l = record { least = refl; most = refl }

-- in every reading
placed : (R : Reading) (n : ℕ) (cs : List Component) (w : List ℕ) (i : ℕ) → suc i < length (deal R n cs w)
    → Placed (get_or cs i none).length (get_or cs (suc i) none) (nth (deal R n cs w) (suc i)).near (nth (deal R n cs w) (suc i)).far
unfolding deal
placed R n [] w i l = absurd (omega arith)
placed R n (c ∷ cs) [] i l = absurd (omega arith)
placed R n (c ∷ cs) (x ∷ w) zero l = first_placed R c.length cs (drop c.length (x ∷ w)) (omega arith)
placed R n (c ∷ cs) (x ∷ w) (suc i) l = placed R c.length cs (drop c.length (x ∷ w)) i (omega arith)

-- to follow within the distances is to keep the gap's range
pub follows_gap : (R : Reading) (n : ℕ) (cs : List Component) (w : List ℕ) (i p q : ℕ) → suc i < length (deal R n cs w)
    → Follows (nth (deal R n cs w) (suc i)).near (nth (deal R n cs w) (suc i)).far p q
    ↔ Gap (get_or cs i none).length (get_or cs (suc i) none).low (get_or cs (suc i) none).high p q
follows_gap R n cs w i p q l =
    let d = placed R n cs w i l in
    rw (d.least, d.most) (follows_range (get_or cs i none).length (get_or cs (suc i) none).low (get_or cs (suc i) none).high p q)

-- so many parts, with the same letters, however they are read
deal_long : (R : Reading) (n : ℕ) (cs : List Component) (w : List ℕ) → length (deal R n cs w) ≡ length (cut_after n cs w)
unfolding deal
deal_long R n [] w = refl
deal_long R n (c ∷ cs) [] = refl
deal_long R n (c ∷ cs) (x ∷ w) = ap suc (deal_long R c.length cs (drop c.length (x ∷ w)))

-- ---- where every letter must fit

module _ (R : Reading) (tight : (c : Component) → R.slack c ≡ 0) where
  -- a part is found where each of its letters fits the one there
  deal_stands : (n : ℕ) (cs : List Component) (w s : List ℕ) (i p : ℕ) → i < length (cut_after n cs w)
      → Found (nth (deal R n cs w) i) s p ↔ Stands (λ x y. R.fits x y ≡ true) (nth (cut_after n cs w) i).word s p
  unfolding deal
  deal_stands n [] w s i p l = absurd (omega arith)
  deal_stands n (c ∷ cs) [] s i p l = absurd (omega arith)
  deal_stands n (c ∷ cs) (x ∷ w) s zero p l = rw (tight c) (stands_fitting R.fits _ s p)
  deal_stands n (c ∷ cs) (x ∷ w) s (suc i) p l = deal_stands c.length cs (drop c.length (x ∷ w)) s i p (omega arith)

  pub occurs_fitting : (cs : List Component) (w s ps : List ℕ) → Occurs (deal R 0 cs w) s ps ↔ OccursBy (λ x y. R.fits x y ≡ true) cs w s ps
  occurs_fitting cs w s ps =
      let e = deal_long R 0 cs w in (
        λ o. record {
          one_each = o.one_each ∙ e;
          standing = λ i l. (deal_stands 0 cs w s i _ l).0 (o.standing i (rw e l));
          gaps = λ i l. (follows_gap R 0 cs w i _ _ (rw e l)).0 (o.gaps i (rw e l));
        },
        λ o. record {
          one_each = o.one_each ∙ sym e;
          standing = λ i l. (deal_stands 0 cs w s i _ (rw e at l)).1 (o.standing i (rw e at l));
          gaps = λ i l. (follows_gap R 0 cs w i _ _ l).1 (o.gaps i (rw e at l));
        },
      )

-- ---- what it is to fit

fits_more : {F G : ℕ → ℕ → Type 0} → ((x y : ℕ) → F x y → G x y) → (cs : List Component) (w s ps : List ℕ) → OccursBy F cs w s ps → OccursBy G cs w s ps
fits_more more cs w s ps o =
    record {
      one_each = o.one_each;
      standing = λ i l. let h = o.standing i l in record { counted = h.counted; room = h.room; each = λ k m. more _ _ (h.each k m) };
      gaps = o.gaps;
    }

-- a reading says of an occurrence what it says of each letter
pub occurs_by : (R : Reading) → ((c : Component) → R.slack c ≡ 0) → (Fits : ℕ → ℕ → Type 0) → ((x y : ℕ) → (R.fits x y ≡ true) ↔ Fits x y)
    → (cs : List Component) (w s ps : List ℕ) → Occurs (deal R 0 cs w) s ps ↔ OccursBy Fits cs w s ps
occurs_by R tight Fits says cs w s ps =
    Iff.trans (occurs_fitting R tight cs w s ps) (fits_more (λ x y. (says x y).0) cs w s ps, fits_more (λ x y. (says x y).1) cs w s ps)

-- exactly: it is the one there
pub occurs_exactly : (cs : List Component) (w s ps : List ℕ) → Occurs (cut cs w) s ps ↔ OccursExactly cs w s ps
occurs_exactly = occurs_by literal (λ c. refl) (λ x y. y ≡ x) (λ x y. (λ e. sym (eqb-true x y e), λ e. eq-eqb x y (sym e)))
