-- Templates: their components, K, and the parts that a prefix of a motif has under one.
use Rattle.std.specs.Prelude.{Bool, List, [], ◌∷◌, map, ℕ, ◌+◌, ◌-◌, leb, eqb, take, drop}
use Rattle.rules.specs.Lists.{if, sum}
use Rattle.rules.specs.declared.Component.{Component}
use Rattle.rules.specs.declared.Distances.{Distances}
use Rattle.rules.specs.declared.Profile as declared
use Rattle.rules.specs.declared.Profile.TheVariants.{Exact, Mixed}
use Rattle.rules.specs.declared.Template.{Template}

-- a component of n letters after a gap of l to u, and one that allows so many letters that stand for several bases
abbrev pub component : ℕ → ℕ → ℕ → Component
component n l u = record { length = n; low = l; high = u; allowance = 0 }

abbrev pub allowing : ℕ → Component → Component
allowing a c = record { length = c.length; low = c.low; high = c.high; allowance = a }

-- what stands in a slot past the last component
abbrev pub none : Component
none = component 0 0 0

-- a template of a kind of search, so many components and its six slots
abbrev pub with_slots : declared.Profile → ℕ → Component → Component → Component → Component → Component → Component → Template
with_slots p n c1 c2 c3 c4 c5 c6 = record { profile = p; count = n; c1 = c1; c2 = c2; c3 = c3; c4 = c4; c5 = c5; c6 = c6 }

-- the slots of a template, and its components: the first of them, as many as it counts
abbrev pub slots : Template → List Component
slots t = t.c1 ∷ t.c2 ∷ t.c3 ∷ t.c4 ∷ t.c5 ∷ t.c6 ∷ []

unfoldable pub components : Template → List Component
components t = take t.count (slots t)

-- K, the letters in all
unfoldable pub size : Template → ℕ
size t = sum (map (λ c. c.length) (components t))

-- the allowance of a component, by the kind of search: an exact one has none, whatever stands there
abbrev pub allowance_in : declared.Profile → Component → ℕ
allowance_in Exact c = 0
allowance_in Mixed c = c.allowance

-- a template with nothing in what it does not use: the slots that it does not count, and in an exact search the allowances
abbrev pub kept : declared.Profile → ℕ → ℕ → Component → Component
kept p n i c = if (leb i n) (allowing (allowance_in p c) c) none

unfoldable pub trimmed : Template → Template
trimmed t = record {
  profile = t.profile;
  count = t.count;
  c1 = kept t.profile t.count 1 t.c1;
  c2 = kept t.profile t.count 2 t.c2;
  c3 = kept t.profile t.count 3 t.c3;
  c4 = kept t.profile t.count 4 t.c4;
  c5 = kept t.profile t.count 5 t.c5;
  c6 = kept t.profile t.count 6 t.c6;
}

-- a component of a motif: how far its start may lie from the start of the one before, at least and at most; its letters; which
-- letter of a sequence each of them fits, and how many may fail to
pub record Part : Type 0 where
  pub near : ℕ
  pub far : ℕ
  pub word : List ℕ
  pub fits : ℕ → ℕ → Bool
  pub slack : ℕ

-- how the letters of a kind of search are read
pub record Reading : Type 0 where
  pub fits : ℕ → ℕ → Bool
  pub slack : Component → ℕ

-- exactly: a letter fits itself, and none may fail to
abbrev pub literal : Reading
literal = record { fits = eqb; slack = λ c. 0 }

-- how far one start lies from the next, over n letters and a gap
unfoldable pub distance : ℕ → ℕ → ℕ
distance n gap = n + gap

-- how many positions the range from low to high has
abbrev pub span : ℕ → ℕ → ℕ
span low high = high + 1 - low

-- how far the start of a component may lie from that of the one before, which has n letters, if the gap between has low to high: the
-- least distance, and how many there are
abbrev pub distances : ℕ → ℕ → ℕ → Distances
distances n low high = record { near = distance n low; count = span (distance n low) (distance n high) }

-- those of the component c after b
abbrev pub after : Component → Component → Distances
after c b = distances b.length c.low c.high

-- a component's part with the letters w, after a component of n letters
abbrev pub part_of : Reading → ℕ → Component → List ℕ → Part
part_of R n c w = record { near = distance n c.low; far = distance n c.high; word = w; fits = R.fits; slack = R.slack c }

-- a part that is read exactly
abbrev pub part : ℕ → ℕ → List ℕ → Part
part near far w = record { near = near; far = far; word = w; fits = eqb; slack = 0 }

-- the letters of a motif, or of a prefix, dealt out to the components that follow one of n letters: the last one cut short, and
-- none after it
unfoldable pub deal : Reading → ℕ → List Component → List ℕ → List Part
deal R n [] w = []
deal R n (c ∷ cs) [] = []
deal R n (c ∷ cs) (x ∷ w) = part_of R n c (take c.length (x ∷ w)) ∷ deal R c.length cs (drop c.length (x ∷ w))

-- exactly: after a component of n letters, and from the first component on
abbrev pub cut_after : ℕ → List Component → List ℕ → List Part
cut_after n cs w = deal literal n cs w

abbrev pub cut : List Component → List ℕ → List Part
cut cs w = cut_after 0 cs w
