-- `stands` meets its contract: letters stand where each fits the byte beside it, and not where fewer bytes are left.
use borrow.Author.Rules.{rules}
use mathlib.Core.Path.{ap, ◌∙◌}
use Prim.Native.Nat.{◌-◌}
use native.Mathlib.Omega.{arith}
use lib.ListN.{length, take, drop, length-take, length-drop}
use lib.Seq.{take_all}
use borrow.Author.Tests.{lt-leb}
use Rattle.std.proofs.lemmas.Iterator.{YieldsList-from_slice, YieldsList-from_zip}
use Rattle.std.proofs.lemmas.Iterator.Search.{all_from_yields_List}
use Rattle.std.specs.List.{list_all}
use Rattle.ways.specs.Counts.{fits_byte}
use Rattle.ways.proofs.LetterByLetter.{value_small, stands_short, zip_front, stands_each}
use Rattle.ways.proofs.stands.Goals as goal

pub all-requires-clause-callable : goal.all-requires-clause-callable
all-requires-clause-callable c = search (rules, value_small)

pub returns-then-word-rest : goal.returns-then-word-rest
returns-then-word-rest c =
    let w = c.args.word.now in
    let left = take (length c.args.s.now - c.args.o) (drop c.args.o c.args.s.now) in
    all_from_yields_List (λ p. fits_byte p.0 p.1) c.all.new.self _ _ c.all.ensures.ran (YieldsList-from_zip (YieldsList-from_slice w cc) (YieldsList-from_slice (take (length w) left) cc)) (λ x b q k. search rules)
    ∙ ap (list_all (λ p. fits_byte p.0 p.1)) (zip_front w left) ∙ stands_each w c.args.s.now c.args.o left (take_all _ _ (simp length-drop (omega arith))) c.if-word-rest.true

pub returns-else-word-rest : goal.returns-else-word-rest
returns-else-word-rest c =
    lt-leb _ _ c.if-word-rest.false ∙ stands_short c.args.word.now c.args.s.now c.args.o (let few = c.if-word-rest.false in omega (arith, length-take (length c.args.s.now - c.args.o) (drop c.args.o c.args.s.now), length-drop c.args.o c.args.s.now))
