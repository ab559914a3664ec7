-- Texts written one after the other are their lists end to end.
use mathlib.Core.Path.{◌≡◌, refl, sym, ap, ◌∙◌}
use mathlib.Core.List.{List, [], ◌∷◌, ◌++◌, append_assoc}
use Prim.Native.Nat.{ℕ, suc, ◌+◌, ◌-◌, ◌≤◌}
use native.Mathlib.Nat.{add-zero, zero-add}
use native.Mathlib.Omega.{arith}
use borrow.Rule.Slice.PartMut.{put_mid}
use lib.ListN.{length, take, drop, set, length-append}
use lib.Seq.{drop-drop, sets, sets-eq, length-sets}
use Rattle.rules.specs.Lists.{put}
use Rattle.rules.specs.Text.{decimal}
use Rattle.text.specs.Printed.{write, Wrote, Prints, number_pair}
use Rattle.text.specs.declared.print.Printer.{Printer}

sets_append : (l : List ℕ) (i : ℕ) (xs ys : List ℕ) → sets (sets l i xs) (i + length xs) ys ≡ sets l i (xs ++ ys)
sets_append l i [] ys = rw add-zero
sets_append l i (x ∷ xs) ys =
    let e : i + suc (length xs) ≡ suc i + length xs = omega arith in
    rw e (sets_append (set l i x) (suc i) xs ys)

write_append : (at : ℕ) (xs ys out : List ℕ) → write (at + length xs) ys (write at xs out) ≡ write at (xs ++ ys) out
unfolding write
write_append at xs ys out = sets_append out at xs ys

length_write : (at : ℕ) (xs out : List ℕ) → length (write at xs out) ≡ length out
unfolding write
length_write at xs out = length-sets out at xs

-- nothing is written
pub wrote_none : (at : ℕ) (out : List ℕ) → Wrote at [] out out at
unfolding write
wrote_none at out = record { out = refl; end = sym (add-zero at) }

-- one byte is written
pub wrote_one : (at b : ℕ) (out : List ℕ) {r : ℕ} → r ≡ at + 1 → Wrote at (b ∷ []) out (set out at b) r
unfolding write
wrote_one at b out e = record { out = refl; end = e }

-- one text, and another after it
infixl 20 ◌then◌
infixl 20 ◌and◌
pub ◌then◌ : {at next last : ℕ} {xs ys a b c : List ℕ} → Wrote at xs a b next → Wrote next ys b c last → Wrote at (xs ++ ys) a c last
◌then◌ {at} {next} {last} {xs} {ys} {a} {b} {c} v w =
    let n : next ≡ at + length xs = v.end in
    record {
      out = w.out ∙ rw (n, v.out) (write_append at xs ys a);
      end = rw length-append (omega (arith, w.end));
    }

-- the same text, written otherwise
pub wrote_as : {at next : ℕ} {xs ys a b : List ℕ} → Wrote at xs a b next → xs ≡ ys → Wrote at ys a b next
wrote_as w e = rw e at w

-- a buffer keeps its length
pub wrote_length : {at next : ℕ} {xs a b : List ℕ} → Wrote at xs a b next → length b ≡ length a
wrote_length {at} {next} {xs} {a} {b} w = ap length w.out ∙ length_write at xs a

-- what there was room for besides a text has room after it
pub room : (n : ℕ) {at next : ℕ} {xs a b : List ℕ} → Wrote at xs a b next → at + (length xs + n) ≤ length a → next + n ≤ length b
room n w h = omega (arith, w.end, wrote_length w)

-- ---- the same of a printer

pub prints_none : (a : Printer) → Prints [] a a
prints_none a = record { wrote = wrote_none a.at a.out.now; same = refl }

pub ◌and◌ : {xs ys : List ℕ} {a b c : Printer} → Prints xs a b → Prints ys b c → Prints (xs ++ ys) a c
◌and◌ v w = record { wrote = v.wrote then w.wrote; same = w.same ∙ v.same }

pub prints_as : {xs ys : List ℕ} {a b : Printer} → Prints xs a b → xs ≡ ys → Prints ys a b
prints_as w e = rw e at w

-- how far it came
pub moved : {xs : List ℕ} {a b : Printer} → Prints xs a b → (b.at ≡ a.at + length xs) × (length b.out.now ≡ length a.out.now)
moved w = (w.wrote.end, wrote_length w.wrote)

-- ---- at the front of a buffer

-- at the front of a buffer that has room it is all that changes
pub wrote_put : {r : ℕ} {xs a b : List ℕ} → length xs ≤ length a → Wrote 0 xs a b r → b ≡ put xs a
unfolding write put
wrote_put {r} {xs} {a} h w = w.out ∙ sets-eq xs a 0 (omega arith) ∙ rw zero-add

module _ (before a between b after : ℕ) where
  -- two numbers and three bytes, one after the other
  pub pair_is : (before ∷ []) ++ decimal a ++ (between ∷ []) ++ decimal b ++ (after ∷ []) ≡ number_pair before a between b after
  unfolding number_pair
  pair_is = simp append_assoc

  -- how long they are
  pub length_pair : length (number_pair before a between b after) ≡ 1 + (length (decimal a) + (1 + (length (decimal b) + 1)))
  unfolding number_pair
  length_pair = simp length-append (omega arith)

-- a text copied over a part of a buffer is written there
pub wrote_part : (at : ℕ) (text out : List ℕ) {part : List ℕ} → at + length text ≤ length out → part ≡ text → Wrote at text out (put_mid at (at + length text - at) out part) (at + length text)
unfolding write
wrote_part at text out h e =
    let k : at + length text - at ≡ length text = omega arith in
    record {
      out =
          rw (e, k) (ap (λ (l : List ℕ). take at out ++ (text ++ l)) (drop-drop (length text) at out) ∙ sym (append_assoc (take at out) text (drop (at + length text) out)) ∙ sym (sets-eq text out at h));
      end = refl;
    }
