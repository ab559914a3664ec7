-- One answer for each call: any two answers, with their lent tables, that keep a call's rule are the same. What is told of an
-- answer gives the answer back, since each refusal has a number of its own and tells all that it holds.
use Rattle.std.specs.Prelude.{Option, Some, None, Result, Ok, Err}
use mathlib.Core.Path.{◌≡◌, refl, sym, ap, ◌∙◌}
use mathlib.Core.List.{List, [], ◌∷◌}
use Prim.Native.Nat.{ℕ, ◌-◌}
use lib.Dec.{eqb}
use lib.ListN.{get_or}
use Rattle.rules.specs.Calls.{begin_rule, LegRule, leg_rule, Written, save_rule, restore_rule, recover_rule, join_rule}
use Rattle.rules.specs.Fasta.{ReaderRule, reader_rule}
use Rattle.rules.specs.Lists.{if}
use Rattle.rules.specs.Told.{refusal_number, refusal_place, file_refusal_number, file_refusal_place, Told, gives, refuses, Handing, entry, no_entry, told_answer, told_leg, told_handed}
use Rattle.rules.specs.declared.FastaRecord.{FastaRecord}
use Rattle.rules.specs.declared.FileRefusal.{FileRefusal}
use Rattle.rules.specs.declared.FileRefusal.TheVariants as file-refusal
use Rattle.rules.specs.declared.Leg.{Leg}
use Rattle.rules.specs.declared.Recovered.{Recovered}
use Rattle.rules.specs.declared.Refusal.{Refusal}
use Rattle.rules.specs.declared.Refusal.TheVariants.{SequenceCount, LetterCount, LengthSum, NotALetter, ComponentCount, ComponentLength, MotifLength, GapRange, Quorum, SavedSize, SavedKind, OtherSet, NotACandidate, MotifNumber, FirstRow, JoinList, Room, TextLine, SavedBlank, SavedSum, PlaceRule, Allowance}
use Rattle.rules.specs.declared.Search.{Search}
use Rattle.rules.specs.declared.Template.{Template}

-- ---- what is told gives the answer back

-- the refusal with a number and a place: the names in the order of their numbers, where 19 and 20 name none of these
named : ℕ → ℕ → Refusal
named n p =
    get_or
    (SequenceCount
    ∷ LetterCount
    ∷ LengthSum
    ∷ NotALetter (record { 0 = p })
    ∷ ComponentCount
    ∷ ComponentLength p
    ∷ MotifLength
    ∷ GapRange p
    ∷ Quorum
    ∷ SavedSize
    ∷ SavedKind (record { 0 = p })
    ∷ OtherSet
    ∷ NotACandidate
    ∷ MotifNumber
    ∷ FirstRow
    ∷ JoinList
    ∷ Room
    ∷ TextLine p
    ∷ Room
    ∷ Room
    ∷ SavedBlank (record { 0 = p })
    ∷ SavedSum
    ∷ PlaceRule (record { 0 = p })
    ∷ Allowance
    ∷ [])
    (n - 1)
    Room

named_told : (r : Refusal) → named (refusal_number r) (refusal_place r) ≡ r
unfolding named
named_told SequenceCount = refl
named_told LetterCount = refl
named_told LengthSum = refl
named_told (NotALetter o) = refl
named_told ComponentCount = refl
named_told (ComponentLength i) = refl
named_told MotifLength = refl
named_told (GapRange i) = refl
named_told Quorum = refl
named_told SavedSize = refl
named_told (SavedKind i) = refl
named_told OtherSet = refl
named_told NotACandidate = refl
named_told MotifNumber = refl
named_told FirstRow = refl
named_told JoinList = refl
named_told Room = refl
named_told (TextLine n) = refl
named_told (SavedBlank i) = refl
named_told SavedSum = refl
named_told (PlaceRule i) = refl
named_told Allowance = refl

-- what an answer tells, back into the answer: it gives something, or it refuses
abbrev back : {A : Type 0} → Told A → Result A Refusal
back (gives a) = Ok a
back (refuses n p) = Err (named n p)

-- two things of which the same is told are the same, if what is told gives them back
one : {A B : Type 0} (tell : A → B) (back : B → A) → ((a : A) → back (tell a) ≡ a) → (a b : A) → tell a ≡ tell b → a ≡ b
one tell back h a b e = sym (h a) ∙ ap back e ∙ h b

-- refusals with the same number and place are the same, and so is each answer of which the same is told
pub same_refusal : (q r : Refusal) → refusal_number q ≡ refusal_number r → refusal_place q ≡ refusal_place r → q ≡ r
same_refusal q r e f = sym (named_told q) ∙ rw (e, f) (named_told r)

pub same_answer : {A : Type 0} (a b : Result A Refusal) → told_answer a ≡ told_answer b → a ≡ b
same_answer = one told_answer back told
  where
    told : {A : Type 0} (a : Result A Refusal) → back (told_answer a) ≡ a
    told (Ok a) = refl
    told (Err r) = ap Err (named_told r)

pub same_leg : (a b : Leg) → told_leg a ≡ told_leg b → a ≡ b
same_leg a b e = λ i. record { answer = same_answer a.answer b.answer (ap (λ l. l.answer) e) i; steps = (e i).steps; rows = (e i).rows; search = (e i).search }

-- the FASTA reader's refusals have names of their own
file_named : ℕ → ℕ → FileRefusal
file_named n p = if (eqb n 4) (file-refusal.NotALetter (record { 0 = p })) (if (eqb n 19) file-refusal.TextBefore file-refusal.NoRoom)

file_named_told : (r : FileRefusal) → file_named (file_refusal_number r) (file_refusal_place r) ≡ r
unfolding file_named
file_named_told file-refusal.TextBefore = refl
file_named_told file-refusal.NoRoom = refl
file_named_told (file-refusal.NotALetter o) = refl

abbrev handed_back : Told Handing → Result (Option FastaRecord) FileRefusal
handed_back (gives (entry start end size)) =
    Ok (Some (record { name = record { start = record { 0 = start }; end = record { 0 = end } }; letters = size }))
handed_back (gives no_entry) = Ok None
handed_back (refuses n p) = Err (file_named n p)

pub same_handed : (a b : Result (Option FastaRecord) FileRefusal) → told_handed a ≡ told_handed b → a ≡ b
same_handed = one told_handed handed_back told
  where
    told : (a : Result (Option FastaRecord) FileRefusal) → handed_back (told_handed a) ≡ a
    told (Ok (Some r)) = refl
    told (Ok None) = refl
    told (Err r) = ap Err (file_named_told r)

-- ---- the calls

-- an answer and what a lent buffer holds afterwards keep a rule; for a leg its three tables; and for the FASTA reader its cursor, the
-- buffer of letters and the lengths table
abbrev pub Keeps : {A : Type 0} → Written A → Result A Refusal → List ℕ → Type 0
Keeps rule a out = (told_answer a ≡ rule.told) × (out ≡ rule.out)

abbrev pub KeepsLeg : LegRule → Leg → List ℕ → List ℕ → List ℕ → Type 0
KeepsLeg rule a motifs supports weights = (told_leg a ≡ rule.told) × (motifs ≡ rule.motifs) × (supports ≡ rule.supports) × (weights ≡ rule.weights)

abbrev pub KeepsReader : ReaderRule → Result (Option FastaRecord) FileRefusal → ℕ → List ℕ → List ℕ → Type 0
KeepsReader rule a at letters lengths = (told_handed a ≡ rule.told) × (at ≡ rule.at) × (letters ≡ rule.letters) × (lengths ≡ rule.lengths)

written_one : {A : Type 0} (rule : Written A) (a b : Result A Refusal) (x y : List ℕ) → Keeps rule a x → Keeps rule b y → (a ≡ b) × (x ≡ y)
written_one rule a b x y k l = (same_answer a b (k.0 ∙ sym l.0), k.1 ∙ sym l.1)

module _ (letters lengths : List ℕ) where
  -- new search: its answer
  pub begin_one : (t : Template) (quorum : ℕ) (a b : Result Search Refusal) → told_answer a ≡ begin_rule letters lengths t quorum → told_answer b ≡ begin_rule letters lengths t quorum → a ≡ b
  begin_one t quorum a b e f = same_answer a b (e ∙ sym f)

  -- leg: its answer and its three tables
  pub leg_one : (s : Search) (budget : ℕ) (motifs supports weights : List ℕ) (a b : Leg) (m n x y v w : List ℕ)
      → KeepsLeg (leg_rule letters lengths s budget motifs supports weights) a m x v
      → KeepsLeg (leg_rule letters lengths s budget motifs supports weights) b n y w
      → (a ≡ b) × (m ≡ n) × (x ≡ y) × (v ≡ w)
  leg_one s budget motifs supports weights a b m n x y v w k l = (same_leg a b (k.0 ∙ sym l.0), k.1 ∙ sym l.1, k.2 ∙ sym l.2, k.3 ∙ sym l.3)

  -- save: its answer and its buffer
  pub save_one : (s : Search) (out : List ℕ) (a b : Result ℕ Refusal) (x y : List ℕ) → Keeps (save_rule letters lengths s out) a x → Keeps (save_rule letters lengths s out) b y → (a ≡ b) × (x ≡ y)
  save_one s out = written_one (save_rule letters lengths s out)

  -- restore: its answer
  pub restore_one : (bs : List ℕ) (a b : Result Search Refusal) → told_answer a ≡ restore_rule letters lengths bs → told_answer b ≡ restore_rule letters lengths bs → a ≡ b
  restore_one bs a b e f = same_answer a b (e ∙ sym f)

  -- recovery: its answer and its buffer
  pub recover_one : (t : Template) (m f : ℕ) (out : List ℕ) (a b : Result Recovered Refusal) (x y : List ℕ)
      → Keeps (recover_rule letters lengths t m f out) a x → Keeps (recover_rule letters lengths t m f out) b y → (a ≡ b) × (x ≡ y)
  recover_one t m f out = written_one (recover_rule letters lengths t m f out)

-- join: its answer and its table
pub join_one : (first second : List ℕ) (head low high : ℕ) (out : List ℕ) (a b : Result ℕ Refusal) (x y : List ℕ)
    → Keeps (join_rule first second head low high out) a x → Keeps (join_rule first second head low high out) b y → (a ≡ b) × (x ≡ y)
join_one first second head low high out = written_one (join_rule first second head low high out)

-- the FASTA reader: its answer, its cursor, its buffer of letters and its lengths table
pub reader_one : (file : List ℕ) (at : ℕ) (letters : List ℕ) (used : ℕ) (lengths : List ℕ) (count : ℕ) (a b : Result (Option FastaRecord) FileRefusal) (i j : ℕ) (x y v w : List ℕ)
    → KeepsReader (reader_rule file at letters used lengths count) a i x v
    → KeepsReader (reader_rule file at letters used lengths count) b j y w
    → (a ≡ b) × (i ≡ j) × (x ≡ y) × (v ≡ w)
reader_one file at letters used lengths count a b i j x y v w k l = (same_handed a b (k.0 ∙ sym l.0), k.1 ∙ sym l.1, k.2 ∙ sym l.2, k.3 ∙ sym l.3)
