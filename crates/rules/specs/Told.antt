-- What each answer tells, in the paper's numbers: the number and place of each refusal, and the values of each case.
use Rattle.std.specs.Prelude.{ℕ, Option, Some, None, Result, Ok, Err}
use Rattle.rules.specs.declared.Stop.{Stop}
use Rattle.rules.specs.declared.FastaRecord.{FastaRecord}
use Rattle.rules.specs.declared.FileRefusal.{FileRefusal}
use Rattle.rules.specs.declared.FileRefusal.TheVariants as file-refusal
use Rattle.rules.specs.declared.Leg.{Leg}
use Rattle.rules.specs.declared.Refusal.{Refusal}
use Rattle.rules.specs.declared.Refusal.TheVariants.{SequenceCount, LetterCount, LengthSum, NotALetter, ComponentCount, ComponentLength, MotifLength, GapRange, Quorum, SavedSize, SavedKind, OtherSet, NotACandidate, MotifNumber, FirstRow, JoinList, Room, TextLine, SavedBlank, SavedSum, PlaceRule, Allowance}
use Rattle.rules.specs.declared.Search.{Search}

-- the number of a refusal
abbrev pub refusal_number : Refusal → ℕ
refusal_number SequenceCount = 1
refusal_number LetterCount = 2
refusal_number LengthSum = 3
refusal_number (NotALetter o) = 4
refusal_number ComponentCount = 5
refusal_number (ComponentLength i) = 6
refusal_number MotifLength = 7
refusal_number (GapRange i) = 8
refusal_number Quorum = 9
refusal_number SavedSize = 10
refusal_number (SavedKind i) = 11
refusal_number OtherSet = 12
refusal_number NotACandidate = 13
refusal_number MotifNumber = 14
refusal_number FirstRow = 15
refusal_number JoinList = 16
refusal_number Room = 17
refusal_number (TextLine n) = 18
refusal_number (SavedBlank i) = 21
refusal_number SavedSum = 22
refusal_number (PlaceRule i) = 23
refusal_number Allowance = 24

-- the place that it tells: the offset of the byte, the number of the component, of the line or of the saved record (K stands in
-- record 0), and else 0
abbrev pub refusal_place : Refusal → ℕ
refusal_place SequenceCount = 0
refusal_place LetterCount = 0
refusal_place LengthSum = 0
refusal_place (NotALetter o) = o.0
refusal_place ComponentCount = 0
refusal_place (ComponentLength i) = i
refusal_place MotifLength = 0
refusal_place (GapRange i) = i
refusal_place Quorum = 0
refusal_place SavedSize = 0
refusal_place (SavedKind i) = i.0
refusal_place OtherSet = 0
refusal_place NotACandidate = 0
refusal_place MotifNumber = 0
refusal_place FirstRow = 0
refusal_place JoinList = 0
refusal_place Room = 0
refusal_place (TextLine n) = n
refusal_place (SavedBlank i) = i.0
refusal_place SavedSum = 0
refusal_place (PlaceRule i) = i.0
refusal_place Allowance = 0

-- the number and the place of a refusal of the FASTA reader: 4 tells the offset in the file
abbrev pub file_refusal_number : FileRefusal → ℕ
file_refusal_number file-refusal.TextBefore = 19
file_refusal_number file-refusal.NoRoom = 20
file_refusal_number (file-refusal.NotALetter o) = 4

abbrev pub file_refusal_place : FileRefusal → ℕ
file_refusal_place file-refusal.TextBefore = 0
file_refusal_place file-refusal.NoRoom = 0
file_refusal_place (file-refusal.NotALetter o) = o.0

-- what a check finds: nothing, or a refusal's number and place
pub data Verdict : Type 0 where
  fine : Verdict
  refused : ℕ → ℕ → Verdict

-- what a call tells: what it gives, or a refusal's number and place
pub data Told (A : Type 0) : Type 0 where
  gives : A → Told A
  refuses : ℕ → ℕ → Told A

-- what the FASTA reader hands out: a record, by where in the file its name starts and ends and by the number of its letters; or
-- none, at the file's end
pub data Handing : Type 0 where
  entry : ℕ → ℕ → ℕ → Handing
  no_entry : Handing

-- what a leg tells. Its counts are 0 and its search is the one given where it refuses
pub record LegTold : Type 0 where
  pub answer : Told Stop
  pub steps : ℕ
  pub rows : ℕ
  pub search : Search

-- what is told of a check's answer; of a call's, and of a leg; and of the FASTA reader's
abbrev pub told_checked : Result (Unit {0}) Refusal → Verdict
told_checked (Ok u) = fine
told_checked (Err r) = refused (refusal_number r) (refusal_place r)

abbrev pub told_answer : {A : Type 0} → Result A Refusal → Told A
told_answer (Ok a) = gives a
told_answer (Err r) = refuses (refusal_number r) (refusal_place r)

abbrev pub told_leg : Leg → LegTold
told_leg l = record { answer = told_answer l.answer; steps = l.steps; rows = l.rows; search = l.search }

abbrev pub told_handed : Result (Option FastaRecord) FileRefusal → Told Handing
told_handed (Ok (Some r)) = gives (entry r.name.start.0 r.name.end.0 r.letters)
told_handed (Ok None) = gives no_entry
told_handed (Err r) = refuses (file_refusal_number r) (file_refusal_place r)
