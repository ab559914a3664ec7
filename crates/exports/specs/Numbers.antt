-- What a call tells, as numbers: 0 and 0 for an answer, and else the refusal's number and place, with counts of 0.
use Rattle.std.specs.Prelude.{ℕ}
use Rattle.rules.specs.declared.Stop.{Stop}
use Rattle.rules.specs.declared.Stop.TheVariants.{Ended, Spent, Full}
use Rattle.rules.specs.Profile.{profile_number}
use Rattle.rules.specs.Told.{Told, gives, refuses, LegTold, Handing, entry, no_entry}
use Rattle.rules.specs.declared.Search.{Search}
use Rattle.rules.specs.declared.Recovered.{Recovered}
use Rattle.exports.specs.declared.told.Count.{Count}
use Rattle.exports.specs.declared.told.Found.{Found}
use Rattle.exports.specs.declared.told.Page.{Page}
use Rattle.exports.specs.declared.told.Restored.{Restored}
use Rattle.exports.specs.declared.told.Stopped.{Stopped}

-- the refusal's number and place, and 0 where there is none
abbrev pub refusal_number_told : {A : Type 0} → Told A → ℕ
refusal_number_told (gives a) = 0
refusal_number_told (refuses n p) = n

abbrev pub refusal_place_told : {A : Type 0} → Told A → ℕ
refusal_place_told (gives a) = 0
refusal_place_told (refuses n p) = p

-- the number that f reads off what is given, and 0 in a refusal
abbrev pub number_given : {A : Type 0} → (A → ℕ) → Told A → ℕ
number_given f (gives a) = f a
number_given f (refuses n p) = 0

-- why a leg stopped
abbrev pub stop_number : Stop → ℕ
stop_number Ended = 1
stop_number Spent = 2
stop_number Full = 3

-- a save's bytes, or a join's positions
abbrev pub count_answer : ℕ → ℕ → ℕ → Count
count_answer n p c = record { number = n; place = p; count = c }

unfoldable pub count_told : Told ℕ → Count
count_told t = count_answer (refusal_number_told t) (refusal_place_told t) (number_given (λ n. n) t)

-- a recovery's rows and the length of its whole list
abbrev pub page_answer : ℕ → ℕ → ℕ → ℕ → Page
page_answer n p rows length = record { number = n; place = p; rows = rows; length = length }

unfoldable pub page_told : Told Recovered → Page
page_told t = page_answer (refusal_number_told t) (refusal_place_told t) (number_given (λ c. c.rows) t) (number_given (λ c. c.length) t)

-- why a leg stopped, its steps and its rows
abbrev pub stopped_answer : ℕ → ℕ → ℕ → ℕ → ℕ → Stopped
stopped_answer n p stop steps rows = record { number = n; place = p; stop = stop; steps = steps; rows = rows }

unfoldable pub leg_told : LegTold → Stopped
leg_told l = stopped_answer (refusal_number_told l.answer) (refusal_place_told l.answer) (number_given stop_number l.answer) l.steps l.rows

-- a search, but for the shape of its template and the allowances
abbrev pub restored_answer : ℕ → ℕ → ℕ → ℕ → ℕ → ℕ → ℕ → ℕ → ℕ → Restored
restored_answer n p profile components quorum sequences total letters candidate =
    record { number = n; place = p; profile = profile; components = components; quorum = quorum; sequences = sequences; total = total; letters = letters; candidate = candidate }

unfoldable pub restored_told : Told Search → Restored
restored_told t =
    restored_answer
    (refusal_number_told t)
    (refusal_place_told t)
    (number_given (λ s. profile_number s.template.profile) t)
    (number_given (λ s. s.template.count) t)
    (number_given (λ s. s.quorum) t)
    (number_given (λ s. s.set.sequences) t)
    (number_given (λ s. s.set.letters) t)
    (number_given (λ s. s.place.letters) t)
    (number_given (λ s. s.place.number) t)

-- a record of a FASTA file: 1 where one was found, where its name starts and ends, and its letters; and 0 where none was
abbrev pub found_answer : ℕ → ℕ → ℕ → ℕ → ℕ → ℕ → Found
found_answer n p one start end letters = record { number = n; place = p; found = one; name_start = start; name_end = end; letters = letters }

abbrev pub of_record : (ℕ → ℕ → ℕ → ℕ) → Handing → ℕ
of_record f (entry start end letters) = f start end letters
of_record f no_entry = 0

unfoldable pub found_told : Told Handing → Found
found_told t =
    found_answer
    (refusal_number_told t)
    (refusal_place_told t)
    (number_given (of_record (λ start end letters. 1)) t)
    (number_given (of_record (λ start end letters. start)) t)
    (number_given (of_record (λ start end letters. end)) t)
    (number_given (of_record (λ start end letters. letters)) t)
