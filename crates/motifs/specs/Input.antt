-- What an input comes to: a refusal of its text, or what a new search over what it says answers.
use Rattle.std.specs.Prelude.{List, ℕ, length}
use Rattle.rules.specs.Calls.{on_refusal, begin_rule}
use Rattle.rules.specs.Lists.{put}
use Rattle.rules.specs.Refusals.{first}
use Rattle.rules.specs.Text.{text_checks, parse_template, parse_quorum, parse_letters, parse_lengths}
use Rattle.rules.specs.Told.{Told, refuses}
use Rattle.rules.specs.declared.Search.{Search}

-- what is told, how many letters and sequences were read, and what the two tables hold afterwards
pub record InputRule : Type 0 where
  pub told : Told Search
  pub count : ℕ
  pub sequences : ℕ
  pub letters : List ℕ
  pub lengths : List ℕ

-- what an input is told
unfoldable pub input_told : List ℕ → Told Search
input_told input = on_refusal (first (text_checks input)) refuses (begin_rule (parse_letters input) (parse_lengths input) (parse_template input) (parse_quorum input))

-- and what is read of it; of a refused text nothing
unfoldable pub input_rule : List ℕ → List ℕ → List ℕ → InputRule
input_rule input letters lengths =
    on_refusal (first (text_checks input))
    (λ n p. record { told = input_told input; count = 0; sequences = 0; letters = letters; lengths = lengths })
    (record {
      told = input_told input;
      count = length (parse_letters input);
      sequences = length (parse_lengths input);
      letters = put (parse_letters input) letters;
      lengths = put (parse_lengths input) lengths;
    })
