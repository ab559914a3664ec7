-- What holds of sequences and of a template once the checks have passed. Inner functions ask for these in their `requires`;
-- proofs/Sound.antt shows that they follow from the checks.
use Rattle.std.specs.Prelude.{true, List, ◌≡◌, ℕ, ◌≤◌, ◌<◌, length, get_or}
use Rattle.rules.specs.Letters.{is_letter}
use Rattle.rules.specs.Limits.{template_components, template_length, template_letters, template_gap, sequence_set_sequences, sequence_set_letters}
use Rattle.rules.specs.Lists.{sum}
use Rattle.rules.specs.Profile.{profile_of}
use Rattle.rules.specs.Template.{allowance_in, slots, none, size}
use Rattle.rules.specs.declared.Component.{Component}
use Rattle.rules.specs.declared.Template.{Template}

-- 1 to 4 pass
pub record SoundSet (letters lengths : List ℕ) : Type 0 where
  pub some : 1 ≤ length lengths
  pub few : length lengths ≤ sequence_set_sequences
  pub short : length letters ≤ sequence_set_letters
  pub adds : sum lengths ≡ length letters
  pub spelt : (i : ℕ) → i < length letters → is_letter (get_or letters i 0) ≡ true

-- a component that 6 and 8 pass
pub record SoundComponent (c : Component) : Type 0 where
  pub some : 1 ≤ c.length
  pub short : c.length ≤ template_length
  pub ordered : c.low ≤ c.high
  pub near : c.high ≤ template_gap

-- 5 to 8 and 24 pass
pub record SoundTemplate (t : Template) : Type 0 where
  pub some : 1 ≤ t.count
  pub few : t.count ≤ template_components
  -- K is no more than a template may have, and than its kind of search takes
  pub deep : size t ≤ template_letters
  pub short : size t ≤ (profile_of t).most
  pub each : (i : ℕ) → i < t.count → SoundComponent (get_or (slots t) i none)
  pub within : (i : ℕ) → i < t.count → allowance_in t.profile (get_or (slots t) i none) ≤ (get_or (slots t) i none).length
  pub low : t.c1.low ≡ 0
  pub high : t.c1.high ≡ 0
