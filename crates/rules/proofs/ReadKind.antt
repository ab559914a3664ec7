-- The template that saved bytes hold, byte by byte: byte 12 of the size record tells the kind of search, byte 2 of a component's record its
-- length, and byte 3, in a mixed search, its allowance.
use mathlib.Core.Path.{◌≡◌, refl, sym}
use mathlib.Core.Logic.{◌↔◌}
use mathlib.Core.Bool.{Bool, true, false}
use mathlib.Core.List.{List}
use Prim.Native.Nat.{ℕ, ◌+◌, ◌-◌, ◌≤◌}
use native.Mathlib.Omega.{arith}
use lib.Dec.{eqb}
use borrow.Author.Tests.{eqb-true}
use Rattle.rules.specs.Limits.{profile_mixed, template_components}
use Rattle.rules.specs.Lists.{if}
use Rattle.rules.specs.Profile.{numbered_profile}
use Rattle.rules.specs.Refused.{byte, numbered}
use Rattle.rules.specs.Saved.{record_at, component_count, read_profile, read_component, read_template, read_search}
use Rattle.rules.specs.Template.{none}
use Rattle.rules.specs.declared.Profile.TheVariants.{Exact, Mixed}
use Rattle.rules.proofs.Laid.{field_byte, not_exact}
use Rattle.rules.proofs.Over.{getd_map_run}
use Rattle.rules.proofs.Rewritten.{component_in, read_components}

-- 1 is the number of a mixed search alone
numbered_mixed : (n : ℕ) → (numbered_profile n ≡ Mixed) ↔ (n ≡ profile_mixed)
numbered_mixed n = (λ e. go (eqb n profile_mixed) refl e, λ e. rw e)
  where
    go : (b : Bool) → eqb n profile_mixed ≡ b → if b Mixed Exact ≡ Mixed → n ≡ profile_mixed
    go true q e = eqb-true n profile_mixed q
    go false q e = absurd (not_exact (sym e))

module _ (bs : List ℕ) where
  -- so bytes hold a mixed search exactly if byte 12 of the size record is 1
  pub mixed_saved : (read_profile bs ≡ Mixed) ↔ (byte bs 0 12 ≡ profile_mixed)
  unfolding read_profile
  mixed_saved = rw (field_byte (record_at bs 0) 12) (numbered_mixed (byte bs 0 12))

  -- component i of the template that is read is what the kind of search uses of that in record i
  numbered_read : component_count bs ≤ template_components → (i : ℕ) → 1 ≤ i → i ≤ component_count bs → numbered (read_search bs).template i ≡ component_in bs i
  unfolding read_search
  numbered_read few i some most =
      let z : 1 + (i - 1) ≡ i = omega arith in
      rw (read_components bs few, getd_map_run (component_in bs) none 1 (component_count bs) (i - 1) (omega arith), z)

  -- so its length is byte 2 of that record
  pub saved_length : component_count bs ≤ template_components → (i : ℕ) → 1 ≤ i → i ≤ component_count bs → (numbered (read_search bs).template i).length ≡ byte bs i 2
  unfolding read_component
  saved_length few i some most = rw (numbered_read few i some most) (field_byte (record_at bs i) 2)

  -- and its allowance, in a mixed search, byte 3
  pub saved_allowance : component_count bs ≤ template_components → read_profile bs ≡ Mixed → (i : ℕ) → 1 ≤ i → i ≤ component_count bs
      → (numbered (read_search bs).template i).allowance ≡ byte bs i 3
  unfolding read_component
  saved_allowance few m i some most = rw (numbered_read few i some most, m) (field_byte (record_at bs i) 3)

-- the kind of the template that is read is that of the bytes
pub kind_read : (bs : List ℕ) → (read_search bs).template.profile ≡ read_profile bs
unfolding read_search read_template
kind_read bs = refl
