-- A mode compared with another.
use denote.Enum.Bare.{sameb}
use Rattle.std.proofs.Common.{◌≡◌, refl, sym, ap, ◌∙◌}
use Rattle.std.specs.Prelude.{Bool, not}
use Rattle.f2_model.specs.Step.{is_shut, is_up}
use Rattle.f2_model.specs.contracts.modes.Mode.{the_type}
use Rattle.f2_model.specs.declared.modes.Mode.{Mode}
use Rattle.f2_model.specs.declared.modes.Mode.TheVariants.{Shut, Mounting, Up}

is_shut_by : (mode : Mode) → not (is_shut mode) ≡ not (sameb the_type mode Shut)
is_shut_by Shut = refl
is_shut_by Mounting = refl
is_shut_by Up = refl

is_up_by : (mode : Mode) → not (is_up mode) ≡ not (sameb the_type mode Up)
is_up_by Shut = refl
is_up_by Mounting = refl
is_up_by Up = refl

-- a test that a mode is another one
pub not_shut : (mode : Mode) (seen : Mode) (test answer : Bool) → mode ≡ seen → test ≡ not (sameb the_type mode Shut) → test ≡ answer → not (is_shut seen) ≡ answer
not_shut mode seen test answer as_seen tested is = sym (ap (λ m. not (is_shut m)) as_seen) ∙ is_shut_by mode ∙ sym tested ∙ is

pub not_up : (mode : Mode) (seen : Mode) (test answer : Bool) → mode ≡ seen → test ≡ not (sameb the_type mode Up) → test ≡ answer → not (is_up seen) ≡ answer
not_up mode seen test answer as_seen tested is = sym (ap (λ m. not (is_up m)) as_seen) ∙ is_up_by mode ∙ sym tested ∙ is
