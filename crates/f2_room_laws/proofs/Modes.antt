-- What a mode asks of a state.
use Rattle.std.proofs.Common.{◌≡◌, true, false, refl, sym, true≢false}
use Rattle.f2_model.specs.declared.modes.Mode.{Mode}
use Rattle.f2_model.specs.declared.modes.Mode.TheVariants.{Shut, Mounting, Up}
use Rattle.f2_model.specs.Step.{is_up, is_shut}
use Rattle.f2_room_laws.specs.ProperStates.{InMode}

-- what a mode asks is told again
pub in_mode : (mode : Mode) (idle idle_after rolling rolling_after : Type 0) → (idle → idle_after) → (rolling → rolling_after) → InMode mode idle rolling → InMode mode idle_after rolling_after
in_mode Shut idle idle_after rolling rolling_after f g h = tt
in_mode Mounting idle idle_after rolling rolling_after f g h = f h
in_mode Up idle idle_after rolling rolling_after f g h = g h

pub where_up : (mode : Mode) (idle rolling : Type 0) → is_up mode ≡ true → InMode mode idle rolling → rolling
where_up Shut idle rolling up h = absurd (true≢false (sym up))
where_up Mounting idle rolling up h = absurd (true≢false (sym up))
where_up Up idle rolling up h = h

pub put_up : (mode : Mode) (idle rolling : Type 0) → is_up mode ≡ true → rolling → InMode mode idle rolling
put_up Shut idle rolling up h = absurd (true≢false (sym up))
put_up Mounting idle rolling up h = absurd (true≢false (sym up))
put_up Up idle rolling up h = h

-- a volume that isn't closed and has a file in fsync is open
pub up_in_fsync : (mode : Mode) (idle rolling : Type 0) → is_shut mode ≡ false → (idle → ⊥) → InMode mode idle rolling → is_up mode ≡ true
up_in_fsync Shut idle rolling open_now busy h = absurd (true≢false open_now)
up_in_fsync Mounting idle rolling open_now busy h = absurd (busy h)
up_in_fsync Up idle rolling open_now busy h = refl
