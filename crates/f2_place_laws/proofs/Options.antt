-- What an option has.
use Rattle.std.proofs.Common.{◌≡◌, sym, true≢false, refl, IsSome}
use Rattle.std.specs.Prelude.{Option, Some, None}

pub the_one : {X : Type 0} (o : Option X) → IsSome o → (x : X) × (o ≡ Some x)
the_one None some = absurd (true≢false (sym some))
the_one (Some x) some = (x, refl)
