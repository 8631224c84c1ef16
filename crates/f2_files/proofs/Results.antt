-- Facts of one variant of a result.
use Rattle.std.proofs.Common.{◌≡◌, refl, Bor}
use Rattle.std.specs.Prelude.{Option, Some, None, is_some, Result, Ok, Err, OnOk, OnErr}
use Rattle.std.specs.Option.{option_copied}

module _ {A E : Type 0} {P Q : Type 0} where
  pub ok_map : (r : Result A E) → (P → Q) → OnOk r P → OnOk r Q
  ok_map (Ok a) f p = f p
  ok_map (Err e) f p = tt

  pub err_map : (r : Result A E) → (P → Q) → OnErr r P → OnErr r Q
  err_map (Ok a) f p = tt
  err_map (Err e) f p = f p

pub on_ok : {A E : Type 0} (r : Result A E) {P : Type 0} → P → OnOk r P
on_ok (Ok a) p = p
on_ok (Err e) p = tt

pub on_err : {A E : Type 0} (r : Result A E) {P : Type 0} → P → OnErr r P
on_err (Ok a) p = tt
on_err (Err e) p = p

pub there_copied : {X : Type 0} (o : Option (Bor X)) → is_some o ≡ is_some (option_copied o)
there_copied None = refl
there_copied (Some x) = refl
