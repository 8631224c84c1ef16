-- What is found at a key, and whether it is so.
use Rattle.std.proofs.Common.{◌≡◌, ◌↔◌, Bool, false, IsTrue, Bor, sym, ◌∙◌, subst}
use Rattle.std.specs.Prelude.{Option, Some, None, MatchOption}
use Rattle.std.specs.Option.{option_copied}

module _ {X : Type 0} (P : X → Type 0) {b : Bool} {Post : Bor X → Type 0} where
  -- a test of what is found tells whether something is found that is so
  pub found_so : (o : Option (Bor X)) (m : Option X) → option_copied o ≡ m → MatchOption o (b ≡ false) Post → ((x : Bor X) → Post x → IsTrue b ↔ P x.now) → IsTrue b ↔ ((x : X) × (m ≡ Some x) × P x)
  found_so None m is said tells = (
    λ t. absurd (cc),
    λ found. let none : None ≡ Some found.0 = is ∙ found.1 in absurd (cc),
  )
  found_so (Some x) m is said tells = (
    λ t. (x.now, sym is, (tells x said).0 t),
    λ found. let same : x.now ≡ found.0 = (let e : Some x.now ≡ Some found.0 = is ∙ found.1 in cc) in (tells x said).1 (subst P (sym same) found.2),
  )
