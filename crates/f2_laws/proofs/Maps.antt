-- What a map of rows holds after a row was put into it or taken out of it, key by key.
use Rattle.std.proofs.Common.{◌≡◌, ◌≢◌, ℕ, cond, ap, ◌∙◌, arith}
use Rattle.std.specs.Prelude.{Some, None}
use Rattle.std.specs.Ordering.{nat_cmp}
use Rattle.std.specs.Cmp.{nat_cmp_total, unsigned_tied}
use Rattle.std.proofs.lemmas.Bool.{ne_eqb}
use Rattle.std.specs.FinMap as map
use Rattle.std.specs.FinMap.{FinMap, gets, get-insert, get-remove}

module _ {X : Type 0} (m : FinMap nat_cmp X) (k : ℕ) where
  pub get_put : (v : X) → map.get (map.insert m k v) k ≡ Some v
  get_put v = grind (arith, gets)

  pub get_put-other : (v : X) (q : ℕ) → q ≢ k → map.get (map.insert m k v) q ≡ map.get m q
  get_put-other v q h = get-insert nat_cmp_total m k v q ∙ ap (λ b. cond b (Some v) (map.get m q)) (unsigned_tied q k ∙ ne_eqb q k h)

  pub get_taken : map.get (map.remove m k) k ≡ None
  get_taken = grind (arith, gets)

  pub get_taken-other : (q : ℕ) → q ≢ k → map.get (map.remove m k) q ≡ map.get m q
  get_taken-other q h = get-remove nat_cmp_total m k q ∙ ap (λ b. cond b None (map.get m q)) (unsigned_tied q k ∙ ne_eqb q k h)
