-- A number that a map has nothing for.
use Rattle.std.proofs.Common.{◌≡◌, ℕ, suc, ◌+◌, ◌<◌, false, List, [], ◌∷◌, refl, ◌∙◌, arith}
use Rattle.std.specs.List.{list_any}
use Rattle.std.specs.Ordering.{nat_cmp, eq_by_cmp}
use Rattle.std.specs.Cmp.{unsigned_tied}
use Rattle.std.specs.FinMap as map
use Rattle.std.proofs.lemmas.Bool.{or_from, ne_eqb}

abbrev total : List ℕ → ℕ
total [] = 0
total (k ∷ ks) = k + total ks

past : (ks : List ℕ) (q : ℕ) → total ks < q → list_any (eq_by_cmp nat_cmp q) ks ≡ false
past [] q low = refl
past (k ∷ ks) q low =
    or_from (eq_by_cmp nat_cmp q k) _ (unsigned_tied q k ∙ ne_eqb q k (λ same. omega (arith, low, same))) (past ks q (omega (arith, low)))

pub unused : {X : Type 0} (m : map.FinMap nat_cmp X) → (q : ℕ) × (map.contains_key m q ≡ false)
unused m = (suc (total (map.keys m)), map.contains_key-keys m (suc (total (map.keys m))) ∙ past (map.keys m) _ (omega arith))
