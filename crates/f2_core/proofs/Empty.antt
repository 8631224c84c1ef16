-- The map without entries.
use Rattle.std.proofs.Common.{◌≡◌, ℕ, List, [], ◌∷◌, length, refl, sym, ◌∙◌, arith}
use Rattle.std.specs.Ordering.{nat_cmp}
use Rattle.std.specs.FinMap as map

no_items : {X : Type 0} (xs : List X) → length xs ≡ 0 → xs ≡ []
no_items [] e = refl
no_items (x ∷ xs) e = absurd (omega (arith, e))

pub entries-empty : {X : Type 0} → map.entries (map.empty {K = ℕ} {X = X} {R = nat_cmp}) ≡ []
entries-empty {X} = no_items _ (sym (map.len-entries map.empty) ∙ map.len-empty nat_cmp X)
