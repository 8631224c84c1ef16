-- Entries of an ordered map whose keys pass a test, as a finite map.
use Rattle.std.proofs.Common.{◌≡◌, ℕ, Bool, cond, List, sym, ap, ◌∙◌}
use Rattle.std.specs.Prelude.{None}
use Rattle.std.specs.Ordering.{nat_cmp}
use Rattle.std.specs.declared.cmp.Ordering.TheVariants.{Equal}
use Rattle.std.specs.Cmp.{nat_cmp_total}
use Rattle.std.specs.FinMap as map
use Rattle.std.specs.FinMap.{FinMap, find, nat_cmp-IsAntisymmetric, same_map, get-from_entries, get-retain_keys}
use Rattle.std.specs.FinMap.Entries.{where_key, find-where_key}

pub seen-retain_keys : {X : Type 0} (es : List (ℕ × X)) (m : FinMap nat_cmp X) (seen : map.from_entries es ≡ m) (fs : List (ℕ × X)) (p : ℕ → Bool) → fs ≡ where_key nat_cmp p es → map.from_entries fs ≡ map.retain_keys m p
seen-retain_keys es m seen fs p h =
    let alike : (q x : ℕ) → nat_cmp q x ≡ Equal → p x ≡ p q = λ q x t. ap p (sym (nat_cmp-IsAntisymmetric q x t)) in
    same_map nat_cmp_total nat_cmp-IsAntisymmetric _ _ (λ q.
    get-from_entries nat_cmp_total fs q
    ∙ ap (find nat_cmp q) h
    ∙ find-where_key nat_cmp p q (alike q) es
    ∙ ap (λ o. cond (p q) o None) (sym (get-from_entries nat_cmp_total es q) ∙ ap (λ n. map.get n q) seen)
    ∙ sym (get-retain_keys m p q (alike q)))
