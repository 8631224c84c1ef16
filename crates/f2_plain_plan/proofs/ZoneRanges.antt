-- Addresses of a zone as numbers of a range.
use Rattle.std.proofs.Common.{ℕ, ◌+◌, ◌*◌, ◌<◌, ◌≤◌, not, ◌&&◌, IsTrue, IsSome, IsNone, Some, None, Option, refl, sym, subst}
use Rattle.std.specs.Prelude.{nat_lt}
use Rattle.std.proofs.lemmas.Bool.{and_parts, and_from, ltb-true, ltb-false, lt-ltb, le-ltb, not-true, not_from_false}
use Rattle.f2_bitset.specs.Numbers.{Numbers, IsInRange}
use Rattle.f2_format.specs.Geometry.{ImageGeometry, is_in_node, is_in_data, node_start, node_third, data_start, data_third}
use Rattle.f2_plain_plan.specs.Zones.{AreNodes, AreData}

between : (first count at : ℕ) → IsTrue (not (nat_lt at first) && nat_lt at (first + count)) → (first ≤ at) × (at < first + count)
between first count at t =
    let parts = and_parts _ _ t in
    (ltb-false at first (not-true _ parts.0), ltb-true at (first + count) parts.1)

within : (first count at : ℕ) → first ≤ at → at < first + count → IsTrue (not (nat_lt at first) && nat_lt at (first + count))
within first count at low high = and_from _ _ (not_from_false _ (le-ltb at first low)) (lt-ltb at (first + count) high)

pub node_range : (geom : ImageGeometry) (at : ℕ) → IsTrue (is_in_node geom at) → (node_start geom ≤ at) × (at < node_start geom + 3 * node_third geom)
node_range geom at t = between (node_start geom) (3 * node_third geom) at t

pub data_range : (geom : ImageGeometry) (at : ℕ) → IsTrue (is_in_data geom at) → (data_start geom ≤ at) × (at < data_start geom + 3 * data_third geom)
data_range geom at t = between (data_start geom) (3 * data_third geom) at t

pub range_node : (geom : ImageGeometry) (nodes : Numbers) (at : ℕ) → AreNodes geom nodes → IsInRange nodes at → IsTrue (is_in_node geom at)
range_node geom nodes at are range =
    within (node_start geom) (3 * node_third geom) at (subst (λ n. n ≤ at) are.first range.0)
    (subst (λ n. at < n + 3 * node_third geom) are.first (subst (λ n. at < nodes.first + n) are.count range.1))

pub range_data : (geom : ImageGeometry) (pages : Numbers) (at : ℕ) → AreData geom pages → IsInRange pages at → IsTrue (is_in_data geom at)
range_data geom pages at are range =
    within (data_start geom) (3 * data_third geom) at (subst (λ n. n ≤ at) are.first range.0)
    (subst (λ n. at < n + 3 * data_third geom) are.first (subst (λ n. at < pages.first + n) are.count range.1))

pub is_some_from : {X : Type 0} (o : Option X) → (IsNone o → ⊥) → IsSome o
is_some_from None h = absurd (h refl)
is_some_from (Some x) h = refl

pub node_inside : (geom : ImageGeometry) (nodes : Numbers) (at : ℕ) → AreNodes geom nodes → IsTrue (is_in_node geom at) → IsInRange nodes at
node_inside geom nodes at are t =
    let range = node_range geom at t in
    (subst (λ n. n ≤ at) (sym are.first) range.0, subst (λ n. at < n + nodes.count) (sym are.first) (subst (λ n. at < node_start geom + n) (sym are.count) range.1))

pub data_inside : (geom : ImageGeometry) (pages : Numbers) (at : ℕ) → AreData geom pages → IsTrue (is_in_data geom at) → IsInRange pages at
data_inside geom pages at are t =
    let range = data_range geom at t in
    (subst (λ n. n ≤ at) (sym are.first) range.0, subst (λ n. at < n + pages.count) (sym are.first) (subst (λ n. at < data_start geom + n) (sym are.count) range.1))
