-- Where the parts of an image stand to each other.
use Rattle.std.proofs.Common.{◌≡◌, ◌≢◌, ℕ, ◌+◌, ◌-◌, ◌*◌, ◌/◌, ◌<◌, ◌≤◌, nat_lt, Bool, true, false, ◌&&◌, not, IsTrue, arith, refl}
use Rattle.f2_format.specs.Geometry.{ImageGeometry, IsGeometry, node_third, data_third, node_start, data_start, is_in_node, is_in_data, nat_address}
use Rattle.f2_image.specs.Packs.{Side, A, B, other_side, head_address, summary_address, tail_address}

-- what lies between two ends
range_of : (low high at : ℕ) → IsTrue (not (nat_lt at low) && nat_lt at high) → (low ≤ at) × (at < high)
range_of low high at is = grind (arith, is)

pub node_range : (geom : ImageGeometry) (at : ℕ) → IsTrue (is_in_node geom at) → (node_start geom ≤ at) × (at < data_start geom)
node_range geom at is = range_of (node_start geom) (node_start geom + 3 * node_third geom) at is

pub data_range : (geom : ImageGeometry) (at : ℕ) → IsTrue (is_in_data geom at) → (data_start geom ≤ at) × (at < data_start geom + 3 * data_third geom)
data_range geom at is = range_of (data_start geom) (data_start geom + 3 * data_third geom) at is

-- parts of so many blocks after another stand in them
thirds_fit : (blocks nat n d : ℕ) → n ≡ (blocks - 8 - 2 * nat) / 12 → d ≡ (blocks - 8 - 2 * nat - 3 * n) / 3 → 4 ≤ n → 8 + 2 * nat + 3 * n + 3 * d ≤ blocks
thirds_fit blocks nat n d e f least = omega (arith, e, f)

-- the zones end within the image
pub zones_end : (geom : ImageGeometry) → IsGeometry geom → data_start geom + 3 * data_third geom ≤ geom.blocks
zones_end geom geometry = thirds_fit geom.blocks geom.nat (node_third geom) (data_third geom) refl refl geometry.zones

-- a copy of the table stands before the zones
pub table_range : (geom : ImageGeometry) (block : ℕ) (second : Bool) → block < geom.nat → (8 ≤ nat_address geom block second) × (nat_address geom block second < node_start geom)
table_range geom block true less = (omega arith, omega arith)
table_range geom block false less = (omega arith, omega arith)

-- the two copies stand apart
pub copies_apart : (geom : ImageGeometry) (block other : ℕ) (second : Bool) → block < geom.nat → other < geom.nat → nat_address geom block (not second) ≢ nat_address geom other second
copies_apart geom block other true less more e = omega (arith, e)
copies_apart geom block other false less more e = omega (arith, e)

-- the packs stand after the superblocks and before the table
pub pack_range : (side : Side) → (2 ≤ head_address side) × (head_address side ≤ 5)
pack_range A = (omega arith, omega arith)
pack_range B = (omega arith, omega arith)

-- the parts of packs stand apart
pub tail_apart : (side each : Side) → (tail_address each ≢ head_address side) × (tail_address each ≢ summary_address side)
tail_apart A A = (λ e. omega (arith, e), λ e. omega (arith, e))
tail_apart A B = (λ e. omega (arith, e), λ e. omega (arith, e))
tail_apart B A = (λ e. omega (arith, e), λ e. omega (arith, e))
tail_apart B B = (λ e. omega (arith, e), λ e. omega (arith, e))

pub packs_apart : (side : Side) → head_address (other_side side) ≢ head_address side
packs_apart A e = omega (arith, e)
packs_apart B e = omega (arith, e)

pub packs_skewed : (side other : Side) → head_address other ≢ summary_address side
packs_skewed A A e = omega (arith, e)
packs_skewed A B e = omega (arith, e)
packs_skewed B A e = omega (arith, e)
packs_skewed B B e = omega (arith, e)

pub other_twice : (side : Side) → other_side (other_side side) ≡ side
other_twice A = refl
other_twice B = refl
