-- Where the parts of an image stand to each other, and the versions of a node log.
use Rattle.std.proofs.Common.{◌≡◌, ◌≢◌, ℕ, ◌+◌, ◌*◌, ◌%◌, ◌^◌, ◌<◌, ◌≤◌, nat_lt, Bool, true, false, ◌&&◌, not, cond, IsTrue, arith, refl, sym}
use Rattle.f2_format.specs.Geometry.{ImageGeometry, NAT_START, node_third, data_third, node_start, data_start, nid_limit, is_in_node, is_in_data, nat_address, ENTRIES_A_NAT_BLOCK}
use Rattle.f2_format.specs.Nat.{nat_block_of}
use Rattle.f2_format.specs.Pack.{HeadFields, is_newer_format, recovery_version_of, written_seal}
use Rattle.f2_image.specs.Packs.{Side, A, B, other_side, head_address, summary_address, tail_address, Checkpoint}
use Rattle.f2_stored.specs.Bases.{TellsCheckpoint, first_superblock, second_superblock, head, summary}

-- what lies between two ends
range_of : (low high at : ℕ) → IsTrue (not (nat_lt at low) && nat_lt at high) → (low ≤ at) × (at < high)
range_of low high at is = grind (arith, is)

pub node_range : (geom : ImageGeometry) (at : ℕ) → IsTrue (is_in_node geom at) → (node_start geom ≤ at) × (at < data_start geom)
node_range geom at is = range_of (node_start geom) (node_start geom + 3 * node_third geom) at is

pub data_range : (geom : ImageGeometry) (at : ℕ) → IsTrue (is_in_data geom at) → data_start geom ≤ at
data_range geom at is = (range_of (data_start geom) (data_start geom + 3 * data_third geom) at is).0

-- a copy of the table stands before the zones
copy_range : (geom : ImageGeometry) (block : ℕ) (second : Bool) → block < geom.nat → (NAT_START ≤ nat_address geom block second) × (nat_address geom block second < node_start geom)
copy_range geom block true less = (omega arith, omega arith)
copy_range geom block false less = (omega arith, omega arith)

block_less : (nid nat : ℕ) → nid < ENTRIES_A_NAT_BLOCK * nat → nat_block_of nid < nat
block_less nid nat less = omega (arith, less)

pub table_range : (geom : ImageGeometry) (nid : ℕ) (second : Bool) → nid < nid_limit geom → (NAT_START ≤ nat_address geom (nat_block_of nid) second) × (nat_address geom (nat_block_of nid) second < node_start geom)
table_range geom nid second less = copy_range geom (nat_block_of nid) second (block_less nid geom.nat less)

-- superblocks and packs stand before the table
pub head_low : (side : Side) → head_address side < NAT_START
head_low A = omega arith
head_low B = omega arith

pub tail_low : (side : Side) → tail_address side < NAT_START
tail_low A = omega arith
tail_low B = omega arith

summary_low : (side : Side) → summary_address side < NAT_START
summary_low A = omega arith
summary_low B = omega arith

pub tells_low : (ckpt : Checkpoint) (at : ℕ) → TellsCheckpoint ckpt at → at < NAT_START
tells_low ckpt at first_superblock = omega arith
tells_low ckpt at second_superblock = omega arith
tells_low ckpt at head = head_low ckpt.side
tells_low ckpt at summary = summary_low ckpt.side

-- the parts of packs stand apart
pub tail_no_head : (side each : Side) → tail_address each ≢ head_address side
tail_no_head A A e = omega (arith, e)
tail_no_head A B e = omega (arith, e)
tail_no_head B A e = omega (arith, e)
tail_no_head B B e = omega (arith, e)

tail_no_summary : (side each : Side) → tail_address each ≢ summary_address side
tail_no_summary A A e = omega (arith, e)
tail_no_summary A B e = omega (arith, e)
tail_no_summary B A e = omega (arith, e)
tail_no_summary B B e = omega (arith, e)

pub tails_apart : (side : Side) → tail_address side ≢ tail_address (other_side side)
tails_apart A e = omega (arith, e)
tails_apart B e = omega (arith, e)

pub tells_no_tail : (ckpt : Checkpoint) (side : Side) (at : ℕ) → TellsCheckpoint ckpt at → at ≢ tail_address side
tells_no_tail ckpt A at first_superblock e = omega (arith, e)
tells_no_tail ckpt B at first_superblock e = omega (arith, e)
tells_no_tail ckpt A at second_superblock e = omega (arith, e)
tells_no_tail ckpt B at second_superblock e = omega (arith, e)
tells_no_tail ckpt side at head e = tail_no_head ckpt.side side (sym e)
tells_no_tail ckpt side at summary e = tail_no_summary ckpt.side side (sym e)

pub other_twice : (side : Side) → other_side (other_side side) ≡ side
other_twice A = refl
other_twice B = refl

-- of the version of a log the lower half is the checkpoint's
lower_half : (version seal : ℕ) → version < 2 ^ 32 → (version + 2 ^ 32 * seal) % 2 ^ 64 % 2 ^ 32 ≡ version
lower_half version seal low = omega (arith, low)

pub log_version_low : (fields : HeadFields) → fields.version < 2 ^ 32 → recovery_version_of fields % 2 ^ 32 ≡ fields.version
log_version_low fields low = by_format (is_newer_format fields)
  where
    by_format : (newer : Bool) → cond newer ((fields.version + 2 ^ 32 * written_seal fields) % 2 ^ 64) fields.version % 2 ^ 32 ≡ fields.version
    by_format true = lower_half fields.version (written_seal fields) low
    by_format false = omega (arith, low)
