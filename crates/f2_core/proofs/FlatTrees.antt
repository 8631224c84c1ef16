-- An image can have a flat tree.
use Rattle.std.proofs.Common.{◌≡◌, ◌≢◌, ℕ, ◌+◌, ◌-◌, ◌*◌, ◌/◌, ◌<◌, ◌≤◌, refl, arith, lit≤}
use Rattle.std.specs.FinMap as map
use Rattle.f2_format.specs.Geometry.{ImageGeometry, IsGeometry, main_blocks, node_third, data_third, nid_limit}
use Rattle.f2_format.specs.Inode.{SIZE_LIMIT}
use Rattle.f2_model.specs.Tree.{Rows, ROOT, IsGoodTree, HasGoodPages}
use Rattle.f2_model.specs.declared.rows.Row.{Row}
use Rattle.f2_laid.specs.Laid.{IsStorable}
use Rattle.f2_flat.specs.Flat.{IsFlat, FILE_SIZE}
use Rattle.f2_flat.specs.Kept.{HasRootFiles}
use Rattle.f2_flat.proofs.FlatTrees.{files_of}
use Rattle.f2_flat.proofs.Trees.{blocks_short, nodes_of, page_short}

third_data : (main third room : ℕ) → third ≡ main / 12 → room ≡ (main - 3 * third) / 3 → 3 * third ≤ room
third_data main third room is data_is = omega (arith, is, data_is)

-- the data zone has three times the third of the node zone
pub data_third_large : (geom : ImageGeometry) → 3 * node_third geom ≤ data_third geom
data_third_large geom = third_data (main_blocks geom) (node_third geom) (data_third geom) refl refl

le_trans : (a b c : ℕ) → a ≤ b → b ≤ c → a ≤ c
le_trans a b c p q = omega (arith, p, q)

size_limit : FILE_SIZE ≤ SIZE_LIMIT
size_limit = lit≤ tt

pages_longer : (row : Row) → HasGoodPages FILE_SIZE row → HasGoodPages SIZE_LIMIT row
pages_longer row pages = record {
  directory = pages.directory;
  size = le_trans row.size FILE_SIZE SIZE_LIMIT pages.size size_limit;
  whole = pages.whole;
  before = pages.before;
  zeros = pages.zeros;
}

longer_files : (tree : Rows) → IsGoodTree FILE_SIZE tree → IsGoodTree SIZE_LIMIT tree
longer_files tree good = record {
  root = good.root;
  keyed = good.keyed;
  parents = good.parents;
  names = good.names;
  apart = good.apart;
  reached = good.reached;
  pages = λ ino row there. pages_longer row (good.pages ino row there);
}

module _ (geom : ImageGeometry) (geometry : IsGeometry geom) (tree : Rows) (flat : IsFlat geom tree) where
  files : HasRootFiles tree
  files = files_of geom geometry tree flat

  below : (ino len third nids : ℕ) → ino < len + ROOT → len ≤ third → 3 * third + 4 ≤ nids → ino < nids
  below ino len third nids low fits large = omega (arith, low, fits, large)

  pub storable : IsStorable geom tree
  storable = record {
    good = longer_files tree flat.good;
    low = λ ino row there other. (let dense = (flat.dense ino row there).0 in let apart : ino ≢ 3 = other in omega (arith, dense, apart));
    numbered = λ ino row there. below ino (map.len tree) (node_third geom) (nid_limit geom) (flat.dense ino row there).1 flat.fits geometry.nids;
    nodes = (let nodes = nodes_of tree files in let fits = flat.fits in omega (arith, nodes, fits));
    blocks = flat.room;
    short_files = page_short tree files;
    short_directories = λ ino row there kind. (let short = blocks_short tree files ino in omega (arith, short));
  }
