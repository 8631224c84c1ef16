-- The parts of a storable tree, put together.
use Rattle.std.proofs.Common.{◌≡◌, ◌≢◌, ◌↔◌, ◌<◌, ◌≤◌, Bool, IsTrue, sym, subst}
use Rattle.std.specs.Prelude.{All}
use Rattle.std.specs.FinMap as map
use Rattle.f2_format.specs.Geometry.{ImageGeometry, nid_limit}
use Rattle.f2_format.specs.Inode.{SIZE_LIMIT}
use Rattle.f2_format.specs.Offsets.{inode_pages}
use Rattle.f2_model.specs.Tree.{Rows, ROOT, HasGoodPages, IsAtDepth, IsGoodTree}
use Rattle.f2_model.specs.Count.{dentry_blocks}
use Rattle.f2_model.specs.declared.rows.Row.{Row}
use Rattle.f2_laid.specs.Laid.{IsStorable}
use Rattle.f2_reference_calls.specs.Given.{IsKeyed}
use Rattle.f2_plain_check.specs.Parts.{EachIsSo, IsGoodPage, HasGoodSize, IsGoodRow, AreApart, HasRoot, HasRoom, HasRoomForAll}
use Rattle.f2_plain_check.proofs.Values.{each_value}

pub good_pages : (row : Row) (b : Bool) → HasGoodSize row → IsTrue b ↔ EachIsSo row.pages (IsGoodPage row.size) → IsTrue b ↔ HasGoodPages SIZE_LIMIT row
good_pages row b size file = (
  λ t. record {
    directory = size.0;
    size = size.1;
    whole = λ page bytes there. (file.0 t page bytes there).whole;
    before = λ page bytes there. (file.0 t page bytes there).before;
    zeros = λ page at bytes there past. (file.0 t page bytes there).zeros at past;
  },
  λ good. file.1 (λ page bytes there. record { whole = good.whole page bytes there; before = good.before page bytes there; zeros = λ at past. good.zeros page at bytes there past }),
)

-- rows that are good where they stand and apart are a good tree with a root
pub good_tree : (tree : Rows) → HasRoot tree → IsKeyed tree → All (IsGoodRow tree) (map.values tree) → AreApart tree → IsGoodTree SIZE_LIMIT tree
good_tree tree root keyed rows apart =
    let row_of = (each_value (IsGoodRow tree) tree).0 rows in
    record {
      root = root;
      keyed = keyed;
      parents = λ ino row there. (row_of ino row there).place.0;
      names = λ ino row there below. (row_of ino row there).place.1 (subst (λ n. n ≢ ROOT) (sym (keyed ino row there)) below);
      apart = apart;
      reached = λ ino row there.
          let at = (row_of ino row there).place.2 in
          (at.0, at.1, subst (λ n. IsAtDepth tree at.0 n) (keyed ino row there) at.2);
      pages = λ ino row there. (row_of ino row there).pages;
    }

pub rows_of_good : (tree : Rows) → IsGoodTree SIZE_LIMIT tree → All (IsGoodRow tree) (map.values tree)
rows_of_good tree good = (each_value (IsGoodRow tree) tree).1 (λ ino row there.
    let at = good.reached ino row there in
    record {
      place = (
        good.parents ino row there,
        λ below. good.names ino row there (subst (λ n. n ≢ ROOT) (good.keyed ino row there) below),
        (at.0, at.1, subst (λ n. IsAtDepth tree at.0 n) (sym (good.keyed ino row there)) at.2),
      );
      pages = good.pages ino row there;
    })

-- a good tree that an image has room for, and nothing else, is storable
pub storable : (geom : ImageGeometry) (tree : Rows) → IsGoodTree SIZE_LIMIT tree → HasRoomForAll geom tree → IsStorable geom tree
storable geom tree good room =
    let row_of = (each_value (HasRoom geom (map.values tree)) tree).0 room.rows in
    record {
      good = good;
      low = λ ino row there below.
          subst (λ n. 4 ≤ n) (good.keyed ino row there) ((row_of ino row there).numbered.0 (subst (λ n. n ≢ ROOT) (sym (good.keyed ino row there)) below));
      numbered = λ ino row there. subst (λ n. n < nid_limit geom) (good.keyed ino row there) (row_of ino row there).numbered.1;
      nodes = room.space.0;
      blocks = room.space.1;
      short_files = λ ino page row bytes there at. (row_of ino row there).file page bytes at;
      short_directories = λ ino row there kind. subst (λ n. dentry_blocks (map.values tree) n ≤ inode_pages) (good.keyed ino row there) ((row_of ino row there).directory kind);
    }

pub room_of_storable : (geom : ImageGeometry) (tree : Rows) → IsStorable geom tree → HasRoomForAll geom tree
room_of_storable geom tree storable = record {
  rows = (each_value (HasRoom geom (map.values tree)) tree).1 (λ ino row there.
      let same : row.ino ≡ ino = storable.good.keyed ino row there in
      record {
        numbered = (
          λ below. subst (λ n. 4 ≤ n) (sym same) (storable.low ino row there (subst (λ n. n ≢ ROOT) same below)),
          subst (λ n. n < nid_limit geom) (sym same) (storable.numbered ino row there),
        );
        file = λ page bytes at. storable.short_files ino page row bytes there at;
        directory = λ kind. subst (λ n. dentry_blocks (map.values tree) n ≤ inode_pages) (sym same) (storable.short_directories ino row there kind);
      });
  space = (storable.nodes, storable.blocks);
}
