-- Flat trees have files in the root alone, and their rows tell them.
use Rattle.std.proofs.Common.{◌≡◌, ◌≢◌, ◌⊎◌, ◌↔◌, inl, inr, ℕ, ◌-◌, ◌*◌, ◌/◌, ◌≤◌, refl, sym, ◌∙◌, arith}
use Rattle.std.specs.Prelude.{Some, All}
use Rattle.std.specs.FinMap as map
use Rattle.std.proofs.lemmas.List.Elements.{All-from_recursion, recursion_from_All}
use Rattle.f2_format.specs.Geometry.{ImageGeometry, IsGeometry, main_blocks, node_third, data_third}
use Rattle.f2_format.specs.Inode.{SIZE_LIMIT}
use Rattle.f2_model.specs.Tree.{Rows, ROOT, HasGoodPages}
use Rattle.f2_model.specs.declared.rows.Row.{Row}
use Rattle.f2_laws.proofs.Places.{same_or_other}
use Rattle.f2_laid.specs.Laid.{IsStorable}
use Rattle.f2_laid_laws.proofs.Members.{of_all}
use Rattle.f2_laid_laws.proofs.Values.{value_in}
use Rattle.f2_flat.specs.Flat.{IsFlat, IsRootFile, FILE_SIZE}
use Rattle.f2_flat.specs.Kept.{IsFlatRow, HasRootFiles}
use Rattle.f2_flat.proofs.Values.{each_in, value_at}

-- the thirds of the zones
third_small : (main third : ℕ) → main ≤ 65536 → third ≡ main / 12 → third ≤ 5462
third_small main third small is = omega (arith, small, is)

main_small : (blocks rest main : ℕ) → blocks ≤ 65536 → main ≡ blocks - 8 - rest → main ≤ 65536
main_small blocks rest main small is = omega (arith, small, is)

pub node_third_small : (geom : ImageGeometry) → IsGeometry geom → node_third geom ≤ 5462
node_third_small geom geometry = third_small (main_blocks geom) (node_third geom) (main_small geom.blocks (2 * geom.nat) (main_blocks geom) geometry.most_blocks refl) refl

third_data : (main third room : ℕ) → main ≤ 65536 → room ≡ (main - 3 * third) / 3 → room ≤ 65536
third_data main third room small is = omega (arith, small, is)

pub data_third_small : (geom : ImageGeometry) → IsGeometry geom → data_third geom ≤ 65536
data_third_small geom geometry = third_data (main_blocks geom) (node_third geom) (data_third geom) (main_small geom.blocks (2 * geom.nat) (main_blocks geom) geometry.most_blocks refl) refl

pages_shorter : (row : Row) → HasGoodPages SIZE_LIMIT row → row.size ≤ FILE_SIZE → HasGoodPages FILE_SIZE row
pages_shorter row pages size = record {
  directory = pages.directory;
  size = size;
  whole = pages.whole;
  before = pages.before;
  zeros = pages.zeros;
}

module _ (geom : ImageGeometry) (geometry : IsGeometry geom) (tree : Rows) where
  pub files_of : IsFlat geom tree → HasRootFiles tree
  files_of flat = record {
    good = flat.good;
    few = (let small = node_third_small geom geometry in let fits = flat.fits in omega (arith, small, fits));
    files = flat.files;
  }

  row_of : IsFlat geom tree → (ino : ℕ) (row : Row) → map.get tree ino ≡ Some row → IsFlatRow (map.len tree) row
  row_of flat ino row there =
      let own : row.ino ≡ ino = flat.good.keyed ino row there in
      let dense = flat.dense ino row there in
      let low = dense.0 in
      let high = dense.1 in
      record {
        low = omega (arith, own, low);
        high = omega (arith, own, high);
        size = (flat.good.pages ino row there).size;
        file = by_ino (same_or_other ino ROOT);
      }
    where
      by_ino : (ino ≡ ROOT) ⊎ (ino ≢ ROOT) → (row.ino ≡ ROOT) ⊎ IsRootFile row
      by_ino (inl same) = inl (flat.good.keyed ino row there ∙ same)
      by_ino (inr other) = inr (flat.files ino row there other)

  flat_of : IsStorable geom tree → map.len tree ≤ node_third geom → ((ino : ℕ) (row : Row) → map.get tree ino ≡ Some row → IsFlatRow (map.len tree) row) → IsFlat geom tree
  flat_of can fits each = record {
    good = record {
      root = can.good.root;
      keyed = can.good.keyed;
      parents = can.good.parents;
      names = can.good.names;
      apart = can.good.apart;
      reached = can.good.reached;
      pages = λ ino row there. pages_shorter row (can.good.pages ino row there) (each ino row there).size;
    };
    fits = fits;
    room = can.blocks;
    dense = λ ino row there.
        let own : row.ino ≡ ino = can.good.keyed ino row there in
        let low = (each ino row there).low in
        let high = (each ino row there).high in
        (omega (arith, own, low), omega (arith, own, high));
    files = λ ino row there other. by_file ino row there other (each ino row there).file;
  }
    where
      by_file : (ino : ℕ) (row : Row) → map.get tree ino ≡ Some row → ino ≢ ROOT → (row.ino ≡ ROOT) ⊎ IsRootFile row → IsRootFile row
      by_file ino row there other (inl same) = absurd (other (sym (can.good.keyed ino row there) ∙ same))
      by_file ino row there other (inr file) = file

  -- a tree that an image can have is flat where it has few enough rows and each of them is
  pub flat_rows : IsStorable geom tree → map.len tree ≤ node_third geom → All (IsFlatRow (map.len tree)) (map.values tree) ↔ IsFlat geom tree
  flat_rows can fits = (
    λ all. flat_of can fits (λ ino row there. of_all (IsFlatRow (map.len tree)) row (map.values tree) (recursion_from_All (IsFlatRow (map.len tree)) (map.values tree) all) (value_in tree ino row there)),
    λ flat. All-from_recursion (IsFlatRow (map.len tree)) (map.values tree) (each_in (IsFlatRow (map.len tree)) (map.values tree) (λ row there. let at = value_at tree row there in row_of flat at.0 row at.1)),
  )
