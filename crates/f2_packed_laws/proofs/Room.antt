-- A tree with a packed layout has no more nodes and pages than are counted for it.
use Rattle.std.proofs.Common.{◌≡◌, inl, inr, ℕ, List, length, arith}
use Rattle.std.specs.Prelude.{Some}
use Rattle.std.specs.FinMap as map
use Rattle.f2_format.specs.Geometry.{node_third, data_third}
use Rattle.f2_format.specs.Offsets.{nodes_of_page}
use Rattle.f2_model.specs.Count.{page_numbers, nodes_of_row, data_of_row, nodes_of_tree, data_of_tree}
use Rattle.f2_model.specs.Tree.{Rows}
use Rattle.f2_model.specs.State.{Mark, rolled}
use Rattle.f2_model.specs.declared.rows.Row.{Row}
use Rattle.f2_image.specs.Images.{Image}
use Rattle.f2_image.specs.Packs.{Checkpoint}
use Rattle.f2_image.specs.Meanings.{MeansAt}
use Rattle.f2_image.specs.Reached.{HasMore}
use Rattle.f2_block_laws.proofs.Counts.{with_first, pairs_of, length-pairs, offsets, length-offsets, length-pages}
use Rattle.f2_block_laws.proofs.Differ.{no_more}
use Rattle.f2_block_laws.proofs.Members.{IsIn, in_map, in_flat_map, from_contains}
use Rattle.f2_block_laws.proofs.Sets.{in_once}
use Rattle.f2_block_laws.proofs.Values.{entry_in}
use Rattle.f2_block_laws.proofs.Ways.{offsets_of}
use Rattle.f2_place_laws.proofs.Lists.{all_of}
use Rattle.f2_place_laws.proofs.Options.{the_one}
use Rattle.f2_mount_laws.specs.Existing.{Relaid, HasRoomFor, IsSomeTreePage, IsTreeNode, inode, on_way}
use Rattle.f2_packed_laws.specs.Packed.{IsPacked, PackedLayoutsHaveRoom}
use Rattle.f2_packed_laws.proofs.Rolled.{few_nodes, few_pages}
use Rattle.f2_packed_laws.proofs.Pages.{row_page}

module _ (image : Image) (ckpt : Checkpoint) (base : Rows) (marks : List Mark) (means : MeansAt image ckpt base marks) (relaid : Relaid) (is : IsPacked base (rolled base marks) relaid) where
  abbrev tree : Rows
  tree = rolled base marks

  abbrev row_pages : ℕ × Row → List ℕ
  row_pages e = page_numbers e.1.kind (map.values tree) e.1

  abbrev row_offsets : ℕ × Row → List ℕ
  row_offsets e = offsets (row_pages e)

  -- each page is one that its row has
  page_listed : (at : ℕ × ℕ) → IsSomeTreePage image ckpt relaid at → IsIn at (pairs_of row_pages (map.entries tree))
  page_listed at (address, page) =
      let of = row_page image ckpt base marks means relaid is at.0 at.1 address page in
      in_flat_map (λ (e : ℕ × Row). with_first e.0 (row_pages e)) (at.0, of.row) at (map.entries tree) (entry_in tree at.0 of.row of.there) (in_map (λ (n : ℕ). (at.0, n)) at.1 (row_pages (at.0, of.row)) of.listed)

  -- each node is one that its row's pages need
  offset_listed : (at : ℕ × ℕ) (row : Row) → map.get tree at.0 ≡ Some row → IsIn at.1 (offsets_of (row_pages (at.0, row))) → IsIn at (pairs_of row_offsets (map.entries tree))
  offset_listed at row there offset =
      in_flat_map (λ (e : ℕ × Row). with_first e.0 (row_offsets e)) (at.0, row) at (map.entries tree) (entry_in tree at.0 row there)
      (in_map (λ (n : ℕ). (at.0, n)) at.1 (row_offsets (at.0, row)) (in_once at.1 (offsets_of (row_pages (at.0, row))) offset))

  node_listed : (at : ℕ × ℕ) → IsTreeNode image ckpt tree relaid at → IsIn at (pairs_of row_offsets (map.entries tree))
  node_listed at (inode first some) = let row = the_one (map.get tree at.0) some in offset_listed at row.0 row.1 (inl first)
  node_listed at (on_way page address its way) =
      let of = row_page image ckpt base marks means relaid is at.0 page address its in
      offset_listed at of.row of.there (inr (in_flat_map nodes_of_page page at.1 (row_pages (at.0, of.row)) of.listed (from_contains (nodes_of_page page) at.1 way)))

  nodes_counted : length (pairs_of row_offsets (map.entries tree)) ≡ nodes_of_tree tree
  nodes_counted = length-pairs row_offsets (nodes_of_row (map.values tree)) (λ e. length-offsets (row_pages e)) (map.entries tree)

  pages_counted : length (pairs_of row_pages (map.entries tree)) ≡ data_of_tree tree
  pages_counted = length-pairs row_pages (data_of_row (map.values tree)) (λ e. length-pages e.1.kind (map.values tree) e.1) (map.entries tree)

  no_more_nodes : ¬ (HasMore (ℕ × ℕ) (IsTreeNode image ckpt tree relaid) (node_third ckpt.geom))
  no_more_nodes more =
      let all = all_of (IsTreeNode image ckpt tree relaid) (λ at. IsIn at (pairs_of row_offsets (map.entries tree))) node_listed more.some more.all in
      let few = no_more more.some (pairs_of row_offsets (map.entries tree)) more.differ all in
      let past = more.more in
      let third = few_nodes image ckpt base marks means in
      let counted = nodes_counted in
      omega (arith, few, past, third, counted)

  no_more_pages : ¬ (HasMore (ℕ × ℕ) (IsSomeTreePage image ckpt relaid) (data_third ckpt.geom))
  no_more_pages more =
      let all = all_of (IsSomeTreePage image ckpt relaid) (λ at. IsIn at (pairs_of row_pages (map.entries tree))) page_listed more.some more.all in
      let few = no_more more.some (pairs_of row_pages (map.entries tree)) more.differ all in
      let past = more.more in
      let third = few_pages image ckpt base marks means in
      let counted = pages_counted in
      omega (arith, few, past, third, counted)

  room : HasRoomFor image ckpt tree relaid
  room = record { nodes = no_more_nodes; pages = no_more_pages }

pub have_room : PackedLayoutsHaveRoom
have_room image ckpt base marks relaid means is = room image ckpt base marks means relaid is
