-- A tree that is taken over has its places.
use Rattle.std.proofs.Common.{◌≡◌, ◌≢◌, ◌⊎◌, inl, inr, ℕ, List, Contains, IsSome, is_some, refl, ap}
use Rattle.std.specs.Prelude.{Some}
use Rattle.std.specs.FinMap as map
use Rattle.f2_format.specs.Offsets.{nodes_of_page}
use Rattle.f2_model.specs.Tree.{Rows}
use Rattle.f2_model.specs.State.{Mark}
use Rattle.f2_image.specs.Images.{Image}
use Rattle.f2_image.specs.Packs.{Checkpoint}
use Rattle.f2_image.specs.Meanings.{MeansAt}
use Rattle.f2_stored.specs.Places.{NodeAt, Places, IsNamedAbove, IsNodePlaced, IsPagePlaced, HasPlaces}
use Rattle.f2_stored.specs.Trees.{Unwritten}
use Rattle.f2_place_laws.proofs.Options.{the_one}
use Rattle.f2_mount_laws.specs.Taken.{IsNeeded, inode, on_way, IsTakenOver}
use Rattle.f2_mount_laws.specs.Living.{TakenOverTreesHavePlaces}
use Rattle.f2_mount_laws.proofs.Needs.{IsAbove, above_is, direct_on_way}
use Rattle.f2_mount_laws.proofs.TakenNodes.{node_is, nids_apart, nodes_apart, least, most, inode_nid}
use Rattle.f2_mount_laws.proofs.TakenPages.{pages_apart}
use Rattle.f2_mount_laws.proofs.TakenNames.{names_of}

module _ (image : Image) (ckpt : Checkpoint) (base : Rows) (marks : List Mark) (tree : Rows) (places : Places) (unwritten : Unwritten)
    (means : MeansAt image ckpt base marks) (is : IsTakenOver image ckpt base marks tree places unwritten) where
  page_row : (ino page : ℕ) → IsSome (map.get places.pages (ino, page)) → IsSome (map.get tree ino)
  page_row ino page there = let at = the_one (map.get places.pages (ino, page)) there in (is.rows ino page at.0 at.1).0

  row_by : (ino offset : ℕ) → IsNeeded tree places ino offset → IsSome (map.get tree ino)
  row_by ino offset (inode first row) = row
  row_by ino offset (on_way page there way) = page_row ino page there

  -- the node above one on a page's way
  upper_there : (ino page upper : ℕ) → IsSome (map.get places.pages (ino, page)) → (upper ≡ 0) ⊎ Contains (nodes_of_page page) upper → IsSome (map.get places.nodes (ino, upper))
  upper_there ino page upper there (inl top) = is.all_needed ino upper (inode top (page_row ino page there))
  upper_there ino page upper there (inr way) = is.all_needed ino upper (on_way page there way)

  named_by : (ino offset page : ℕ) → IsSome (map.get places.pages (ino, page)) → IsAbove page offset → IsNamedAbove places ino offset
  named_by ino offset page there up = record { upper = up.upper; slot = up.slot; small = up.small; names = up.names; there = upper_there ino page up.upper there up.on_way }

  above_by : (ino offset : ℕ) → IsNeeded tree places ino offset → offset ≢ 0 → IsNamedAbove places ino offset
  above_by ino offset (inode first row) other = absurd (other first)
  above_by ino offset (on_way page there way) other = named_by ino offset page there (above_is page offset way)

  node_placed : (ino offset : ℕ) (n : NodeAt) → map.get places.nodes (ino, offset) ≡ Some n → IsNodePlaced ckpt.geom tree places ino offset n
  node_placed ino offset n there =
      let its = node_is image ckpt base marks tree places unwritten means is ino offset n there in
      let need = is.needed ino offset (ap is_some there) in
      record {
        row = row_by ino offset need;
        least = least image ckpt base marks tree places unwritten means is ino offset n its;
        most = most image ckpt base marks tree places unwritten means is ino offset n its;
        inode = inode_nid image ckpt base marks tree places unwritten means is ino offset n its;
        above = above_by ino offset need;
      }

  page_placed : (ino page at : ℕ) → map.get places.pages (ino, page) ≡ Some at → IsPagePlaced tree places ino page
  page_placed ino page at there =
      let row = is.rows ino page at there in
      record { row = row.0; within = row.1; direct = λ offset direct. is.all_needed ino offset (on_way page (ap is_some there) (direct_on_way page offset direct)) }

  pub laid : HasPlaces ckpt.geom tree places
  laid = record {
    nodes = node_placed;
    nids_apart = nids_apart image ckpt base marks tree places unwritten means is;
    nodes_apart = nodes_apart image ckpt base marks tree places unwritten means is;
    pages = page_placed;
    pages_apart = pages_apart image ckpt base marks tree places unwritten means is;
    inodes = λ ino row there. is.all_needed ino 0 (inode refl (ap is_some there));
    names = names_of image ckpt base marks tree places unwritten means is;
    few_nodes = is.few_nodes;
    few_pages = is.few_pages;
  }

pub have_places : TakenOverTreesHavePlaces
have_places image ckpt base marks tree places unwritten means is = laid image ckpt base marks tree places unwritten means is
