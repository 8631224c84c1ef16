-- Blocks that stand at places stand at other places that tell the same.
use Rattle.std.proofs.Common.{◌≡◌, ℕ, ◌<◌, List, refl, sym, ◌∙◌}
use Rattle.std.specs.Prelude.{Some}
use Rattle.std.specs.FinMap as map
use Rattle.f2_format.specs.Offsets.{inode_pages, direct_of}
use Rattle.f2_format.specs.Geometry.{ImageGeometry}
use Rattle.f2_model.specs.Tree.{Rows}
use Rattle.f2_model.specs.declared.rows.Row.{Row}
use Rattle.f2_model.specs.declared.rows.Kind.{Kind}
use Rattle.f2_model.specs.declared.rows.Kind.TheVariants.{Regular, Directory}
use Rattle.f2_stored.specs.Places.{NodeAt, Places, nid_at, page_at, dentries_at, IsInodeOf, IsPageBlock}
use Rattle.f2_stored.specs.Trees.{IsNodeHere, IsPageHere}
use Rattle.f2_place_laws.proofs.PageKinds.{regular_page, directory_page, of_regular, of_directory}

module _ (places other : Places) where
  -- a page that has the same dentries
  pub page_block_alike : (row : Row) (page : ℕ) (block : List ℕ) → dentries_at other row.ino page ≡ dentries_at places row.ino page → IsPageBlock places row page block → IsPageBlock other row page block
  page_block_alike row page block same own = by_kind row.kind refl
    where
      by_kind : (kind : Kind) → row.kind ≡ kind → IsPageBlock other row page block
      by_kind Regular is = of_regular other row page block is (regular_page places row page block is own)
      by_kind Directory is = let dentries = directory_page places row page block is own in of_directory other row page block is (dentries.0, dentries.1 ∙ sym same)

  module _ (geom : ImageGeometry) (tree : Rows) where
    pub page_here_alike : (ino page at : ℕ) (block : List ℕ) → ((row : Row) → dentries_at other row.ino page ≡ dentries_at places row.ino page) → IsPageHere geom tree places ino page at block → IsPageHere geom tree other ino page at block
    page_here_alike ino page at block same here =
        record { in_zone = here.in_zone; own = λ row there. page_block_alike row page block (same row) (here.own row there) }

    -- an inode that tells the same addresses
    inode_alike : (row : Row) (block : List ℕ) → ((page : ℕ) → page < inode_pages → page_at other row.ino page ≡ page_at places row.ino page) → IsInodeOf places row block → IsInodeOf other row block
    inode_alike row block same inode =
        record { kind = inode.kind; own = inode.own; size = inode.size; addresses = λ page small. inode.addresses page small ∙ sym (same page small) }

    -- a node that tells the same nids and addresses
    pub node_here_alike : (ino offset : ℕ) (node : NodeAt) (block : List ℕ) → ((low : ℕ) → nid_at other ino low ≡ nid_at places ino low)
        → ((page : ℕ) → direct_of page ≡ Some offset → page_at other ino page ≡ page_at places ino page)
        → (offset ≡ 0 → (row : Row) → map.get tree ino ≡ Some row → (page : ℕ) → page < inode_pages → page_at other row.ino page ≡ page_at places row.ino page)
        → IsNodeHere geom tree places ino offset node block → IsNodeHere geom tree other ino offset node block
    node_here_alike ino offset node block nids pages first here = record {
      in_zone = here.in_zone;
      own = record {
        footer_nid = here.own.footer_nid;
        footer_ino = here.own.footer_ino;
        footer_offset = here.own.footer_offset;
        lower = λ slot low small below. here.own.lower slot low small below ∙ sym (nids low);
        pages = λ page direct. here.own.pages page direct ∙ sym (pages page direct);
      };
      inode = λ is row there. inode_alike row block (first is row there) (here.inode is row there);
    }
