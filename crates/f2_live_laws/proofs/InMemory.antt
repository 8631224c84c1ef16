-- A change of the live tree in memory alone: what isn't to be written after it stands as it stood.
use Rattle.std.proofs.Common.{◌≡◌, ℕ, List, sym, ap, ◌∙◌, refl}
use Rattle.std.specs.Prelude.{Some}
use Rattle.f2_format.specs.Geometry.{ImageGeometry}
use Rattle.f2_disk.specs.Contents.{last_of}
use Rattle.f2_model.specs.Tree.{Rows}
use Rattle.f2_model.specs.declared.rows.Row.{Row}
use Rattle.f2_model.specs.declared.rows.Kind.{Kind}
use Rattle.f2_model.specs.declared.rows.Kind.TheVariants.{Regular, Directory}
use Rattle.f2_image_laws.specs.Chained.{contents_at}
use Rattle.f2_stored.specs.Places.{NodeAt, Places, page_at, dentries_at, IsInodeOf, IsPageBlock}
use Rattle.f2_stored.specs.Trees.{IsNodeHere, IsPageHere, Unwritten}
use Rattle.f2_place_laws.proofs.PageKinds.{regular_page, directory_page, of_regular, of_directory}
use Rattle.f2_live_laws.specs.Changing.{IsSameInode, IsSamePage, IsSameNode, StaysAtPage, ChangesInMemoryKeepLive}

module _ (tree after : Rows) (places now : Places) where
  -- the inode of a row that would be written as before
  inode_stays : (ino : ℕ) (row : Row) (block : List ℕ) (same : IsSameInode tree places now ino row) → IsInodeOf places same.before block → IsInodeOf now row block
  inode_stays ino row block same inode = record {
    kind = inode.kind ∙ ap Some same.kind;
    own = inode.own;
    size = λ regular. inode.size (same.kind ∙ regular) ∙ same.size regular;
    addresses = λ page small. inode.addresses page small ∙ ap (λ of. page_at places of page) same.own ∙ sym (same.addresses page small);
  }

  -- the block of a page that would be written as before
  page_stays : (ino page : ℕ) (row : Row) (block : List ℕ) (same : IsSamePage tree places now ino page row) → IsPageBlock places same.before page block → IsPageBlock now row page block
  page_stays ino page row block same own = by_kind row.kind refl
    where
      by_kind : (kind : Kind) → row.kind ≡ kind → IsPageBlock now row page block
      by_kind Regular is = of_regular now row page block is (sym (same.bytes is) ∙ regular_page places same.before page block (same.kind ∙ is) own)
      by_kind Directory is =
          let held = directory_page places same.before page block (same.kind ∙ is) own in
          of_directory now row page block is (held.0, held.1 ∙ ap (λ of. dentries_at places of page) same.own ∙ sym (same.dentries is))

  module _ (geom : ImageGeometry) (unwritten : Unwritten) where
    node_stays : (ino offset : ℕ) (node : NodeAt) (block : List ℕ) → IsSameNode tree after places now unwritten ino offset node → IsNodeHere geom tree places ino offset node block → IsNodeHere geom after now ino offset node block
    node_stays ino offset node block same here = record {
      in_zone = here.in_zone;
      own = record {
        footer_nid = here.own.footer_nid;
        footer_ino = here.own.footer_ino;
        footer_offset = here.own.footer_offset;
        lower = λ slot low small below. here.own.lower slot low small below ∙ sym (same.lower slot low small below);
        pages = λ page direct. here.own.pages page direct ∙ sym (same.addresses page direct);
      };
      inode = λ first row there. let as_before = same.inode first row there in inode_stays ino row block as_before (here.inode first as_before.before as_before.there);
    }

    page_here_stays : (ino page at : ℕ) (block : List ℕ) → StaysAtPage tree after places now unwritten ino page at → IsPageHere geom tree places ino page at block → IsPageHere geom after now ino page at block
    page_here_stays ino page at block same here = record {
      in_zone = here.in_zone;
      own = λ row there. let as_before = same.content row there in page_stays ino page row block as_before (here.own as_before.before as_before.there);
    }

pub changes_in_memory_keep_live : ChangesInMemoryKeepLive
changes_in_memory_keep_live lists geom tree after places now unwritten left live laid rows changes = record {
  laid = laid;
  nodes = λ ino offset node there out.
      let same = changes.nodes ino offset node there out in
      node_stays tree after places now geom unwritten ino offset node (last_of (contents_at lists node.at)) same (live.nodes ino offset node same.stood same.written);
  pages = λ ino page at there out.
      let same = changes.pages ino page at there out in
      page_here_stays tree after places now geom unwritten ino page at (last_of (contents_at lists at)) same (live.pages ino page at same.stood same.written);
  rows = rows;
}
