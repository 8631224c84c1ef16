-- A live tree where reads give what they gave, and a tree that is written out.
use Rattle.std.proofs.Common.{◌≡◌, ℕ, List, sym, ap, subst}
use Rattle.std.specs.Prelude.{Some}
use Rattle.std.specs.FinMap as map
use Rattle.f2_format.specs.Geometry.{ImageGeometry}
use Rattle.f2_disk.specs.Contents.{Contents, last_of, flushed}
use Rattle.f2_model.specs.Tree.{Rows}
use Rattle.f2_image.specs.Images.{Image}
use Rattle.f2_image.specs.Packs.{Checkpoint}
use Rattle.f2_image_laws.specs.Chained.{contents_at}
use Rattle.f2_stored.specs.Changes.{Wrote}
use Rattle.f2_stored.specs.Places.{NodeAt, Places}
use Rattle.f2_stored.specs.Trees.{IsNodeHere, IsPageHere, IsTableOf, IsTreeAt, Unwritten, IsLiveAt}
use Rattle.f2_place_laws.specs.Living.{IsWrittenOut, HasWhatReadsGive}
use Rattle.f2_stored.specs.Kept.{IsElsewhere}
use Rattle.f2_place_laws.proofs.WrittenBlocks.{wrote_other, flushed_reads}

module _ (lists : Contents) (tree : Rows) (places : Places) (unwritten : Unwritten) where
  -- a tree that is written out stands in an image that has what reads give
  pub stands_written : (image : Image) (ckpt : Checkpoint) → IsLiveAt lists ckpt.geom tree places unwritten → IsWrittenOut places unwritten → HasWhatReadsGive lists image places → IsTableOf image ckpt places
      → IsTreeAt image ckpt tree places
  stands_written image ckpt live out gives table = record {
    laid = live.laid;
    table = table;
    nodes = λ ino offset node there. subst (IsNodeHere ckpt.geom tree places ino offset node) (sym (gives.nodes ino offset node there)) (live.nodes ino offset node there (out.nodes ino offset node there));
    pages = λ ino page at there. subst (IsPageHere ckpt.geom tree places ino page at) (sym (gives.pages ino page at there)) (live.pages ino page at there (out.pages ino page at there));
    rows = live.rows;
  }

  module _ (geom : ImageGeometry) (live : IsLiveAt lists geom tree places unwritten) (new : Contents) where
    -- a tree is live where reads give the same at its places
    pub same_reads : ((ino offset : ℕ) (node : NodeAt) → map.get places.nodes (ino, offset) ≡ Some node → last_of (contents_at new node.at) ≡ last_of (contents_at lists node.at))
        → ((ino page at : ℕ) → map.get places.pages (ino, page) ≡ Some at → last_of (contents_at new at) ≡ last_of (contents_at lists at)) → IsLiveAt new geom tree places unwritten
    same_reads nodes pages = record {
      laid = live.laid;
      nodes = λ ino offset node there out. subst (IsNodeHere geom tree places ino offset node) (sym (nodes ino offset node there)) (live.nodes ino offset node there out);
      pages = λ ino page at there out. subst (IsPageHere geom tree places ino page at) (sym (pages ino page at there)) (live.pages ino page at there out);
      rows = live.rows;
    }

    pub wrote_elsewhere : (at : ℕ) (content : List ℕ) → IsElsewhere places at → Wrote lists at content new → IsLiveAt new geom tree places unwritten
    wrote_elsewhere at content free wrote =
        same_reads (λ ino offset node there. ap last_of (wrote_other lists new at content wrote node.at (free.nodes ino offset node there)))
        (λ ino page other there. ap last_of (wrote_other lists new at content wrote other (free.pages ino page other there)))

pub live_flushed : (lists : Contents) (geom : ImageGeometry) (tree : Rows) (places : Places) (unwritten : Unwritten) → IsLiveAt lists geom tree places unwritten → IsLiveAt (flushed lists) geom tree places unwritten
live_flushed lists geom tree places unwritten live =
    same_reads lists tree places unwritten geom live (flushed lists) (λ ino offset node there. flushed_reads lists node.at) (λ ino page at there. flushed_reads lists at)
