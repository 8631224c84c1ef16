-- On a disk that holds the image, a tree that is taken over stands as far as it isn't to be written.
use Rattle.std.proofs.Common.{◌≡◌, ◌≢◌, ℕ, false, List, All, sym, ap, subst}
use Rattle.std.specs.Prelude.{Some}
use Rattle.std.specs.FinMap as map
use Rattle.std.specs.FinSet as set
use Rattle.f2_disk.specs.Contents.{Contents, last_of}
use Rattle.f2_model.specs.Tree.{Rows}
use Rattle.f2_model.specs.State.{Mark}
use Rattle.f2_image.specs.Images.{block_at}
use Rattle.f2_image.specs.Chains.{chain, no_block}
use Rattle.f2_image_laws.specs.Chained.{contents_at}
use Rattle.f2_image_laws.specs.Depending as depending
use Rattle.f2_stored.specs.Places.{NodeAt, Places}
use Rattle.f2_stored.specs.Trees.{IsNodeHere, IsPageHere, Unwritten}
use Rattle.f2_stored.specs.Layout.{Reference}
use Rattle.f2_stored.specs.Bases.{HasOne, HoldsImage}
use Rattle.f2_place_laws.proofs.Stood.{in_node_some}
use Rattle.f2_mount_laws.specs.Taken.{IsTakenOver}
use Rattle.f2_mount_laws.specs.Living.{TakenOverTreesAreLive}
use Rattle.f2_mount_laws.proofs.Laid.{laid}
use Rattle.f2_mount_laws.proofs.Old.{is_node, node_at}
use Rattle.f2_mount_laws.proofs.Standing.{node_here, page_here, rows_have}
use Rattle.f2_mount_laws.proofs.TakenNodes.{NodeIs, in_base, in_log, new, node_is}

module _ (lists : Contents) (held : Reference) (base : Rows) (marks : List Mark) (tree : Rows) (places : Places) (unwritten : Unwritten)
    (holds : HoldsImage lists held base marks) (log : All (λ one. HasOne lists held.image one.at) (chain held.image held.ckpt)) (is : IsTakenOver held.image held.ckpt base marks tree places unwritten) where
  abbrev Is : ℕ → ℕ → NodeAt → Type 0
  Is ino offset n = NodeIs held.image held.ckpt base marks tree places unwritten holds.means is ino offset n

  -- a node's block has one content
  one_content : (ino offset : ℕ) (n : NodeAt) → n.at ≢ 0 → Is ino offset n → HasOne lists held.image n.at
  one_content ino offset n some (in_base there) =
      holds.read n.at
      (depending.node ino offset n.nid (is_node held.image held.ckpt base holds.means.is_base is.old is.stands ino offset n there) (sym (node_at held.image held.ckpt base holds.means.is_base is.old is.stands ino offset n there)))
  one_content ino offset n some (in_log its) = subst (HasOne lists held.image) (sym its.at_is) (log its.place no_block its.within)
  one_content ino offset n some (new other nowhere own) = absurd (some nowhere)

  newest : (at : ℕ) → HasOne lists held.image at → last_of (contents_at lists at) ≡ block_at held.image at
  newest at one = ap last_of one

  node_live : (ino offset : ℕ) (n : NodeAt) → map.get places.nodes (ino, offset) ≡ Some n → set.contains unwritten.nodes (ino, offset) ≡ false
      → IsNodeHere held.ckpt.geom tree places ino offset n (last_of (contents_at lists n.at))
  node_live ino offset n there out =
      let here = node_here held.image held.ckpt base marks tree places unwritten holds.means is ino offset n there out in
      let own = node_is held.image held.ckpt base marks tree places unwritten holds.means is ino offset n there in
      subst (IsNodeHere held.ckpt.geom tree places ino offset n) (sym (newest n.at (one_content ino offset n (in_node_some held.ckpt.geom n.at here.in_zone) own))) here

  page_live : (ino page at : ℕ) → map.get places.pages (ino, page) ≡ Some at → set.contains unwritten.pages (ino, page) ≡ false → IsPageHere held.ckpt.geom tree places ino page at (last_of (contents_at lists at))
  page_live ino page at there out =
      let taken = page_here held.image held.ckpt base marks tree places unwritten holds.means is ino page at there out in
      subst (IsPageHere held.ckpt.geom tree places ino page at) (sym (newest at (holds.read at (depending.page ino page taken.read)))) taken.here

pub are_live : TakenOverTreesAreLive
are_live lists held base marks tree places unwritten holds log is = record {
  laid = laid held.image held.ckpt base marks tree places unwritten holds.means is;
  nodes = node_live lists held base marks tree places unwritten holds log is;
  pages = page_live lists held base marks tree places unwritten holds log is;
  rows = rows_have held.image held.ckpt base marks tree places unwritten holds.means is;
}
