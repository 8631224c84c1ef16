-- The base of a sound image stands at the places that are read off the image.
use Rattle.std.proofs.Common.{◌≡◌, ◌≢◌, ℕ, List, IsSome, is_some, refl, sym, ap, ◌∙◌, subst, true≢false}
use Rattle.std.specs.Prelude.{Option, Some, None}
use Rattle.std.specs.FinMap as map
use Rattle.f2_format.specs.Offsets.{page_limit}
use Rattle.f2_format.specs.Footer.{footer_ino, footer_offset}
use Rattle.f2_model.specs.Tree.{Rows}
use Rattle.f2_model.specs.declared.rows.Row.{Row}
use Rattle.f2_model.specs.declared.rows.Kind.{Kind}
use Rattle.f2_model.specs.declared.rows.Kind.TheVariants.{Regular, Directory}
use Rattle.f2_image.specs.Images.{Image, block_at}
use Rattle.f2_image.specs.Packs.{Checkpoint}
use Rattle.f2_image.specs.Nodes.{node_address, block_there}
use Rattle.f2_image.specs.Bases.{HasContent, IsBase}
use Rattle.f2_image.specs.Faults as faults
use Rattle.f2_image.specs.Faults.{IsForeign, IsSound, BadInode, VersionEnd}
use Rattle.f2_image.proofs.OneBase.{same_some}
use Rattle.f2_stored.specs.Places.{NodeAt, Places, page_at, dentries_at, IsNodePlaced, IsPagePlaced, HasPlaces, IsInodeOf, IsPageBlock, HasItsPages}
use Rattle.f2_stored.specs.Trees.{IsNodeHere, IsPageHere, IsTableOf, IsTreeAt}
use Rattle.f2_place_laws.proofs.ChosenPlaces.{address_of, page_read, page_given}
use Rattle.f2_place_laws.proofs.PageKinds.{of_regular, of_directory}
use Rattle.f2_place_laws.proofs.ReadCounts.{few_nodes, few_pages}
use Rattle.f2_place_laws.proofs.ReadNames.{dentries_are, right_page, names_read}
use Rattle.f2_place_laws.proofs.ReadNodes.{at_nid, place_is, nid_within, ino_told, offset_told, nid_told, in_zone, least, inode_nid, row_there, above, lower_told, nid_read}
use Rattle.f2_place_laws.proofs.ReadPages.{places, root_of, inode_is, page_in_zone, pages_apart, direct_read, word_told, first_told}
use Rattle.f2_place_laws.proofs.SoundNodes.{key, block_of, table, right_entry}
use Rattle.f2_place_laws.proofs.Stood.{block_is_there}
use Rattle.f2_place_laws.proofs.Uppers.{upper_of}

module _ (image : Image) (ckpt : Checkpoint) (sound : IsSound image ckpt) (base : Rows) (is : IsBase image ckpt base) where
  abbrev its : Places
  its = places image ckpt sound base is

  -- the table
  table_read : IsTableOf image ckpt its
  table_read = record {
    read = table image ckpt sound;
    entries = right_entry image ckpt sound;
    told = λ ino offset n there. place_is image ckpt sound ino offset n there;
    only = λ nid within some. ((key image ckpt nid).0, (key image ckpt nid).1, (at_nid image ckpt sound nid, nid_read image ckpt sound nid (record { within = within; some = some }), refl));
  }

  -- the nodes
  node_placed : (ino offset : ℕ) (n : NodeAt) → map.get its.nodes (ino, offset) ≡ Some n → IsNodePlaced ckpt.geom base its ino offset n
  node_placed ino offset n there = record {
    row = row_there image ckpt sound ino offset n there base is;
    least = least image ckpt sound ino offset n there;
    most = nid_within image ckpt sound ino offset n there;
    inode = inode_nid image ckpt sound ino offset n there;
    above = λ other.
        let up = above image ckpt sound ino offset n there other in
        record { upper = upper_of offset; slot = up.slot; small = up.small; names = up.names; there = up.there_above };
  }

  same_node : (one other : ℕ × ℕ) (a b : NodeAt) → map.get its.nodes one ≡ Some a → map.get its.nodes other ≡ Some b → a.at ≡ b.at → one ≡ other
  same_node one other a b there too same =
      let inos = sym (ino_told image ckpt sound one.0 one.1 a there) ∙ ap (λ at. footer_ino (block_at image at)) same ∙ ino_told image ckpt sound other.0 other.1 b too in
      let offsets = sym (offset_told image ckpt sound one.0 one.1 a there) ∙ ap (λ at. footer_offset (block_at image at)) same ∙ offset_told image ckpt sound other.0 other.1 b too in
      λ i. (inos i, offsets i)

  same_nid : (one other : ℕ × ℕ) (a b : NodeAt) → map.get its.nodes one ≡ Some a → map.get its.nodes other ≡ Some b → a.nid ≡ b.nid → one ≡ other
  same_nid one other a b there too same =
      same_node one other a b there too (sym (table_read.told one.0 one.1 a there) ∙ ap (λ nid. (at_nid image ckpt sound nid).at) same ∙ table_read.told other.0 other.1 b too)

  -- the inode of a row
  content_is : (ino : ℕ) (row : Row) → map.get base ino ≡ Some row → HasContent image ckpt (block_of image ckpt ino) row.kind row
  content_is ino row there =
      let of_base = is.rows ino row there in
      subst (λ b. HasContent image ckpt b row.kind row) (same_some of_base.inode (block_of image ckpt ino) (sym of_base.is.there ∙ (inode_is image ckpt sound base is ino row there).there)) of_base.content

  file_content : (ino : ℕ) (row : Row) → map.get base ino ≡ Some row → row.kind ≡ Regular → HasContent image ckpt (block_of image ckpt ino) Regular row
  file_content ino row there kind = subst (λ k. HasContent image ckpt (block_of image ckpt ino) k row) kind (content_is ino row there)

  not_foreign : (ino : ℕ) (row : Row) → map.get base ino ≡ Some row → ¬ (IsForeign (block_of image ckpt ino))
  not_foreign ino row there foreign =
      sound BadInode (node_address image ckpt ino) not_end
      (faults.in_base (table image ckpt sound) ino (block_of image ckpt ino) (is.rows ino row there).reached (inode_is image ckpt sound base is ino row there).there refl foreign)
    where
      not_end : BadInode ≢ VersionEnd
      not_end same = cc

  inode_read : (ino : ℕ) (row : Row) → map.get base ino ≡ Some row → IsInodeOf its row (block_of image ckpt ino)
  inode_read ino row there = record {
    kind = (inode_is image ckpt sound base is ino row there).is_kind;
    own = not_foreign ino row there;
    size = λ kind. sym (file_content ino row there kind).0;
    addresses = λ page small.
        first_told image ckpt sound base is ino row there page small ∙ ap (λ n. page_at its n page) (sym (is.rows ino row there).own);
  }

  node_here : (ino offset : ℕ) (n : NodeAt) → map.get its.nodes (ino, offset) ≡ Some n → IsNodeHere ckpt.geom base its ino offset n (block_at image n.at)
  node_here ino offset n there = record {
    in_zone = in_zone image ckpt sound ino offset n there;
    own = record {
      footer_nid = nid_told image ckpt sound ino offset n there;
      footer_ino = ino_told image ckpt sound ino offset n there;
      footer_offset = offset_told image ckpt sound ino offset n there;
      lower = lower_told image ckpt sound ino offset n there;
      pages = word_told image ckpt sound base is ino offset n there;
    };
    inode = λ first row of_base.
        let same : at_nid image ckpt sound ino ≡ n = same_some (at_nid image ckpt sound ino) n (sym (root_of image ckpt sound base is ino row of_base) ∙ ap (λ o. map.get its.nodes (ino, o)) (sym first) ∙ there) in
        subst (λ (m : NodeAt). IsInodeOf its row (block_at image m.at)) same (inode_read ino row of_base);
  }

  -- the pages
  page_placed : (ino page at : ℕ) → map.get its.pages (ino, page) ≡ Some at → IsPagePlaced base its ino page
  page_placed ino page at there =
      let found = page_read image ckpt base page_limit (ino, page) at there in
      record { row = found.row; within = found.within; direct = direct_read image ckpt sound base is ino page at there }

  page_block : (ino page at : ℕ) → map.get its.pages (ino, page) ≡ Some at → (row : Row) → map.get base ino ≡ Some row → IsPageBlock its row page (block_at image at)
  page_block ino page at there row of_base = by_kind row.kind refl
    where
      by_kind : (kind : Kind) → row.kind ≡ kind → IsPageBlock its row page (block_at image at)
      by_kind Regular kind =
          let found = page_read image ckpt base page_limit (ino, page) at there in
          of_regular its row page (block_at image at) kind ((file_content ino row of_base kind).1 page found.within ∙ ap (block_there image) found.is ∙ block_is_there image at found.some)
      by_kind Directory kind =
          let dentries = dentries_are image ckpt sound base is ino page at there in
          of_directory its row page (block_at image at) kind (
            right_page image ckpt sound base is ino row of_base kind page at there,
            sym dentries ∙ ap (λ n. dentries_at its n page) (sym (is.rows ino row of_base).own),
          )

  page_here : (ino page at : ℕ) → map.get its.pages (ino, page) ≡ Some at → IsPageHere ckpt.geom base its ino page at (block_at image at)
  page_here ino page at there = record { in_zone = page_in_zone image ckpt sound base is ino page at there; own = page_block ino page at there }

  -- a file has no others
  has_its_pages : (ino : ℕ) (row : Row) → map.get base ino ≡ Some row → HasItsPages its row
  has_its_pages ino row there kind page has = by_bytes (map.get row.pages page) refl has
    where
      none_at : (at : ℕ) → at ≡ 0 → block_there image at ≡ None
      none_at at zero = ap (block_there image) zero

      by_bytes : (o : Option (List ℕ)) → map.get row.pages page ≡ o → IsSome (map.get row.pages page) → IsSome (map.get its.pages (row.ino, page))
      by_bytes None e has = absurd (true≢false (sym has ∙ ap is_some e))
      by_bytes (Some bytes) e has =
          let content = file_content ino row there kind in
          let within = content.2 page bytes e in
          let some : address_of image ckpt ino page ≢ 0 = λ zero. true≢false (sym has ∙ ap is_some (content.1 page within ∙ none_at (address_of image ckpt ino page) zero)) in
          ap (λ n. is_some (map.get its.pages (n, page))) (is.rows ino row there).own ∙ ap is_some (page_given image ckpt base page_limit ino page (ap is_some there) within some)

  laid : HasPlaces ckpt.geom base its
  laid = record {
    nodes = node_placed;
    nids_apart = same_nid;
    nodes_apart = λ one other a b there too some same. same_node one other a b there too same;
    pages = page_placed;
    pages_apart = λ one other at there too some. pages_apart image ckpt sound base is one other at there too;
    inodes = λ ino row there. ap is_some (root_of image ckpt sound base is ino row there);
    names = names_read image ckpt sound base is;
    few_nodes = few_nodes image ckpt sound base is;
    few_pages = few_pages image ckpt sound base is;
  }

  pub base_stands : IsTreeAt image ckpt base its
  base_stands = record { laid = laid; table = table_read; nodes = node_here; pages = page_here; rows = has_its_pages }
