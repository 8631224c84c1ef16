-- No condition on the tree of base and marks stands in an image of a disk with a node log.
use Rattle.std.proofs.Common.{◌≡◌, ◌≢◌, inl, inr, ℕ, ◌+◌, ◌*◌, ◌<◌, ◌≤◌, true≢false, List, [], ◌∷◌, slice_index, refl, sym, ap, ◌∙◌, subst, arith}
use Rattle.std.specs.Prelude.{Option, Some, None, is_none}
use Rattle.std.specs.FinMap as map
use Rattle.std.proofs.lemmas.Option.{same_Some}
use Rattle.f2_format.specs.Offsets.{page_limit}
use Rattle.f2_format.specs.Footer.{has_dentry_mark}
use Rattle.f2_format.specs.Inode.{inode_of, SIZE_LIMIT}
use Rattle.f2_disk.specs.Contents.{Contents}
use Rattle.f2_model.specs.Names.{is_good_name}
use Rattle.f2_model.specs.Tree.{HasGoodPages}
use Rattle.f2_model.specs.State.{State}
use Rattle.f2_model.specs.declared.rows.Kind.TheVariants.{Regular, Directory}
use Rattle.f2_image.specs.Images.{Image, block_at}
use Rattle.f2_image.specs.Bases.{inode_kind}
use Rattle.f2_image.specs.Faults.{HasTable, IsDirectoryOf, IsBelow, IsPastSize, IsBadTree, BadTree}
use Rattle.f2_image.specs.Faults as faults
use Rattle.f2_image_laws.specs.Chained.{contents_at}
use Rattle.f2_image_laws.proofs.AlikeTrees.{below_is_reached}
use Rattle.f2_stored.specs.Layout.{Layout}
use Rattle.f2_stored.specs.Marks.{HasPage, address_at}
use Rattle.f2_stored.specs.Marks as marks
use Rattle.f2_stored_laws.proofs.Images.{the_content}
use Rattle.f2_stored_laws.proofs.LogImages.{HasPart, MarkAt, address_same, mark_at}
use Rattle.f2_stored_laws.proofs.Rows.{directory_there, no_row, mark_ino, brought}
use Rattle.f2_stored_laws.proofs.NameFaults.{bad_tree, fits}

kinds_differ : Regular ≡ Directory → ⊥
kinds_differ e = cc

-- a page that is there has bytes, which are the one content of its block
page_bytes : (lists : Contents) (at : ℕ) (page : Option (List ℕ)) → HasPage lists at page → at ≢ 0 → (bytes : List ℕ) × (page ≡ Some bytes) × (contents_at lists at ≡ bytes ∷ [])
page_bytes lists _ _ marks.none there = absurd (there refl)
page_bytes lists _ _ (marks.there at bytes other one) there = (bytes, refl, one)

module _ (lists : Contents) (layout : Layout) (state : State) (image : Image) (part : HasPart lists layout state image) where
  below_here : (depth ino : ℕ) → IsBelow image layout.base.ckpt depth ino → IsBelow layout.base.image layout.base.ckpt depth ino
  below_here _ _ faults.root = faults.root
  below_here _ _ (faults.deeper depth directory dentry up has) =
      faults.deeper depth directory dentry (below_here depth directory up) (part.alike.back.dentry directory dentry (below_is_reached image layout.base.ckpt depth directory up) has)

  -- pages past a size, where the blocks are the same
  past_here : (size page at : ℕ) → block_at image at ≡ block_at layout.base.image at → IsPastSize image size page at → IsPastSize layout.base.image size page at
  past_here size page at same (faults.whole past) = faults.whole past
  past_here size page at same (faults.partly place small past byte) = faults.partly place small past (λ none. byte (ap (λ block. slice_index block place) same ∙ none))

  -- no page of a mark is past its size
  not_past : (place page at : ℕ) (inode : List ℕ) → MarkAt lists layout state image part place inode → page < page_limit → address_at layout place page ≡ at → at ≢ 0 → IsPastSize image (inode_of inode).size page at → ⊥
  not_past place page at inode mark within address there past =
      let found = page_bytes lists at (map.get mark.mark.row.pages page) (subst (λ n. HasPage lists n (map.get mark.mark.row.pages page)) address (mark.holds.pages page within)) there in
      by_size found.0 found.1 (the_content lists image part.is at found.0 found.2) past
    where
      pages : HasGoodPages SIZE_LIMIT mark.mark.row
      pages = (fits lists layout state image part place inode mark).pages

      size : mark.mark.row.size ≡ (inode_of inode).size
      size = mark.holds.size ∙ ap (λ block. (inode_of block).size) (sym mark.stands)

      by_size : (bytes : List ℕ) → map.get mark.mark.row.pages page ≡ Some bytes → block_at image at ≡ bytes → IsPastSize image (inode_of inode).size page at → ⊥
      by_size bytes is block (faults.whole past) =
          let before : page * 4096 < mark.mark.row.size = pages.before page bytes is in
          let beyond : (inode_of inode).size ≤ page * 4096 = past in
          absurd (omega (arith, before, beyond, size))
      by_size bytes is block (faults.partly byte small past other) =
          let beyond : (inode_of inode).size ≤ page * 4096 + byte = past in
          other (ap (λ b. slice_index b byte) block ∙ pages.zeros page byte bytes is (subst (λ n. n ≤ page * 4096 + byte) (sym size) beyond))

  pub no_bad_tree : (ino : ℕ) → HasTable layout.base.ckpt → IsBadTree image layout.base.ckpt ino → ⊥
  no_bad_tree ino table (faults.too_low directory d up has is small) =
      part.keeps.base.means.sound BadTree ino bad_tree (table, faults.too_low directory d (part.alike.back.reached directory up) (part.alike.back.dentry directory d up has) is small)
  no_bad_tree ino table (faults.twice directory page slot more other_page place a b up too has has_too differ is is_too) =
      part.keeps.base.means.sound BadTree ino bad_tree (
        table,
        faults.twice directory page slot more other_page place a b (part.alike.back.reached directory up) (part.alike.back.reached more too) (part.alike.back.dentry_at directory page slot a up has) (part.alike.back.dentry_at more other_page place b too has_too) differ is is_too,
      )
  no_bad_tree ino table (faults.other_kind directory d kind inode up has is is_inode differ) =
      part.keeps.base.means.sound BadTree ino bad_tree (table, faults.other_kind directory d kind inode (part.alike.back.reached directory up) (part.alike.back.dentry directory d up has) is (part.alike.back.inode ino kind inode is_inode) differ)
  no_bad_tree ino table (faults.same_name directory page slot more place a b up has has_too differ same is) =
      part.keeps.base.means.sound BadTree ino bad_tree (
        table,
        faults.same_name directory page slot more place a b (part.alike.back.reached directory up) (part.alike.back.dentry_at directory page slot a up has) (part.alike.back.dentry_at directory more place b up has_too) differ same is,
      )
  no_bad_tree ino table (faults.bad_name directory d up has bad is) =
      part.keeps.base.means.sound BadTree ino bad_tree (table, faults.bad_name directory d (part.alike.back.reached directory up) (part.alike.back.dentry directory d up has) bad is)
  no_bad_tree ino table (faults.too_deep depth kind inode is is_inode deep) =
      part.keeps.base.means.sound BadTree ino bad_tree (table, faults.too_deep depth kind inode (below_here depth ino is) (part.alike.back.inode ino kind inode is_inode) deep)
  no_bad_tree ino table (faults.past_size page at inode up is_inode is past) =
      let here = part.alike.back.page ino page at is in
      part.keeps.base.means.sound BadTree ino bad_tree (
        table,
        faults.past_size page at inode (part.alike.back.reached ino up) (part.alike.back.inode ino Regular inode is_inode) here (past_here (inode_of inode).size page at (part.alike.pages ino page at here) past),
      )
  no_bad_tree ino table (faults.marked_past_size place page at inode is own within here there past) =
      let mark = mark_at lists layout state image part place inode is in
      not_past place page at inode mark within (sym (address_same lists layout state image part place page mark.small) ∙ here) there past
  no_bad_tree ino table (faults.marked_directory place inode is own (inl kind)) =
      let mark = mark_at lists layout state image part place inode is in
      kinds_differ (sym mark.holds.regular ∙ same_Some mark.mark.row.kind Directory (sym mark.holds.kind ∙ ap inode_kind (sym mark.stands) ∙ kind))
  no_bad_tree ino table (faults.marked_directory place inode is own (inr directory)) =
      let mark = mark_at lists layout state image part place inode is in
      let here : IsDirectoryOf layout.base.image layout.base.ckpt ino = (part.alike.back.reached ino directory.0, (directory.1.0, part.alike.back.inode ino Directory directory.1.0 directory.1.1)) in
      let found = directory_there layout.base.image layout.base.ckpt state.base part.keeps.base.means.is_base ino here in
      let same : mark.mark.ino ≡ ino = mark_ino lists layout state image part place inode mark ∙ own in
      kinds_differ (sym ((fits lists layout state image part place inode mark).file found.0 (ap (map.get state.base) same ∙ found.1)) ∙ found.2)
  no_bad_tree ino table (faults.unbound place inode is own none unmarked) =
      let mark = mark_at lists layout state image part place inode is in
      let same : mark.mark.ino ≡ ino = mark_ino lists layout state image part place inode mark ∙ own in
      let fresh : map.get state.base mark.mark.ino ≡ None = ap (map.get state.base) same ∙ no_row lists layout state image part ino none in
      absurd (true≢false (ap is_none (sym fresh) ∙ sym mark.holds.dentry ∙ ap has_dentry_mark (sym mark.stands) ∙ unmarked))
  no_bad_tree ino table (faults.marked_bad_name place parent name brings bad) =
      let new = brought lists layout state image part place ino parent name brings in
      absurd (true≢false (sym ((fits lists layout state image part place new.block new.at).name) ∙ ap is_good_name new.named ∙ bad))
  no_bad_tree ino table (faults.root_file inode is_inode is) = part.keeps.base.means.sound BadTree ino bad_tree (table, faults.root_file inode (part.alike.back.inode _ Regular inode is_inode) is)
