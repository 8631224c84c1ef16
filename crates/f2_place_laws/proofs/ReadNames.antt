-- The dentries that are read off a sound image are the names of its base.
use Rattle.std.proofs.Common.{◌≡◌, ◌≢◌, ◌⊎◌, inl, inr, ℕ, [], is_some, refl, sym, ap, ◌∙◌, subst, arith}
use Rattle.std.specs.Prelude.{Option, Some, None}
use Rattle.std.specs.Option.{unwrap_or}
use Rattle.std.specs.List.{slice_get}
use Rattle.std.specs.FinMap as map
use native.Mathlib.Decide.{ℕ_discrete}
use Rattle.f2_format.specs.Offsets.{page_limit}
use Rattle.f2_format.specs.Dentry.{Dentry, dentry_fault, dentries_of}
use Rattle.f2_model.specs.Tree.{Rows, ROOT}
use Rattle.f2_model.specs.declared.rows.Row.{Row}
use Rattle.f2_model.specs.declared.rows.Kind.TheVariants.{Directory}
use Rattle.f2_image.specs.Images.{Image, block_at}
use Rattle.f2_image.specs.Packs.{Checkpoint}
use Rattle.f2_image.specs.Nodes.{page_address}
use Rattle.f2_image.specs.Bases.{IsInode, IsDirectoryBlock, HasDentryAt, HasDentry, IsReached, IsBase}
use Rattle.f2_image.specs.Faults as faults
use Rattle.f2_image.specs.Faults.{IsSound, IsBadTree, BadTree, DentFault, VersionEnd, type_of_kind}
use Rattle.f2_image.proofs.OneBase.{same_some}
use Rattle.f2_image.proofs.OneName.{names_once}
use Rattle.f2_image_laws.proofs.Names.{row_has_name}
use Rattle.f2_stored.specs.Places.{Places, dentries_at, IsDentryAt, IsBound, HasNames}
use Rattle.f2_place_laws.proofs.ChosenPlaces.{page_read, page_given, dentries_given}
use Rattle.f2_place_laws.proofs.Differing.{one_slot_place}
use Rattle.f2_place_laws.proofs.FoundEntries.{map_option}
use Rattle.f2_place_laws.proofs.Options.{the_one}
use Rattle.f2_place_laws.proofs.ReadPages.{places, inode_is}
use Rattle.f2_place_laws.proofs.Slots.{begun, slot_of, place_of, dentry_of}
use Rattle.f2_place_laws.proofs.SoundNodes.{table, block_of}

module _ (image : Image) (ckpt : Checkpoint) (sound : IsSound image ckpt) (base : Rows) (is : IsBase image ckpt base) where
  abbrev its : Places
  its = places image ckpt sound base is

  right_tree : (ino : ℕ) → IsBadTree image ckpt ino → ⊥
  right_tree ino bad = sound BadTree ino not_end (table image ckpt sound, bad)
    where
      not_end : BadTree ≢ VersionEnd
      not_end same = cc

  -- the dentries of a page are those of its block
  pub dentries_are : (ino page at : ℕ) → map.get its.pages (ino, page) ≡ Some at → dentries_at its ino page ≡ dentries_of (block_at image at)
  dentries_are ino page at there =
      ap (λ o. unwrap_or o []) (dentries_given image ckpt base page_limit (ino, page) ∙ ap (map_option (λ a. dentries_of (block_at image a))) there)

  module _ (ino : ℕ) (row : Row) (of_base : map.get base ino ≡ Some row) (kind : row.kind ≡ Directory) where
    reach : IsReached image ckpt ino
    reach = (is.rows ino row of_base).reached

    inode_here : IsInode image ckpt ino Directory (block_of image ckpt ino)
    inode_here = subst (λ k. IsInode image ckpt ino k (block_of image ckpt ino)) kind (inode_is image ckpt sound base is ino row of_base)

    -- a page of the directory
    is_block : (page at : ℕ) → map.get its.pages (ino, page) ≡ Some at → IsDirectoryBlock image ckpt ino page at
    is_block page at there =
        let found = page_read image ckpt base page_limit (ino, page) at there in
        record { inode = block_of image ckpt ino; is = inode_here; within = found.within; at_page = found.is; there = found.some }

    block_read : (page at : ℕ) → IsDirectoryBlock image ckpt ino page at → map.get its.pages (ino, page) ≡ Some at
    block_read page at block =
        let inode : block.inode ≡ block_of image ckpt ino = same_some block.inode (block_of image ckpt ino) (sym block.is.there ∙ inode_here.there) in
        let address : page_address image ckpt (block_of image ckpt ino) page ≡ at = ap (λ b. page_address image ckpt b page) (sym inode) ∙ block.at_page in
        page_given image ckpt base page_limit ino page (ap is_some of_base) block.within (λ zero. block.there (sym address ∙ zero)) ∙ ap Some address

    -- and has no fault
    pub right_page : (page at : ℕ) → map.get its.pages (ino, page) ≡ Some at → dentry_fault (block_at image at) ≡ None
    right_page page at there = by_fault (dentry_fault (block_at image at)) refl
      where
        not_end : DentFault ≢ VersionEnd
        not_end same = cc

        by_fault : (o : Option ℕ) → dentry_fault (block_at image at) ≡ o → dentry_fault (block_at image at) ≡ None
        by_fault None e = e
        by_fault (Some slot) e =
            absurd (sound DentFault at not_end (table image ckpt sound, record { directory = ino; page = page; slot = slot; reached = reach; block = is_block page at there; fault = e }))

    -- a dentry at a place begins in a slot
    record IsShown (page place : ℕ) (dentry : Dentry) : Type 0 where
      at : ℕ
      there : map.get its.pages (ino, page) ≡ Some at
      slot : ℕ
      place_is : slice_get (begun (block_at image at)) place ≡ Some slot
      has : HasDentryAt image ckpt ino page slot dentry

    shown : (page place : ℕ) (dentry : Dentry) → IsDentryAt its ino page place dentry → IsShown page place dentry
    shown page place dentry stands =
        let page_at = the_one (map.get its.pages (ino, page)) stands.page_there in
        let block = block_at image page_at.0 in
        let found = slot_of block place dentry (ap (λ xs. slice_get xs place) (sym (dentries_are ino page page_at.0 page_at.1)) ∙ stands.is) in
        record {
          at = page_at.0;
          there = page_at.1;
          slot = found.slot;
          place_is = found.at;
          has = record { at = page_at.0; block = is_block page page_at.0 page_at.1; within = found.within; begins = found.begins; is = found.is };
        }

    -- which is the name of a row
    bound : (page place : ℕ) (dentry : Dentry) → IsDentryAt its ino page place dentry → IsBound base ino dentry
    bound page place dentry stands =
        let found = shown page place dentry stands in
        let has : HasDentry image ckpt ino dentry = (page, found.slot, found.has) in
        let to = names_once image ckpt base is ino dentry reach has in
        record {
          row = to.row;
          there = to.there;
          below = λ root. right_tree dentry.ino (faults.too_low ino dentry reach has refl (omega (arith, root)));
          parent = to.parent;
          named = to.named;
          typed = typed has to.row to.there (ℕ_discrete (type_of_kind to.row.kind) dentry.type);
        }
      where
        typed : HasDentry image ckpt ino dentry → (child : Row) → map.get base dentry.ino ≡ Some child → Dec (type_of_kind child.kind ≡ dentry.type) → dentry.type ≡ type_of_kind child.kind
        typed has child there (yes same) = sym same
        typed has child there (no other) =
            absurd (right_tree dentry.ino (faults.other_kind ino dentry child.kind (block_of image ckpt dentry.ino) reach has refl (inode_is image ckpt sound base is dentry.ino child there) other))

    -- each row of the directory has one
    listed : (page slot : ℕ) (dentry : Dentry) → HasDentryAt image ckpt ino page slot dentry → (place : ℕ) × IsDentryAt its ino page place dentry
    listed page slot dentry has =
        let block = block_at image has.at in
        let there = block_read page has.at has.block in
        let place = place_of block slot has.within has.begins in
        (place.0, record { page_there = ap is_some there; is = ap (λ xs. slice_get xs place.0) (dentries_are ino page has.at there) ∙ dentry_of block slot place.0 place.1 ∙ ap Some has.is })

    all : (child : ℕ) (below : Row) → map.get base child ≡ Some below → child ≢ ROOT → below.parent ≡ ino → (page place : ℕ) × ((dentry : Dentry) × IsDentryAt its ino page place dentry × (dentry.ino ≡ child))
    all child below there other parent =
        let name = row_has_name image ckpt base is child below there other in
        let has : HasDentry image ckpt ino name.dentry = subst (λ d. HasDentry image ckpt d name.dentry) parent name.has in
        let at = listed has.0 has.1 name.dentry has.2 in
        (has.0, at.0, (name.dentry, at.1, name.own))

    -- and only one
    once : (page place other more : ℕ) (a b : Dentry) → IsDentryAt its ino page place a → IsDentryAt its ino other more b → a.ino ≡ b.ino → (page ≡ other) × (place ≡ more)
    once page place other more a b at_a at_b same =
        let one = shown page place a at_a in
        let two = shown other more b at_b in
        by_numbers one two (ℕ_discrete page other) (ℕ_discrete one.slot two.slot)
      where
        twice : (one : IsShown page place a) (two : IsShown other more b) → (page ≢ other) ⊎ (one.slot ≢ two.slot) → ⊥
        twice one two differ = right_tree b.ino (faults.twice ino page one.slot ino other two.slot a b reach reach one.has two.has (inr differ) same refl)

        by_numbers : (one : IsShown page place a) (two : IsShown other more b) → Dec (page ≡ other) → Dec (one.slot ≡ two.slot) → (page ≡ other) × (place ≡ more)
        by_numbers one two (no differ) slots = absurd (twice one two (inl differ))
        by_numbers one two (yes pages) (no differ) = absurd (twice one two (inr differ))
        by_numbers one two (yes pages) (yes slots) =
            let blocks : one.at ≡ two.at = same_some one.at two.at (sym one.there ∙ ap (λ p. map.get its.pages (ino, p)) pages ∙ two.there) in
            (pages, one_slot_place (block_at image one.at) one.slot place more one.place_is (ap (λ n. slice_get (begun (block_at image n)) more) blocks ∙ two.place_is ∙ ap Some (sym slots)))

    pub names_read : HasNames base its ino
    names_read = record { bound = bound; all = all; once = once }
