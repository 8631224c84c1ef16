-- No condition on addresses stands in an image of a disk with a node log.
use Rattle.std.proofs.Common.{◌≡◌, ◌≢◌, ◌⊎◌, inl, inr, ℕ, zero, suc, ◌<◌, false, true≢false, IsTrue, List, [], ◌∷◌, length, slice_index_or, sym, ap, ◌∙◌, subst, arith}
use Rattle.std.specs.Prelude.{Some}
use Rattle.std.specs.FinMap as map
use Rattle.std.proofs.lemmas.Option.{some_pair_parts}
use Rattle.std.proofs.lemmas.List.{get_or-map, length-map}
use Rattle.f2_format.specs.Geometry.{is_in_node, is_in_data}
use Rattle.f2_format.specs.Footer.{footer_next}
use Rattle.f2_disk.specs.Contents.{Contents}
use Rattle.f2_model.specs.State.{State}
use Rattle.f2_image.specs.Images.{Image}
use Rattle.f2_image.specs.Chains.{Logged, no_block, block_in}
use Rattle.f2_image.specs.Reached.{IsMarkedPage, IsPage}
use Rattle.f2_image.specs.Faults.{HasTable, IsChainLong, IsOutOfZone, IsShared, OutOfZone, Shared, VersionEnd}
use Rattle.f2_image.specs.Faults as faults
use Rattle.f2_image_laws.specs.Chained.{Follow}
use Rattle.f2_stored.specs.Layout.{Layout, chained}
use Rattle.f2_stored.specs.Logs.{IsLogAddress, log_addresses}
use Rattle.f2_stored.specs.Marks.{address_at}
use Rattle.f2_stored_laws.proofs.Lists.{at_place}
use Rattle.f2_stored_laws.proofs.LogImages.{HasPart, MarkAt, log_length, chain_length, in_part, in_log, logged_same, address_same, mark_at}
use Rattle.f2_stored_laws.proofs.Rows.{mark_ino}

out_of_zone : OutOfZone ≢ VersionEnd
out_of_zone e = cc

shared : Shared ≢ VersionEnd
shared e = cc

-- what a block of a log names is the next one of it, or where it ends
follow_next : (at : ℕ) (log : List Logged) (next place : ℕ) → Follow at log next → place < length log
    → (footer_next (block_in log place) ≡ next) ⊎ ((later : ℕ) × (later < length log) × (footer_next (block_in log place) ≡ (slice_index_or log later no_block).at))
follow_next at [] next place follow small = absurd (omega (arith, small))
follow_next at (one ∷ []) next zero follow small = inl follow.2
follow_next at (one ∷ two ∷ rest) next zero follow small = inr (1, omega arith, sym follow.2.0)
follow_next at (one ∷ rest) next (suc place) follow small = later_on (follow_next (footer_next one.block) rest next place follow.2 (omega (arith, small)))
  where
    later_on : (footer_next (block_in rest place) ≡ next) ⊎ ((later : ℕ) × (later < length rest) × (footer_next (block_in rest place) ≡ (slice_index_or rest later no_block).at))
        → (footer_next (block_in (one ∷ rest) (suc place)) ≡ next) ⊎ ((later : ℕ) × (later < length (one ∷ rest)) × (footer_next (block_in (one ∷ rest) (suc place)) ≡ (slice_index_or (one ∷ rest) later no_block).at))
    later_on (inl ends) = inl ends
    later_on (inr (later, within, is)) = inr (suc later, omega (arith, within), is)

module _ (lists : Contents) (layout : Layout) (state : State) (image : Image) (part : HasPart lists layout state image) where
  -- the address of a place of the log
  log_address : (place : ℕ) → place < length (chained layout) → IsLogAddress layout (slice_index_or (chained layout) place no_block).at
  log_address place small =
      subst (IsLogAddress layout) (get_or-map (λ one. one.at) (chained layout) place no_block 0 small)
      (at_place (IsLogAddress layout) (log_addresses layout) place 0 part.keeps.log.addresses (subst (λ n. place < n) (sym (length-map (chained layout) (λ one. one.at))) small))

  -- the mark of a marked page, and the page's address
  page_mark : (ino page at : ℕ) (is : IsMarkedPage image layout.base.ckpt ino page at) → MarkAt lists layout state image part is.place is.inode
  page_mark ino page at is = mark_at lists layout state image part is.place is.inode is.marked

  page_address : (ino page at : ℕ) (is : IsMarkedPage image layout.base.ckpt ino page at) → address_at layout is.place page ≡ at
  page_address ino page at is = sym (address_same lists layout state image part is.place page (page_mark ino page at is).small) ∙ is.address

  -- the owner of a data block
  pub owner_of : (ino page at : ℕ) → IsPage image layout.base.ckpt ino page at → map.get layout.owners at ≡ Some (ino, page)
  owner_of ino page at (inl is) = part.keeps.owners.base ino page at (part.alike.back.page ino page at is)
  owner_of ino page at (inr is) =
      let mark = page_mark ino page at is in
      let address = page_address ino page at is in
      ap (map.get layout.owners) (sym address) ∙ mark.holds.owned page is.within (λ none. is.there (sym address ∙ none))
      ∙ ap (λ n. Some (n, page)) (mark_ino lists layout state image part is.place is.inode mark ∙ is.own)

  pub no_long_chain : (at : ℕ) → IsChainLong image layout.base.ckpt at → ⊥
  no_long_chain at long =
      let many = long.0 in
      let same = chain_length lists layout state image part in
      let within = part.within in
      let log = log_length layout in
      let short = part.keeps.log.short in
      absurd (omega (arith, many, same, within, log, short))

  is_in_zone : (at : ℕ) → IsTrue (is_in_node layout.base.ckpt.geom at) → is_in_node layout.base.ckpt.geom at ≡ false → ⊥
  is_in_zone at zone out = absurd (true≢false (sym zone ∙ out))

  pub none_out_of_zone : (at : ℕ) → IsOutOfZone image layout.base.ckpt at → ⊥
  none_out_of_zone at (faults.page table ino page (inl is) out) = part.keeps.base.means.sound OutOfZone at out_of_zone (faults.page table ino page (inl (part.alike.back.page ino page at is)) out)
  none_out_of_zone at (faults.page table ino page (inr is) out) =
      let address = page_address ino page at is in
      let zone = (page_mark ino page at is).holds.in_zone page is.within (λ none. is.there (sym address ∙ none)) in
      absurd (true≢false (sym zone ∙ ap (is_in_data layout.base.ckpt.geom) address ∙ out))
  none_out_of_zone at (faults.next place small is there out) = by_next (follow_next layout.base.ckpt.head.log_start (chained layout) layout.next place part.keeps.log.linked.follow (in_log lists layout state image part place within))
    where
      within : place < part.count
      within = in_part lists layout state image part place small

      named : footer_next (block_in (chained layout) place) ≡ at
      named = ap (λ one. footer_next one.block) (sym (logged_same lists layout state image part place within)) ∙ is

      by_next : (footer_next (block_in (chained layout) place) ≡ layout.next) ⊎ ((later : ℕ) × (later < length (chained layout)) × (footer_next (block_in (chained layout) place) ≡ (slice_index_or (chained layout) later no_block).at)) → ⊥
      by_next (inl ends) =
          let next : layout.next ≡ at = sym ends ∙ named in
          is_in_zone at (subst (λ n. IsTrue (is_in_node layout.base.ckpt.geom n)) next (part.keeps.log.next (λ none. there (sym next ∙ none))).0) out
      by_next (inr (later, few, one)) = is_in_zone at (subst (λ n. IsTrue (is_in_node layout.base.ckpt.geom n)) (sym one ∙ named) (log_address later few).0) out

  pub none_shared : (at : ℕ) → HasTable layout.base.ckpt → IsShared image layout.base.ckpt at → ⊥
  none_shared at table (faults.pages ino page other more is too differ) = by_part differ
    where
      same : (ino ≡ other) × (page ≡ more)
      same = some_pair_parts ino other page more (sym (owner_of ino page at is) ∙ owner_of other more at too)

      by_part : (ino ≢ other) ⊎ (page ≢ more) → ⊥
      by_part (inl apart) = apart same.0
      by_part (inr apart) = apart same.1
  none_shared at table (faults.nodes ino offset nid other more own is too differ there here here_too) =
      part.keeps.base.means.sound Shared at shared (
        table,
        faults.nodes ino offset nid other more own (part.alike.back.node ino offset nid is) (part.alike.back.node other more own too) differ there (sym (part.alike.addresses nid) ∙ here) (sym (part.alike.addresses own) ∙ here_too),
      )
  none_shared at table (faults.logged ino offset nid place is here small logged) =
      let within = in_part lists layout state image part place small in
      (log_address place (in_log lists layout state image part place within)).1 ino offset nid (part.alike.back.node ino offset nid is)
      (sym (part.alike.addresses nid) ∙ here ∙ sym logged ∙ ap (λ one. one.at) (logged_same lists layout state image part place within))
