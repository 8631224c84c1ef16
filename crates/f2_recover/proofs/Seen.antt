-- A file as far as it was read: steps past what it has and what it hasn't.
use Rattle.std.proofs.Common.{◌≡◌, ◌≢◌, ◌⊎◌, inl, inr, ℕ, ◌+◌, ◌-◌, ◌*◌, ◌/◌, ◌<◌, ◌≤◌, cond, slice_index_or, List, refl, sym, ap, ◌∙◌, subst, arith}
use Rattle.std.specs.Prelude.{Some}
use Rattle.f2_format.specs.Offsets.{page_limit, nth_direct, direct_limit}
use Rattle.std.proofs.lemmas.Bool.{cases_eq, ne_eqb}
use Rattle.f2_format.specs.Inode.{inode_of, node_word, NIDS_AN_INODE}
use Rattle.f2_image.specs.Images.{Image}
use Rattle.f2_image.specs.Packs.{Checkpoint}
use Rattle.f2_image.specs.Nodes.{node, page_address}
use Rattle.f2_image.specs.Reached.{IsNode, IsBasePage, inode, named, offset_below, nids_of_node, nid_in}
use Rattle.f2_image.proofs.OneBase.{same_some}
use Rattle.f2_recover.specs.Reading.{IsPageOf, IsFile}
use Rattle.f2_recover.specs.Taking.{Taken}
use Rattle.f2_recover.specs.Seeing.{IsSeen, IsChild, IsIndirect, node_limit}
use Rattle.f2_recover.specs.declared.nodes.FileNodes.{FileNodes}
use Rattle.f2_recover.proofs.Sets.{Numbers}
use Rattle.f2_recover.proofs.Ups.{up, double, double_names}
use Rattle.f2_recover.proofs.Ways.{direct_in_double}
use Rattle.f2_recover.proofs.NodesOfFiles.{none_named, none_below}
use Rattle.f2_recover.proofs.Claims.{taken_past}
use Rattle.f2_recover.proofs.Parts.{part_past}
use Rattle.f2_recover.proofs.FilePages.{has_direct, direct_address, low_address}
use Rattle.f2_recover.proofs.Offsets.{is_in, direct_at, slot_at, low_indirect_is}

module _ (image : Image) (ckpt : Checkpoint) where
  pub seen_past : (inos : Numbers) (ino offset page o p : ℕ) (taken : Taken) (file : FileNodes) → IsSeen image ckpt inos ino offset page taken file → offset ≤ o → page ≤ p
      → ((q nid : ℕ) → offset ≤ q → q < o → IsNode image ckpt ino q nid → ⊥) → ((q at : ℕ) → page ≤ q → q < p → IsBasePage image ckpt ino q at → ⊥) → IsSeen image ckpt inos ino o p taken file
  seen_past inos ino offset page o p taken file seen lo lp no_node no_page = record {
    are = taken_past image ckpt inos ino offset page o p taken seen.are lo lp no_node no_page;
    part = part_past image ckpt ino offset page file seen.part o p lo lp no_node no_page;
  }

  -- the address of a page is that of a page of the base, where there is one
  pub base_page : (ino page at : ℕ) → IsPageOf image ckpt ino page at → page < page_limit → at ≢ 0 → IsBasePage image ckpt ino page at
  base_page ino page at is within there = record { reached = is.file.reached; kind = is.file.kind; inode = is.inode; is = is.file.is; within = within; address = is.address; there = there }

  pub only_page : (ino page at : ℕ) → IsPageOf image ckpt ino page at → (q : ℕ) → IsBasePage image ckpt ino page q → q ≡ at
  only_page ino page at is q base =
      let same : base.inode ≡ is.inode = same_some base.inode is.inode (sym base.is.there ∙ is.file.is.there) in
      sym base.address ∙ ap (λ (x : List ℕ). page_address image ckpt x page) same ∙ is.address

  pub no_page : (ino page at : ℕ) → IsPageOf image ckpt ino page at → at ≡ 0 → (q : ℕ) → IsBasePage image ckpt ino page q → ⊥
  no_page ino page at is zero q base = base.there (only_page ino page at is q base ∙ zero)

  -- a file without some direct nodes has none of their pages
  pub none_in : (ino first count : ℕ) → first + count ≤ direct_limit → ((number nid : ℕ) → first ≤ number → number < first + count → IsNode image ckpt ino (nth_direct number) nid → ⊥)
      → (q at : ℕ) → 923 + 1018 * first ≤ q → q < 923 + 1018 * (first + count) → IsBasePage image ckpt ino q at → ⊥
  none_in ino first count within none q at least most base =
      let direct = has_direct image ckpt ino base.inode base.is.there base.reached q at (omega (arith, least)) base.within base.address base.there in
      let at_number = is_in q first count within least most in
      let same : direct.offset ≡ nth_direct at_number.number = same_some direct.offset (nth_direct at_number.number) (sym direct.direct ∙ at_number.direct) in
      none at_number.number direct.nid at_number.least at_number.most (subst (λ o. IsNode image ckpt ino o direct.nid) same direct.is)

  -- the same, of the only page between one and the next
  pub at_least : (ino page q at : ℕ) → IsPageOf image ckpt ino page at → page ≤ q → q < page + 1 → IsPageOf image ckpt ino q at
  at_least ino page q at is least most =
      let same : page ≡ q = omega (arith, least, most) in
      subst (λ p. IsPageOf image ckpt ino p at) same is

  -- limits by other names
  pub seen_at : (inos : Numbers) (ino offset page o p : ℕ) (taken : Taken) (file : FileNodes) → offset ≡ o → page ≡ p → IsSeen image ckpt inos ino offset page taken file → IsSeen image ckpt inos ino o p taken file
  seen_at inos ino offset page o p taken file same_offset same_page seen =
      subst (λ q. IsSeen image ckpt inos ino o q taken file) same_page (subst (λ q. IsSeen image ckpt inos ino q page taken file) same_offset seen)

  -- a word of a direct node is the address of a page
  pub direct_page : (ino : ℕ) (root : List ℕ) (offset nid number slot word : ℕ) (block : List ℕ) → IsFile image ckpt ino root → IsNode image ckpt ino offset nid → node image ckpt nid ≡ Some block
      → offset ≡ nth_direct number → number < direct_limit → slot < 1018 → word ≡ node_word block slot → IsPageOf image ckpt ino (923 + 1018 * number + slot) word
  direct_page ino root offset nid number slot word block file is there same within small is_word = record {
    inode = root;
    file = file;
    address =
        direct_address image ckpt ino root file.is.there (923 + 1018 * number + slot) offset nid block (direct_at number slot within small ∙ ap Some (sym same)) is there
        ∙ ap (node_word block) (slot_at number slot small) ∙ sym is_word;
  }

  -- what a slot of a node says of a node below it
  pub child_of : (ino upper own slot lower word : ℕ) (block : List ℕ) → IsNode image ckpt ino upper own → node image ckpt own ≡ Some block → slot < nids_of_node upper → offset_below upper slot ≡ Some lower → word ≡ nid_in block upper slot
      → IsChild image ckpt ino lower word
  child_of ino upper own slot lower word block is there small below is_word = record {
    named = λ some. subst (IsNode image ckpt ino lower) (sym is_word) (named ino upper own slot lower block is there small below (λ zero. some (is_word ∙ zero)));
    none = λ zero other low. none_named image ckpt ino lower other upper slot own block is there (up upper slot lower small below) (sym is_word ∙ zero) low;
  }

  -- a direct node that the file hasn't
  pub direct_past : (inos : Numbers) (ino offset nid number : ℕ) (taken : Taken) (file : FileNodes) → IsChild image ckpt ino offset nid → nid ≡ 0 → offset ≡ nth_direct number → number < direct_limit
      → IsSeen image ckpt inos ino offset (923 + 1018 * number) taken file → IsSeen image ckpt inos ino (offset + 1) (923 + 1018 * (number + 1)) taken file
  direct_past inos ino offset nid number taken file child zero is within seen =
      seen_past inos ino offset (923 + 1018 * number) (offset + 1) (923 + 1018 * (number + 1)) taken file seen (omega arith) (omega arith)
      (λ q other least most low. child.none zero other (at_offset q other (omega (arith, least, most)) low))
      (none_in ino number 1 (omega (arith, within)) (λ k other least most low. child.none zero other (at_offset (nth_direct k) other (ap nth_direct (equal k least most) ∙ sym is) low)))
    where
      at_offset : (q other : ℕ) → q ≡ offset → IsNode image ckpt ino q other → IsNode image ckpt ino offset other
      at_offset q other same low = subst (λ o. IsNode image ckpt ino o other) same low

      equal : (k : ℕ) → number ≤ k → k < number + 1 → k ≡ number
      equal k least most = omega (arith, least, most)

  -- the slots of an indirect node
  pub in_node : (offset slot : ℕ) → offset ≢ 0 → slot < 1018 → slot < nids_of_node offset
  in_node offset slot some small = subst (λ b. slot < cond b NIDS_AN_INODE 1018) (sym (ne_eqb offset 0 some)) small

  pub word_in : (block : List ℕ) (offset slot word : ℕ) → offset ≢ 0 → word ≡ node_word block slot → word ≡ nid_in block offset slot
  word_in block offset slot word some is = is ∙ sym (ap (λ b. cond b (slice_index_or (inode_of block).nids slot 0) (node_word block slot)) (ne_eqb offset 0 some))

  -- a file without an indirect node has none of the nodes right behind it
  pub none_behind : (ino offset number : ℕ) → IsIndirect offset number → ((other : ℕ) → IsNode image ckpt ino offset other → ⊥) → (q nid : ℕ) → offset ≤ q → q < offset + 1019 → IsNode image ckpt ino q nid → ⊥
  none_behind ino offset number is none q nid least most low = by (cases_eq q offset)
    where
      by : (q ≡ offset) ⊎ (q ≢ offset) → ⊥
      by (inl same) = none nid (subst (λ o. IsNode image ckpt ino o nid) same low)
      by (inr other) =
          let slot : ℕ = q - offset - 1 in
          let small : slot < 1018 = omega (arith, least, most, other) in
          let back : offset + 1 + slot ≡ q = omega (arith, least, other) in
          none_below image ckpt ino q offset slot nid none (up offset slot q (in_node offset slot is.some small) (is.names slot small ∙ ap Some back)) low

  none_numbered : (ino offset number : ℕ) → IsIndirect offset number → ((other : ℕ) → IsNode image ckpt ino offset other → ⊥) → (k nid : ℕ) → number ≤ k → k < number + 1018 → IsNode image ckpt ino (nth_direct k) nid → ⊥
  none_numbered ino offset number is none k nid least most low =
      let slot : ℕ = k - number in
      let small : slot < 1018 = omega (arith, least, most) in
      let back : number + slot ≡ k = omega (arith, least) in
      let at : nth_direct k ≡ offset + 1 + slot = ap nth_direct (sym back) ∙ is.direct slot small in
      none_behind ino offset number is none (nth_direct k) nid (omega (arith, at)) (omega (arith, at, small)) low

  pub indirect_past : (inos : Numbers) (ino offset nid number : ℕ) (taken : Taken) (file : FileNodes) → IsChild image ckpt ino offset nid → nid ≡ 0 → IsIndirect offset number
      → IsSeen image ckpt inos ino offset (923 + 1018 * number) taken file → IsSeen image ckpt inos ino (offset + 1019) (923 + 1018 * (number + 1018)) taken file
  indirect_past inos ino offset nid number taken file child zero is seen =
      seen_past inos ino offset (923 + 1018 * number) (offset + 1019) (923 + 1018 * (number + 1018)) taken file seen (omega arith) (omega arith)
      (none_behind ino offset number is (child.none zero))
      (none_in ino number 1018 is.within (none_numbered ino offset number is (child.none zero)))

  -- a file without the double indirect node has no node behind it
  pub none_last : (ino : ℕ) → ((other : ℕ) → IsNode image ckpt ino 2041 other → ⊥) → (q nid : ℕ) → 2041 ≤ q → q < node_limit → IsNode image ckpt ino q nid → ⊥
  none_last ino none q nid least most low = by (cases_eq q 2041)
    where
      by : (q ≡ 2041) ⊎ (q ≢ 2041) → ⊥
      by (inl same) = none nid (subst (λ o. IsNode image ckpt ino o nid) same low)
      by (inr other) =
          let x : ℕ = (q - 2042) / 1019 in
          let row : x < 1018 = omega (arith, least, most, other) in
          none_behind ino (2042 + x * 1019) (2038 + x * 1018) (low_indirect_is x row) (λ own is. none_below image ckpt ino (2042 + x * 1019) 2041 x own none (double refl row refl) is) q nid (omega (arith, least, other)) (omega (arith, least, other)) low

  none_last_numbered : (ino : ℕ) → ((other : ℕ) → IsNode image ckpt ino 2041 other → ⊥) → (k nid : ℕ) → 2038 ≤ k → k < 2038 + 1036324 → IsNode image ckpt ino (nth_direct k) nid → ⊥
  none_last_numbered ino none k nid least most low =
      let at = direct_in_double k least in
      none_last ino none (nth_direct k) nid (omega (arith, at)) (omega (arith, at, most)) low

  pub double_past : (inos : Numbers) (ino offset nid : ℕ) (taken : Taken) (file : FileNodes) → offset ≡ 2041 → IsChild image ckpt ino offset nid → nid ≡ 0
      → IsSeen image ckpt inos ino offset (923 + 1018 * 2038) taken file → IsSeen image ckpt inos ino node_limit page_limit taken file
  double_past inos ino offset nid taken file same child zero seen =
      let none : (other : ℕ) → IsNode image ckpt ino 2041 other → ⊥ = λ other low. child.none zero other (subst (λ o. IsNode image ckpt ino o other) (sym same) low) in
      seen_past inos ino offset (923 + 1018 * 2038) node_limit page_limit taken file seen (omega (arith, same)) (omega arith)
      (λ q other least most low. none_last ino none q other (omega (arith, least, same)) most low)
      (none_in ino 2038 1036324 (omega arith) (none_last_numbered ino none))

  pub double_child : (ino offset own slot word : ℕ) (block : List ℕ) → offset ≡ 2041 → IsNode image ckpt ino offset own → node image ckpt own ≡ Some block → slot < 1018 → word ≡ node_word block slot → IsChild image ckpt ino (2042 + slot * 1019) word
  double_child ino offset own slot word block same is there small is_word =
      child_of ino 2041 own slot (2042 + slot * 1019) word block (subst (λ o. IsNode image ckpt ino o own) same is) there (in_node 2041 slot (λ z. omega arith) small) (double_names slot) (word_in block 2041 slot word (λ z. omega arith) is_word)

  -- what a slot of an inode says of a node below it
  pub top_child : (ino slot lower word : ℕ) (root : List ℕ) → IsFile image ckpt ino root → slot < 5 → offset_below 0 slot ≡ Some lower → word ≡ slice_index_or (inode_of root).nids slot 0 → IsChild image ckpt ino lower word
  top_child ino slot lower word root file small below is_word = child_of ino 0 ino slot lower word root (inode ino file.reached) file.is.there small below is_word

  -- an address that the inode has is that of a page
  pub first_page : (ino : ℕ) (root addresses : List ℕ) (page : ℕ) → IsFile image ckpt ino root → addresses ≡ (inode_of root).addresses → page < 923 → IsPageOf image ckpt ino page (slice_index_or addresses page 0)
  first_page ino root addresses page file same small = record {
    inode = root;
    file = file;
    address = low_address image ckpt ino root file.is.there page small ∙ ap (λ (xs : List ℕ). slice_index_or xs page 0) (sym same);
  }
