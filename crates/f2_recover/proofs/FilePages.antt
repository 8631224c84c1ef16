-- The pages of a file of the base: the address of each stands in the inode, or in a direct node of the file.
use Rattle.std.proofs.Common.{◌≡◌, ◌≢◌, ℕ, ◌+◌, ◌-◌, ◌*◌, ◌<◌, ◌≤◌, nat_lt, Bool, true, false, cond, List, [], ◌∷◌, length, take, slice_index_or, refl, sym, ap, ◌∙◌, subst, arith}
use Rattle.std.specs.Prelude.{Option, Some, None}
use Rattle.std.proofs.lemmas.Bool.{ne_eqb}
use Rattle.std.proofs.lemmas.Bool.Decides.{nat_tests}
use Rattle.f2_format.specs.Offsets.{inode_pages, page_limit, direct_of, direct_slot, slots_of_page}
use Rattle.f2_format.specs.Inode.{inode_of, node_word, NIDS_AN_INODE}
use Rattle.f2_image.specs.Images.{Image}
use Rattle.f2_image.specs.Packs.{Checkpoint}
use Rattle.f2_image.specs.Nodes.{node, node_along, node_below, direct_node, word_of, page_address}
use Rattle.f2_image.specs.Bases.{IsReached}
use Rattle.f2_image.specs.Reached.{IsNode, inode, named, nids_of_node, nid_in, offset_below}
use Rattle.f2_image.proofs.OneBase.{same_some}
use Rattle.f2_recover.proofs.Ups.{Up, one, second_top, double_top, first, second, double, low, inode_names, inode_second, inode_double, first_names, second_names, double_names, low_names}
use Rattle.f2_recover.proofs.Ways.{way_of, one as right_below, first as below_first, second as below_second, double as below_double}
use Rattle.f2_recover.proofs.NodesOfFiles.{named_by, inode_nid}

not_none : {X : Type 0} (x : X) → None ≡ Some x → ⊥
not_none x e = cc

nid_in_inode : (block : List ℕ) (slot : ℕ) → nid_in block 0 slot ≡ slice_index_or (inode_of block).nids slot 0
nid_in_inode block slot = refl

nid_in_node : (block : List ℕ) (offset slot : ℕ) → offset ≢ 0 → nid_in block offset slot ≡ node_word block slot
nid_in_node block offset slot some = ap (λ b. cond b (slice_index_or (inode_of block).nids slot 0) (node_word block slot)) (ne_eqb offset 0 some)

module _ (image : Image) (ckpt : Checkpoint) (ino : ℕ) (root : List ℕ) (top : node image ckpt ino ≡ Some root) where
  -- a node, and what the way to it comes to
  abbrev Leads : ℕ → Option (List ℕ) → Type 0
  Leads offset there = (nid : ℕ) → IsNode image ckpt ino offset nid → there ≡ node image ckpt nid

  at_top : (slot offset : ℕ) → Up 0 slot offset → Leads offset (node image ckpt (slice_index_or (inode_of root).nids slot 0))
  at_top slot offset names nid is =
      let by = named_by image ckpt ino offset nid 0 slot is names in
      let own : by.own ≡ ino = inode_nid image ckpt ino by.own by.is in
      let block : root ≡ by.block = same_some root by.block (sym top ∙ ap (node image ckpt) (sym own) ∙ by.there) in
      ap (node image ckpt) (ap (λ (x : List ℕ). slice_index_or (inode_of x).nids slot 0) block ∙ by.word)

  down : (upper slot offset : ℕ) (there : Option (List ℕ)) → upper ≢ 0 → Up upper slot offset → Leads upper there → Leads offset (node_along image ckpt there (slot ∷ []))
  down upper slot offset there some names leads nid is =
      let by = named_by image ckpt ino offset nid upper slot is names in
      let block : there ≡ Some by.block = leads by.own by.is ∙ by.there in
      ap (λ (o : Option (List ℕ)). node_along image ckpt o (slot ∷ [])) block ∙ ap (node image ckpt) (sym (nid_in_node by.block upper slot some) ∙ by.word)

  along_two : (there : Option (List ℕ)) (x y : ℕ) → node_along image ckpt there (x ∷ y ∷ []) ≡ node_along image ckpt (node_along image ckpt there (x ∷ [])) (y ∷ [])
  along_two None x y = refl
  along_two (Some bytes) x y = refl

  abbrev Ends : ℕ → ℕ → Type 0
  Ends page offset = Leads offset (direct_node image ckpt root page)

  ends_with : (page offset : ℕ) (slots : List ℕ) → slots_of_page page ≡ slots → Leads offset (node_below image ckpt root (take (length slots - 1) slots)) → Ends page offset
  unfolding direct_node
  ends_with page offset slots way leads =
      subst (λ (xs : List ℕ). Leads offset (node_below image ckpt root (take (length xs - 1) xs))) (sym way) leads

  record HasEnd (page : ℕ) : Type 0 where
    offset : ℕ
    direct : direct_of page ≡ Some offset
    ends : Ends page offset

  end_of : (page : ℕ) → inode_pages ≤ page → page < page_limit → HasEnd page
  end_of page above within =
      elim (way_of page above within) [
        | right_below k small direct slots ↦ record { offset = 1 + k; direct = direct; ends = ends_with page (1 + k) (k ∷ direct_slot page ∷ []) slots (at_top k (1 + k) (one refl (omega (arith, small)) (omega arith))) }
        | below_first s small direct slots ↦ record {
          offset = 4 + s;
          direct = direct;
          ends = ends_with page (4 + s) (2 ∷ s ∷ direct_slot page ∷ []) slots
              (down 3 s (4 + s) (node image ckpt (slice_index_or (inode_of root).nids 2 0)) (λ z. omega arith) (first refl small refl) (at_top 2 3 (one refl (omega arith) refl)));
        }
        | below_second s small direct slots ↦ record {
          offset = 1023 + s;
          direct = direct;
          ends = ends_with page (1023 + s) (3 ∷ s ∷ direct_slot page ∷ []) slots
              (down 1022 s (1023 + s) (node image ckpt (slice_index_or (inode_of root).nids 3 0)) (λ z. omega arith) (second refl small refl) (at_top 3 1022 (second_top refl refl refl)));
        }
        | below_double x y row place direct slots ↦
            let start = node image ckpt (slice_index_or (inode_of root).nids 4 0) in
            let middle : Leads (2042 + x * 1019) (node_along image ckpt start (x ∷ [])) = down 2041 x (2042 + x * 1019) start (λ z. omega arith) (double refl row refl) (at_top 4 2041 (double_top refl refl refl)) in
            let bottom : Leads (2042 + x * 1019 + 1 + y) (node_along image ckpt (node_along image ckpt start (x ∷ [])) (y ∷ [])) =
            down (2042 + x * 1019) y (2042 + x * 1019 + 1 + y) (node_along image ckpt start (x ∷ [])) (λ z. omega arith) (low x refl place refl) middle in
            record {
              offset = 2042 + x * 1019 + 1 + y;
              direct = direct;
              ends = ends_with page (2042 + x * 1019 + 1 + y) (4 ∷ x ∷ y ∷ direct_slot page ∷ []) slots
                  (subst (Leads (2042 + x * 1019 + 1 + y)) (sym (along_two start x y)) bottom);
            }
      ]

  high : (page offset : ℕ) → direct_of page ≡ Some offset → (inode_pages ≤ page) × (page < page_limit)
  unfolding direct_of
  high page offset is = grind (arith, nat_tests)

  choice : (page : ℕ) (b : Bool) → nat_lt page inode_pages ≡ b → page_address image ckpt root page ≡ cond b (slice_index_or (inode_of root).addresses page 0) (word_of (direct_node image ckpt root page) (direct_slot page))
  choice page b e = ap (λ c. cond c (slice_index_or (inode_of root).addresses page 0) (word_of (direct_node image ckpt root page) (direct_slot page))) e

  -- the first pages have their addresses in the inode
  pub low_address : (page : ℕ) → page < inode_pages → page_address image ckpt root page ≡ slice_index_or (inode_of root).addresses page 0
  low_address page small = choice page true (grind (arith, nat_tests))

  pub high_address : (page : ℕ) → inode_pages ≤ page → page_address image ckpt root page ≡ word_of (direct_node image ckpt root page) (direct_slot page)
  high_address page above = choice page false (grind (arith, nat_tests))

  -- the others in their direct nodes
  pub direct_address : (page offset nid : ℕ) (block : List ℕ) → direct_of page ≡ Some offset → IsNode image ckpt ino offset nid → node image ckpt nid ≡ Some block → page_address image ckpt root page ≡ node_word block (direct_slot page)
  direct_address page offset nid block direct is there =
      let at = high page offset direct in
      let end = end_of page at.0 at.1 in
      let offsets : end.offset ≡ offset = same_some end.offset offset (sym end.direct ∙ direct) in
      let stands : direct_node image ckpt root page ≡ Some block = end.ends nid (subst (λ o. IsNode image ckpt ino o nid) (sym offsets) is) ∙ there in
      high_address page at.0 ∙ ap (λ (o : Option (List ℕ)). word_of o (direct_slot page)) stands

  -- a page that has an address has its direct node, where the inode doesn't have the address
  module _ (reached : IsReached image ckpt ino) where
    record IsFound (offset : ℕ) (block : List ℕ) : Type 0 where
      nid : ℕ
      is : IsNode image ckpt ino offset nid
      there : node image ckpt nid ≡ Some block

    abbrev Finds : ℕ → Option (List ℕ) → Type 0
    Finds offset there = (block : List ℕ) → there ≡ Some block → IsFound offset block

    not_zero : (nid : ℕ) (block : List ℕ) → node image ckpt nid ≡ Some block → nid ≢ 0
    not_zero nid block there zero = not_none block (sym (ap (node image ckpt) zero) ∙ there)

    small_in : (offset slot : ℕ) → offset ≢ 0 → slot < 1018 → slot < nids_of_node offset
    small_in offset slot some small = subst (λ b. slot < cond b NIDS_AN_INODE 1018) (sym (ne_eqb offset 0 some)) small

    find_top : (slot offset : ℕ) → slot < 5 → offset_below 0 slot ≡ Some offset → Finds offset (node image ckpt (slice_index_or (inode_of root).nids slot 0))
    find_top slot offset small below block there =
        let nid : ℕ = slice_index_or (inode_of root).nids slot 0 in
        record { nid = nid; is = named ino 0 ino slot offset root (inode ino reached) top small below (not_zero nid block there); there = there }

    find_down : (upper slot offset : ℕ) (there : Option (List ℕ)) → upper ≢ 0 → slot < 1018 → offset_below upper slot ≡ Some offset → Finds upper there → Finds offset (node_along image ckpt there (slot ∷ []))
    find_down upper slot offset None some small below finds block is = absurd (not_none block is)
    find_down upper slot offset (Some bytes) some small below finds block is =
        let at = finds bytes refl in
        let word : nid_in bytes upper slot ≡ node_word bytes slot = nid_in_node bytes upper slot some in
        let there : node image ckpt (nid_in bytes upper slot) ≡ Some block = ap (node image ckpt) word ∙ is in
        record { nid = nid_in bytes upper slot; is = named ino upper at.nid slot offset bytes at.is at.there (small_in upper slot some small) below (not_zero (nid_in bytes upper slot) block there); there = there }

    find_with : (page offset : ℕ) (slots : List ℕ) → slots_of_page page ≡ slots → Finds offset (node_below image ckpt root (take (length slots - 1) slots)) → Finds offset (direct_node image ckpt root page)
    unfolding direct_node
    find_with page offset slots way finds =
        subst (λ (xs : List ℕ). Finds offset (node_below image ckpt root (take (length xs - 1) xs))) (sym way) finds

    record HasFound (page : ℕ) : Type 0 where
      offset : ℕ
      direct : direct_of page ≡ Some offset
      finds : Finds offset (direct_node image ckpt root page)

    found_of : (page : ℕ) → inode_pages ≤ page → page < page_limit → HasFound page
    found_of page above within =
        elim (way_of page above within) [
          | right_below k small direct slots ↦ record { offset = 1 + k; direct = direct; finds = find_with page (1 + k) (k ∷ direct_slot page ∷ []) slots (find_top k (1 + k) (omega (arith, small)) (inode_names k (omega (arith, small)))) }
          | below_first s small direct slots ↦ record {
            offset = 4 + s;
            direct = direct;
            finds = find_with page (4 + s) (2 ∷ s ∷ direct_slot page ∷ []) slots
                (find_down 3 s (4 + s) (node image ckpt (slice_index_or (inode_of root).nids 2 0)) (λ z. omega arith) small (first_names s) (find_top 2 3 (omega arith) (inode_names 2 (omega arith))));
          }
          | below_second s small direct slots ↦ record {
            offset = 1023 + s;
            direct = direct;
            finds = find_with page (1023 + s) (3 ∷ s ∷ direct_slot page ∷ []) slots
                (find_down 1022 s (1023 + s) (node image ckpt (slice_index_or (inode_of root).nids 3 0)) (λ z. omega arith) small (second_names s) (find_top 3 1022 (omega arith) inode_second));
          }
          | below_double x y row place direct slots ↦
              let start = node image ckpt (slice_index_or (inode_of root).nids 4 0) in
              let middle : Finds (2042 + x * 1019) (node_along image ckpt start (x ∷ [])) = find_down 2041 x (2042 + x * 1019) start (λ z. omega arith) row (double_names x) (find_top 4 2041 (omega arith) inode_double) in
              let bottom : Finds (2042 + x * 1019 + 1 + y) (node_along image ckpt (node_along image ckpt start (x ∷ [])) (y ∷ [])) =
              find_down (2042 + x * 1019) y (2042 + x * 1019 + 1 + y) (node_along image ckpt start (x ∷ [])) (λ z. omega arith) place (low_names x y row) middle in
              record {
                offset = 2042 + x * 1019 + 1 + y;
                direct = direct;
                finds = find_with page (2042 + x * 1019 + 1 + y) (4 ∷ x ∷ y ∷ direct_slot page ∷ []) slots
                    (subst (Finds (2042 + x * 1019 + 1 + y)) (sym (along_two start x y)) bottom);
              }
        ]

    pub record HasDirect (page at : ℕ) : Type 0 where
      pub offset : ℕ
      pub nid : ℕ
      pub block : List ℕ
      pub direct : direct_of page ≡ Some offset
      pub is : IsNode image ckpt ino offset nid
      pub there : node image ckpt nid ≡ Some block
      pub word : node_word block (direct_slot page) ≡ at

    pub has_direct : (page at : ℕ) → inode_pages ≤ page → page < page_limit → page_address image ckpt root page ≡ at → at ≢ 0 → HasDirect page at
    has_direct page at above within address some = by_block (direct_node image ckpt root page) refl
      where
        by_block : (o : Option (List ℕ)) → direct_node image ckpt root page ≡ o → HasDirect page at
        by_block None e = absurd (some (sym address ∙ high_address page above ∙ ap (λ (o : Option (List ℕ)). word_of o (direct_slot page)) e))
        by_block (Some block) e =
            let found = found_of page above within in
            let at_node = found.finds block e in
            record {
              offset = found.offset;
              nid = at_node.nid;
              block = block;
              direct = found.direct;
              is = at_node.is;
              there = at_node.there;
              word = sym (high_address page above ∙ ap (λ (o : Option (List ℕ)). word_of o (direct_slot page)) e) ∙ address;
            }
