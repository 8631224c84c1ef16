-- The way of a page through an image in which the nodes of its file stand, up to its direct node.
use Rattle.std.proofs.Common.{◌≡◌, ◌≢◌, ℕ, ◌+◌, ◌-◌, ◌*◌, ◌<◌, ◌≤◌, ◌==◌, false, cond, List, [], ◌∷◌, length, take, slice_index_or, is_some, IsSome, refl, sym, ap, ◌∙◌, subst, arith, true≢false}
use Rattle.std.specs.Prelude.{Option, Some, None}
use Rattle.std.specs.FinMap as map
use Rattle.std.proofs.lemmas.Bool.{ne_eqb}
use Rattle.f2_format.specs.Offsets.{inode_pages, page_limit, direct_of, direct_slot, slots_of_page}
use Rattle.f2_format.specs.Inode.{inode_of, node_word, NIDS_AN_INODE}
use Rattle.f2_image.specs.Images.{Image, block_at}
use Rattle.f2_image.specs.Packs.{Checkpoint}
use Rattle.f2_image.specs.Nodes.{node, node_along, node_below, direct_node}
use Rattle.f2_image.specs.Reached.{offset_below, nids_of_node, nid_in}
use Rattle.f2_stored.specs.Places.{NodeAt, Places, nid_of, nid_at, IsNamedAbove}
use Rattle.f2_place_laws.proofs.Offsets.{Names, names, above_first, above_second, above_double, above_low, low_below, inode_below, inode_first, inode_second, inode_double, first_below, second_below, double_below}
use Rattle.f2_place_laws.proofs.Ways.{way_of, one, first, second, double}

-- the nodes of a file stand in an image: each has its block, which tells the nids of the nodes below it, and one above it
pub record HasNodesThere (image : Image) (ckpt : Checkpoint) (places : Places) (ino : ℕ) : Type 0 where
  pub block : (offset : ℕ) (n : NodeAt) → map.get places.nodes (ino, offset) ≡ Some n → node image ckpt n.nid ≡ Some (block_at image n.at)
  pub lower : (offset : ℕ) (n : NodeAt) → map.get places.nodes (ino, offset) ≡ Some n → (slot low : ℕ) → slot < nids_of_node offset → offset_below offset slot ≡ Some low → nid_in (block_at image n.at) offset slot ≡ nid_at places ino low
  pub above : (offset : ℕ) (n : NodeAt) → map.get places.nodes (ino, offset) ≡ Some n → offset ≢ 0 → IsNamedAbove places ino offset

module _ (image : Image) (ckpt : Checkpoint) (places : Places) (ino : ℕ) (has : HasNodesThere image ckpt places ino) where
  -- what stands for a node of a file: nothing where the file hasn't the node, and else the node's block
  pub data StandsFor (n : ℕ) (there : Option (List ℕ)) : Type 0 where
    nothing : map.get places.nodes (ino, n) ≡ None → there ≡ None → StandsFor n there
    block : (at : NodeAt) → map.get places.nodes (ino, n) ≡ Some at → there ≡ Some (block_at image at.at) → StandsFor n there

  no_node : node image ckpt 0 ≡ None
  no_node = refl

  here : (n : ℕ) → StandsFor n (node image ckpt (nid_at places ino n))
  here n = by_node (map.get places.nodes (ino, n)) refl
    where
      by_node : (o : Option NodeAt) → map.get places.nodes (ino, n) ≡ o → StandsFor n (node image ckpt (nid_at places ino n))
      by_node None e = nothing e (ap (λ o. node image ckpt (nid_of o)) e ∙ no_node)
      by_node (Some at) e = block at e (ap (λ o. node image ckpt (nid_of o)) e ∙ has.block n at e)

  -- a node below one that isn't there isn't there either
  absent_below : (n m : ℕ) → m ≢ 0 → ((upper slot : ℕ) → Names upper slot m → upper ≡ n) → map.get places.nodes (ino, n) ≡ None → map.get places.nodes (ino, m) ≡ None
  absent_below n m some only absent = by_node (map.get places.nodes (ino, m)) refl
    where
      by_node : (o : Option NodeAt) → map.get places.nodes (ino, m) ≡ o → map.get places.nodes (ino, m) ≡ None
      by_node None e = e
      by_node (Some at) e =
          let above = has.above m at e some in
          let upper : above.upper ≡ n = only above.upper above.slot (names above.upper above.slot m above.small above.names) in
          let there : IsSome (map.get places.nodes (ino, n)) = subst (λ u. IsSome (map.get places.nodes (ino, u))) upper above.there in
          absurd (true≢false (sym there ∙ ap is_some absent))

  -- one step down
  down : (n slot m : ℕ) (there : Option (List ℕ)) → n ≢ 0 → m ≢ 0 → slot < 1018 → offset_below n slot ≡ Some m → ((upper s : ℕ) → Names upper s m → upper ≡ n) → StandsFor n there
      → StandsFor m (node_along image ckpt there (slot ∷ []))
  down n slot m there some_n some small below only (nothing absent none) =
      nothing (absent_below n m some only absent) (ap (λ (o : Option (List ℕ)). node_along image ckpt o (slot ∷ [])) none)
  down n slot m there some_n some small below only (block at found bytes) =
      let test : (n == 0) ≡ false = ne_eqb n 0 some_n in
      let within : slot < nids_of_node n = subst (λ b. slot < cond b NIDS_AN_INODE 1018) (sym test) small in
      let word : node_word (block_at image at.at) slot ≡ nid_at places ino m =
      sym (ap (λ b. cond b (slice_index_or (inode_of (block_at image at.at)).nids slot 0) (node_word (block_at image at.at) slot)) test) ∙ has.lower n at found slot m within below
      in
      let next : node_along image ckpt there (slot ∷ []) ≡ node image ckpt (nid_at places ino m) =
      ap (λ (o : Option (List ℕ)). node_along image ckpt o (slot ∷ [])) bytes ∙ ap (node image ckpt) word
      in
      subst (StandsFor m) (sym next) (here m)

  along_two : (there : Option (List ℕ)) (x y : ℕ) → node_along image ckpt there (x ∷ y ∷ []) ≡ node_along image ckpt (node_along image ckpt there (x ∷ [])) (y ∷ [])
  along_two None x y = refl
  along_two (Some bytes) x y = refl

  -- the direct node of a page, as the way from the inode finds it
  pub record HasDirect (page : ℕ) (there : Option (List ℕ)) : Type 0 where
    pub offset : ℕ
    pub is : direct_of page ≡ Some offset
    pub stands : StandsFor offset there

  module _ (root : NodeAt) (there : map.get places.nodes (ino, 0) ≡ Some root) where
    abbrev inode : List ℕ
    inode = block_at image root.at

    -- the node at one of the inode's slots
    at_slot : (slot n : ℕ) → slot < 5 → offset_below 0 slot ≡ Some n → StandsFor n (node image ckpt (slice_index_or (inode_of inode).nids slot 0))
    at_slot slot n small below =
        let word : slice_index_or (inode_of inode).nids slot 0 ≡ nid_at places ino n = has.lower 0 root there slot n small below in
        subst (StandsFor n) (sym (ap (node image ckpt) word)) (here n)

    ends_with : (page d : ℕ) (slots : List ℕ) → slots_of_page page ≡ slots → direct_of page ≡ Some d → StandsFor d (node_below image ckpt inode (take (length slots - 1) slots)) → HasDirect page (direct_node image ckpt inode page)
    unfolding direct_node
    ends_with page d slots way direct stands =
        record { offset = d; is = direct; stands = subst (λ (xs : List ℕ). StandsFor d (node_below image ckpt inode (take (length xs - 1) xs))) (sym way) stands }

    pub direct_found : (page : ℕ) → inode_pages ≤ page → page < page_limit → HasDirect page (direct_node image ckpt inode page)
    direct_found page above within =
        elim (way_of page above within) [
          | one k low direct slots ↦ ends_with page (1 + k) (k ∷ direct_slot page ∷ []) slots direct (at_slot k (1 + k) (omega (arith, low)) (inode_below k low))
          | first s small direct slots ↦
              ends_with page (4 + s) (2 ∷ s ∷ direct_slot page ∷ []) slots direct
              (down 3 s (4 + s) (node image ckpt (slice_index_or (inode_of inode).nids 2 0)) (λ z. omega arith) (λ z. omega arith) small (first_below s) (λ upper t. above_first upper t s small) (at_slot 2 3 (omega arith) inode_first))
          | second s small direct slots ↦
              ends_with page (1023 + s) (3 ∷ s ∷ direct_slot page ∷ []) slots direct
              (down 1022 s (1023 + s) (node image ckpt (slice_index_or (inode_of inode).nids 3 0)) (λ z. omega arith) (λ z. omega arith) small (second_below s) (λ upper t. above_second upper t s small) (at_slot 3 1022 (omega arith) inode_second))
          | double x y row place direct slots ↦
              let top = node image ckpt (slice_index_or (inode_of inode).nids 4 0) in
              let middle = down 2041 x (2042 + x * 1019) top (λ z. omega arith) (λ z. omega arith) row (double_below x) (λ upper t. above_double upper t x) (at_slot 4 2041 (omega arith) inode_double) in
              let bottom = down (2042 + x * 1019) y (2042 + x * 1019 + 1 + y) (node_along image ckpt top (x ∷ [])) (λ z. omega arith) (λ z. omega arith) place (low_below x y row) (λ upper t. above_low upper t x y place) middle in
              ends_with page (2042 + x * 1019 + 1 + y) (4 ∷ x ∷ y ∷ direct_slot page ∷ []) slots direct
              (subst (StandsFor (2042 + x * 1019 + 1 + y)) (sym (along_two top x y)) bottom)
        ]
