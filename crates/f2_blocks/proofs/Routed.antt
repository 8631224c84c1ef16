-- The way of a page through an image that has a file's nodes.
use Rattle.std.proofs.Common.{◌≡◌, ◌≢◌, ℕ, ◌+◌, ◌-◌, ◌*◌, ◌<◌, ◌≤◌, Bool, true, false, cond, List, [], ◌∷◌, length, take, get_or, Option, Some, None, is_some, refl, ap, sym, subst, ◌∙◌, inl, inr, arith, nat_lt}
use Rattle.std.specs.Prelude.{map as map_list}
use Rattle.std.specs.Option.{unwrap_or}
use Rattle.std.specs.FinMap as map
use Rattle.std.specs.FinSet as set
use Rattle.std.proofs.lemmas.Bool.{cases_lt, cases_eq}
use Rattle.std.proofs.lemmas.Bool.Decides.{nat_tests}
use Rattle.f2_format.specs.Inode.{InodeFields, inode_of, node_word}
use Rattle.f2_format.specs.Offsets.{inode_pages, node_slots, page_limit, nth_direct, direct_number, direct_of, direct_slot, slots_of_page}
use Rattle.f2_image.specs.Images.{Image}
use Rattle.f2_image.specs.Packs.{Checkpoint}
use Rattle.f2_image.specs.Nodes.{node, node_along, node_below, direct_node, page_address}
use Rattle.f2_image.specs.Nodes.{word_of as word_there}
use Rattle.f2_shape.proofs.Parts.{direct_of-number}
use Rattle.f2_index.specs.Paged.{nodes_of_pages}
use Rattle.f2_blocks.specs.Blocks.{Numbered, ReadsAs, address_of, nid_of, word_of, words_of}
use Rattle.f2_blocks.specs.Routes.{AreNodesIn}
use Rattle.f2_blocks.specs.Tree.{has_nids, node_at, first_page_of, nodes_of_inode}
use Rattle.f2_blocks.specs.declared.rows.NodeRow.{NodeRow}
use Rattle.f2_blocks.proofs.Fields.{word_of-page}
use Rattle.f2_blocks.proofs.Words.{get_or-words_of}
use Rattle.f2_blocks.proofs.Shape.{way_of, none, one, first, second, double, node_at-other}
use Rattle.f2_blocks.proofs.OnWays.{has_node-parent, on_way-has_node, own, below_double}

module _ (image : Image) (ckpt : Checkpoint) (row : NodeRow) (pages nids : Numbered) (are : AreNodesIn image ckpt row pages nids) where
  abbrev has : ℕ → Bool
  has n = set.contains (nodes_of_pages pages) n

  -- what stands for a node: nothing where the file hasn't the node, and else a block that reads as it
  abbrev Words : ℕ → List ℕ → Type 0
  Words n block = (slot : ℕ) → slot < node_slots → node_word block slot ≡ word_of pages nids n slot

  data StandsFor (n : ℕ) (there : Option (List ℕ)) : Type 0 where
    nothing : has n ≡ false → there ≡ None → StandsFor n there
    block : (bytes : List ℕ) → has n ≡ true → there ≡ Some bytes → Words n bytes → StandsFor n there

  no_node : node image ckpt 0 ≡ None
  no_node = refl

  by_nid : (n : ℕ) (b : Bool) → n ≢ 0 → has n ≡ b → StandsFor n (node image ckpt (nid_of pages nids n))
  by_nid n true other e =
      let found = are n other e in
      block found.0 e found.1 (λ slot h. found.2.words other slot h)
  by_nid n false other e =
      nothing e (ap (λ (c : Bool). node image ckpt (cond c (unwrap_or (map.get nids n) 0) 0)) e ∙ no_node)

  here : (n : ℕ) → n ≢ 0 → StandsFor n (node image ckpt (nid_of pages nids n))
  here n other = by_nid n (has n) other refl

  absent_below : (n slot m : ℕ) (b : Bool) → has_nids n ≡ true → slot < node_slots → node_at n slot ≡ m → m ≢ 0 → has n ≡ false → has m ≡ b → has m ≡ false
  absent_below n slot m false kind within at other absent e = e
  absent_below n slot m true kind within at other absent e =
      let there = has_node-parent pages n slot kind within (λ z. other (sym at ∙ z)) (ap has at ∙ e) in
      absurd (let wrong : ◌≡◌ false true = sym absent ∙ there in cc)

  -- one step down
  down : (n slot m : ℕ) (there : Option (List ℕ)) → has_nids n ≡ true → slot < node_slots → node_at n slot ≡ m → m ≢ 0 → StandsFor n there
      → StandsFor m (node_along image ckpt there (slot ∷ []))
  down n slot m there kind within at other (nothing absent is) =
      nothing (absent_below n slot m (has m) kind within at other absent refl) (ap (λ (o : Option (List ℕ)). node_along image ckpt o (slot ∷ [])) is)
  down n slot m there kind within at other (block bytes has_n is words) =
      let nid : node_word bytes slot ≡ nid_of pages nids m =
      words slot within ∙ ap (λ (b : Bool). cond b (nid_of pages nids (node_at n slot)) (address_of pages (first_page_of n + slot))) kind ∙ ap (nid_of pages nids) at
      in
      let next : node_along image ckpt there (slot ∷ []) ≡ node image ckpt (nid_of pages nids m) =
      ap (λ (o : Option (List ℕ)). node_along image ckpt o (slot ∷ [])) is ∙ ap (node image ckpt) nid
      in
      subst (StandsFor m) (sym next) (here m other)

  along_two : (there : Option (List ℕ)) (x y : ℕ) → node_along image ckpt there (x ∷ y ∷ []) ≡ node_along image ckpt (node_along image ckpt there (x ∷ [])) (y ∷ [])
  along_two None x y = refl
  along_two (Some bytes) x y = refl

  no_page : (o : Option ℕ) → (is_some o ≡ true → ⊥) → unwrap_or o 0 ≡ 0
  no_page None h = refl
  no_page (Some at) h = absurd (h refl)

  -- the last step
  address : (page d : ℕ) (there : Option (List ℕ)) → direct_of page ≡ Some d → StandsFor d there → word_there there (direct_slot page) ≡ address_of pages page
  address page d there direct (nothing absent is) =
      ap (λ (o : Option (List ℕ)). word_there o (direct_slot page)) is
      ∙ sym (no_page (map.get pages page) (λ found. let wrong : ◌≡◌ false true = sym absent ∙ on_way-has_node pages d page found (own page d direct) in absurd cc))
  address page d there direct (block bytes has_d is words) =
      ap (λ (o : Option (List ℕ)). word_there o (direct_slot page)) is
      ∙ words (direct_slot page) (omega arith)
      ∙ word_of-page pages nids page d direct

  module _ (inode : List ℕ) (reads : ReadsAs row pages nids 0 inode) where
    nids_are : (inode_of inode).nids ≡ map_list (nid_of pages nids) nodes_of_inode
    nids_are = ap (λ (fields : InodeFields). fields.nids) (reads.inode refl)

    addresses_are : (inode_of inode).addresses ≡ words_of (address_of pages) inode_pages
    addresses_are = ap (λ (fields : InodeFields). fields.addresses) (reads.inode refl)

    -- the node at one of the inode's slots
    at_slot : (slot n : ℕ) → get_or (map_list (nid_of pages nids) nodes_of_inode) slot 0 ≡ nid_of pages nids n → n ≢ 0 → StandsFor n (node image ckpt (get_or (inode_of inode).nids slot 0))
    at_slot slot n is other =
        subst (StandsFor n) (sym (ap (λ (xs : List ℕ). node image ckpt (get_or xs slot 0)) nids_are ∙ ap (node image ckpt) is)) (here n other)

    at_low : (k : ℕ) → k < 2 → StandsFor (1 + k) (node image ckpt (get_or (inode_of inode).nids k 0))
    at_low k low =
        elim (cases_eq k 0) [
          | inl e ↦ subst (λ j. StandsFor (1 + j) (node image ckpt (get_or (inode_of inode).nids j 0))) (sym e) (at_slot 0 1 refl (λ z. omega arith))
          | inr other ↦
              let e : k ≡ 1 = omega arith in
              subst (λ j. StandsFor (1 + j) (node image ckpt (get_or (inode_of inode).nids j 0))) (sym e) (at_slot 1 2 refl (λ z. omega arith))
        ]

    ends_with : (page d : ℕ) (slots : List ℕ) → slots_of_page page ≡ slots → direct_of page ≡ Some d → StandsFor d (node_below image ckpt inode (take (length slots - 1) slots))
        → word_there (direct_node image ckpt inode page) (direct_slot page) ≡ address_of pages page
    unfolding direct_node
    ends_with page d slots is direct stands =
        address page d (direct_node image ckpt inode page) direct
        (subst (λ (xs : List ℕ). StandsFor d (node_below image ckpt inode (take (length xs - 1) xs))) (sym is) stands)

    below : (page : ℕ) → inode_pages ≤ page → page < page_limit → word_there (direct_node image ckpt inode page) (direct_slot page) ≡ address_of pages page
    below page above within =
        elim (way_of page) [
          | none direct is ↦ absurd (let wrong : ◌≡◌ None (Some (nth_direct (direct_number page))) = sym direct ∙ direct_of-number page above within in cc)
          | one k low direct is slots ↦ ends_with page (1 + k) (k ∷ direct_slot page ∷ []) slots direct (at_low k low)
          | first s small direct is slots ↦
              ends_with page (4 + s) (2 ∷ s ∷ direct_slot page ∷ []) slots direct
              (down 3 s (4 + s) (node image ckpt (get_or (inode_of inode).nids 2 0)) refl small (omega arith) (λ z. omega arith) (at_slot 2 3 refl (λ z. omega arith)))
          | second s small direct is slots ↦
              ends_with page (1023 + s) (3 ∷ s ∷ direct_slot page ∷ []) slots direct
              (down 1022 s (1023 + s) (node image ckpt (get_or (inode_of inode).nids 3 0)) refl small (omega arith) (λ z. omega arith) (at_slot 3 1022 refl (λ z. omega arith)))
          | double x y row place direct is slots ↦
              let top = node image ckpt (get_or (inode_of inode).nids 4 0) in
              let middle = down 2041 x (2042 + x * 1019) top refl row (omega arith) (λ z. omega arith) (at_slot 4 2041 refl (λ z. omega arith)) in
              let bottom = down (2042 + x * 1019) y (2042 + x * 1019 + 1 + y) (node_along image ckpt top (x ∷ [])) (below_double x) place
              (node_at-other (2042 + x * 1019) y (λ z. omega arith)) (λ z. omega arith) middle
              in
              ends_with page (2042 + x * 1019 + 1 + y) (4 ∷ x ∷ y ∷ direct_slot page ∷ []) slots direct
              (subst (StandsFor (2042 + x * 1019 + 1 + y)) (sym (along_two top x y)) bottom)
        ]

    pub route-ends : (page : ℕ) → page < page_limit → page_address image ckpt inode page ≡ address_of pages page
    route-ends page within = elim (cases_lt page inode_pages) [ inl low ↦ inside page low | inr high ↦ outside page high within ]
      where
        choice : (page : ℕ) (b : Bool) → nat_lt page inode_pages ≡ b
            → page_address image ckpt inode page ≡ cond b (get_or (inode_of inode).addresses page 0) (word_there (direct_node image ckpt inode page) (direct_slot page))
        choice page b e = ap (λ (c : Bool). cond c (get_or (inode_of inode).addresses page 0) (word_there (direct_node image ckpt inode page) (direct_slot page))) e

        inside : (page : ℕ) → page < inode_pages → page_address image ckpt inode page ≡ address_of pages page
        inside page low =
            choice page true (grind (arith, nat_tests)) ∙ ap (λ (xs : List ℕ). get_or xs page 0) addresses_are ∙ get_or-words_of (address_of pages) inode_pages page low

        outside : (page : ℕ) → inode_pages ≤ page → page < page_limit → page_address image ckpt inode page ≡ address_of pages page
        outside page high within = choice page false (grind (arith, nat_tests)) ∙ below page high within
