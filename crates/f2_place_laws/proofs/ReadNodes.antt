-- The nodes that are read off a sound image are those of its base.
use Rattle.std.proofs.Common.{◌≡◌, ◌≢◌, ◌⊎◌, inl, inr, ℕ, ◌<◌, ◌≤◌, true, IsSome, is_some, refl, sym, ap, ◌∙◌, subst, arith}
use Rattle.std.specs.Prelude.{Option, Some, None}
use Rattle.std.proofs.lemmas.Option.{none-some}
use Rattle.std.specs.FinMap as map
use native.Mathlib.Decide.{ℕ_discrete, dec_lt}
use Rattle.f2_format.specs.Geometry.{nid_limit, is_in_node}
use Rattle.f2_format.specs.Footer.{footer_nid, footer_ino, footer_offset}
use Rattle.f2_model.specs.Tree.{Rows, ROOT}
use Rattle.f2_image.specs.Images.{Image, block_at}
use Rattle.f2_image.specs.Packs.{Checkpoint}
use Rattle.f2_image.specs.Nodes.{node, block_there}
use Rattle.f2_image.specs.Bases.{IsBase}
use Rattle.f2_image.specs.Reached.{offset_below, nids_of_node, nid_in, IsNode, inode, named}
use Rattle.f2_image.specs.Faults.{IsSound}
use Rattle.f2_image.proofs.Limited.{some_below}
use Rattle.f2_stored.specs.Places.{NodeAt, nid_of}
use Rattle.f2_place_laws.proofs.ChosenPlaces.{nodes_read, IsRead, node_read, given_read}
use Rattle.f2_place_laws.proofs.Decided.{NotFalse, decided, not_false, option_is, same_number, is_true}
use Rattle.f2_place_laws.proofs.NamedNodes.{node_reached, in_base, HasUpper, upper, told_above}
use Rattle.f2_place_laws.proofs.OneNode.{one_nid}
use Rattle.f2_place_laws.proofs.SoundNodes.{place, block_of, key, IsGiven, IsRight, right, known}
use Rattle.f2_place_laws.proofs.Stood.{address_of, block_is_there}
use Rattle.f2_place_laws.proofs.Uppers.{upper_of}

module _ (image : Image) (ckpt : Checkpoint) (sound : IsSound image ckpt) where
  -- the place of a node by its nid
  abbrev pub at_nid : ℕ → NodeAt
  at_nid nid = record { nid = nid; at = place image ckpt nid }

  -- a node that is read is one of the base
  pub known_read : (ino offset : ℕ) (n : NodeAt) → map.get (nodes_read image ckpt) (ino, offset) ≡ Some n → NotFalse (IsNode image ckpt ino offset n.nid)
  known_read ino offset n there =
      let read = node_read image ckpt (ino, offset) n there in
      subst (λ (at : ℕ × ℕ). NotFalse (IsNode image ckpt at.0 at.1 n.nid)) read.key_is (known image ckpt sound n.nid read.given)

  -- a node of the base is read
  pub node_of : (ino offset nid : ℕ) → IsNode image ckpt ino offset nid → map.get (nodes_read image ckpt) (ino, offset) ≡ Some (at_nid nid)
  node_of ino offset nid is_node =
      let facts = right image ckpt sound ino offset nid is_node in
      let found = given_read image ckpt nid facts.given in
      let key_is : key image ckpt nid ≡ (ino, offset) = λ i. (facts.ino_is i, facts.offset_is i) in
      let there : map.get (nodes_read image ckpt) (ino, offset) ≡ Some found.0 = ap (map.get (nodes_read image ckpt)) (sym key_is) ∙ found.1 in
      let read = node_read image ckpt (ino, offset) found.0 there in
      let nids : found.0.nid ≡ nid = same_number found.0.nid nid (known_read ino offset found.0 there) (λ other. one_nid image ckpt ino offset found.0.nid other ino offset nid is_node refl refl) in
      let places : found.0.at ≡ place image ckpt nid = sym read.place_is ∙ ap (place image ckpt) nids in
      there ∙ (λ i. Some (record { nid = nids i; at = places i }))

  module _ (ino offset : ℕ) (n : NodeAt) (there : map.get (nodes_read image ckpt) (ino, offset) ≡ Some n) where
    read : IsRead image ckpt (ino, offset) n
    read = node_read image ckpt (ino, offset) n there

    pub known_right : NotFalse (IsRight image ckpt ino offset n.nid)
    known_right = not_false (known_read ino offset n there) (right image ckpt sound ino offset n.nid)

    pub nid_some : n.nid ≢ 0
    nid_some zero = known_right (λ facts. facts.not_zero zero)

    pub place_is : place image ckpt n.nid ≡ n.at
    place_is = read.place_is

    pub nid_within : n.nid < nid_limit ckpt.geom
    nid_within = read.given.within

    -- its block
    pub block_is : node image ckpt n.nid ≡ Some (block_at image n.at)
    block_is =
        ap (block_there image) (address_of n.nid (nid_limit ckpt.geom) (place image ckpt n.nid) nid_some nid_within)
        ∙ block_is_there image (place image ckpt n.nid) read.given.some ∙ ap (λ at. Some (block_at image at)) place_is

    pub ino_told : footer_ino (block_at image n.at) ≡ ino
    ino_told = ap (λ at. footer_ino (block_at image at)) (sym place_is) ∙ ap (λ (of : ℕ × ℕ). of.0) read.key_is

    pub offset_told : footer_offset (block_at image n.at) ≡ offset
    offset_told = ap (λ at. footer_offset (block_at image at)) (sym place_is) ∙ ap (λ (of : ℕ × ℕ). of.1) read.key_is

    pub nid_told : footer_nid (block_at image n.at) ≡ n.nid
    nid_told = ap (λ at. footer_nid (block_at image at)) (sym place_is) ∙ same_number (footer_nid (block_of image ckpt n.nid)) n.nid known_right (λ facts. facts.nid_is)

    pub in_zone : is_in_node ckpt.geom n.at ≡ true
    in_zone = ap (is_in_node ckpt.geom) (sym place_is) ∙ is_true (is_in_node ckpt.geom (place image ckpt n.nid)) known_right (λ facts. facts.in_zone)

    -- a nid that it may have
    pub least : (4 ≤ n.nid) ⊎ ((ino ≡ ROOT) × (offset ≡ 0))
    least = by_order (dec_lt n.nid 4)
      where
        by_order : Dec (n.nid < 4) → (4 ≤ n.nid) ⊎ ((ino ≡ ROOT) × (offset ≡ 0))
        by_order (yes small) = inr (same_number ino ROOT known_right (λ facts. (facts.least small).0), same_number offset 0 known_right (λ facts. (facts.least small).1))
        by_order (no large) = inl (omega (arith, large))

    pub inode_nid : offset ≡ 0 → n.nid ≡ ino
    inode_nid first = same_number n.nid ino (known_read ino offset n there)
        (λ is_node. one_nid image ckpt ino offset n.nid is_node ino 0 ino (inode ino (node_reached image ckpt ino offset n.nid is_node)) refl first)

    pub row_there : (base : Rows) → IsBase image ckpt base → IsSome (map.get base ino)
    row_there base is = is_true (is_some (map.get base ino)) (known_read ino offset n there) (λ is_node. in_base image ckpt base is ino (node_reached image ckpt ino offset n.nid is_node))

    -- the node above it
    pub record IsAbove : Type 0 where
      pub slot : ℕ
      pub small : slot < nids_of_node (upper_of offset)
      pub names : offset_below (upper_of offset) slot ≡ Some offset
      pub there_above : IsSome (map.get (nodes_read image ckpt) (ino, upper_of offset))

    pub above : offset ≢ 0 → IsAbove
    above other =
        let uppers : NotFalse (HasUpper image ckpt ino offset) = not_false (known_read ino offset n there) (λ is_node. upper image ckpt ino offset n.nid is_node other) in
        let slot = decided (some_below (λ slot. offset_below (upper_of offset) slot ≡ Some offset) (λ slot. option_is (offset_below (upper_of offset) slot) offset) (nids_of_node (upper_of offset))) uppers (λ has. (has.slot, has.small, has.names)) in
        record {
          slot = slot.0;
          small = slot.1;
          names = slot.2;
          there_above = is_true (is_some (map.get (nodes_read image ckpt) (ino, upper_of offset))) uppers (λ has. ap is_some (node_of ino (upper_of offset) has.nid has.up));
        }

    -- and those below it
    pub lower_told : (slot low : ℕ) → slot < nids_of_node offset → offset_below offset slot ≡ Some low → nid_in (block_at image n.at) offset slot ≡ nid_of (map.get (nodes_read image ckpt) (ino, low))
    lower_told slot low small under = by_node (map.get (nodes_read image ckpt) (ino, low)) refl
      where
        none_below : map.get (nodes_read image ckpt) (ino, low) ≡ None → Dec (nid_in (block_at image n.at) offset slot ≡ 0) → nid_in (block_at image n.at) offset slot ≡ 0
        none_below e (yes zero) = zero
        none_below e (no some) =
            absurd (known_read ino offset n there (λ is_node.
            let lower = named ino offset n.nid slot low (block_at image n.at) is_node block_is small under some in
            none-some (at_nid (nid_in (block_at image n.at) offset slot)) (sym e ∙ node_of ino low (nid_in (block_at image n.at) offset slot) lower)))

        one_below : (m : NodeAt) → map.get (nodes_read image ckpt) (ino, low) ≡ Some m → nid_in (block_at image n.at) offset slot ≡ m.nid
        one_below m e =
            same_number (nid_in (block_at image n.at) offset slot) m.nid (known_read ino offset n there)
            (λ is_node. same_number (nid_in (block_at image n.at) offset slot) m.nid (known_read ino low m e)
            (λ lower. sym (told_above image ckpt ino offset n.nid slot low m.nid (block_at image n.at) is_node block_is small under ino low lower refl refl)))

        by_node : (o : Option NodeAt) → map.get (nodes_read image ckpt) (ino, low) ≡ o → nid_in (block_at image n.at) offset slot ≡ nid_of (map.get (nodes_read image ckpt) (ino, low))
        by_node None e = none_below e (ℕ_discrete (nid_in (block_at image n.at) offset slot) 0) ∙ sym (ap nid_of e)
        by_node (Some m) e = one_below m e ∙ sym (ap nid_of e)

  -- a nid that has an address is read
  pub nid_read : (nid : ℕ) → IsGiven image ckpt nid → map.get (nodes_read image ckpt) (key image ckpt nid) ≡ Some (at_nid nid)
  nid_read nid given =
      let found = given_read image ckpt nid given in
      let at = key image ckpt nid in
      let read = node_read image ckpt at found.0 found.1 in
      let nids : found.0.nid ≡ nid = same_number found.0.nid nid (known_read at.0 at.1 found.0 found.1)
      (λ other. same_number found.0.nid nid (known image ckpt sound nid given) (λ is_node. one_nid image ckpt at.0 at.1 found.0.nid other at.0 at.1 nid is_node refl refl)) in
      let places : found.0.at ≡ place image ckpt nid = sym read.place_is ∙ ap (place image ckpt) nids in
      found.1 ∙ (λ i. Some (record { nid = nids i; at = places i }))
