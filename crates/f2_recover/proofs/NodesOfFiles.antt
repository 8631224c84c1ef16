-- The nodes of a file of the base: each but the inode is named by one slot of one node, and has one nid.
use Rattle.std.proofs.Common.{◌≡◌, ◌≢◌, ◌⊎◌, inl, inr, ℕ, List, refl, sym, ap, ◌∙◌, subst, arith}
use Rattle.std.specs.Prelude.{Some}
use Rattle.f2_image.specs.Images.{Image}
use Rattle.f2_image.specs.Packs.{Checkpoint}
use Rattle.f2_image.specs.Nodes.{node}
use Rattle.f2_image.specs.Bases.{IsReached}
use Rattle.f2_image.specs.Reached.{IsNode, inode, named, nid_in}
use Rattle.f2_image.proofs.OneBase.{same_some}
use Rattle.f2_recover.proofs.Ups.{Up, up, upper_is, slot_is, up_behind}

module _ (image : Image) (ckpt : Checkpoint) where
  -- a slot of a node of the file names a node
  pub record IsNamedBy (ino lower nid upper slot : ℕ) : Type 0 where
    pub own : ℕ
    pub block : List ℕ
    pub is : IsNode image ckpt ino upper own
    pub there : node image ckpt own ≡ Some block
    pub word : nid_in block upper slot ≡ nid
    pub some : nid ≢ 0

  pub record IsBelow (ino lower nid : ℕ) : Type 0 where
    pub upper : ℕ
    pub slot : ℕ
    pub names : Up upper slot lower
    pub by : IsNamedBy ino lower nid upper slot

  abbrev pub Above : ℕ → ℕ → ℕ → Type 0
  Above ino lower nid = ((lower ≡ 0) × (nid ≡ ino)) ⊎ IsBelow ino lower nid

  pub above : (ino lower nid : ℕ) → IsNode image ckpt ino lower nid → Above ino lower nid
  above _ _ _ (inode ino reached) = inl (refl, refl)
  above _ _ _ (named ino offset nid slot lower block is there small below some) =
      inr (record { upper = offset; slot = slot; names = up offset slot lower small below; by = record { own = nid; block = block; is = is; there = there; word = refl; some = some } })

  pub reached_of : (ino lower nid : ℕ) → IsNode image ckpt ino lower nid → IsReached image ckpt ino
  reached_of _ _ _ (inode ino reached) = reached
  reached_of _ _ _ (named ino offset nid slot lower block is there small below some) = reached_of ino offset nid is

  -- the inode's nid is the ino
  pub inode_nid : (ino nid : ℕ) → IsNode image ckpt ino 0 nid → nid ≡ ino
  inode_nid ino nid is = by_part (above ino 0 nid is)
    where
      by_part : Above ino 0 nid → nid ≡ ino
      by_part (inl e) = e.1
      by_part (inr b) = let behind = up_behind b.upper b.slot 0 b.names in absurd (omega (arith, behind))

  -- a node that a slot of a node can name is named by it
  pub named_by : (ino lower nid upper slot : ℕ) → IsNode image ckpt ino lower nid → Up upper slot lower → IsNamedBy ino lower nid upper slot
  named_by ino lower nid upper slot is names = by_part (above ino lower nid is)
    where
      by_part : Above ino lower nid → IsNamedBy ino lower nid upper slot
      by_part (inl e) = let behind = up_behind upper slot lower names in absurd (omega (arith, behind, e.0))
      by_part (inr b) =
          let uppers : b.upper ≡ upper = upper_is b.upper b.slot lower b.names ∙ sym (upper_is upper slot lower names) in
          let slots : b.slot ≡ slot = slot_is b.upper b.slot lower b.names ∙ sym (slot_is upper slot lower names) in
          subst (λ s. IsNamedBy ino lower nid upper s) slots (subst (λ u. IsNamedBy ino lower nid u b.slot) uppers b.by)

  -- a node of a file has one nid
  pub one_nid : (ino lower a b : ℕ) → IsNode image ckpt ino lower a → IsNode image ckpt ino lower b → a ≡ b
  one_nid _ _ _ b (inode ino reached) q = sym (inode_nid ino b q)
  one_nid _ _ _ b (named ino offset nid slot lower block is there small below some) q =
      let by = named_by ino lower b offset slot q (up offset slot lower small below) in
      let same_nid : nid ≡ by.own = one_nid ino offset nid by.own is by.is in
      let same_block : block ≡ by.block = same_some block by.block (sym there ∙ ap (node image ckpt) same_nid ∙ by.there) in
      ap (λ (x : List ℕ). nid_in x offset slot) same_block ∙ by.word

  -- a node whose slot names none: the file hasn't the node there
  pub none_named : (ino lower nid upper slot own : ℕ) (block : List ℕ) → IsNode image ckpt ino upper own → node image ckpt own ≡ Some block → Up upper slot lower → nid_in block upper slot ≡ 0 → IsNode image ckpt ino lower nid → ⊥
  none_named ino lower nid upper slot own block is there names zero low =
      let by = named_by ino lower nid upper slot low names in
      let same_nid : own ≡ by.own = one_nid ino upper own by.own is by.is in
      let same_block : block ≡ by.block = same_some block by.block (sym there ∙ ap (node image ckpt) same_nid ∙ by.there) in
      by.some (sym by.word ∙ ap (λ (x : List ℕ). nid_in x upper slot) (sym same_block) ∙ zero)

  -- nor anything below it
  pub none_below : (ino lower upper slot nid : ℕ) → ((own : ℕ) → IsNode image ckpt ino upper own → ⊥) → Up upper slot lower → IsNode image ckpt ino lower nid → ⊥
  none_below ino lower upper slot nid none names low = let by = named_by ino lower nid upper slot low names in none by.own by.is
