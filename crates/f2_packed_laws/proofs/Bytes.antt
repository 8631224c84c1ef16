-- The names of a tree that an image of whole blocks makes are bytes.
use Rattle.std.proofs.Common.{◌≡◌, ◌≢◌, ℕ, zero, suc, ◌+◌, ◌-◌, ◌==◌, Bool, true, false, cond, List, [], ◌∷◌, length, take, drop, slice_range, All, inl, inr, refl, sym, ap, ◌∙◌, subst}
use Rattle.std.specs.Prelude.{Option, Some, None}
use Rattle.std.specs.FinMap as map
use Rattle.std.proofs.lemmas.Bool.{cases_lt}
use Rattle.std.proofs.lemmas.List.{get_or_past, get_or_default}
use Rattle.std.proofs.lemmas.List.Elements.{All-nil, All-cons, All-take, All-drop}
use Rattle.std.proofs.lemmas.Option.{same_Some}
use Rattle.f2_format.specs.Geometry.{node_third}
use Rattle.f2_format.specs.Dentry.{name_start, dentry_name_length, dentry_at, Dentry}
use Rattle.f2_format.specs.Footer.{footer_version, footer_next}
use Rattle.f2_format.specs.Inode.{inode_of, INODE_NAME, NAME_BYTES}
use Rattle.f2_disk.specs.Contents.{IsBlock}
use Rattle.f2_model.specs.Tree.{Rows, ROOT}
use Rattle.f2_model.specs.State.{Mark, rolled}
use Rattle.f2_model.specs.declared.rows.Row.{Row}
use Rattle.f2_image.specs.Images.{Image, block_at}
use Rattle.f2_image.specs.Packs.{Checkpoint, recovery_version}
use Rattle.f2_image.specs.Chains.{Logged, chain_from, chain, block_in, no_block, IsNamed, IsMark}
use Rattle.f2_image.specs.Meanings.{MeansAt}
use Rattle.f2_image.specs.Bases.{IsNameOf}
use Rattle.f2_image.proofs.OneName.{told_alone}
use Rattle.f2_image_laws.proofs.Names.{row_has_name}
use Rattle.f2_mount_laws.proofs.Origins.{Origin, of_base, of_mark}
use Rattle.f2_packed_laws.proofs.Rolled.{from}
use Rattle.f2_packed_laws.proofs.Whole.{IsByte}

-- a part of some bytes
part : (block : List ℕ) (low high : ℕ) → All IsByte block → All IsByte (slice_range block low high)
part block low high all = All-take IsByte (high - low) (drop low block) (All-drop IsByte low block all)

module _ (image : Image) (blocks : All IsBlock image) where
  -- each block of the image, and none past its end
  block_bytes : (at : ℕ) → All IsByte (block_at image at)
  block_bytes at = elim (cases_lt at (length image)) [
    | inl small ↦ λ k d within. subst IsByte (get_or_default (block_at image at) k 0 d within) ((blocks at [] small).bytes k)
    | inr past ↦ subst (All IsByte) (sym (get_or_past image at [] past)) (All-nil IsByte)
  ]

  abbrev HasBytes : Logged → Type 0
  HasBytes one = All IsByte one.block

  -- each block of a chain
  abbrev first_of : ℕ → Logged
  first_of at = record { at = at; block = block_at image at }

  by_version : (b : Bool) (at : ℕ) (rest : List Logged) → All HasBytes rest → All HasBytes (cond b (first_of at ∷ rest) [])
  by_version true at rest all = All-cons HasBytes (first_of at) rest (block_bytes at) all
  by_version false at rest all = All-nil HasBytes

  by_end : (b : Bool) (logged : List Logged) → All HasBytes logged → All HasBytes (cond b [] logged)
  by_end true logged all = All-nil HasBytes
  by_end false logged all = all

  chain_blocks : (version most at : ℕ) → All HasBytes (chain_from image version most at)
  chain_blocks version zero at = All-nil HasBytes
  chain_blocks version (suc most) at =
      by_end (at == 0) _ (by_version (footer_version (block_at image at) == version) at (chain_from image version most (footer_next (block_at image at))) (chain_blocks version most (footer_next (block_at image at))))

  chained : (ckpt : Checkpoint) → All HasBytes (chain image ckpt)
  unfolding chain
  chained ckpt = chain_blocks (recovery_version ckpt) (node_third ckpt.geom + 1) ckpt.head.log_start

  in_chain : (ckpt : Checkpoint) (place : ℕ) → All IsByte (block_in (chain image ckpt) place)
  in_chain ckpt place = elim (cases_lt place (length (chain image ckpt))) [
    | inl small ↦ chained ckpt place no_block small
    | inr past ↦ subst HasBytes (sym (get_or_past (chain image ckpt) place no_block past)) (All-nil IsByte)
  ]

  module _ (ckpt : Checkpoint) (base : Rows) (marks : List Mark) (means : MeansAt image ckpt base marks) where
    base_name : (ino : ℕ) (row : Row) → map.get base ino ≡ Some row → ino ≢ ROOT → All IsByte row.name
    base_name ino row there below =
        let has : IsNameOf image ckpt ino row.parent row.name = row_has_name image ckpt base means.is_base ino row there below in
        let at = has.has.2 in
        let own : All IsByte (dentry_at (block_at image at.at) has.has.1).name =
        part (block_at image at.at) (name_start has.has.1) (name_start has.has.1 + dentry_name_length (block_at image at.at) has.has.1) (block_bytes at.at) in
        subst (λ (name : List ℕ). All IsByte name) (ap (λ (d : Dentry). d.name) at.is ∙ has.named) own

    mark_name : (place : ℕ) (mark : Mark) → IsMark image ckpt base (chain image ckpt) place mark → mark.ino ≢ ROOT → All IsByte mark.row.name
    mark_name place mark is below = by_row (map.get base mark.ino) refl
      where
        inode_name : All IsByte (take (inode_of (block_in (chain image ckpt) place)).name_length (inode_of (block_in (chain image ckpt) place)).name)
        inode_name = All-take IsByte (inode_of (block_in (chain image ckpt) place)).name_length (inode_of (block_in (chain image ckpt) place)).name (part (block_in (chain image ckpt) place) INODE_NAME (INODE_NAME + NAME_BYTES) (in_chain ckpt place))

        by_row : (o : Option Row) → map.get base mark.ino ≡ o → All IsByte mark.row.name
        by_row None e =
            let named : IsNamed base (block_in (chain image ckpt) place) mark.row None = subst (IsNamed base (block_in (chain image ckpt) place) mark.row) e is.named in
            subst (All IsByte) (sym (told_alone mark.row _ _ named).2) inode_name
        by_row (Some old) e =
            let named : IsNamed base (block_in (chain image ckpt) place) mark.row (Some old) = subst (IsNamed base (block_in (chain image ckpt) place) mark.row) e is.named in
            subst (All IsByte) (sym named.2) (base_name mark.ino old e below)

    pub name_bytes : (ino : ℕ) (row : Row) → map.get (rolled base marks) ino ≡ Some row → ino ≢ ROOT → All IsByte row.name
    name_bytes ino row there below = by_origin (from image ckpt base marks means ino)
      where
        by_origin : Origin image ckpt base ino (rolled base marks) → All IsByte row.name
        by_origin (of_base unmarked same) = base_name ino row (sym same ∙ there) below
        by_origin (of_mark place mark last is own its) =
            subst (λ (r : Row). All IsByte r.name) (same_Some mark.row row (sym its ∙ there)) (mark_name place mark is (λ root. below (sym own ∙ root)))
