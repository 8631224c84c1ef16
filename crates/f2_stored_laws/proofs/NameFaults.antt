-- No condition on the names that marked blocks bring stands in an image of a disk with a node log.
use Rattle.std.proofs.Common.{◌≡◌, ◌≢◌, ℕ, List, refl, sym, ap, ◌∙◌, subst, arith}
use Rattle.std.specs.FinMap as map
use Rattle.std.proofs.lemmas.Option.{none-some}
use Rattle.std.proofs.lemmas.List.Elements.{All-contains}
use Rattle.f2_disk.specs.Contents.{Contents}
use Rattle.f2_model.specs.Tree.{ROOT}
use Rattle.f2_model.specs.State.{State}
use Rattle.f2_image.specs.Images.{Image}
use Rattle.f2_image.specs.Faults.{HasTable, IsConflict, HasNoParent, IsDirectoryOf, BadTree, VersionEnd}
use Rattle.f2_image.specs.Faults as faults
use Rattle.f2_image.proofs.OneName.{names_once}
use Rattle.f2_stored.specs.Layout.{Layout}
use Rattle.f2_image_laws.specs.Rolled.{image_limits}
use Rattle.f2_room_laws.specs.Fitting.{FitsBase}
use Rattle.f2_stored_laws.proofs.LogImages.{HasPart, MarkAt}
use Rattle.f2_stored_laws.proofs.Rows.{directory_of, brought}

pub bad_tree : BadTree ≢ VersionEnd
bad_tree e = cc

module _ (lists : Contents) (layout : Layout) (state : State) (image : Image) (part : HasPart lists layout state image) where
  -- the mark of a marked block goes with the base
  pub fits : (place : ℕ) (block : List ℕ) (at : MarkAt lists layout state image part place block) → FitsBase (image_limits layout.base.ckpt.geom) state.base at.mark
  fits place block at = All-contains (FitsBase (image_limits layout.base.ckpt.geom) state.base) state.marks at.mark part.keeps.fitting.base at.among

  pub no_conflict : (ino : ℕ) → HasTable layout.base.ckpt → IsConflict image layout.base.ckpt ino → ⊥
  no_conflict ino table (faults.in_base place parent name dentry brings up has is) =
      let new = brought lists layout state image part place ino parent name brings in
      let up_here = part.alike.back.reached parent up in
      let has_here = part.alike.back.dentry parent dentry up has in
      let old = names_once layout.base.image layout.base.ckpt state.base part.keeps.base.means.is_base parent dentry up_here has_here in
      let not_root : dentry.ino ≢ ROOT = λ root. part.keeps.base.means.sound BadTree dentry.ino bad_tree (table, faults.too_low parent dentry up_here has_here refl (omega (arith, root))) in
      let same : dentry.ino ≡ new.at.mark.ino = (fits place new.block new.at).free dentry.ino old.row old.there not_root (old.parent ∙ sym new.under) (old.named ∙ is ∙ sym new.named) in
      none-some old.row (sym new.fresh ∙ ap (map.get state.base) (sym new.ino_is ∙ sym same) ∙ old.there)
  no_conflict ino table (faults.in_log place earlier other parent name brings too before differ) =
      let new = brought lists layout state image part place ino parent name brings in
      let old = brought lists layout state image part earlier other parent name too in
      differ (sym old.ino_is ∙ part.keeps.fitting.names old.at.mark new.at.mark old.at.among new.at.among (old.under ∙ sym new.under) (old.named ∙ sym new.named) ∙ new.ino_is)

  pub no_lost_parent : (ino : ℕ) → HasNoParent image layout.base.ckpt ino → ⊥
  no_lost_parent ino has =
      let new = brought lists layout state image part has.place ino has.parent has.name has.brings in
      let up = (fits has.place new.block new.at).up in
      has.none (subst (IsDirectoryOf image layout.base.ckpt) new.under (directory_of lists layout state image part new.at.mark.row.parent up.0 up.1 up.2))
