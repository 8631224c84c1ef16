-- An image of a disk with a node log has room for its tree.
use Rattle.std.proofs.Common.{◌≡◌, ◌≢◌, ℕ, ◌≤◌, List, [], ◌∷◌, take, sym, ◌∙◌, subst, arith}
use Rattle.std.specs.List.{AllByRecursion}
use Rattle.f2_format.specs.Geometry.{node_third, data_third}
use Rattle.f2_disk.specs.Contents.{Contents}
use Rattle.f2_model.specs.Tree.{Rows}
use Rattle.f2_model.specs.Count.{nodes_of_tree, data_of_tree}
use Rattle.f2_model.specs.State.{State, rolled}
use Rattle.f2_image.specs.Images.{Image}
use Rattle.f2_image.specs.Chains.{AreMarks}
use Rattle.f2_image.specs.Reached.{HasMore}
use Rattle.f2_image.specs.Faults.{HasTable, HasTree, IsSomeNode, IsBaseBlock, IsSomeBlock, IsTooFull, TooFull, VersionEnd}
use Rattle.f2_image.specs.Faults as faults
use Rattle.f2_image.proofs.OneBase.{one_base}
use Rattle.f2_image.proofs.OneMarks.{one_list_of_marks}
use Rattle.f2_room_laws.specs.ProperTrees.{IsProperTree}
use Rattle.f2_stored.specs.Layout.{Layout}
use Rattle.f2_image_laws.specs.Rolled.{image_limits}
use Rattle.f2_stored_laws.proofs.LogImages.{HasPart, kept, kept_marks, acknowledged_kept}
use Rattle.f2_stored_laws.proofs.Meant.{base_meant, marks_meant}
use Rattle.f2_stored_laws.proofs.BlockFaults.{owner_of}
use Rattle.f2_stored_laws.proofs.Keys.{IsKey, no_more_keys}

too_full : TooFull ≢ VersionEnd
too_full e = cc

-- more than so many have a weaker property
more_weaker : {X : Type 0} (P Q : X → Type 0) → ((x : X) → P x → Q x) → (most : ℕ) → HasMore X P most → HasMore X Q most
more_weaker {X = X} P Q weaker most has = record { some = has.some; differ = has.differ; all = each has.some has.all; more = has.more }
  where
    each : (xs : List X) → AllByRecursion P xs → AllByRecursion Q xs
    each [] all = tt
    each (x ∷ xs) all = (weaker x all.0, each xs all.1)

module _ (lists : Contents) (layout : Layout) (state : State) (image : Image) (part : HasPart lists layout state image) where
  -- the tree of the image, and what it takes
  tree_is : (tree : Rows) → HasTree image layout.base.ckpt tree → rolled state.base (take (kept lists layout state image part) state.marks) ≡ tree
  tree_is tree has =
      let base = one_base image layout.base.ckpt state.base has.base (base_meant lists layout state image part) has.is_base in
      let marks = one_list_of_marks image layout.base.ckpt state.base (take (kept lists layout state image part) state.marks) has.marks (marks_meant lists layout state image part)
      (subst (λ tree. AreMarks image layout.base.ckpt tree has.marks) (sym base) has.are_marks) in
      (λ i. rolled (base i) (marks i)) ∙ sym has.is

  proper : (tree : Rows) → HasTree image layout.base.ckpt tree → IsProperTree (image_limits layout.base.ckpt.geom) tree
  proper tree has =
      subst (IsProperTree (image_limits layout.base.ckpt.geom)) (tree_is tree has)
      (part.keeps.fitting.trees (kept lists layout state image part) (acknowledged_kept lists layout state image part) (kept_marks lists layout state image part).1)

  all_keys : (some : List ℕ) → AllByRecursion (IsSomeBlock image layout.base.ckpt) some → AllByRecursion (IsKey layout.owners) some
  all_keys [] all = tt
  all_keys (at ∷ some) all = let one = all.0 in (((one.0, one.1), owner_of lists layout state image part one.0 one.1 at one.2), all_keys some all.1)

  pub not_too_full : (limit : ℕ) → HasTable layout.base.ckpt → IsTooFull image layout.base.ckpt limit → ⊥
  not_too_full limit table (faults.base_nodes is many) =
      part.keeps.base.means.sound TooFull limit too_full (
        table,
        faults.base_nodes is (more_weaker (IsSomeNode image layout.base.ckpt) (IsSomeNode layout.base.image layout.base.ckpt) (λ at has. (has.0, part.alike.back.node at.0 at.1 has.0 has.1)) limit many),
      )
  not_too_full limit table (faults.base_blocks is many) =
      part.keeps.base.means.sound TooFull limit too_full (
        table,
        faults.base_blocks is (more_weaker (IsBaseBlock image layout.base.ckpt) (IsBaseBlock layout.base.image layout.base.ckpt) (λ at has. (has.0, has.1, part.alike.back.page has.0 has.1 at has.2)) limit many),
      )
  not_too_full limit table (faults.tree_nodes tree has is many) = let few : nodes_of_tree tree ≤ node_third layout.base.ckpt.geom = (proper tree has).nodes in absurd (omega (arith, few, is, many))
  not_too_full limit table (faults.tree_blocks tree has is many) = let few : data_of_tree tree ≤ data_third layout.base.ckpt.geom = (proper tree has).data_blocks in absurd (omega (arith, few, is, many))
  not_too_full limit table (faults.all_blocks is many) =
      let few = no_more_keys layout.owners many.some many.differ (all_keys many.some many.all) in
      let most = part.keeps.owners.few in
      let more = many.more in
      absurd (omega (arith, few, most, more, is))
