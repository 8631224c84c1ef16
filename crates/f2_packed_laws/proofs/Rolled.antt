-- The rows of the tree that a sound image's base and marks make, and how many nodes and pages it has.
use Rattle.std.proofs.Common.{◌≡◌, ℕ, ◌≤◌, List, refl, sym, ap, ◌∙◌, subst}
use Rattle.std.specs.Prelude.{Some, None}
use Rattle.std.specs.FinMap as map
use Rattle.std.proofs.lemmas.Option.{none-some, same_Some}
use Rattle.f2_format.specs.Geometry.{node_third, data_third}
use Rattle.f2_model.specs.Count.{nodes_of_tree, data_of_tree}
use Rattle.f2_model.specs.Tree.{Rows}
use Rattle.f2_model.specs.State.{Mark, rolled}
use Rattle.f2_model.specs.declared.rows.Row.{Row}
use Rattle.f2_model.specs.declared.rows.Kind.TheVariants.{Directory}
use Rattle.f2_image.specs.Images.{Image}
use Rattle.f2_image.specs.Packs.{Checkpoint}
use Rattle.f2_image.specs.Faults.{HasTree}
use Rattle.f2_image.specs.Faults as faults
use Rattle.f2_image.specs.Meanings.{MeansAt}
use Rattle.f2_image_laws.proofs.BaseRows.{is_directory}
use Rattle.f2_image_laws.proofs.MarkRows.{no_directory, brings_under}
use Rattle.f2_image_laws.proofs.Sound.{none_full}
use Rattle.f2_place_laws.proofs.Decided.{at_most}
use Rattle.f2_mount_laws.proofs.Origins.{Origin, of_base, of_mark, origin}
use Rattle.f2_packed_laws.specs.Packed.{IsDirectoryIn}

module _ (image : Image) (ckpt : Checkpoint) (base : Rows) (marks : List Mark) (means : MeansAt image ckpt base marks) where
  pub from : (ino : ℕ) → Origin image ckpt base ino (rolled base marks)
  from ino = origin image ckpt base ino marks means.are_marks (rolled base marks) refl

  pub keyed : (ino : ℕ) (row : Row) → map.get (rolled base marks) ino ≡ Some row → row.ino ≡ ino
  keyed ino row there = by_origin (from ino)
    where
      by_origin : Origin image ckpt base ino (rolled base marks) → row.ino ≡ ino
      by_origin (of_base unmarked same) = (means.is_base.rows ino row (sym same ∙ there)).own
      by_origin (of_mark place mark last is own its) = ap (λ (r : Row). r.ino) (sym (same_Some mark.row row (sym its ∙ there))) ∙ is.row_ino ∙ own

  -- a directory of the base stays as it is
  pub directory_kept : (ino : ℕ) (row : Row) → map.get base ino ≡ Some row → row.kind ≡ Directory → map.get (rolled base marks) ino ≡ Some row
  directory_kept ino row there kind = by_origin (from ino)
    where
      by_origin : Origin image ckpt base ino (rolled base marks) → map.get (rolled base marks) ino ≡ Some row
      by_origin (of_base unmarked same) = same ∙ there
      by_origin (of_mark place mark last is own its) =
          absurd (no_directory image ckpt means.sound base means.is_base place mark is last.marked (is_directory image ckpt means.sound base means.is_base mark.ino row (ap (map.get base) own ∙ there) kind))

  -- a new file stands in a directory of the base
  pub new_parent : (ino : ℕ) (row : Row) → map.get (rolled base marks) ino ≡ Some row → map.get base ino ≡ None → IsDirectoryIn base row.parent
  new_parent ino row there absent = by_origin (from ino)
    where
      by_origin : Origin image ckpt base ino (rolled base marks) → IsDirectoryIn base row.parent
      by_origin (of_base unmarked same) = absurd (none-some row (sym absent ∙ sym same ∙ there))
      by_origin (of_mark place mark last is own its) =
          subst (λ (r : Row). IsDirectoryIn base r.parent) (same_Some mark.row row (sym its ∙ there)) (brings_under image ckpt means.sound base means.is_base place mark is last.marked (ap (map.get base) own ∙ absent))

  has_tree : HasTree image ckpt (rolled base marks)
  has_tree = record {
    base = base;
    marks = marks;
    is_base = means.is_base;
    are_marks = means.are_marks;
    is = refl;
  }

  pub few_nodes : nodes_of_tree (rolled base marks) ≤ node_third ckpt.geom
  few_nodes = at_most (nodes_of_tree (rolled base marks)) (node_third ckpt.geom) (λ more. none_full image ckpt means.sound (node_third ckpt.geom) (faults.tree_nodes (rolled base marks) has_tree refl more))

  pub few_pages : data_of_tree (rolled base marks) ≤ data_third ckpt.geom
  few_pages = at_most (data_of_tree (rolled base marks)) (data_third ckpt.geom) (λ more. none_full image ckpt means.sound (data_third ckpt.geom) (faults.tree_blocks (rolled base marks) has_tree refl more))
