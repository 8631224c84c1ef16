-- The names of a directory that is taken over are those of the tree's rows in it.
use Rattle.std.proofs.Common.{◌≡◌, ◌≢◌, ℕ, Bool, true, false, List, is_some, slice_get, refl, sym, ap, ◌∙◌, true≢false}
use Rattle.std.specs.Prelude.{Option, Some, None, []}
use Rattle.std.specs.Option.{unwrap_or}
use Rattle.std.specs.FinMap as map
use Rattle.std.specs.FinSet as set
use Rattle.std.proofs.lemmas.Option.{same_Some}
use Rattle.f2_format.specs.Dentry.{Dentry}
use Rattle.f2_model.specs.Tree.{Rows, ROOT}
use Rattle.f2_model.specs.State.{Mark}
use Rattle.f2_model.specs.declared.rows.Row.{Row}
use Rattle.f2_model.specs.declared.rows.Kind.TheVariants.{Directory}
use Rattle.f2_image.specs.Images.{Image}
use Rattle.f2_image.specs.Packs.{Checkpoint}
use Rattle.f2_image.specs.Chains.{chain, IsMark}
use Rattle.f2_image.specs.Faults.{type_of_kind}
use Rattle.f2_image.specs.Meanings.{MeansAt}
use Rattle.f2_image_laws.proofs.MarkRows as mark_rows
use Rattle.f2_image_laws.proofs.Pages.{kinds_differ}
use Rattle.f2_stored.specs.Places.{Places, dentries_at, IsDentryAt, IsBound, HasNames}
use Rattle.f2_stored.specs.Trees.{Unwritten}
use Rattle.f2_mount_laws.specs.Taken.{IsLastMark, IsUnmarked, IsTakenOver}
use Rattle.f2_mount_laws.proofs.Origins.{Origin, of_base, of_mark}
use Rattle.f2_mount_laws.proofs.TakenPages.{from, mark_regular, base_regular}

module _ (image : Image) (ckpt : Checkpoint) (base : Rows) (marks : List Mark) (tree : Rows) (places : Places) (unwritten : Unwritten)
    (means : MeansAt image ckpt base marks) (is : IsTakenOver image ckpt base marks tree places unwritten) where
  -- a dentry of the base is one of the tree
  bound_by : (directory : ℕ) (dentry : Dentry) → IsBound base directory dentry → Origin image ckpt base dentry.ino tree → IsBound tree directory dentry
  bound_by directory dentry old (of_base unmarked same) = record { row = old.row; there = same ∙ old.there; below = old.below; parent = old.parent; named = old.named; typed = old.typed }
  bound_by directory dentry old (of_mark place mark last at own there) =
      let its : map.get base mark.ino ≡ Some old.row = ap (map.get base) own ∙ old.there in
      let keeps = mark_rows.keeps image ckpt means.sound base means.is_base place mark at last.marked old.row its in
      let kinds : old.row.kind ≡ mark.row.kind =
      base_regular image ckpt base marks tree places unwritten means is dentry.ino place mark old.row last at own old.there
      ∙ sym (mark_regular image ckpt base marks tree places unwritten means is dentry.ino place mark last at)
      in
      record {
        row = mark.row;
        there = there;
        below = old.below;
        parent = keeps.0 ∙ old.parent;
        named = keeps.1 ∙ old.named;
        typed = old.typed ∙ ap type_of_kind kinds;
      }

  -- a directory that isn't laid out anew
  module _ (ino : ℕ) (unmarked : IsUnmarked image ckpt ino) (out : set.contains is.anew ino ≡ false) (names : HasNames base is.old ino) where
    pages_same : (page : ℕ) → map.get places.pages (ino, page) ≡ map.get is.old.pages (ino, page)
    pages_same page = is.kept_pages ino page unmarked out

    dentries_same : (page : ℕ) → dentries_at places ino page ≡ dentries_at is.old ino page
    dentries_same page = ap (λ o. unwrap_or o []) (is.kept_names ino page unmarked out)

    to_old : (page place : ℕ) (dentry : Dentry) → IsDentryAt places ino page place dentry → IsDentryAt is.old ino page place dentry
    to_old page place dentry at = record { page_there = sym (ap is_some (pages_same page)) ∙ at.page_there; is = sym (ap (λ ds. slice_get ds place) (dentries_same page)) ∙ at.is }

    from_old : (page place : ℕ) (dentry : Dentry) → IsDentryAt is.old ino page place dentry → IsDentryAt places ino page place dentry
    from_old page place dentry at = record { page_there = ap is_some (pages_same page) ∙ at.page_there; is = ap (λ ds. slice_get ds place) (dentries_same page) ∙ at.is }

    abbrev HasOne : ℕ → Type 0
    HasOne i = (page place : ℕ) × ((dentry : Dentry) × IsDentryAt places ino page place dentry × (dentry.ino ≡ i))

    of_row : (i : ℕ) (row : Row) → map.get base i ≡ Some row → i ≢ ROOT → row.parent ≡ ino → HasOne i
    of_row i row there other parent = let found = names.all i row there other parent in (found.0, found.1, (found.2.0, from_old found.0 found.1 found.2.0 found.2.1, found.2.2))

    of_new : (i place : ℕ) (mark : Mark) (row : Row) → IsLastMark image ckpt i place → IsMark image ckpt base (chain image ckpt) place mark → mark.ino ≡ i → mark.row ≡ row → map.get tree i ≡ Some row → i ≢ ROOT → row.parent ≡ ino
        → (o : Option Row) → map.get base i ≡ o → HasOne i
    of_new i place mark row last at own same there other parent None e =
        absurd (true≢false (sym (is.named i row there e) ∙ ap (set.contains is.anew) parent ∙ out))
    of_new i place mark row last at own same there other parent (Some old) e =
        let keeps = mark_rows.keeps image ckpt means.sound base means.is_base place mark at last.marked old (ap (map.get base) own ∙ e) in
        of_row i old e other (sym keeps.0 ∙ ap (λ (r : Row). r.parent) same ∙ parent)

    all_by : (i : ℕ) (row : Row) → map.get tree i ≡ Some row → i ≢ ROOT → row.parent ≡ ino → Origin image ckpt base i tree → HasOne i
    all_by i row there other parent (of_base free same) = of_row i row (sym same ∙ there) other parent
    all_by i row there other parent (of_mark place mark last at own its) =
        of_new i place mark row last at own (same_Some mark.row row (sym its ∙ there)) there other parent (map.get base i) refl

    kept_names : HasNames tree places ino
    kept_names = record {
      bound = λ page place dentry at. bound_by ino dentry (names.bound page place dentry (to_old page place dentry at)) (from image ckpt base marks tree places unwritten means is dentry.ino);
      all = λ i row there other parent. all_by i row there other parent (from image ckpt base marks tree places unwritten means is i);
      once = λ page place other more a b p q same. names.once page place other more a b (to_old page place a p) (to_old other more b q) same;
    }

  -- each directory of the tree
  names_by : (ino : ℕ) (row : Row) → map.get tree ino ≡ Some row → row.kind ≡ Directory → set.contains is.anew ino ≡ false → Origin image ckpt base ino tree → HasNames tree places ino
  names_by ino row there kind out (of_base unmarked same) = kept_names ino unmarked out (is.stands.laid.names ino row (sym same ∙ there) kind)
  names_by ino row there kind out (of_mark place mark last at own its) =
      absurd (kinds_differ (sym (mark_regular image ckpt base marks tree places unwritten means is ino place mark last at) ∙ ap (λ (r : Row). r.kind) (same_Some mark.row row (sym its ∙ there)) ∙ kind))

  pub names_of : (ino : ℕ) (row : Row) → map.get tree ino ≡ Some row → row.kind ≡ Directory → HasNames tree places ino
  names_of ino row there kind = by_anew (set.contains is.anew ino) refl
    where
      by_anew : (b : Bool) → set.contains is.anew ino ≡ b → HasNames tree places ino
      by_anew true e = is.laid_names ino e
      by_anew false e = names_by ino row there kind e (from image ckpt base marks tree places unwritten means is ino)
