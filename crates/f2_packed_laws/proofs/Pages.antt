-- The pages of a tree with a packed layout are those that its rows have.
use Rattle.std.proofs.Common.{◌≡◌, ◌≢◌, inl, inr, ℕ, zero, suc, ◌+◌, ◌<◌, true, false, cond, List, length, IsSome, is_some, refl, sym, ap, ◌∙◌, subst, true≢false, arith}
use Rattle.std.specs.Prelude.{Some, None}
use Rattle.std.specs.List.{range_with_len}
use Rattle.std.specs.FinMap as map
use Rattle.std.specs.FinMap.{nat_cmp-IsAntisymmetric}
use Rattle.std.specs.FinSet as set
use Rattle.std.proofs.lemmas.Bool.{ne_eqb}
use Rattle.f2_format.specs.Offsets.{page_limit}
use Rattle.f2_model.specs.Count.{page_numbers, dentry_blocks}
use Rattle.f2_model.specs.Tree.{Rows}
use Rattle.f2_model.specs.State.{Mark, rolled}
use Rattle.f2_model.specs.declared.rows.Row.{Row}
use Rattle.f2_model.specs.declared.rows.Kind.{Kind}
use Rattle.f2_model.specs.declared.rows.Kind.TheVariants.{Regular, Directory}
use Rattle.f2_dentry_block.specs.Packed.{packed_blocks}
use Rattle.f2_image.specs.Images.{Image, block_at}
use Rattle.f2_image.specs.Packs.{Checkpoint}
use Rattle.f2_image.specs.Nodes.{block_there, page_address}
use Rattle.f2_image.specs.Bases.{HasContent, IsBaseRow}
use Rattle.f2_image.specs.Chains.{chain, block_in, marked_address, IsMark}
use Rattle.f2_image.specs.Reached.{IsBasePage}
use Rattle.f2_image.specs.Meanings.{MeansAt}
use Rattle.f2_image.proofs.OneBase.{same_some}
use Rattle.f2_image_laws.proofs.BaseRows.{row_of}
use Rattle.f2_image_laws.proofs.MarkRows.{regular}
use Rattle.f2_block_laws.proofs.Keys.{key_of}
use Rattle.f2_block_laws.proofs.Listings.{blocks_counted}
use Rattle.f2_block_laws.proofs.Members.{IsIn}
use Rattle.f2_mount_laws.specs.Taken.{IsLastMark, IsUnmarked}
use Rattle.f2_mount_laws.specs.Existing.{Relaid, IsTreePage, kept, marked, laid}
use Rattle.f2_mount_laws.proofs.Origins.{Origin, of_base, of_mark}
use Rattle.f2_packed_laws.specs.Packed.{IsPacked}
use Rattle.f2_packed_laws.proofs.Rolled.{from, keyed, directory_kept}

in_range : (a n k : ℕ) → k < n → IsIn (a + k) (range_with_len a n)
in_range a zero k small = absurd (omega (arith, small))
in_range a (suc n) zero small = inl (omega arith)
in_range a (suc n) (suc k) small = inr (subst (λ m. IsIn m (range_with_len (a + 1) n)) (omega arith) (in_range (a + 1) n k (omega (arith, small))))

some_block : (image : Image) (at : ℕ) → at ≢ 0 → IsSome (block_there image at)
some_block image at some = ap (λ b. is_some (cond b None (Some (block_at image at)))) (ne_eqb at 0 some)

-- a page of a row
pub record IsRowPage (tree : Rows) (ino page : ℕ) : Type 0 where
  pub row : Row
  pub there : map.get tree ino ≡ Some row
  pub listed : IsIn page (page_numbers row.kind (map.values tree) row)

file_page : (tree : Rows) (row : Row) (page : ℕ) → row.kind ≡ Regular → IsSome (map.get row.pages page) → IsIn page (page_numbers row.kind (map.values tree) row)
file_page tree row page kind some = subst (λ k. IsIn page (page_numbers k (map.values tree) row)) (sym kind) (key_of nat_cmp-IsAntisymmetric row.pages page some)

directory_page : (tree : Rows) (row : Row) (page : ℕ) → row.kind ≡ Directory → page < dentry_blocks (map.values tree) row.ino → IsIn page (page_numbers row.kind (map.values tree) row)
directory_page tree row page kind small = subst (λ k. IsIn page (page_numbers k (map.values tree) row)) (sym kind) (subst (λ k. IsIn k (range_with_len 0 (dentry_blocks (map.values tree) row.ino))) (omega arith) (in_range 0 (dentry_blocks (map.values tree) row.ino) page small))

module _ (image : Image) (ckpt : Checkpoint) (base : Rows) (marks : List Mark) (means : MeansAt image ckpt base marks) (relaid : Relaid) (is : IsPacked base (rolled base marks) relaid) where
  -- the base's
  module _ (ino page at : ℕ) (out : set.contains relaid.directories ino ≡ false) (unmarked : IsUnmarked image ckpt ino) (its : IsBasePage image ckpt ino page at) where
    row : (row : Row) × (map.get base ino ≡ Some row)
    row = row_of image ckpt means.sound base means.is_base ino its.reached

    own : IsBaseRow image ckpt ino row.0
    own = means.is_base.rows ino row.0 row.1

    not_out : row.0.kind ≡ Directory → ⊥
    not_out kind = true≢false (sym ((is.all ino).1 (row.0, row.1, kind)) ∙ out)

    base_page : row.0.kind ≡ Regular → IsSome (map.get row.0.pages page)
    base_page kind =
        let content : HasContent image ckpt own.inode Regular row.0 = subst (λ k. HasContent image ckpt own.inode k row.0) kind own.content in
        let same : own.inode ≡ its.inode = same_some own.inode its.inode (sym own.is.there ∙ its.is.there) in
        let address : page_address image ckpt own.inode page ≡ at = ap (λ inode. page_address image ckpt inode page) same ∙ its.address in
        ap is_some (content.1 page its.within ∙ ap (block_there image) address) ∙ some_block image at its.there

    base_listed : IsIn page (page_numbers row.0.kind (map.values (rolled base marks)) row.0)
    base_listed = by_kind row.0.kind refl
      where
        by_kind : (kind : Kind) → row.0.kind ≡ kind → IsIn page (page_numbers row.0.kind (map.values (rolled base marks)) row.0)
        by_kind Regular e = file_page (rolled base marks) row.0 page e (base_page e)
        by_kind Directory e = absurd (not_out e)

    kept_page : IsRowPage (rolled base marks) ino page
    kept_page = by_origin (from image ckpt base marks means ino)
      where
        by_origin : Origin image ckpt base ino (rolled base marks) → IsRowPage (rolled base marks) ino page
        by_origin (of_base none same) = record { row = row.0; there = same ∙ row.1; listed = base_listed }
        by_origin (of_mark place mark last at_mark of_ino there) = absurd (unmarked place (block_in (chain image ckpt) place) last.marked last.own)

  -- those of a mark
  module _ (ino place page at : ℕ) (last : IsLastMark image ckpt ino place) (within : page < page_limit) (address : marked_address image ckpt (chain image ckpt) place page ≡ at) (some : at ≢ 0) where
    one_place : (other : ℕ) → IsLastMark image ckpt ino other → other ≡ place
    one_place other later =
        let one = last.last other (block_in (chain image ckpt) other) later.marked later.own in
        let two = later.last place (block_in (chain image ckpt) place) last.marked last.own in
        omega (arith, one, two)

    marked_some : (other : ℕ) (mark : Mark) → IsLastMark image ckpt ino other → IsMark image ckpt base (chain image ckpt) other mark → IsSome (map.get mark.row.pages page)
    marked_some other mark later its =
        ap is_some (its.pages.blocks page within ∙ ap (block_there image) (ap (λ k. marked_address image ckpt (chain image ckpt) k page) (one_place other later) ∙ address)) ∙ some_block image at some

    marked_page : IsRowPage (rolled base marks) ino page
    marked_page = by_origin (from image ckpt base marks means ino)
      where
        by_origin : Origin image ckpt base ino (rolled base marks) → IsRowPage (rolled base marks) ino page
        by_origin (of_base none same) = absurd (none place (block_in (chain image ckpt) place) last.marked last.own)
        by_origin (of_mark other mark later its of_ino there) = record {
          row = mark.row;
          there = there;
          listed = file_page (rolled base marks) mark.row page (regular image ckpt means.sound base means.is_base other mark its later.marked) (marked_some other mark later its);
        }

  -- and those of a directory
  module _ (ino : ℕ) (has : set.contains relaid.directories ino ≡ true) where
    pub blocks_are : length (packed_blocks (is.packed ino has).dentries) ≡ dentry_blocks (map.values (rolled base marks)) ino
    blocks_are = blocks_counted (rolled base marks) ino (is.packed ino has).dentries (is.packed ino has).are

    pub few_blocks : (page : ℕ) → IsSome (map.get relaid.pages (ino, page)) → page < dentry_blocks (map.values (rolled base marks)) ino
    few_blocks page some = let small = ((is.packed ino has).packed.pages page).0 some in omega (arith, small, blocks_are)

    pub laid_page : (page : ℕ) → IsSome (map.get relaid.pages (ino, page)) → IsRowPage (rolled base marks) ino page
    laid_page page some =
        let of_base_row = (is.all ino).0 has in
        let there = directory_kept image ckpt base marks means ino of_base_row.0 of_base_row.1 of_base_row.2 in
        let own = keyed image ckpt base marks means ino of_base_row.0 there in
        record {
          row = of_base_row.0;
          there = there;
          listed = directory_page (rolled base marks) of_base_row.0 page of_base_row.2 (subst (λ n. page < dentry_blocks (map.values (rolled base marks)) n) (sym own) (few_blocks page some));
        }

  pub row_page : (ino page at : ℕ) → IsTreePage image ckpt relaid ino page at → IsRowPage (rolled base marks) ino page
  row_page ino page at (kept out unmarked its) = kept_page ino page at out unmarked its
  row_page ino page at (marked place last within address some) = marked_page ino place page at last within address some
  row_page ino page at (laid there) = laid_page ino (is.only ino page at there).0 page (ap is_some there)
