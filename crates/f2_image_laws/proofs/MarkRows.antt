-- The rows of the marks of a sound image, each by itself.
use Rattle.std.proofs.Common.{◌≡◌, ◌≢◌, inl, inr, ℕ, ◌<◌, ◌≤◌, ◌==◌, ◌&&◌, Bool, true, false, IsTrue, All, List, take, refl, sym, ap, ◌∙◌, subst, arith}
use Rattle.std.specs.Prelude.{Option, Some, None}
use Rattle.std.specs.FinMap as map
use Rattle.std.proofs.lemmas.Option.{same_Some}
use native.Mathlib.Decide.{ℕ_discrete, dec_lt}
use Rattle.f2_format.specs.Offsets.{page_limit}
use Rattle.f2_format.specs.Geometry.{nid_limit}
use Rattle.f2_format.specs.Footer.{footer_nid, footer_ino, footer_offset, has_fsync_mark}
use Rattle.f2_format.specs.Inode.{inode_of, SIZE_LIMIT}
use Rattle.f2_disk.specs.Contents.{IsBlock}
use Rattle.f2_model.specs.Names.{is_good_name}
use Rattle.f2_model.specs.Tree.{Rows, ROOT, HasGoodPages}
use Rattle.f2_model.specs.State.{Mark}
use Rattle.f2_model.specs.declared.rows.Row.{Row}
use Rattle.f2_model.specs.declared.rows.Kind.{Kind}
use Rattle.f2_model.specs.declared.rows.Kind.TheVariants.{Regular, Directory}
use Rattle.f2_image.specs.Images.{Image, IsSized}
use Rattle.f2_image.specs.Packs.{Checkpoint}
use Rattle.f2_image.specs.Bases.{IsBase}
use Rattle.f2_image.specs.Chains.{chain, block_in, marked_address, IsNamed, IsMark}
use Rattle.f2_image.specs.Reached.{IsMarkedAt, IsMarkedPage, IsTaken}
use Rattle.f2_image.specs.Reached as reached
use Rattle.f2_image.specs.Faults.{IsSound, IsDirectoryOf, BringsName, IsPastSize}
use Rattle.f2_image.specs.Faults as faults
use Rattle.f2_image.proofs.OneName.{told_alone}
use Rattle.f2_image_laws.proofs.Sound.{no_bad_nat, no_bad_inode, no_bad_tree, none_without_parent, page_is_block}
use Rattle.f2_image_laws.proofs.Pages.{kinds_differ, good_pages}
use Rattle.f2_image_laws.proofs.BaseRows.{not_reached, directory_row}
use Rattle.f2_image_laws.proofs.Numbers.{same_of, not_less}

first_true : (a b : Bool) → (a && b) ≡ true → a ≡ true
first_true true b e = refl
first_true false b e = absurd (cc)

module _ (image : Image) (ckpt : Checkpoint) (sound : IsSound image ckpt) (base : Rows) (is_base : IsBase image ckpt base)
    (place : ℕ) (mark : Mark) (is : IsMark image ckpt base (chain image ckpt) place mark) (marked : IsMarkedAt image ckpt place (block_in (chain image ckpt) place)) where
  own : footer_ino (block_in (chain image ckpt) place) ≡ mark.ino
  own = sym is.ino

  -- only files are marked
  pub no_directory : ¬ (IsDirectoryOf image ckpt mark.ino)
  no_directory directory = no_bad_tree image ckpt sound mark.ino (faults.marked_directory place (block_in (chain image ckpt) place) marked own (inr directory))

  pub regular : mark.row.kind ≡ Regular
  regular = by_kind mark.row.kind refl
    where
      by_kind : (kind : Kind) → mark.row.kind ≡ kind → mark.row.kind ≡ Regular
      by_kind Regular e = e
      by_kind Directory e = absurd (no_bad_tree image ckpt sound mark.ino (faults.marked_directory place (block_in (chain image ckpt) place) marked own (inl (is.kind ∙ ap Some e))))

  -- an ino that a row can have
  taken : IsTaken image ckpt place (block_in (chain image ckpt) place)
  taken = reached.marked marked

  own_nid : footer_nid (block_in (chain image ckpt) place) ≡ mark.ino
  own_nid = by_test (ℕ_discrete (footer_nid (block_in (chain image ckpt) place)) (footer_ino (block_in (chain image ckpt) place)))
    where
      offset : footer_offset (block_in (chain image ckpt) place) ≡ 0
      offset = same_of (footer_offset (block_in (chain image ckpt) place)) 0 (first_true (footer_offset (block_in (chain image ckpt) place) == 0) (has_fsync_mark (block_in (chain image ckpt) place)) marked.marked)

      by_test : Dec (footer_nid (block_in (chain image ckpt) place) ≡ footer_ino (block_in (chain image ckpt) place)) → footer_nid (block_in (chain image ckpt) place) ≡ mark.ino
      by_test (yes same) = same ∙ own
      by_test (no differ) = absurd (no_bad_nat image ckpt sound _ (faults.no_ino place (block_in (chain image ckpt) place) taken refl offset differ))

  pub above : 4 ≤ mark.ino
  above = by_order (dec_lt mark.ino 4)
    where
      by_order : Dec (mark.ino < 4) → 4 ≤ mark.ino
      by_order (yes small) = absurd (no_bad_nat image ckpt sound mark.ino (faults.no_nid place (block_in (chain image ckpt) place) taken own_nid (inl small)))
      by_order (no large) = omega (arith, large)

  pub below : mark.ino < nid_limit ckpt.geom
  below = by_order (dec_lt mark.ino (nid_limit ckpt.geom))
    where
      by_order : Dec (mark.ino < nid_limit ckpt.geom) → mark.ino < nid_limit ckpt.geom
      by_order (yes small) = small
      by_order (no past) = absurd (no_bad_nat image ckpt sound mark.ino (faults.no_nid place (block_in (chain image ckpt) place) taken own_nid (inr (not_less mark.ino (nid_limit ckpt.geom) past))))

  -- the name of a file of the base stays, another one's comes with the mark
  pub keeps : (old : Row) → map.get base mark.ino ≡ Some old → (mark.row.parent ≡ old.parent) × (mark.row.name ≡ old.name)
  keeps old there =
      let named : IsNamed base (block_in (chain image ckpt) place) mark.row (Some old) = subst (IsNamed base (block_in (chain image ckpt) place) mark.row) there is.named in
      (named.1, named.2)

  pub brings : map.get base mark.ino ≡ None → BringsName image ckpt place mark.ino mark.row.parent mark.row.name
  brings none = record {
    block = block_in (chain image ckpt) place;
    marked = marked;
    own = own;
    fresh = not_reached image ckpt sound base is_base mark.ino none;
    under = sym named.1;
    named = sym named.2;
  }
    where
      block : List ℕ
      block = block_in (chain image ckpt) place

      named : (mark.row.ino ≢ ROOT) × (mark.row.parent ≡ (inode_of block).parent) × (mark.row.name ≡ take (inode_of block).name_length (inode_of block).name)
      named = told_alone mark.row _ _ (subst (IsNamed base block mark.row) none is.named)

  -- it is a good one, in a directory of the base
  pub brings_good : map.get base mark.ino ≡ None → IsTrue (is_good_name mark.row.name)
  brings_good none = by_test (is_good_name mark.row.name) refl
    where
      by_test : (b : Bool) → is_good_name mark.row.name ≡ b → is_good_name mark.row.name ≡ true
      by_test true e = e
      by_test false e = absurd (no_bad_tree image ckpt sound mark.ino (faults.marked_bad_name place mark.row.parent mark.row.name (brings none) e))

  pub brings_under : map.get base mark.ino ≡ None → (up : Row) × (map.get base mark.row.parent ≡ Some up) × (up.kind ≡ Directory)
  brings_under none = by_row (map.get base mark.row.parent) refl
    where
      has_one : ¬ ¬ (IsDirectoryOf image ckpt mark.row.parent)
      has_one lacks = none_without_parent image ckpt sound mark.ino (record {
        place = place;
        parent = mark.row.parent;
        name = mark.row.name;
        brings = brings none;
        none = lacks;
      })

      by_kind : (up : Row) → map.get base mark.row.parent ≡ Some up → (kind : Kind) → up.kind ≡ kind → (up : Row) × (map.get base mark.row.parent ≡ Some up) × (up.kind ≡ Directory)
      by_kind up there Directory e = (up, there, e)
      by_kind up there Regular e = absurd (has_one (λ directory. (
          let found = directory_row image ckpt sound base is_base mark.row.parent directory in
          let same : up ≡ found.0 = same_Some up found.0 (sym there ∙ found.1) in
          kinds_differ (sym e ∙ ap (λ (r : Row). r.kind) same ∙ found.2)
          )))

      by_row : (o : Option Row) → map.get base mark.row.parent ≡ o → (up : Row) × (map.get base mark.row.parent ≡ Some up) × (up.kind ≡ Directory)
      by_row None e = absurd (has_one (λ directory. not_reached image ckpt sound base is_base mark.row.parent e directory.0))
      by_row (Some up) e = by_kind up e up.kind refl

  -- its pages are good
  pub mark_pages : All IsBlock image → IsSized image ckpt.geom → HasGoodPages SIZE_LIMIT mark.row
  mark_pages blocks sized = good_pages image mark.row (λ page. marked_address image ckpt (chain image ckpt) place page) (record {
    regular = regular;
    size = size;
    within = is.pages.within;
    blocks = is.pages.blocks;
    whole = λ page small there. page_is_block image ckpt sound blocks sized mark.ino page (marked_address image ckpt (chain image ckpt) place page) (inr (is_page page small there));
    before = λ page small there past. no_bad_tree image ckpt sound mark.ino (faults.marked_past_size place page (marked_address image ckpt (chain image ckpt) place page) (block_in (chain image ckpt) place) marked own small refl there
        (subst (λ n. IsPastSize image n page (marked_address image ckpt (chain image ckpt) place page)) is.size past));
  })
    where
      is_page : (page : ℕ) → page < page_limit → marked_address image ckpt (chain image ckpt) place page ≢ 0 → IsMarkedPage image ckpt mark.ino page (marked_address image ckpt (chain image ckpt) place page)
      is_page page small there = record {
        place = place;
        inode = block_in (chain image ckpt) place;
        marked = marked;
        own = own;
        within = small;
        address = refl;
        there = there;
      }

      size : mark.row.size ≤ SIZE_LIMIT
      size = by_order (dec_lt SIZE_LIMIT (inode_of (block_in (chain image ckpt) place)).size)
        where
          by_order : Dec (SIZE_LIMIT < (inode_of (block_in (chain image ckpt) place)).size) → mark.row.size ≤ SIZE_LIMIT
          by_order (yes large) = absurd (no_bad_inode image ckpt sound _ (faults.in_log place (block_in (chain image ckpt) place) marked refl (inr (inr large))))
          by_order (no small) = subst (λ n. n ≤ SIZE_LIMIT) (sym is.size) (not_less SIZE_LIMIT (inode_of (block_in (chain image ckpt) place)).size small)
