-- A packed layout may be taken for the tree of a sound image of whole blocks.
use Rattle.std.proofs.Common.{◌≡◌, ℕ, ◌<◌, ◌≤◌, true, List, [], ◌∷◌, All, IsSome, inl, inr, is_some, sym, ap, ◌∙◌, subst, arith}
use Rattle.std.specs.List.{sum_by}
use Rattle.std.specs.FinMap as map
use Rattle.std.specs.FinSet as set
use Rattle.std.proofs.lemmas.List.Elements.{All-weaker}
use Rattle.std.proofs.lemmas.List.Sums.{sum_by-cons}
use Rattle.std.proofs.lemmas.Option.{slice_get-get_or}
use Rattle.f2_format.specs.Offsets.{page_limit}
use Rattle.f2_format.specs.Geometry.{ImageGeometry, IsGeometry, data_third}
use Rattle.f2_format.specs.Inode.{SIZE_LIMIT}
use Rattle.f2_format.specs.Dentry.{Dentry}
use Rattle.f2_disk.specs.Contents.{IsBlock}
use Rattle.f2_model.specs.Count.{dentry_blocks, data_of_kind, data_of_row}
use Rattle.f2_model.specs.Tree.{Rows}
use Rattle.f2_model.specs.State.{Mark, rolled}
use Rattle.f2_model.specs.declared.rows.Row.{Row}
use Rattle.f2_dentry_block.specs.Packed.{packed_blocks}
use Rattle.f2_image.specs.Images.{Image, IsSized, by_first, by_second}
use Rattle.f2_image.specs.Packs.{Checkpoint}
use Rattle.f2_image.specs.Meanings.{MeansAt}
use Rattle.f2_image_laws.specs.Rolled.{image_limits}
use Rattle.f2_image_laws.proofs.RolledTree.{rolled_tree_proper}
use Rattle.f2_room_laws.specs.ProperTrees.{IsProperTree}
use Rattle.f2_stored.specs.Places.{Places, IsBound, HasNames}
use Rattle.f2_stored.specs.Trees.{Unwritten}
use Rattle.f2_block_laws.specs.Directories.{HasShortInos}
use Rattle.f2_block_laws.proofs.Listings.{bound_fits, has_names, page_block}
use Rattle.f2_block_laws.proofs.Members.{IsIn}
use Rattle.f2_block_laws.proofs.Values.{value_in}
use Rattle.f2_mount_laws.specs.Taken.{HasBlock, IsTakenOver}
use Rattle.f2_mount_laws.specs.Existing.{Relaid, places_of, MayBeRelaid}
use Rattle.f2_mount_laws.proofs.Exists.{taken_over}
use Rattle.f2_mount_laws.proofs.Proper.{image, left, image_blocks, image_means}
use Rattle.f2_packed_laws.specs.Packed.{IsPacked, PackedLayoutsMayBeTaken, SoundImagesAreTakenOver, KeptTreesAreTakenOver}
use Rattle.f2_packed_laws.proofs.Bytes.{name_bytes}
use Rattle.f2_packed_laws.proofs.Laid.{exist}
use Rattle.f2_packed_laws.proofs.Pages.{few_blocks}
use Rattle.f2_packed_laws.proofs.Rolled.{keyed, directory_kept, new_parent, few_pages}
use Rattle.f2_packed_laws.proofs.Room.{have_room}
use Rattle.f2_packed_laws.proofs.Whole.{IsByte, IsWritable, packed_whole}

sized_geometry : (image : Image) (geom : ImageGeometry) → IsSized image geom → IsGeometry geom
sized_geometry image geom (by_first right is) = subst IsGeometry (sym is) right.geometry
sized_geometry image geom (by_second none right is) = subst IsGeometry (sym is) right.geometry

-- what is counted of one row is counted of all
one_counted : (count : Row → ℕ) (row : Row) (rows : List Row) → IsIn row rows → count row ≤ sum_by count rows
one_counted count row [] there = absurd there
one_counted count row (other ∷ rows) (inl same) =
    let sum = sum_by-cons count other rows in
    let own = ap count same in
    omega (arith, sum, own)
one_counted count row (other ∷ rows) (inr there) =
    let sum = sum_by-cons count other rows in
    let rest = one_counted count row rows there in
    omega (arith, sum, rest)

-- a third of a data zone has no page past the limit
third_within : (geom : ImageGeometry) → IsGeometry geom → data_third geom < page_limit
third_within geom geometry = let most = geometry.most_blocks in omega (arith, most)

module _ (image : Image) (ckpt : Checkpoint) (base : Rows) (marks : List Mark) (blocks : All IsBlock image) (means : MeansAt image ckpt base marks) (relaid : Relaid) (is : IsPacked base (rolled base marks) relaid) where
  geometry : IsGeometry ckpt.geom
  geometry = sized_geometry image ckpt.geom means.checkpoint.sized

  proper : IsProperTree (image_limits ckpt.geom) (rolled base marks)
  proper = rolled_tree_proper image ckpt base marks blocks means

  short : HasShortInos (rolled base marks)
  short ino row there =
      let below = (proper.numbers ino row there).1 in
      let most = geometry.most_nat in
      omega (arith, below, most)

  -- a directory's dentries can be written
  module _ (ino : ℕ) (has : set.contains relaid.directories ino ≡ true) where
    abbrev dentries : List Dentry
    dentries = (is.packed ino has).dentries

    writable : (dentry : Dentry) → IsBound (rolled base marks) ino dentry → IsWritable dentry
    writable dentry bound = record {
      fitting = bound_fits SIZE_LIMIT (rolled base marks) proper.good short ino dentry bound;
      name = subst (All IsByte) bound.named (name_bytes image blocks ckpt base marks means dentry.ino bound.row bound.there bound.below);
    }

    all_blocks : All IsBlock (packed_blocks dentries)
    all_blocks = packed_whole dentries (All-weaker (IsBound (rolled base marks) ino) IsWritable writable dentries (is.packed ino has).are.bound)

    names : HasNames (rolled base marks) (places_of relaid) ino
    names = has_names SIZE_LIMIT (rolled base marks) proper.good short ino dentries (is.packed ino has).are (places_of relaid) (is.packed ino has).packed

    its_block : (page : ℕ) → IsSome (map.get relaid.pages (ino, page)) → HasBlock (places_of relaid) ino page
    its_block page some =
        let small = ((is.packed ino has).packed.pages page).0 some in
        let there = slice_get-get_or (packed_blocks dentries) page [] small in
        let own = page_block SIZE_LIMIT (rolled base marks) proper.good short ino dentries (is.packed ino has).are (places_of relaid) (is.packed ino has).packed page _ there in
        record {
          block = _;
          whole = all_blocks page [] small;
          right = own.0;
          names = own.1;
        }

    within : (page : ℕ) → IsSome (map.get relaid.pages (ino, page)) → page < page_limit
    within page some =
        let of_base = (is.all ino).0 has in
        let there = directory_kept image ckpt base marks means ino of_base.0 of_base.1 of_base.2 in
        let rows = map.values (rolled base marks) in
        let own = keyed image ckpt base marks means ino of_base.0 there in
        let its : data_of_row rows of_base.0 ≡ dentry_blocks rows ino = ap (λ kind. data_of_kind kind rows of_base.0) of_base.2 ∙ ap (dentry_blocks rows) own in
        let counted = one_counted (data_of_row rows) of_base.0 rows (value_in (rolled base marks) ino of_base.0 there) in
        let few = few_pages image ckpt base marks means in
        let third = third_within ckpt.geom geometry in
        let small = few_blocks image ckpt base marks means relaid is ino has page some in
        omega (arith, its, counted, few, third, small)

  may : MayBeRelaid base (rolled base marks) relaid
  may = record {
    kinds = λ ino has. (is.all ino).0 has;
    named = λ ino row there absent. (is.all row.parent).1 (new_parent image ckpt base marks means ino row there absent);
    pages = λ ino page at there. (let own = is.only ino page at there in (own.0, within ino own.0 page (ap is_some there), own.1));
    names = names;
    blocks = λ ino page has there. its_block ino has page there;
  }

pub may_be_taken : PackedLayoutsMayBeTaken
may_be_taken image ckpt base marks relaid blocks means is = may image ckpt base marks blocks means relaid is

-- base and marks of two images are taken over of the one, where the other's blocks are whole
taken_by : (image whole : Image) (ckpt other : Checkpoint) (base : Rows) (marks : List Mark) → MeansAt image ckpt base marks → All IsBlock whole → MeansAt whole other base marks
    → (places : Places) × ((unwritten : Unwritten) × IsTakenOver image ckpt base marks (rolled base marks) places unwritten)
taken_by image whole ckpt other base marks means blocks same =
    let layout = exist image ckpt base marks means in
    taken_over image ckpt base marks layout.0 means (may_be_taken whole other base marks layout.0 blocks same layout.1) (have_room image ckpt base marks layout.0 means layout.1)

pub sound_taken_over : SoundImagesAreTakenOver
sound_taken_over image ckpt base marks blocks means = taken_by image image ckpt ckpt base marks means blocks means

pub kept_taken_over : KeptTreesAreTakenOver
kept_taken_over lists layout state packs keeps none =
    taken_by layout.base.image (image lists layout state packs keeps none) layout.base.ckpt (left lists layout state packs keeps none).ckpt state.base state.marks keeps.base.means
    (image_blocks lists layout state packs keeps none) (image_means lists layout state packs keeps none)
