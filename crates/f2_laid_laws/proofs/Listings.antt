-- The dentries of the directories of a tree, and where they stand in an image.
use Rattle.std.proofs.Common.{◌≡◌, ◌≢◌, ◌⊎◌, inl, inr, ℕ, ◌<◌, ◌==◌, nat_le, ◌&&◌, true, List, [], ◌∷◌, length, map as map_list, refl, sym, ap, ◌∙◌, subst, arith}
use Rattle.std.specs.Prelude.{Option, Some, None, All}
use Rattle.std.specs.List.{flat_map, slice_get, list_all}
use Rattle.std.specs.Ordering.{nat_cmp, eq_by_cmp, is_eq}
use Rattle.std.specs.Cmp.{tied_itself, Equal-is}
use Rattle.std.specs.Cmp.Lexicographic.{slice_cmp, nat_list_cmp_total}
use Rattle.std.specs.FinMap as map
use Rattle.std.specs.FinMap.{nat_cmp-IsAntisymmetric, slice_cmp-IsAntisymmetric}
use Rattle.std.specs.FinSet as set
use Rattle.std.proofs.lemmas.Bool.{and_parts, leb-true, eq-eqb, ne_eqb, cond-false}
use Rattle.std.proofs.lemmas.List.Elements.{All-weaker, recursion_from_All}
use Rattle.f2_format.specs.Offsets.{inode_pages}
use Rattle.f2_format.specs.Geometry.{ImageGeometry, IsGeometry}
use Rattle.f2_format.specs.Dentry.{Dentry, dentries_of, dentry_at, begins_name, REGULAR_TYPE, DIRECTORY_TYPE, dentry_fault}
use Rattle.f2_format.specs.Packing.{blocks_of_names}
use Rattle.f2_model.specs.Rising.{rising}
use Rattle.f2_model.specs.Names.{is_name_byte, is_good_name}
use Rattle.f2_model.specs.Tree as model
use Rattle.f2_model.specs.Tree.{Rows, ROOT, names_under, names_in}
use Rattle.f2_model.specs.Count.{dentry_blocks}
use Rattle.f2_model.specs.declared.rows.Row.{Row}
use Rattle.f2_model.specs.declared.rows.Kind.{Kind}
use Rattle.f2_model.specs.declared.rows.Kind.TheVariants.{Regular, Directory}
use Rattle.f2_model.proofs.RisingLemmas.{rises, contains-rising}
use Rattle.f2_dentry_block.specs.Packed.{IsFitting, HasNameLength, names_of, packed_blocks}
use Rattle.f2_dentry_block.proofs.PackedBlocks.{length-packed_blocks}
use Rattle.f2_dentry_block.proofs.ReadBack.{packed-reads_back}
use Rattle.f2_image.specs.Images.{Image, block_at}
use Rattle.f2_image.specs.Packs.{Checkpoint}
use Rattle.f2_image.specs.Nodes.{block_there}
use Rattle.f2_image.specs.Bases.{IsInode, IsDirectoryBlock, HasDentryAt}
use Rattle.f2_image.specs.Reached.{AllDiffer}
use Rattle.f2_image.specs.Faults.{type_of_kind}
use Rattle.f2_laid.specs.Laid.{page_at, page_in, IsStorable, IsBound, AreDentries, HoldsContent, file, directory as of_directory}
use Rattle.f2_laid.specs.declared.stored.Stored.{Stored}
use Rattle.f2_laid_laws.proofs.Members.{IsIn, in_map, from_map, in_flat_map, in_filter, in_any, from_any, of_all, within_list}
use Rattle.f2_laid_laws.proofs.Differ.{rising_differ}
use Rattle.f2_laid_laws.proofs.Values.{value_in}
use Rattle.f2_laid_laws.proofs.Blocks.{IsAt, in_blocks, from_blocks, StandsSomewhere, one_place}
use Rattle.f2_laid_laws.proofs.Homes.{IsHome, block_is_there, there_some, inode_block, is_inode, page_found, page_short}

-- the name of a dentry
abbrev pub name_of : Dentry → List ℕ
name_of dentry = dentry.name

-- what holds of all members of a list holds of each
pub each_of : {X : Type 0} (P : X → Type 0) (xs : List X) → All P xs → (x : X) → IsIn x xs → P x
each_of P xs all x there = of_all P x xs (recursion_from_All P xs all) there

-- a name is among the names in order where it is among the names
in_rising : (names : List (List ℕ)) (name : List ℕ) → IsIn name names → IsIn name (rising (set.from_list {R = slice_cmp nat_cmp} names))
in_rising names name there =
    let members = set.from_list {R = slice_cmp nat_cmp} names in
    let tied : eq_by_cmp (slice_cmp nat_cmp) name name ≡ true = ap is_eq (tied_itself nat_list_cmp_total name) in
    let contained : set.contains members name ≡ true = set.contains-from_list nat_list_cmp_total names name ∙ in_any (eq_by_cmp (slice_cmp nat_cmp) name) name names tied there in
    let found = from_any (eq_by_cmp (slice_cmp nat_cmp) name) (rising members) (sym (contains-rising nat_list_cmp_total members name) ∙ contained) in
    let same : name ≡ found.0 = slice_cmp-IsAntisymmetric nat_cmp-IsAntisymmetric name found.0 ((Equal-is (slice_cmp nat_cmp name found.0)).0 found.2) in
    subst (λ n. IsIn n (rising members)) (sym same) found.1

-- a row's name is among those in its directory
named_under : (rows : List Row) (row : Row) → IsIn row rows → row.ino ≢ ROOT → IsIn row.name (names_under rows row.parent)
named_under rows row there not_root =
    let one : ℕ × List ℕ = (row.parent, row.name) in
    let own : model.names_of row ≡ one ∷ [] = cond-false (row.ino == ROOT) [] (one ∷ []) (ne_eqb row.ino ROOT not_root) in
    let here : IsIn one (model.names_of row) = subst (IsIn one) (sym own) (inl refl) in
    in_map (λ (at : ℕ × List ℕ). at.1) one _ (in_filter (λ (at : ℕ × List ℕ). at.0 == row.parent) one _ (eq-eqb row.parent row.parent refl) (in_flat_map model.names_of row one rows there here))

-- what a file and a directory hold
pub pages_held : (tree : Rows) (row : Row) (contents : ℕ → Option (List ℕ)) → HoldsContent tree row contents → row.kind ≡ Regular → (page : ℕ) → page < inode_pages → contents page ≡ map.get row.pages page
pages_held tree row contents (file is held) kind = held
pages_held tree row contents (of_directory dentries is are held) kind = absurd (other (sym is ∙ kind))
  where
    other : Directory ≡ Regular → ⊥
    other e = cc

pub record HoldsDentries (tree : Rows) (row : Row) (contents : ℕ → Option (List ℕ)) : Type 0 where
  pub dentries : List Dentry
  pub are : AreDentries tree row.ino dentries
  pub held : (page : ℕ) → page < inode_pages → contents page ≡ slice_get (packed_blocks dentries) page

pub dentries_held : (tree : Rows) (row : Row) (contents : ℕ → Option (List ℕ)) → HoldsContent tree row contents → row.kind ≡ Directory → HoldsDentries tree row contents
dentries_held tree row contents (file is held) kind = absurd (other (sym is ∙ kind))
  where
    other : Regular ≡ Directory → ⊥
    other e = cc
dentries_held tree row contents (of_directory dentries is are held) kind = record { dentries = dentries; are = are; held = held }

-- the dentries of a directory fit their fields
name_fits : (name : List ℕ) → is_good_name name ≡ true → HasNameLength name
name_fits name good =
    let bytes = and_parts (nat_le 1 (length name) && nat_le (length name) 255 && list_all is_name_byte name) _ good in
    let sizes = and_parts (nat_le 1 (length name) && nat_le (length name) 255) _ bytes.0 in
    let both = and_parts (nat_le 1 (length name)) _ sizes.0 in
    record { some = leb-true 1 (length name) both.0; most = leb-true (length name) 255 both.1 }

type_fits : (kind : Kind) (type : ℕ) → type ≡ type_of_kind kind → (type ≡ REGULAR_TYPE) ⊎ (type ≡ DIRECTORY_TYPE)
type_fits Regular type is = inl is
type_fits Directory type is = inr is

module _ (geom : ImageGeometry) (geometry : IsGeometry geom) (tree : Rows) (can : IsStorable geom tree) where
  bound_fits : (directory : ℕ) (dentry : Dentry) → IsBound tree directory dentry → IsFitting dentry
  bound_fits directory dentry bound =
      let low = can.numbered dentry.ino bound.row bound.there in
      let most = geometry.most_nat in
      record {
        name = name_fits dentry.name (subst (λ name. is_good_name name ≡ true) bound.named (can.good.names dentry.ino bound.row bound.there bound.below));
        ino = omega (arith, low, most);
        type = type_fits bound.row.kind dentry.type bound.typed;
      }

  module _ (directory : ℕ) (dentries : List Dentry) (are : AreDentries tree directory dentries) where
    all_fit : All IsFitting dentries
    all_fit = All-weaker (IsBound tree directory) IsFitting (bound_fits directory) dentries are.bound

    pub no_fault : All (λ block. dentry_fault block ≡ None) (packed_blocks dentries)
    no_fault = (packed-reads_back dentries all_fit).sound

    read_back : flat_map dentries_of (packed_blocks dentries) ≡ dentries
    read_back = (packed-reads_back dentries all_fit).names

    pub bound_at : (page slot : ℕ) (dentry : Dentry) → IsAt (packed_blocks dentries) page slot dentry → IsBound tree directory dentry
    bound_at page slot dentry at = each_of (IsBound tree directory) dentries are.bound dentry (subst (IsIn dentry) read_back (in_blocks (packed_blocks dentries) page slot dentry at))

    names_differ : AllDiffer (map_list name_of (flat_map dentries_of (packed_blocks dentries)))
    names_differ =
        let rising_names : AllDiffer (rising (names_in (map.values tree) directory)) = rising_differ nat_list_cmp_total _ (rises (names_in (map.values tree) directory)) in
        subst AllDiffer (sym are.names ∙ ap (map_list name_of) (sym read_back)) rising_names

    -- one name stands at one place
    pub one_name : (page slot more place : ℕ) (a b : Dentry) → IsAt (packed_blocks dentries) page slot a → IsAt (packed_blocks dentries) more place b → a.name ≡ b.name → (page ≡ more) × (slot ≡ place)
    one_name page slot more place a b at_a at_b same = one_place name_of (packed_blocks dentries) names_differ page slot more place a b at_a at_b same

    -- each row of the directory has a dentry in it
    pub named_at : (ino : ℕ) (row : Row) → map.get tree ino ≡ Some row → ino ≢ ROOT → row.parent ≡ directory → (dentry : Dentry) × StandsSomewhere (packed_blocks dentries) dentry × (dentry.ino ≡ ino)
    named_at ino row there not_root parent =
        let keyed = can.good.keyed ino row there in
        let under = named_under (map.values tree) row (value_in tree ino row there) (λ root. not_root (sym keyed ∙ root)) in
        let here : IsIn row.name (names_of dentries) = subst (IsIn row.name) (sym are.names) (in_rising (names_under (map.values tree) directory) row.name (subst (λ d. IsIn row.name (names_under (map.values tree) d)) parent under)) in
        let found = from_map name_of row.name dentries here in
        let bound = each_of (IsBound tree directory) dentries are.bound found.0 found.1 in
        let stands = from_blocks (packed_blocks dentries) found.0 (subst (IsIn found.0) (sym read_back) found.1) in
        (found.0, stands, sym (can.good.apart ino found.0.ino row bound.row there bound.there not_root bound.below (parent ∙ sym bound.parent) (sym found.2 ∙ sym bound.named)))

    -- a directory has as many blocks as are counted
    pub blocks_counted : length (packed_blocks dentries) ≡ dentry_blocks (map.values tree) directory
    blocks_counted = length-packed_blocks dentries ∙ ap blocks_of_names are.names

-- what a directory of a tree that is laid out holds, seen from the image
module _ (image : Image) (ckpt : Checkpoint) (tree : Rows) (stored : Stored) (can : IsStorable ckpt.geom tree) (geometry : IsGeometry ckpt.geom) (ino : ℕ) (row : Row) (there : map.get tree ino ≡ Some row)
    (at : IsHome image ckpt tree stored ino row) (held : HoldsDentries tree row (page_in image at.place)) where
  -- a block of it
  pub block_held : (page address : ℕ) → IsDirectoryBlock image ckpt ino page address → slice_get (packed_blocks held.dentries) page ≡ Some (block_at image address)
  block_held page address block =
      let stands : page_at at.place page ≡ address = sym (page_found image ckpt tree stored ino row at Directory block.inode page block.is block.within) ∙ block.at_page in
      let short = page_short image ckpt tree stored ino row at page (λ none. block.there (sym stands ∙ none)) in
      sym (held.held page short) ∙ ap (block_there image) stands ∙ block_is_there image address block.there

  pub seen_at : (page slot : ℕ) (dentry : Dentry) → HasDentryAt image ckpt ino page slot dentry → IsAt (packed_blocks held.dentries) page slot dentry
  seen_at page slot dentry has = record {
    block = block_at image has.at;
    there = block_held page has.at has.block;
    within = has.within;
    begins = has.begins;
    is = has.is;
  }

  pub shown_at : row.kind ≡ Directory → (page slot : ℕ) (dentry : Dentry) → IsAt (packed_blocks held.dentries) page slot dentry → HasDentryAt image ckpt ino page slot dentry
  shown_at kind page slot dentry is =
      let few = can.short_directories ino row there kind in
      let counted = blocks_counted ckpt.geom geometry tree can row.ino held.dentries held.are in
      let own = ap (dentry_blocks (map.values tree)) at.own in
      let within = within_list (packed_blocks held.dentries) page is.block is.there in
      let short : page < inode_pages = omega arith in
      let block = there_some image (page_at at.place page) is.block (held.held page short ∙ is.there) in
      record {
        at = page_at at.place page;
        block = record {
          inode = inode_block image ckpt tree stored ino row at;
          is = subst (λ k. IsInode image ckpt ino k (inode_block image ckpt tree stored ino row at)) kind (is_inode image ckpt tree stored ino row at);
          within = omega arith;
          at_page = page_found image ckpt tree stored ino row at row.kind _ page (is_inode image ckpt tree stored ino row at) (omega arith);
          there = block.0;
        };
        within = is.within;
        begins = ap (λ bytes. begins_name bytes slot) block.1 ∙ is.begins;
        is = ap (λ bytes. dentry_at bytes slot) block.1 ∙ is.is;
      }
