-- The dentries of a directory of a tree, packed into the blocks of its pages.
use Rattle.std.proofs.Common.{◌≡◌, ◌≢◌, ◌⊎◌, inl, inr, ℕ, ◌==◌, nat_le, ◌&&◌, true, List, [], ◌∷◌, length, map as map_list, refl, sym, ap, ◌∙◌, subst}
use Rattle.std.specs.Prelude.{Some, None, All}
use Rattle.std.specs.List.{flat_map, slice_get, list_all}
use Rattle.std.specs.Ordering.{nat_cmp, eq_by_cmp, is_eq}
use Rattle.std.specs.Cmp.{tied_itself, Equal-is}
use Rattle.std.specs.Cmp.Lexicographic.{slice_cmp, nat_list_cmp_total}
use Rattle.std.specs.FinMap as map
use Rattle.std.specs.FinMap.{nat_cmp-IsAntisymmetric, slice_cmp-IsAntisymmetric}
use Rattle.std.specs.FinSet as set
use Rattle.std.proofs.lemmas.Bool.{and_parts, leb-true, eq-eqb, ne_eqb, cond-false}
use Rattle.std.proofs.lemmas.List.Elements.{All-weaker, recursion_from_All}
use Rattle.std.proofs.lemmas.Option.{same_Some, slice_get-get_or, slice_get_within}
use Rattle.f2_format.specs.Dentry.{Dentry, dentries_of, REGULAR_TYPE, DIRECTORY_TYPE, dentry_fault}
use Rattle.f2_format.specs.Packing.{blocks_of_names}
use Rattle.f2_model.specs.Rising.{rising}
use Rattle.f2_model.specs.Names.{is_name_byte, is_good_name}
use Rattle.f2_model.specs.Tree as model
use Rattle.f2_model.specs.Tree.{Rows, ROOT, IsGoodTree, names_under, names_in}
use Rattle.f2_model.specs.Count.{dentry_blocks}
use Rattle.f2_model.specs.declared.rows.Row.{Row}
use Rattle.f2_model.specs.declared.rows.Kind.{Kind}
use Rattle.f2_model.specs.declared.rows.Kind.TheVariants.{Regular, Directory}
use Rattle.f2_model.proofs.RisingLemmas.{rises, contains-rising}
use Rattle.f2_dentry_block.specs.Packed.{IsFitting, HasNameLength, names_of, packed_blocks}
use Rattle.f2_dentry_block.proofs.PackedBlocks.{length-packed_blocks}
use Rattle.f2_dentry_block.proofs.ReadBack.{packed-reads_back}
use Rattle.f2_image.specs.Reached.{AllDiffer}
use Rattle.f2_image.specs.Faults.{type_of_kind}
use Rattle.f2_stored.specs.Places.{Places, dentries_at, IsDentryAt, IsBound, HasNames, IsPageBlock}
use Rattle.f2_block_laws.specs.Directories.{AreDentries, HasShortInos, ArePacked}
use Rattle.f2_block_laws.proofs.Members.{IsIn, in_map, from_map, in_flat_map, in_filter, in_any, from_any, in_list, of_all}
use Rattle.f2_block_laws.proofs.Differ.{rising_differ}
use Rattle.f2_block_laws.proofs.Values.{value_in}
use Rattle.f2_block_laws.proofs.Parts.{IsAt, in_blocks, from_blocks, one_place}

-- the name of a dentry
name_of : Dentry → List ℕ
name_of dentry = dentry.name

-- what holds of all members of a list holds of each
each_of : {X : Type 0} (P : X → Type 0) (xs : List X) → All P xs → (x : X) → IsIn x xs → P x
each_of P xs all x there = of_all P x xs (recursion_from_All P xs all) there

-- a name is among the names in order where it is among the names
in_rising : (names : List (List ℕ)) (name : List ℕ) → IsIn name names → IsIn name (rising (set.from_list {R = slice_cmp nat_cmp} names))
in_rising names name there =
    let members = set.from_list {R = slice_cmp nat_cmp} names in
    let tied : eq_by_cmp (slice_cmp nat_cmp) name name ≡ true = ap is_eq (tied_itself nat_list_cmp_total name) in
    let contained : set.contains members name ≡ true = set.contains-from_list nat_list_cmp_total names name ∙ in_any (eq_by_cmp (slice_cmp nat_cmp) name) name names tied there in
    let found = from_any (eq_by_cmp (slice_cmp nat_cmp) name) (rising members) (sym (contains-rising nat_list_cmp_total members name) ∙ contained) in
    let same : name ≡ found.0 = slice_cmp-IsAntisymmetric nat_cmp-IsAntisymmetric name found.0 ((Equal-is (slice_cmp nat_cmp name found.0)).0 found.2) in
    subst (λ n. IsIn n (rising members)) (sym same) found.1

-- a row's name is among those in its directory
named_under : (rows : List Row) (row : Row) → IsIn row rows → row.ino ≢ ROOT → IsIn row.name (names_under rows row.parent)
named_under rows row there not_root =
    let one : ℕ × List ℕ = (row.parent, row.name) in
    let own : model.names_of row ≡ one ∷ [] = cond-false (row.ino == ROOT) [] (one ∷ []) (ne_eqb row.ino ROOT not_root) in
    let here : IsIn one (model.names_of row) = subst (IsIn one) (sym own) (inl refl) in
    in_map (λ (at : ℕ × List ℕ). at.1) one _ (in_filter (λ (at : ℕ × List ℕ). at.0 == row.parent) one _ (eq-eqb row.parent row.parent refl) (in_flat_map model.names_of row one rows there here))

-- the dentries of a directory fit their fields
name_fits : (name : List ℕ) → is_good_name name ≡ true → HasNameLength name
name_fits name good =
    let bytes = and_parts (nat_le 1 (length name) && nat_le (length name) 255 && list_all is_name_byte name) _ good in
    let sizes = and_parts (nat_le 1 (length name) && nat_le (length name) 255) _ bytes.0 in
    let both = and_parts (nat_le 1 (length name)) _ sizes.0 in
    record { some = leb-true 1 (length name) both.0; most = leb-true (length name) 255 both.1 }

type_fits : (kind : Kind) (type : ℕ) → type ≡ type_of_kind kind → (type ≡ REGULAR_TYPE) ⊎ (type ≡ DIRECTORY_TYPE)
type_fits Regular type is = inl is
type_fits Directory type is = inr is

-- a directory has as many blocks as are counted
pub blocks_counted : (tree : Rows) (directory : ℕ) (dentries : List Dentry) → AreDentries tree directory dentries → length (packed_blocks dentries) ≡ dentry_blocks (map.values tree) directory
blocks_counted tree directory dentries are = length-packed_blocks dentries ∙ ap blocks_of_names are.names

module _ (most_size : ℕ) (tree : Rows) (good : IsGoodTree most_size tree) (short : HasShortInos tree) where
  pub bound_fits : (directory : ℕ) (dentry : Dentry) → IsBound tree directory dentry → IsFitting dentry
  bound_fits directory dentry bound = record {
    name = name_fits dentry.name (subst (λ name. is_good_name name ≡ true) bound.named (good.names dentry.ino bound.row bound.there bound.below));
    ino = short dentry.ino bound.row bound.there;
    type = type_fits bound.row.kind dentry.type bound.typed;
  }

  module _ (directory : ℕ) (dentries : List Dentry) (are : AreDentries tree directory dentries) where
    all_fit : All IsFitting dentries
    all_fit = All-weaker (IsBound tree directory) IsFitting (bound_fits directory) dentries are.bound

    no_fault : All (λ block. dentry_fault block ≡ None) (packed_blocks dentries)
    no_fault = (packed-reads_back dentries all_fit).sound

    read_back : flat_map dentries_of (packed_blocks dentries) ≡ dentries
    read_back = (packed-reads_back dentries all_fit).names

    bound_in : (dentry : Dentry) → IsIn dentry dentries → IsBound tree directory dentry
    bound_in dentry there = each_of (IsBound tree directory) dentries are.bound dentry there

    names_differ : AllDiffer (map_list name_of (flat_map dentries_of (packed_blocks dentries)))
    unfolding name_of
    names_differ =
        let rising_names : AllDiffer (rising (names_in (map.values tree) directory)) = rising_differ nat_list_cmp_total _ (rises (names_in (map.values tree) directory)) in
        subst AllDiffer (sym are.names ∙ ap (map_list name_of) (sym read_back)) rising_names

    -- each row of the directory has a dentry
    named_in : (ino : ℕ) (row : Row) → map.get tree ino ≡ Some row → ino ≢ ROOT → row.parent ≡ directory → (dentry : Dentry) × IsIn dentry dentries × (dentry.ino ≡ ino)
    unfolding name_of
    named_in ino row there not_root parent =
        let keyed = good.keyed ino row there in
        let under = named_under (map.values tree) row (value_in tree ino row there) (λ root. not_root (sym keyed ∙ root)) in
        let here : IsIn row.name (names_of dentries) = subst (IsIn row.name) (sym are.names) (in_rising (names_under (map.values tree) directory) row.name (subst (λ d. IsIn row.name (names_under (map.values tree) d)) parent under)) in
        let found = from_map name_of row.name dentries here in
        let bound = bound_in found.0 found.1 in
        (found.0, found.1, sym (good.apart ino found.0.ino row bound.row there bound.there not_root bound.below (parent ∙ sym bound.parent) (sym found.2 ∙ sym bound.named)))

    module _ (places : Places) (packed : ArePacked places directory dentries) where
      -- a dentry of a page stands in its packed block
      stands : (page place : ℕ) (dentry : Dentry) → IsDentryAt places directory page place dentry → IsAt dentries_of (packed_blocks dentries) page place dentry
      stands page place dentry at =
          let within = (packed.pages page).0 at.page_there in
          let block = slice_get-get_or (packed_blocks dentries) page [] within in
          record {
            block = _;
            there = block;
            is = ap (λ (list : List Dentry). slice_get list place) (sym (packed.told page _ block)) ∙ at.is;
          }

      shown : (page place : ℕ) (dentry : Dentry) → IsAt dentries_of (packed_blocks dentries) page place dentry → IsDentryAt places directory page place dentry
      shown page place dentry at = record {
        page_there = (packed.pages page).1 (slice_get_within (packed_blocks dentries) page at.block at.there);
        is = ap (λ (list : List Dentry). slice_get list place) (packed.told page at.block at.there) ∙ at.is;
      }

      bound_at : (page place : ℕ) (dentry : Dentry) → IsDentryAt places directory page place dentry → IsBound tree directory dentry
      bound_at page place dentry at = bound_in dentry (subst (IsIn dentry) read_back (in_blocks dentries_of (packed_blocks dentries) page place dentry (stands page place dentry at)))

      all_named : (ino : ℕ) (row : Row) → map.get tree ino ≡ Some row → ino ≢ ROOT → row.parent ≡ directory
          → (page place : ℕ) × ((dentry : Dentry) × IsDentryAt places directory page place dentry × (dentry.ino ≡ ino))
      all_named ino row there not_root parent =
          let found = named_in ino row there not_root parent in
          let at = from_blocks dentries_of (packed_blocks dentries) found.0 (subst (IsIn found.0) (sym read_back) found.1) in
          (at.page, at.place, (found.0, shown at.page at.place found.0 at.at, found.2))

      -- two dentries of one row have one name, so they stand at one place
      once : (page place other more : ℕ) (a b : Dentry) → IsDentryAt places directory page place a → IsDentryAt places directory other more b → a.ino ≡ b.ino → (page ≡ other) × (place ≡ more)
      unfolding name_of
      once page place other more a b at_a at_b same =
          let bound_a = bound_at page place a at_a in
          let bound_b = bound_at other more b at_b in
          let one : bound_a.row ≡ bound_b.row = same_Some bound_a.row bound_b.row (sym bound_a.there ∙ ap (map.get tree) same ∙ bound_b.there) in
          let names : a.name ≡ b.name = sym bound_a.named ∙ ap (λ (r : Row). r.name) one ∙ bound_b.named in
          one_place dentries_of name_of (packed_blocks dentries) names_differ page place other more a b (stands page place a at_a) (stands other more b at_b) names

      pub has_names : HasNames tree places directory
      has_names = record { bound = bound_at; all = all_named; once = once }

      pub page_block : (page : ℕ) (block : List ℕ) → slice_get (packed_blocks dentries) page ≡ Some block → (dentry_fault block ≡ None) × (dentries_of block ≡ dentries_at places directory page)
      page_block page block there = (each_of (λ bytes. dentry_fault bytes ≡ None) (packed_blocks dentries) no_fault block (in_list (packed_blocks dentries) page block there), sym (packed.told page block there))

-- the block of a page of a directory's row
module _ (places : Places) (row : Row) (page : ℕ) (block : List ℕ) (is : (dentry_fault block ≡ None) × (dentries_of block ≡ dentries_at places row.ino page)) where
  abbrev IsOfKind : Kind → Type 0
  IsOfKind Regular = map.get row.pages page ≡ Some block
  IsOfKind Directory = (dentry_fault block ≡ None) × (dentries_of block ≡ dentries_at places row.ino page)

  pub is_page_block : row.kind ≡ Directory → IsPageBlock places row page block
  is_page_block kind = subst IsOfKind (sym kind) is
