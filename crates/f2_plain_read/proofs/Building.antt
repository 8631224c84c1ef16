-- What is built of the files of an image that is laid out, one ino after another.
use Rattle.std.proofs.Common.{◌≡◌, ◌≢◌, ℕ, ◌+◌, ◌<◌, ◌≤◌, Bool, List, [], refl, sym, ap, subst, ◌∙◌, arith, inl, inr}
use Rattle.std.specs.Prelude.{Option, Some, None, ◌⊎◌, if◌then◌else◌, option_map}
use Rattle.std.specs.Ordering.{nat_cmp}
use Rattle.std.specs.FinMap as map
use Rattle.std.proofs.lemmas.Bool.{lt-ltb, le-ltb, cases_lt}
use Rattle.f2_dentry_block.specs.Packed.{packed_blocks}
use Rattle.f2_format.specs.Dentry.{Dentry}
use Rattle.f2_format.specs.Geometry.{IsGeometry}
use Rattle.f2_image.specs.Images.{Image, block_at}
use Rattle.f2_laid.specs.Laid.{PlaceMap, at_of, page_in, AreDentries, HoldsContent, file, directory}
use Rattle.f2_laid.specs.declared.places.Place.{Place}
use Rattle.f2_laid.specs.declared.stored.Stored.{Stored}
use Rattle.f2_laws.proofs.Maps.{get_put, get_put-other}
use Rattle.f2_laws.proofs.Passed.{kinds_differ}
use Rattle.f2_laws.proofs.Places.{same_or_other}
use Rattle.f2_model.specs.Content.{PageMap}
use Rattle.f2_model.specs.Tree.{Rows}
use Rattle.f2_model.specs.declared.rows.Row.{Row}
use Rattle.f2_model.specs.declared.rows.Kind.{Kind}
use Rattle.f2_model.specs.declared.rows.Kind.TheVariants.{Regular, Directory}
use Rattle.f2_plain_read.specs.Bindings.{NameMap, with_names, AreFresh}
use Rattle.f2_plain_read.specs.Building.{bare, up_to, bound_of, bound_below, IsBuilt, AreBelow, TakesContent, IsTakable}
use Rattle.f2_plain_read.specs.Files.{IsFileIn, ArePagesAt, AreBlocks, size_in}
use Rattle.f2_plain_read.specs.Reads.{IsLaidOut}
use Rattle.f2_plain_read.specs.declared.built.Built.{Built}
use Rattle.f2_plain_read.specs.declared.files.File.{File}
use Rattle.f2_plain_read.proofs.Binding.{names_same, names_fresh, names_next}
use Rattle.f2_plain_read.proofs.InImage.{sized_geometry}
use Rattle.f2_plain_read.proofs.Listing.{are_blocks, no_fault, reads_back}
use Rattle.f2_plain_read.proofs.Standing.{Stands, node_there, pages_are, one_some, some_none}

-- a map up to the next ino
module _ {X : Type 0} (whole got : map.FinMap nat_cmp X) (ino : ℕ) where
  pub up_to-in : (limit q : ℕ) → q < limit → up_to limit whole q ≡ map.get whole q
  up_to-in limit q low = ap (λ (b : Bool). if b then map.get whole q else None) (lt-ltb q limit low)

  pub up_to-past : (limit q : ℕ) → limit ≤ q → up_to limit whole q ≡ None
  up_to-past limit q high = ap (λ (b : Bool). if b then map.get whole q else None) (le-ltb q limit high)

  up_to-other : (q : ℕ) → q ≢ ino → up_to ino whole q ≡ up_to (ino + 1) whole q
  up_to-other q other = by_place (cases_lt q ino)
    where
      by_place : (q < ino) ⊎ (ino ≤ q) → up_to ino whole q ≡ up_to (ino + 1) whole q
      by_place (inl low) = up_to-in ino q low ∙ sym (up_to-in (ino + 1) q (omega arith))
      by_place (inr high) = up_to-past ino q high ∙ sym (up_to-past (ino + 1) q (omega arith))

  up_to-here : up_to (ino + 1) whole ino ≡ map.get whole ino
  up_to-here = up_to-in (ino + 1) ino (omega arith)

  -- one more is there
  pub put_next : (x : X) → map.get whole ino ≡ Some x → ((q : ℕ) → map.get got q ≡ up_to ino whole q) → (q : ℕ) → map.get (map.insert got ino x) q ≡ up_to (ino + 1) whole q
  put_next x there before q = by_ino (same_or_other q ino)
    where
      by_ino : (q ≡ ino) ⊎ (q ≢ ino) → map.get (map.insert got ino x) q ≡ up_to (ino + 1) whole q
      by_ino (inl same) = subst (λ (n : ℕ). map.get (map.insert got ino x) n ≡ up_to (ino + 1) whole n) (sym same) (get_put got ino x ∙ sym there ∙ sym up_to-here)
      by_ino (inr other) = get_put-other got ino x q other ∙ before q ∙ up_to-other q other

  -- none is there
  pub none_next : map.get whole ino ≡ None → (q : ℕ) → up_to ino whole q ≡ up_to (ino + 1) whole q
  none_next none q = by_ino (same_or_other q ino)
    where
      by_ino : (q ≡ ino) ⊎ (q ≢ ino) → up_to ino whole q ≡ up_to (ino + 1) whole q
      by_ino (inl same) = subst (λ (n : ℕ). up_to ino whole n ≡ up_to (ino + 1) whole n) (sym same) (up_to-past ino ino (omega arith) ∙ sym none ∙ sym up_to-here)
      by_ino (inr other) = up_to-other q other

  pub up_to-none : (q : ℕ) → up_to 0 whole q ≡ None
  up_to-none q = up_to-past 0 q (omega arith)

module _ (image : Image) (tree : Rows) (stored : Stored) (out : IsLaidOut image tree stored) where
  geometry : IsGeometry stored.geometry
  geometry = subst IsGeometry out.laid.1.geom (sized_geometry image out.laid.0.geom out.laid.1.checkpoint.sized)

  module _ (ino where_at : ℕ) (s : Stands image tree stored.places ino where_at) where
    -- a directory's pages are the blocks of its names
    record Lists (pages : PageMap) : Type 0 where
      dentries : List Dentry
      are : AreDentries tree ino dentries
      blocks : AreBlocks pages (packed_blocks dentries)

    lists : s.row.kind ≡ Directory → (pages : PageMap) → ArePagesAt image s.place pages → Lists pages
    lists kind pages at = by_content s.content
      where
        by_content : HoldsContent tree s.row (page_in image s.place) → Lists pages
        by_content (file other held) = absurd (kinds_differ (sym other ∙ kind))
        by_content (directory dentries same are held) =
            let here : AreDentries tree ino dentries = subst (λ (n : ℕ). AreDentries tree n dentries) s.own are in
            record {
              dentries = dentries;
              are = here;
              blocks = are_blocks stored.geometry geometry tree out.storable ino dentries here s.row s.in_tree kind image s.place pages at held;
            }

    -- no file is in a regular one
    no_child : s.row.kind ≡ Regular → (q : ℕ) (row : Row) → map.get tree q ≡ Some row → row.parent ≢ ino
    no_child kind q row there up =
        let over = out.storable.good.parents q row there in
        let same : over.0 ≡ s.row = one_some over.0 s.row (sym over.1 ∙ ap (map.get tree) up ∙ s.in_tree) in
        kinds_differ (sym kind ∙ ap (λ (r : Row). r.kind) (sym same) ∙ over.2)

    -- what its content comes to
    record Comes (size : ℕ) (new : NameMap) (left : PageMap) : Type 0 where
      size_is : size ≡ s.row.size
      pages_is : left ≡ s.row.pages
      names_are : (q : ℕ) → map.get new q ≡ bound_below (ino + 1) (map.get tree q)

    module _ (pages : PageMap) (at : ArePagesAt image s.place pages) (old : NameMap) (told : (q : ℕ) → map.get old q ≡ bound_below ino (map.get tree q)) where
      comes : (kind : Kind) → s.row.kind ≡ kind → (size : ℕ) (new : NameMap) (left : PageMap) → size ≡ size_in kind (block_at image where_at) → TakesContent kind ino pages old new left → Comes size new left
      comes Regular kind size new left is takes =
          record {
            size_is = is ∙ s.inode.own_size kind;
            pages_is = takes.0 ∙ pages_are image tree stored out ino where_at s kind pages at;
            names_are = λ q. ap (λ (m : NameMap). map.get m q) takes.1 ∙ told q ∙ names_same tree ino (no_child kind) q;
          }
      comes Directory kind size new left is takes =
          let listed = lists kind pages at in
          let good = (out.storable.good.pages ino s.row s.in_tree).directory kind in
          record {
            size_is = is ∙ sym good.0;
            pages_is = takes.0 ∙ sym good.1;
            names_are = λ q.
                ap (λ (m : NameMap). map.get m q) (takes.1 (packed_blocks listed.dentries) listed.blocks ∙ ap (with_names ino old) (reads_back stored.geometry geometry tree out.storable ino listed.dentries listed.are))
                ∙ names_next stored.geometry geometry tree out.storable ino listed.dentries listed.are old told q;
          }

      takable : (kind : Kind) → s.row.kind ≡ kind → IsTakable kind ino pages old
      takable Regular kind = tt
      takable Directory kind =
          let listed = lists kind pages at in (
            packed_blocks listed.dentries,
            listed.blocks,
            no_fault stored.geometry geometry tree out.storable ino listed.dentries listed.are,
            subst (AreFresh ino old) (sym (reads_back stored.geometry geometry tree out.storable ino listed.dentries listed.are)) (names_fresh stored.geometry geometry tree out.storable ino listed.dentries listed.are old told),
          )

    module _ (built : Built) (is : IsBuilt tree stored.places ino built) (got : File) (is_in : IsFileIn (block_at image where_at) s.row s.place got) (pages : PageMap) (at : ArePagesAt image s.place pages) where
      pub takable_here : IsTakable got.kind ino pages built.names
      takable_here = subst (λ (k : Kind). IsTakable k ino pages built.names) (sym is_in.kind) (takable pages at built.names is.names s.row.kind refl)

      pub built_next : (new : NameMap) (left : PageMap) → TakesContent got.kind ino pages built.names new left
          → IsBuilt tree stored.places (ino + 1) (record {
            rows = map.insert built.rows ino (record { ino = ino; kind = got.kind; parent = 0; name = []; size = got.size; pages = left });
            names = new;
            places = map.insert built.places ino got.place;
          })
      built_next new left takes =
          let came = comes pages at built.names is.names s.row.kind refl got.size new left is_in.size (subst (λ (k : Kind). TakesContent k ino pages built.names new left) is_in.kind takes) in
          record {
            rows = λ q. ap (λ (r : Row). map.get (map.insert built.rows ino r) q) (row_is came.size_is came.pages_is) ∙ rows_next q;
            names = came.names_are;
            places = λ q. ap (λ (p : Place). map.get (map.insert built.places ino p) q) is_in.place ∙ put_next stored.places built.places ino s.place s.there is.places q;
          }
        where
          made : ℕ → Kind → ℕ → PageMap → Row
          made i k z p = record { ino = i; kind = k; parent = 0; name = []; size = z; pages = p }

          row_is : got.size ≡ s.row.size → left ≡ s.row.pages → made ino got.kind got.size left ≡ bare s.row
          row_is size_is pages_is =
              ap (λ (i : ℕ). made i got.kind got.size left) (sym s.own)
              ∙ ap (λ (k : Kind). made s.row.ino k got.size left) is_in.kind
              ∙ ap (λ (z : ℕ). made s.row.ino s.row.kind z left) size_is
              ∙ ap (made s.row.ino s.row.kind s.row.size) pages_is

          rows_next : (q : ℕ) → map.get (map.insert built.rows ino (bare s.row)) q ≡ option_map bare (up_to (ino + 1) tree q)
          rows_next q = by_ino (same_or_other q ino)
            where
              by_ino : (q ≡ ino) ⊎ (q ≢ ino) → map.get (map.insert built.rows ino (bare s.row)) q ≡ option_map bare (up_to (ino + 1) tree q)
              by_ino (inl same) =
                  ap (map.get (map.insert built.rows ino (bare s.row))) same ∙ get_put built.rows ino (bare s.row) ∙ ap (option_map bare) (sym s.in_tree ∙ sym (up_to-here tree built.rows ino) ∙ ap (up_to (ino + 1) tree) (sym same))
              by_ino (inr other) = get_put-other built.rows ino (bare s.row) q other ∙ is.rows q ∙ ap (option_map bare) (up_to-other tree built.rows ino q other)

  -- an ino without a file
  module _ (ino : ℕ) (none : 0 ≡ at_of (map.get stored.places ino)) where
    no_place : map.get stored.places ino ≡ None
    no_place = by_place (map.get stored.places ino) refl none
      where
        by_place : (o : Option Place) → map.get stored.places ino ≡ o → 0 ≡ at_of o → map.get stored.places ino ≡ None
        by_place None e h = e
        by_place (Some place) e h = absurd (let inside = node_there image tree stored out ino place e in omega (arith, inside, h))

    no_row : map.get tree ino ≡ None
    no_row = by_row (map.get tree ino) refl
      where
        by_row : (o : Option Row) → map.get tree ino ≡ o → map.get tree ino ≡ None
        by_row None e = e
        by_row (Some row) e =
            let found = out.laid.1.rows ino row e in
            absurd (some_none found.place (sym found.there ∙ ap (map.get stored.places) (out.storable.good.keyed ino row e) ∙ no_place))

    pub built_none : (built : Built) → IsBuilt tree stored.places ino built → IsBuilt tree stored.places (ino + 1) built
    built_none built is =
        record {
          rows = λ q. is.rows q ∙ ap (option_map bare) (none_next tree tree ino no_row q);
          names = λ q. is.names q ∙ names_same tree ino without q;
          places = λ q. is.places q ∙ none_next stored.places stored.places ino no_place q;
        }
      where
        without : (q : ℕ) (row : Row) → map.get tree q ≡ Some row → row.parent ≢ ino
        without q row there up =
            let over = out.storable.good.parents q row there in
            some_none over.0 (sym over.1 ∙ ap (map.get tree) up ∙ no_row)

  -- before the first file
  pub built_nothing : (built : Built) → built.rows ≡ map.empty → built.names ≡ map.empty → built.places ≡ map.empty → IsBuilt tree stored.places 0 built
  built_nothing built rows names places =
      record {
        rows = λ q. ap (λ (m : Rows). map.get m q) rows ∙ map.get-empty nat_cmp q ∙ ap (option_map bare) (sym (up_to-none tree tree 0 q));
        names = λ q. ap (λ (m : NameMap). map.get m q) names ∙ map.get-empty nat_cmp q ∙ sym (nothing (map.get tree q));
        places = λ q. ap (λ (m : PlaceMap). map.get m q) places ∙ map.get-empty nat_cmp q ∙ sym (up_to-none stored.places stored.places 0 q);
      }
    where
      nothing : (o : Option Row) → bound_below 0 o ≡ None
      nothing None = refl
      nothing (Some row) = ap (λ (b : Bool). if b then bound_of row else None) (le-ltb row.parent 0 (omega arith))

-- the same of equal parts
pub built_as : (tree : Rows) (stood : PlaceMap) (limit : ℕ) (names : NameMap) (rows others : Rows) (places more : PlaceMap) → others ≡ rows → more ≡ places
    → IsBuilt tree stood limit (record { rows = rows; names = names; places = places }) → IsBuilt tree stood limit (record { rows = others; names = names; places = more })
built_as tree stood limit names rows others places more same also is =
    subst (λ (p : PlaceMap). IsBuilt tree stood limit (record { rows = others; names = names; places = p })) (sym also)
    (subst (λ (r : Rows). IsBuilt tree stood limit (record { rows = r; names = names; places = places })) (sym same) is)

-- one ino more
pub keys_next : (limit ino : ℕ) (places new : PlaceMap) (place : Place) → new ≡ map.insert places ino place → ino < limit → AreBelow limit places → AreBelow limit new
keys_next limit ino places new place is low before q there = by_ino (same_or_other q ino)
  where
    by_ino : (q ≡ ino) ⊎ (q ≢ ino) → q < limit
    by_ino (inl same) = omega (arith, same, low)
    by_ino (inr other) = before q (λ none. there (ap (λ (m : PlaceMap). map.get m q) is ∙ get_put-other places ino place q other ∙ none))

-- a row with an empty name
pub unnamed : (rows : Rows) (ino at : ℕ) (kind : Kind) (size : ℕ) (pages : PageMap) (name : List ℕ) → name ≡ []
    → map.insert rows at (record { ino = ino; kind = kind; parent = 0; name = name; size = size; pages = pages }) ≡ map.insert rows at (record { ino = ino; kind = kind; parent = 0; name = []; size = size; pages = pages })
unnamed rows ino at kind size pages name none = ap (λ (n : List ℕ). map.insert rows at (made n)) none
  where
    made : List ℕ → Row
    made n = record { ino = ino; kind = kind; parent = 0; name = n; size = size; pages = pages }
