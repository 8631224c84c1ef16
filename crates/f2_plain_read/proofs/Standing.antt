-- How a file of a tree stands in an image that is laid out.
use Rattle.std.proofs.Common.{◌≡◌, ◌≢◌, ℕ, ◌<◌, ◌≤◌, List, length, refl, sym, ap, subst, ◌∙◌, arith, inl, inr}
use Rattle.std.specs.Prelude.{Option, Some, None, ◌⊎◌}
use Rattle.std.specs.Cmp.{nat_cmp_total}
use Rattle.std.specs.FinMap as map
use Rattle.std.specs.FinMap.{nat_cmp-IsAntisymmetric}
use Rattle.std.proofs.lemmas.Bool.{cases_lt}
use Rattle.f2_format.specs.Offsets.{inode_pages}
use Rattle.f2_image.specs.Images.{Image, block_at}
use Rattle.f2_image.specs.Packs.{Checkpoint}
use Rattle.f2_laws.proofs.Passed.{kinds_differ}
use Rattle.f2_model.specs.Content.{PageMap}
use Rattle.f2_model.specs.Tree.{Rows}
use Rattle.f2_model.specs.declared.rows.Row.{Row}
use Rattle.f2_model.specs.declared.rows.Kind.TheVariants.{Regular}
use Rattle.f2_laid.specs.Laid.{PlaceMap, at_of, page_at, page_in, IsInodeOf, IsLaidAt, HoldsContent, file, directory}
use Rattle.f2_laid.specs.declared.places.Place.{Place}
use Rattle.f2_laid.specs.declared.stored.Stored.{Stored}
use Rattle.f2_plain_read.specs.Reads.{IsLaidOut}
use Rattle.f2_plain_read.specs.Files.{ArePagesAt, ReachesPast}
use Rattle.f2_plain_read.proofs.InImage.{sized_fits, sized_geometry, node_within, data_within}

pub one_some : {X : Type 0} (a b : X) → Some a ≡ Some b → a ≡ b
one_some a b e = cc

pub some_none : {X : Type 0} (a : X) → Some a ≡ None → ⊥
some_none a e = cc

-- a file of a tree stands at an address
pub record Stands (image : Image) (tree : Rows) (stood : PlaceMap) (ino where_at : ℕ) : Type 0 where
  pub row : Row
  pub place : Place
  pub in_tree : map.get tree ino ≡ Some row
  pub own : row.ino ≡ ino
  pub there : map.get stood ino ≡ Some place
  pub at_place : place.at ≡ where_at
  pub inode : IsInodeOf row place (block_at image where_at)
  pub content : HoldsContent tree row (page_in image place)

module _ (image : Image) (tree : Rows) (stored : Stored) (out : IsLaidOut image tree stored) where
  abbrev ckpt : Checkpoint
  ckpt = out.laid.0

  abbrev laid : IsLaidAt image ckpt tree stored
  laid = out.laid.1

  pub geometry_is : ckpt.geom ≡ stored.geometry
  geometry_is = laid.geom

  -- where a file stands that has an address
  place_there : (ino where_at : ℕ) → where_at ≡ at_of (map.get stored.places ino) → where_at ≢ 0 → (place : Place) × (map.get stored.places ino ≡ Some place) × (place.at ≡ where_at)
  place_there ino where_at is there = by_place (map.get stored.places ino) refl is
    where
      by_place : (o : Option Place) → map.get stored.places ino ≡ o → where_at ≡ at_of o → (place : Place) × (map.get stored.places ino ≡ Some place) × (place.at ≡ where_at)
      by_place None e h = absurd (there h)
      by_place (Some place) e h = (place, e, sym h)

  pub stands : (ino where_at : ℕ) → where_at ≡ at_of (map.get stored.places ino) → where_at ≢ 0 → Stands image tree stored.places ino where_at
  stands ino where_at is there =
      let at = place_there ino where_at is there in
      let has = laid.only ino at.0 at.1 in
      let own : has.0.ino ≡ ino = out.storable.good.keyed ino has.0 has.1 in
      let found = laid.rows ino has.0 has.1 in
      let same : found.place ≡ at.0 = one_some found.place at.0 (sym found.there ∙ ap (map.get stored.places) own ∙ at.1) in
      record {
        row = has.0;
        place = at.0;
        in_tree = has.1;
        own = own;
        there = at.1;
        at_place = at.2;
        inode = subst (λ (n : ℕ). IsInodeOf has.0 at.0 (block_at image n)) at.2 (subst (λ (p : Place). IsInodeOf has.0 p (block_at image p.at)) same found.inode);
        content = subst (λ (p : Place). HoldsContent tree has.0 (page_in image p)) same found.content;
      }

  pub node_there : (ino : ℕ) (place : Place) → map.get stored.places ino ≡ Some place → 0 < place.at
  node_there ino place there = (node_within ckpt.geom (sized_geometry image ckpt.geom laid.checkpoint.sized) place.at (laid.placed.nodes ino place there)).1

  -- a node and a page that are there stand in the image
  pub node_short : (ino where_at : ℕ) → Stands image tree stored.places ino where_at → (where_at < length image) × (0 < where_at)
  node_short ino where_at s =
      let inside = node_within ckpt.geom (sized_geometry image ckpt.geom laid.checkpoint.sized) s.place.at (laid.placed.nodes ino s.place s.there) in
      (omega (arith, inside.0, sized_fits image ckpt.geom laid.checkpoint.sized, s.at_place), omega (arith, inside.1, s.at_place))

  pub no_page_past : (ino where_at : ℕ) (s : Stands image tree stored.places ino where_at) → ¬ (ReachesPast image s.place)
  no_page_past ino where_at s past =
      let inside = data_within ckpt.geom (sized_geometry image ckpt.geom laid.checkpoint.sized) (page_at s.place past.0) (laid.placed.pages ino past.0 s.place s.there past.1.0) in
      omega (arith, inside.0, sized_fits image ckpt.geom laid.checkpoint.sized, past.1.1)

  -- the pages of a regular file
  pub pages_are : (ino where_at : ℕ) (s : Stands image tree stored.places ino where_at) → s.row.kind ≡ Regular → (pages : PageMap) → ArePagesAt image s.place pages → pages ≡ s.row.pages
  pages_are ino where_at s kind pages are = by_content s.content
    where
      by_content : HoldsContent tree s.row (page_in image s.place) → pages ≡ s.row.pages
      by_content (directory dentries other bound held) = absurd (kinds_differ (sym kind ∙ other))
      by_content (file same held) = map.same_map nat_cmp_total nat_cmp-IsAntisymmetric pages s.row.pages (λ page. by_page page (cases_lt page inode_pages) (map.get s.row.pages page) refl)
        where
          by_page : (page : ℕ) → (page < inode_pages) ⊎ (inode_pages ≤ page) → (o : Option (List ℕ)) → map.get s.row.pages page ≡ o → map.get pages page ≡ map.get s.row.pages page
          by_page page (inl within) o e = are.within page within ∙ held page within
          by_page page (inr past) None e = are.past page past ∙ sym e
          by_page page (inr past) (Some bytes) e = absurd (let short = out.storable.short_files ino page s.row bytes s.in_tree e in omega (arith, past, short))
