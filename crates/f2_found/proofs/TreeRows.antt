-- The rows that were made are those of the tree.
use Rattle.std.proofs.Common.{◌≡◌, ◌⊎◌, inl, inr, ℕ, ◌<◌, ◌≤◌, List, refl, sym, ap, ◌∙◌, subst, arith}
use Rattle.std.specs.Prelude.{Option, Some, None}
use Rattle.std.specs.Ordering.{nat_cmp}
use Rattle.std.specs.FinMap as map
use Rattle.std.proofs.lemmas.Bool.{cases_lt}
use Rattle.f2_format.specs.Geometry.{nid_limit}
use Rattle.f2_format.specs.Offsets.{page_limit}
use Rattle.f2_model.specs.Content.{PageMap}
use Rattle.f2_model.specs.Tree.{Rows}
use Rattle.f2_model.specs.State.{Mark}
use Rattle.f2_model.specs.declared.rows.Row.{Row}
use Rattle.f2_model.specs.declared.rows.Kind.{Kind}
use Rattle.f2_model.specs.declared.rows.Kind.TheVariants.{Regular, Directory}
use Rattle.f2_image.specs.Images.{Image, block_at}
use Rattle.f2_image.specs.Packs.{Checkpoint}
use Rattle.f2_image.specs.Bases.{HasContent}
use Rattle.f2_overlay.specs.declared.rolls.Roll.{Roll}
use Rattle.f2_overlay.proofs.Based.{list_of_row}
use Rattle.f2_overlay_laws.specs.Rolled.{IsRollLike, AreAlikeRolled}
use Rattle.f2_recover.specs.declared.nodes.PageAt.{PageAt}
use Rattle.f2_recover.specs.declared.rows.BaseRow.{BaseRow}
use Rattle.f2_recover.specs.declared.walk.Walk.{Walk}
use Rattle.f2_recover_laws.specs.Sound.{IsRowLike}
use Rattle.f2_found.specs.Found.{IsFoundRow, AreFound}
use Rattle.f2_found.specs.Made.{Rolls, IsOfRoll, IsOfFile, IsMade, AreMadeTo}
use Rattle.f2_found.specs.declared.rows.FoundRow.{FoundRow}
use Rattle.f2_found.proofs.Alike.{entries_at, of_map, of_list, of_none, listed_in_order, list_in_order}
use Rattle.f2_found.proofs.Places.{roll_below, base_below}
use Rattle.f2_found.proofs.Trees.{IsTree, tree, alike, row_from, roll_from, roll_within, row_within}

not_both : Directory ≡ Regular → ⊥
not_both e = cc

module _ (image : Image) (ckpt : Checkpoint) (walk : Walk) (rolls : Rolls) (base : Rows) (marks : List Mark) (is : IsTree image ckpt walk rolls base marks) where
  -- a directory has neither size nor pages
  empty_directory : (ino : ℕ) (row : Row) → map.get (tree image ckpt walk rolls base marks is) ino ≡ Some row → row.kind ≡ Directory → (row.size ≡ 0) × (row.pages ≡ map.empty)
  empty_directory ino row there directory = by (row_from image ckpt walk rolls base marks is ino row there)
    where
      by : (map.get base ino ≡ Some row) ⊎ ((row.ino ≡ ino) × (row.kind ≡ Regular)) → (row.size ≡ 0) × (row.pages ≡ map.empty)
      by (inl old) = let at = is.is_base.rows ino row old in subst (λ k. HasContent image ckpt at.inode k row) directory at.content
      by (inr file) = absurd (not_both (sym directory ∙ file.1))

  of_roll : (ino : ℕ) (row : Row) (roll : Roll) (found : FoundRow) → map.get rolls ino ≡ Some roll → IsRollLike image row roll → IsOfRoll ckpt.geom.blocks roll found → IsFoundRow image row found
  of_roll ino row roll found there like made = record {
    kind = made.kind ∙ sym like.kind;
    size = made.size ∙ sym like.size;
    pages = of_map (block_at image) row.pages roll.pages like.pages
        ∙ ap (λ (list : List PageAt). entries_at (block_at image) list) (sym (made.pages (listed_in_order roll.pages (roll_from image ckpt walk rolls base marks is ino roll there).at.within) (roll_below image ckpt walk rolls base marks is ino roll there)));
  }

  module _ (ino : ℕ) (row : Row) (old : BaseRow) (found : FoundRow) (in_tree : map.get (tree image ckpt walk rolls base marks is) ino ≡ Some row) (there : map.get walk.rows ino ≡ Some old) (like : IsRowLike image row old) (made : IsOfFile ckpt.geom.blocks old.file found) where
    of_file : old.file.kind ≡ Regular → IsFoundRow image row found
    of_file regular =
        let own : row.kind ≡ Regular = like.kind ∙ regular in
        let list = list_of_row image ckpt walk is.read ino old there in
        let order = list_in_order old.file.nodes.pages.pages old.file.nodes.list.items list in
        record {
          kind = made.kind ∙ sym like.kind;
          size = made.size regular ∙ sym (like.size own);
          pages = of_list (block_at image) row.pages page_limit old.file.nodes.pages.pages old.file.nodes.list.items list order.rising (like.pages own)
              ∙ ap (λ (list : List PageAt). entries_at (block_at image) list) (sym (made.pages regular order (base_below image ckpt walk rolls base marks is ino old there)));
        }

    of_directory : old.file.kind ≡ Directory → IsFoundRow image row found
    of_directory directory =
        let empty = empty_directory ino row in_tree (like.kind ∙ directory) in
        record {
          kind = made.kind ∙ sym like.kind;
          size = made.no_size directory ∙ sym empty.0;
          pages = of_none (block_at image) row.pages (λ q. ap (λ (m : PageMap). map.get m q) empty.1 ∙ map.get-empty nat_cmp q) ∙ ap (λ (list : List PageAt). entries_at (block_at image) list) (sym (made.no_pages directory));
        }

    of_base : (kind : Kind) → old.file.kind ≡ kind → IsFoundRow image row found
    of_base Regular e = of_file e
    of_base Directory e = of_directory e

  found : (ino : ℕ) (row : Option Row) (roll : Option Roll) (old : Option BaseRow) (made : Option FoundRow) → map.get (tree image ckpt walk rolls base marks is) ino ≡ row → map.get rolls ino ≡ roll → map.get walk.rows ino ≡ old
      → AreAlikeRolled image row roll old → IsMade ckpt.geom.blocks roll old made → AreFound image row made
  found ino None None None None t r b like is_made = tt
  found ino None None None (Some row) t r b like is_made = absurd is_made
  found ino None None (Some old) made t r b like is_made = absurd like
  found ino None (Some roll) old made t r b like is_made = absurd like
  found ino (Some row) None None made t r b like is_made = absurd like
  found ino (Some row) None (Some old) None t r b like is_made = absurd is_made
  found ino (Some row) None (Some old) (Some made) t r b like is_made = of_base ino row old made t b like is_made old.file.kind refl
  found ino (Some row) (Some roll) old None t r b like is_made = absurd is_made
  found ino (Some row) (Some roll) old (Some made) t r b like is_made = of_roll ino row roll made r like is_made

  module _ (made : map.FinMap nat_cmp FoundRow) (to : AreMadeTo ckpt.geom.blocks rolls walk.rows (nid_limit ckpt.geom) made) where
    -- past the table is no row
    past : (ino : ℕ) → nid_limit ckpt.geom ≤ ino → (roll : Option Roll) (old : Option BaseRow) → map.get rolls ino ≡ roll → map.get walk.rows ino ≡ old → IsMade ckpt.geom.blocks roll old (map.get made ino)
    past ino high (Some roll) old r b = let low = roll_within image ckpt walk rolls base marks is ino roll r in absurd (omega (arith, low, high))
    past ino high None (Some old) r b = let low = row_within image ckpt walk rolls base marks is ino old b in absurd (omega (arith, low, high))
    past ino high None None r b = subst (IsMade ckpt.geom.blocks None None) (sym (to.above ino high)) tt

    made_at : (ino : ℕ) → (ino < nid_limit ckpt.geom) ⊎ (nid_limit ckpt.geom ≤ ino) → IsMade ckpt.geom.blocks (map.get rolls ino) (map.get walk.rows ino) (map.get made ino)
    made_at ino (inl low) = to.below ino low
    made_at ino (inr high) = past ino high (map.get rolls ino) (map.get walk.rows ino) refl refl

    pub rows_found : (ino : ℕ) → AreFound image (map.get (tree image ckpt walk rolls base marks is) ino) (map.get made ino)
    rows_found ino =
        found ino (map.get (tree image ckpt walk rolls base marks is) ino) (map.get rolls ino) (map.get walk.rows ino) (map.get made ino) refl refl refl (alike image ckpt walk rolls base marks is ino) (made_at ino (cases_lt ino (nid_limit ckpt.geom)))
