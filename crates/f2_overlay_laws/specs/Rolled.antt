-- The tree of an image whose base and node log were read: the last mark of each file over the base.
use Rattle.std.specs.Prelude.{◌≡◌, ℕ, List, length, Option, Some, None}
use Rattle.std.specs.Option.{option_map}
use Rattle.std.specs.Ordering.{nat_cmp}
use Rattle.std.specs.FinMap as map
use Rattle.f2_model.specs.Tree.{Rows}
use Rattle.f2_model.specs.State.{Mark, rolled}
use Rattle.f2_model.specs.declared.rows.Row.{Row}
use Rattle.f2_model.specs.declared.rows.Kind.TheVariants.{Regular}
use Rattle.f2_image.specs.Images.{Image, block_at}
use Rattle.f2_image.specs.Packs.{Checkpoint}
use Rattle.f2_image.specs.Bases.{IsBase}
use Rattle.f2_image.specs.Chains.{chain, marked_places, AreMarks}
use Rattle.f2_overlay.specs.Names.{HasRightMarks}
use Rattle.f2_overlay.specs.Rolls.{AreRolls}
use Rattle.f2_overlay.specs.declared.rolls.Roll.{Roll}
use Rattle.f2_recover.specs.Walking.{IsBaseRead}
use Rattle.f2_recover.specs.declared.rows.BaseRow.{BaseRow}
use Rattle.f2_recover.specs.declared.walk.Walk.{Walk}
use Rattle.f2_recover_laws.specs.Sound.{AreAlike}
use Rattle.f2_scan.specs.Laws.{HasNoLogFault}

-- a row of the tree is a file as its last mark has it
pub record IsRollLike (image : Image) (row : Row) (roll : Roll) : Type 0 where
  pub kind : row.kind ≡ Regular
  pub parent : row.parent ≡ roll.parent
  pub named : row.name ≡ roll.name
  pub size : row.size ≡ roll.size
  pub pages : (page : ℕ) → map.get row.pages page ≡ option_map (block_at image) (map.get roll.pages page)

-- a row of the rolled tree is that of the last mark of its file, where it has one, and else the base's
abbrev pub AreAlikeRolled : Image → Option Row → Option Roll → Option BaseRow → Type 0
AreAlikeRolled image None None base = AreAlike image None base
AreAlikeRolled image None (Some roll) base = ⊥
AreAlikeRolled image (Some row) None base = AreAlike image (Some row) base
AreAlikeRolled image (Some row) (Some roll) base = IsRollLike image row roll

abbrev pub RolledRowsAreAlike : Type 0
RolledRowsAreAlike =
    (image : Image) (ckpt : Checkpoint) (walk : Walk) (rolls : map.FinMap nat_cmp Roll) (base : Rows) (marks : List Mark) → IsBaseRead image ckpt walk → HasRightMarks image ckpt → AreRolls image ckpt walk rolls
    → IsBase image ckpt base → AreMarks image ckpt base marks → (ino : ℕ) → AreAlikeRolled image (map.get (rolled base marks) ino) (map.get rolls ino) (map.get walk.rows ino)

-- there are as many marks as marked blocks of the node log
abbrev pub MarksAreMarkedPlaces : Type 0
MarksAreMarkedPlaces = (image : Image) (ckpt : Checkpoint) (base : Rows) (marks : List Mark) → AreMarks image ckpt base marks → length marks ≡ length (marked_places (chain image ckpt))

-- an image whose base was read, and whose node log has none of its faults, has a tree
abbrev pub TreesAreThere : Type 0
TreesAreThere = (image : Image) (ckpt : Checkpoint) (walk : Walk) → IsBaseRead image ckpt walk → HasNoLogFault image ckpt → (base : Rows) × ((marks : List Mark) × (IsBase image ckpt base × AreMarks image ckpt base marks))
