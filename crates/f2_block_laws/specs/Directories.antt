-- The packed blocks of a directory are the blocks of its pages, at the places of a tree.
use Rattle.std.specs.Prelude.{◌≡◌, ◌↔◌, ℕ, ◌^◌, ◌<◌, List, length, All, IsSome, Some}
use Rattle.std.specs.List.{slice_get}
use Rattle.std.specs.FinMap as map
use Rattle.f2_format.specs.Dentry.{Dentry, dentries_of}
use Rattle.f2_model.specs.Rising.{rising}
use Rattle.f2_model.specs.Tree.{Rows, IsGoodTree, names_in}
use Rattle.f2_model.specs.Count.{dentry_blocks}
use Rattle.f2_model.specs.declared.rows.Row.{Row}
use Rattle.f2_model.specs.declared.rows.Kind.TheVariants.{Directory}
use Rattle.f2_dentry_block.specs.Packed.{names_of, packed_blocks}
use Rattle.f2_stored.specs.Places.{Places, dentries_at, IsBound, HasNames, IsPageBlock}

-- dentries are those of a directory of a tree: its names in the order of their bytes, each bound to its row
pub record AreDentries (tree : Rows) (directory : ℕ) (dentries : List Dentry) : Type 0 where
  pub names : names_of dentries ≡ rising (names_in (map.values tree) directory)
  pub bound : All (IsBound tree directory) dentries

-- the inos of a tree fit into dentries
abbrev pub HasShortInos : Rows → Type 0
HasShortInos tree = (ino : ℕ) (row : Row) → map.get tree ino ≡ Some row → ino < 2 ^ 32

-- the pages of a directory are as many as its packed blocks, and each has the dentries of its block
pub record ArePacked (places : Places) (directory : ℕ) (dentries : List Dentry) : Type 0 where
  pub pages : (page : ℕ) → IsSome (map.get places.pages (directory, page)) ↔ (page < length (packed_blocks dentries))
  pub told : (page : ℕ) (block : List ℕ) → slice_get (packed_blocks dentries) page ≡ Some block → dentries_at places directory page ≡ dentries_of block

-- the pages of such a directory have its names
abbrev pub PackedPagesHaveNames : Type 0
PackedPagesHaveNames =
    (most_size : ℕ) (tree : Rows) (places : Places) (directory : ℕ) (dentries : List Dentry)
    → IsGoodTree most_size tree → HasShortInos tree → AreDentries tree directory dentries → ArePacked places directory dentries
    → HasNames tree places directory

-- and each packed block is the block of its page
abbrev pub PackedBlocksArePages : Type 0
PackedBlocksArePages =
    (most_size : ℕ) (tree : Rows) (places : Places) (row : Row) (dentries : List Dentry)
    → IsGoodTree most_size tree → HasShortInos tree → row.kind ≡ Directory → AreDentries tree row.ino dentries → ArePacked places row.ino dentries
    → (page : ℕ) (block : List ℕ) → slice_get (packed_blocks dentries) page ≡ Some block → IsPageBlock places row page block

-- they are as many as are counted
abbrev pub PackedBlocksAreCounted : Type 0
PackedBlocksAreCounted =
    (tree : Rows) (directory : ℕ) (dentries : List Dentry)
    → AreDentries tree directory dentries → length (packed_blocks dentries) ≡ dentry_blocks (map.values tree) directory
