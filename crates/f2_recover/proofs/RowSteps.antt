-- A row that is a directory is walked.
use denote.Enum.Bare.{sameb}
use Rattle.std.proofs.Common.{◌≡◌, ℕ, ◌+◌, ◌-◌, false, [], List, refl, sym, subst, arith}
use Rattle.std.specs.Prelude.{Some}
use Rattle.std.specs.Ordering.{nat_cmp}
use Rattle.std.specs.FinMap as map
use Rattle.f2_model.specs.contracts.rows.Kind.{the_type}
use Rattle.f2_model.specs.declared.rows.Kind.{Kind}
use Rattle.f2_model.specs.declared.rows.Kind.TheVariants.{Regular, Directory}
use Rattle.f2_dir.specs.Entries.{Entries}
use Rattle.f2_image.specs.Images.{Image}
use Rattle.f2_image.specs.Packs.{Checkpoint}
use Rattle.f2_image.specs.Bases.{IsReached}
use Rattle.f2_image.specs.Faults.{IsBelow}
use Rattle.f2_recover.specs.Dents.{AreBlocksOf}
use Rattle.f2_recover.specs.Walking.{IsRowOf, IsWalkedTo}
use Rattle.f2_recover.specs.declared.nodes.PageAt.{PageAt}
use Rattle.f2_recover.specs.declared.rows.BaseRow.{BaseRow}
use Rattle.f2_recover.specs.declared.walk.Walk.{Walk}
use Rattle.f2_recover.proofs.DirectoryBlocks.{blocks_of}
use Rattle.f2_recover.proofs.Sets.{Numbers}

module _ (image : Image) (ckpt : Checkpoint) (done : Numbers) (walk : Walk) (ino : ℕ) (row : BaseRow) (there : Some row ≡ map.get walk.rows ino) (is : IsWalkedTo image ckpt done 0 [] 0 walk) where
  the_row : IsRowOf image ckpt ino row
  the_row = is.rows ino row (sym there)

  -- its file is reached
  pub row_reached : IsReached image ckpt ino
  row_reached = the_row.file.reached

  -- what it names stands one name deeper
  pub row_below : IsBelow image ckpt (row.depth + 1 - 1) ino
  row_below = subst (λ n. IsBelow image ckpt n ino) (omega arith) the_row.below

  -- its pages are its blocks
  pub row_blocks : (list : List PageAt) → list ≡ row.file.nodes.list.items → row.file.kind ≡ Directory → AreBlocksOf image ckpt ino list
  row_blocks list same directory = subst (AreBlocksOf image ckpt ino) (sym same) (blocks_of image ckpt ino row the_row directory)

-- with names that are the same
pub with_names : (image : Image) (ckpt : Checkpoint) (done : Numbers) (walk : Walk) (a b : map.FinMap nat_cmp Entries) → b ≡ a → IsWalkedTo image ckpt done 0 [] 0 (record walk { names = a }) → IsWalkedTo image ckpt done 0 [] 0 (record walk { names = b })
with_names image ckpt done walk a b same is = subst (λ (m : map.FinMap nat_cmp Entries). IsWalkedTo image ckpt done 0 [] 0 (record walk { names = m })) (sym same) is

-- a kind that isn't that of a regular file
pub is_directory : (kind : Kind) → false ≡ sameb the_type kind Regular → kind ≡ Directory
is_directory Regular other = absurd (cc)
is_directory Directory other = refl
