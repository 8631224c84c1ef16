-- An image with no node log has no marks.
use Rattle.std.proofs.Common.{◌≡◌, inl, inr, ℕ, ◌<◌, List, [], length, sym, ap, subst, arith}
use Rattle.std.specs.List.{AllZip}
use Rattle.f2_model.specs.Tree.{Rows}
use Rattle.f2_image.specs.Images.{Image}
use Rattle.f2_image.specs.Packs.{Checkpoint}
use Rattle.f2_image.specs.Chains.{Logged, chain, marked_places, IsMark, AreMarks}
use Rattle.f2_image.specs.Reached.{IsMarkedAt, IsTaken, marked, direct, IsPage, IsBasePage}

module _ (image : Image) (ckpt : Checkpoint) (none : chain image ckpt ≡ []) where
  pub none_within : (place : ℕ) → place < length (chain image ckpt) → ⊥
  none_within place within = let no_length : length (chain image ckpt) ≡ 0 = ap (λ (log : List Logged). length log) none in omega (arith, no_length, within)

  pub none_marked : (place : ℕ) (block : List ℕ) → IsMarkedAt image ckpt place block → ⊥
  none_marked place block is_marked = none_within place is_marked.within

  pub none_taken : (place : ℕ) (block : List ℕ) → IsTaken image ckpt place block → ⊥
  none_taken place block (marked is_marked) = none_marked place block is_marked
  none_taken place block (direct counted is_direct) = none_marked counted.mark counted.inode counted.marked

  pub of_base : (ino page at : ℕ) → IsPage image ckpt ino page at → IsBasePage image ckpt ino page at
  of_base ino page at (inl base) = base
  of_base ino page at (inr is_marked) = absurd (none_marked is_marked.place is_marked.inode is_marked.marked)

  pub no_marks : (base : Rows) → AreMarks image ckpt base []
  no_marks base = subst (λ log. AllZip (IsMark image ckpt base log) (marked_places log) []) (sym none) tt
