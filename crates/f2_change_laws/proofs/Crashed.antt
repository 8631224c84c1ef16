-- What a disk holds after a crash, and after a flush.
use Rattle.std.proofs.Common.{◌≡◌, ℕ, zero, suc, ◌-◌, ◌<◌, List, [], ◌∷◌, length, All, refl, sym, ap, ◌∙◌, subst, arith}
use Rattle.std.specs.List.{Contains}
use Rattle.std.proofs.lemmas.List.Elements.{All-contains, Contains-get_or, All-tail}
use Rattle.f2_disk.specs.Contents.{Contents, IsBlock, IsWhole, IsImage, alone, latest, last_of, flushed}
use Rattle.f2_disk.proofs.ContentsLaws.{whole_alone}
use Rattle.f2_image.specs.Images.{Image, block_at}
use Rattle.f2_image_laws.specs.Chained.{contents_at}
use Rattle.f2_change_laws.proofs.Fewer.{Fewer}

-- each block of an image alone
alone_at : (image : Image) (at : ℕ) → contents_at (alone image) at ≡ block_at image at ∷ []
alone_at [] at = refl
alone_at (block ∷ image) zero = refl
alone_at (block ∷ image) (suc at) = alone_at image at

-- the one content of a list
pub only_one : (content block : List ℕ) → Contains (content ∷ []) block → block ≡ content
only_one content block (zero, within, is) = sym is
only_one content block (suc k, within, is) = absurd (omega (arith, within))

-- an image has at each address one of the contents there
member : (lists : Contents) (image : Image) → IsImage lists image → (at : ℕ) → Contains (contents_at lists at) (block_at image at)
member [] [] is at = (0, omega arith, refl)
member [] (block ∷ image) is at = absurd is
member (list ∷ lists) [] is at = absurd is
member (list ∷ lists) (block ∷ image) is zero = is.0
member (list ∷ lists) (block ∷ image) is (suc at) = member lists image is.1 at

pub crashed_size : (lists : Contents) (image : Image) → IsImage lists image → length (alone image) ≡ length lists
crashed_size [] [] is = refl
crashed_size [] (block ∷ image) is = absurd is
crashed_size (list ∷ lists) [] is = absurd is
crashed_size (list ∷ lists) (block ∷ image) is = ap (λ n. suc n) (crashed_size lists image is.1)

crashed_blocks : (lists : Contents) (image : Image) → IsImage lists image → All (All IsBlock) lists → All IsBlock image
crashed_blocks [] [] is blocks k d small = absurd (omega (arith, small))
crashed_blocks [] (block ∷ image) is blocks k d small = absurd is
crashed_blocks (list ∷ lists) [] is blocks k d small = absurd is
crashed_blocks (list ∷ lists) (block ∷ image) is blocks zero d small = All-contains IsBlock list block (blocks 0 [] (omega arith)) is.0
crashed_blocks (list ∷ lists) (block ∷ image) is blocks (suc k) d small = crashed_blocks lists image is.1 (All-tail (All IsBlock) list lists blocks) k d (omega (arith, small))

module _ (lists : Contents) (image : Image) (is : IsImage lists image) where
  pub crashed_fewer : (at : ℕ) → Fewer lists (alone image) at
  crashed_fewer at = record {
    from = λ content found. subst (Contains (contents_at lists at)) (sym (only_one (block_at image at) content (subst (λ (list : List (List ℕ)). Contains list content) (alone_at image at) found))) (member lists image is at);
    one = λ content alone. alone_at image at ∙ ap (λ block. block ∷ []) (only_one content (block_at image at) (subst (λ (list : List (List ℕ)). Contains list (block_at image at)) alone (member lists image is at)));
  }

  pub crashed_whole : IsWhole (length lists) lists → IsWhole (length (alone image)) (alone image)
  crashed_whole whole = record {
    size = refl;
    held = made.held;
    contents = made.contents;
  }
    where
      made : IsWhole (length image) (alone image)
      made = whole_alone image (crashed_blocks lists image is whole.contents)

-- a flush leaves an image that a crash may leave
latest_image : (lists : Contents) → All (λ list. 0 < length list) lists → IsImage lists (latest lists)
latest_image [] held = tt
latest_image (list ∷ lists) held = (Contains-get_or list (length list - 1) [] (let some : 0 < length list = held 0 [] (omega arith) in omega (arith, some)), latest_image lists (All-tail (λ list. 0 < length list) list lists held))

pub flushed_image : (lists : Contents) → IsWhole (length lists) lists → IsImage lists (latest lists)
flushed_image lists whole = latest_image lists whole.held

latest_at : (lists : Contents) (at : ℕ) → block_at (latest lists) at ≡ last_of (contents_at lists at)
latest_at [] at = refl
latest_at (list ∷ lists) zero = refl
latest_at (list ∷ lists) (suc at) = latest_at lists at

-- each block has its last content alone
pub flushed_at : (lists : Contents) (at : ℕ) → contents_at (flushed lists) at ≡ last_of (contents_at lists at) ∷ []
flushed_at lists at = alone_at (latest lists) at ∙ ap (λ block. block ∷ []) (latest_at lists at)
