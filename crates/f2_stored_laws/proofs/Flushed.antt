-- A disk after a flush: each block has one content, that of the image of the newest ones.
use Rattle.std.proofs.Common.{◌≡◌, ℕ, zero, suc, ◌-◌, ◌<◌, List, [], ◌∷◌, length, All, refl, sym, subst, arith}
use Rattle.std.proofs.lemmas.List.Elements.{All-head, All-tail, All-cons, All-nil, All-get_or}
use Rattle.f2_disk.specs.Contents.{Contents, IsBlock, IsWhole, last_of, latest, alone, flushed}
use Rattle.f2_image.specs.Images.{Image, block_at}
use Rattle.f2_image_laws.specs.Chained.{contents_at}

-- what holds of one content holds of a list of it
pub of_one : (P : List ℕ → Type 0) (content : List ℕ) → P content → All P (content ∷ [])
of_one P content p = All-cons P content [] p (All-nil P)

-- the contents of a disk that has an image alone
pub alone_at : (image : Image) (at : ℕ) → contents_at (alone image) at ≡ block_at image at ∷ []
alone_at [] at = refl
alone_at (block ∷ image) zero = refl
alone_at (block ∷ image) (suc at) = alone_at image at

pub flushed_at : (lists : Contents) (at : ℕ) → contents_at (flushed lists) at ≡ block_at (latest lists) at ∷ []
flushed_at lists at = alone_at (latest lists) at

pub flushed_each : (lists : Contents) (P : List ℕ → Type 0) (at : ℕ) → P (block_at (latest lists) at) → All P (contents_at (flushed lists) at)
flushed_each lists P at p = subst (All P) (sym (flushed_at lists at)) (of_one P (block_at (latest lists) at) p)

flushed_held : (image : Image) → All (λ list. 0 < length list) (alone image)
flushed_held [] = All-nil (λ (list : List (List ℕ)). 0 < length list)
flushed_held (block ∷ image) = All-cons (λ (list : List (List ℕ)). 0 < length list) (block ∷ []) (alone image) (omega arith) (flushed_held image)

flushed_blocks : (lists : Contents) → All (λ list. 0 < length list) lists → All (All IsBlock) lists → All (All IsBlock) (flushed lists)
flushed_blocks [] held blocks = All-nil (All IsBlock)
flushed_blocks (list ∷ lists) held blocks =
    All-cons (All IsBlock) (last_of list ∷ []) (flushed lists)
    (of_one IsBlock (last_of list) (newest list (All-head (λ list. 0 < length list) list lists held) (All-head (All IsBlock) list lists blocks)))
    (flushed_blocks lists (All-tail (λ list. 0 < length list) list lists held) (All-tail (All IsBlock) list lists blocks))
  where
    newest : (list : List (List ℕ)) → 0 < length list → All IsBlock list → IsBlock (last_of list)
    newest list some blocks = All-get_or IsBlock list (length list - 1) [] (omega (arith, some)) blocks

pub flushed_whole : (lists : Contents) → IsWhole (length lists) lists → IsWhole (length (flushed lists)) (flushed lists)
flushed_whole lists whole = record { size = refl; held = flushed_held (latest lists); contents = flushed_blocks lists whole.held whole.contents }
