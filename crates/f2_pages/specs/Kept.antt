-- The pages of files that a volume keeps in memory.
use Rattle.std.specs.Prelude.{◌≡◌, ℕ, ◌≤◌, ◌⊎◌, List, Option, Some, IfSome, MatchOption, refl}
use Rattle.std.specs.declared.cmp.Ordering.{Ordering}
use Rattle.std.specs.Ordering.{nat_cmp, then_cmp, on}
use Rattle.std.specs.Coded.{Coded, code_by, coded×, coded_list, coded_ℕ}
use Rattle.std.specs.FinMap as map
use Rattle.f2_disk.specs.Contents.{Contents, list_at, last_of}

-- pages of files: pairs of an ino and a page number, by the ino first
abbrev pub page_cmp : ℕ × ℕ → ℕ × ℕ → Ordering
page_cmp = then_cmp (on (λ page. page.0) nat_cmp) (on (λ page. page.1) nat_cmp)

-- the contents of some pages (of the kernel's page cache, `struct address_space`, over all files)
abbrev pub Pages : Type 0
Pages = map.FinMap page_cmp (List ℕ)

-- What is kept. `dirty` are contents that the disk doesn't have yet (PG_dirty), `clean` contents that were read from
-- it. So many pages more as `spare` says may become dirty without memory, and at most `room` clean pages are kept.
pub record Kept : Type 0 where
  pub dirty : Pages
  pub clean : Pages
  pub spare : ℕ
  pub room : ℕ

-- it is stored as these fields
abbrev pub pages_code : Coded Pages
pages_code = map.code (coded× coded_ℕ coded_ℕ) (coded_list coded_ℕ)

abbrev pub kept_code : Coded Kept
kept_code =
    code_by (Pages × (Pages × (ℕ × ℕ))) (coded× pages_code (coded× pages_code (coded× coded_ℕ coded_ℕ)))
    (λ k. (k.dirty, (k.clean, (k.spare, k.room))))
    (λ q. record { dirty = q.0; clean = q.1.0; spare = q.1.1.0; room = q.1.1.1 })
    (λ _. refl)

-- a clean content that is kept for the page is the last one of the block at this address, where the disk tells that
abbrev pub IsCurrent : Kept → ℕ × ℕ → Option Contents → ℕ → Type 0
IsCurrent kept page told at = IfSome told (λ lists. IfSome (map.get kept.clean page) (λ content. content ≡ last_of (list_at lists at)))

-- what a read of the page gives: its dirty content, else the last one of the block at this address, where the disk tells
-- that (`f2fs_get_lock_data_page` and `f2fs_get_read_data_page` of fs/f2fs/data.c)
abbrev pub IsRead : Kept → ℕ × ℕ → Option Contents → ℕ → List ℕ → Type 0
IsRead kept page told at content = MatchOption (map.get kept.dirty page) (IfSome told (λ lists. content ≡ last_of (list_at lists at))) (λ dirty. content ≡ dirty)

-- each clean content was kept before, or is this content of this page
abbrev pub MayAdd : ℕ × ℕ → List ℕ → Pages → Pages → Type 0
MayAdd page content old new = (other : ℕ × ℕ) (kept : List ℕ) → map.get new other ≡ Some kept → (map.get old other ≡ Some kept) ⊎ ((other ≡ page) × (kept ≡ content))

-- What the parts of a store keep: the table of the dirty pages has places for what `spare` says, and there are blocks for
-- it; there is room for a clean page, and there are no more of them than there is room for.
pub record IsStore (kept : Kept) (places blocks : ℕ) : Type 0 where
  pub places_enough : kept.spare ≤ places
  pub blocks_enough : kept.spare ≤ blocks
  pub room_there : 1 ≤ kept.room
  pub bounded : map.len kept.clean ≤ kept.room
