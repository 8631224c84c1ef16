-- Where the pages of a file end.
use Rattle.std.proofs.Common.{◌≡◌, ◌≢◌, ◌⊎◌, inl, inr, ℕ, ◌+◌, ◌-◌, ◌*◌, ◌<◌, ◌≤◌, List, length, sym, ap, ◌∙◌, subst, arith}
use Rattle.std.specs.Prelude.{Some, slice_index, slice_index_or}
use Rattle.std.specs.Ordering.{nat_cmp}
use Rattle.std.specs.FinMap as map
use Rattle.std.specs.FinSet as set
use Rattle.std.proofs.lemmas.Bool.{cases_eq}
use Rattle.std.proofs.lemmas.List.{get_or_default}
use Rattle.f2_model.specs.declared.rows.Kind.TheVariants.{Regular}
use Rattle.f2_image.specs.Images.{Image, block_at}
use Rattle.f2_image.specs.Packs.{Checkpoint}
use Rattle.f2_image.specs.Bases.{IsInode}
use Rattle.f2_image.specs.Reached.{IsBasePage}
use Rattle.f2_image.specs.Faults.{HasTable, IsPastSize, IsBadTree}
use Rattle.f2_image.specs.Faults as faults
use Rattle.f2_recover.specs.Taking.{Taken}
use Rattle.f2_recover.specs.Seeing.{IsList, no_page}
use Rattle.f2_recover.specs.Files.{IsFileRead}
use Rattle.f2_recover.specs.declared.nodes.PageAt.{PageAt}
use Rattle.f2_recover.specs.declared.files.File.{File}

abbrev Map : Type 0
Map = map.FinMap nat_cmp ℕ

-- a page of the list is its last one, or comes before it
abbrev pub IsAtMost : ℕ → ℕ → PageAt → Type 0
IsAtMost p at last = ((p ≡ last.page) × (at ≡ last.at)) ⊎ (p < last.page)

at_most_last : (limit : ℕ) (pages : Map) (list : List PageAt) (last : PageAt) → IsList limit pages list → last ≡ slice_index_or list (length list - 1) no_page → (p at : ℕ) → map.get pages p ≡ Some at → IsAtMost p at last
at_most_last limit pages list last is last_is p at there = by (cases_eq k (length list - 1))
  where
    k : ℕ
    k = (is.all p at there).0

    small : k < length list
    small = (is.all p at there).1

    here : slice_index_or list k no_page ≡ record { page = p; at = at }
    here = get_or_default list k no_page (record { page = p; at = at }) small ∙ (is.all p at there).2

    by : (k ≡ length list - 1) ⊎ (k ≢ length list - 1) → IsAtMost p at last
    by (inl e) =
        let same : last ≡ record { page = p; at = at } = last_is ∙ ap (λ n. slice_index_or list n no_page) (sym e) ∙ here in
        inl (sym (ap (λ (x : PageAt). x.page) same), sym (ap (λ (x : PageAt). x.at) same))
    by (inr other) =
        let lower = is.rising k (length list - 1) (omega (arith, small, other)) (omega (arith, small)) in
        inr (subst (λ (x : PageAt). p < x.page) (sym last_is) (subst (λ (x : PageAt). x.page < (slice_index_or list (length list - 1) no_page).page) here lower))

-- no page is past a size
not_past : (image : Image) (size page at last_at : ℕ) (last : PageAt) → IsAtMost page at last → last.page * 4096 < size
    → ((place : ℕ) → place < 4096 → size ≤ last.page * 4096 + place → slice_index (block_at image last.at) place ≡ 0) → IsPastSize image size page at → ⊥
not_past image size page at last_at last (inl e) within zeros (faults.whole past) = omega (arith, e.0, within, past)
not_past image size page at last_at last (inr lower) within zeros (faults.whole past) = omega (arith, lower, within, past)
not_past image size page at last_at last (inr lower) within zeros (faults.partly place small past other) = omega (arith, lower, within, past, small)
not_past image size page at last_at last (inl e) within zeros (faults.partly place small past other) =
    other (ap (λ n. slice_index (block_at image n) place) e.1 ∙ zeros place small (subst (λ n. size ≤ n * 4096 + place) e.0 past))

module _ (image : Image) (ckpt : Checkpoint) (inos : set.FinSet nat_cmp) (ino : ℕ) (taken : Taken) (file : File) (is : IsFileRead image ckpt inos ino taken file) where
  pub ends_well : (last : PageAt) → last ≡ slice_index_or file.nodes.list.items (length file.nodes.list.items - 1) no_page → last.page * 4096 < file.size
      → ((place : ℕ) → place < 4096 → file.size ≤ last.page * 4096 + place → slice_index (block_at image last.at) place ≡ 0)
      → (page at : ℕ) → IsBasePage image ckpt ino page at → IsPastSize image file.size page at → ⊥
  ends_well last last_is within zeros page at base =
      not_past image file.size page at 0 last
      (at_most_last _ file.nodes.pages.pages file.nodes.list.items last is.seen.part.listed last_is page at (is.seen.part.all_pages page at base base.within)) within zeros

  pub no_pages : length file.nodes.list.items ≡ 0 → (page at : ℕ) → IsBasePage image ckpt ino page at → ⊥
  no_pages none page at base =
      let has = is.seen.part.listed.all page at (is.seen.part.all_pages page at base base.within) in
      let small = has.1 in
      omega (arith, none, small)

  -- the last page is one of the base
  pub last_base : (last : PageAt) → length file.nodes.list.items ≢ 0 → last ≡ slice_index_or file.nodes.list.items (length file.nodes.list.items - 1) no_page → IsBasePage image ckpt ino last.page last.at
  last_base last some last_is =
      let at_end : length file.nodes.list.items - 1 < length file.nodes.list.items = omega (arith, some) in
      let there = is.seen.part.listed.only last (length file.nodes.list.items - 1, at_end, get_or_default file.nodes.list.items (length file.nodes.list.items - 1) last no_page at_end ∙ sym last_is) in
      (is.seen.part.pages last.page last.at there).is

  pub past_size : (last : PageAt) → HasTable ckpt → file.kind ≡ Regular → IsBasePage image ckpt ino last.page last.at → IsPastSize image file.size last.page last.at → HasTable ckpt × IsBadTree image ckpt ino
  past_size last has regular base past =
      (has, faults.past_size last.page last.at is.inode is.reached (subst (λ k. IsInode image ckpt ino k is.inode) regular is.is) base (subst (λ s. IsPastSize image s last.page last.at) is.size past))
