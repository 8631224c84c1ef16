-- The pages of a file, read one after another.
use Rattle.std.proofs.Common.{◌≡◌, ◌≢◌, ℕ, ◌+◌, ◌<◌, ◌≤◌, Bool, List, [], ◌∷◌, ◌++◌, length, take, get_or, append-nil, refl, sym, ap, subst, ◌∙◌, arith, inl, inr}
use Rattle.std.specs.Prelude.{Option, Some, None, Result, Ok, Err, ◌⊎◌, if◌then◌else◌}
use Rattle.std.specs.Option.{IfSome, IfNone}
use Rattle.std.specs.Option as option
use Rattle.std.proofs.lemmas.Bool.{ne_eqb}
use Rattle.std.specs.Result.{IfOk}
use Rattle.std.specs.List.{flat_map, slice_get}
use Rattle.std.specs.FinMap as map
use Rattle.std.proofs.lemmas.List.{take_more, take_all}
use Rattle.std.proofs.lemmas.List.Concat.{flat_map-append}
use Rattle.std.proofs.lemmas.Option.{slice_get_within, get_or_from_slice_get, slice_get_cases}
use Rattle.f2_format.specs.Dentry.{Dentry, dentries_of}
use Rattle.f2_format.specs.Offsets.{inode_pages}
use Rattle.f2_image.specs.Images.{Image, block_at}
use Rattle.f2_image.specs.Nodes.{block_there}
use Rattle.f2_laws.proofs.Maps.{get_put, get_put-other}
use Rattle.f2_laws.proofs.Places.{same_or_other}
use Rattle.f2_laid.specs.Laid.{IsInodeOf, page_at, page_in}
use Rattle.f2_laid.specs.declared.places.Place.{Place}
use Rattle.f2_model.specs.Content.{PageMap}
use Rattle.f2_model.specs.declared.rows.Row.{Row}
use Rattle.f2_plain_read.specs.Files.{IsFileIn, AreBlocks}
use Rattle.f2_plain_read.specs.declared.files.File.{File}
use Rattle.f2_plain_read.specs.declared.faults.ReadFault.{ReadFault}
use Rattle.f2_plain_read.specs.declared.faults.ReadFault.TheVariants.{Bad}

-- a file that is read is the one in the block
module _ (block : List ℕ) (ino at : ℕ) (Held : Image → Type 0) (there : (image : Image) → Held image → block ≡ block_at image at) where
  abbrev IsIn : File → Type 0
  IsIn file = (row : Row) (place : Place) → row.ino ≡ ino → place.at ≡ at → IsInodeOf row place block → IsFileIn block row place file

  abbrev IsRead : File → Type 0
  IsRead file = (image : Image) → Held image → (row : Row) (place : Place) → row.ino ≡ ino → place.at ≡ at → IsInodeOf row place (block_at image at) → IsFileIn (block_at image at) row place file

  pub file_read : (o : Option File) (r : Result File ReadFault) → r ≡ option.ok_or o Bad → IfSome o IsIn → IfOk r IsRead
  file_read None r is h = subst (λ (q : Result File ReadFault). IfOk q IsRead) (sym is) tt
  file_read (Some file) r is h = subst (λ (q : Result File ReadFault). IfOk q IsRead) (sym is) (λ image held row place own stands inode.
      subst (λ (b : List ℕ). IsFileIn b row place file) (there image held) (h row place own stands (subst (λ (b : List ℕ). IsInodeOf row place b) (sym (there image held)) inode)))

  pub no_file : (o : Option File) (r : Result File ReadFault) → r ≡ option.ok_or o Bad → IfNone o ((row : Row) (place : Place) → row.ino ≡ ino → ¬ (IsInodeOf row place block)) → r ≡ Err Bad
      → (image : Image) → Held image → (row : Row) (place : Place) → row.ino ≡ ino → ¬ (IsInodeOf row place (block_at image at))
  no_file None r is h bad image held row place own inode = h row place own (subst (λ (b : List ℕ). IsInodeOf row place b) (sym (there image held)) inode)
  no_file (Some file) r is h bad image held row place own inode = no (sym is ∙ bad)
    where
      no : Ok file ≡ Err Bad → ⊥
      no e = cc

-- the block at an address that is there, and at none
pub there_is : (image : Image) (at : ℕ) → at ≢ 0 → block_there image at ≡ Some (block_at image at)
there_is image at other = ap (λ (b : Bool). if b then None else Some (block_at image at)) (ne_eqb at 0 other)

pub none_is : (image : Image) (at : ℕ) → at ≡ 0 → block_there image at ≡ None
none_is image at none = subst (λ (n : ℕ). block_there image n ≡ None) (sym none) refl

-- pages up to one, and that page
module _ (image : Image) (place : Place) (pages new : PageMap) (page : ℕ) where
  pub page_more : (content : List ℕ) → new ≡ map.insert pages page content → ((p : ℕ) → p < page → map.get pages p ≡ page_in image place p) → page_at place page ≢ 0 → content ≡ block_at image (page_at place page)
      → (p : ℕ) → p < page + 1 → map.get new p ≡ page_in image place p
  page_more content put before there is p below = ap (λ (m : PageMap). map.get m p) put ∙ by_page (same_or_other p page)
    where
      by_page : (p ≡ page) ⊎ (p ≢ page) → map.get (map.insert pages page content) p ≡ page_in image place p
      by_page (inl same) =
          ap (map.get (map.insert pages page content)) same ∙ get_put pages page content ∙ ap Some is
          ∙ sym (there_is image (page_at place page) there) ∙ ap (page_in image place) (sym same)
      by_page (inr other) = get_put-other pages page content p other ∙ before p (omega arith)

  pub page_skipped : new ≡ pages → ((p : ℕ) → p < page → map.get pages p ≡ page_in image place p) → ((p : ℕ) → page ≤ p → map.get pages p ≡ None) → page_at place page ≡ 0
      → (p : ℕ) → p < page + 1 → map.get new p ≡ page_in image place p
  page_skipped kept before past none p below = ap (λ (m : PageMap). map.get m p) kept ∙ by_page (same_or_other p page)
    where
      by_page : (p ≡ page) ⊎ (p ≢ page) → map.get pages p ≡ page_in image place p
      by_page (inl same) = past p (omega arith) ∙ sym (none_is image (page_at place page) none) ∙ ap (page_in image place) (sym same)
      by_page (inr other) = before p (omega arith)

-- no page past them
pub past_more : (pages new : PageMap) (page : ℕ) (content : List ℕ) → new ≡ map.insert pages page content → ((p : ℕ) → page ≤ p → map.get pages p ≡ None) → (p : ℕ) → page + 1 ≤ p → map.get new p ≡ None
past_more pages new page content put past p above =
    let other : p ≢ page = omega arith in
    ap (λ (m : PageMap). map.get m p) put ∙ get_put-other pages page content p other ∙ past p (omega arith)

pub past_same : (pages new : PageMap) (page : ℕ) → new ≡ pages → ((p : ℕ) → page ≤ p → map.get pages p ≡ None) → (p : ℕ) → page + 1 ≤ p → map.get new p ≡ None
past_same pages new page kept past p above = ap (λ (m : PageMap). map.get m p) kept ∙ past p (omega arith)

-- the names in the first so many blocks of a directory, and those in the next one
module _ (pages : PageMap) (blocks : List (List ℕ)) (page : ℕ) (are : AreBlocks pages blocks) (within : page < inode_pages) where
  pub names_more : (block : List ℕ) (before after : List Dentry) → map.get pages page ≡ Some block → before ≡ flat_map dentries_of (take page blocks) → after ≡ before ++ dentries_of block
      → after ≡ flat_map dentries_of (take (page + 1) blocks)
  names_more block before after got is more =
      let there : slice_get blocks page ≡ Some block = sym (are.each page within) ∙ got in
      let short : page < length blocks = slice_get_within blocks page block there in
      more ∙ ap (λ (ds : List Dentry). ds ++ dentries_of block) is ∙ next block
      ∙ ap (flat_map dentries_of) (ap (λ (b : List ℕ). take page blocks ++ b ∷ []) (sym (get_or_from_slice_get blocks page block block there)) ∙ sym (take_more blocks page block short))
    where
      next : (block : List ℕ) → flat_map dentries_of (take page blocks) ++ dentries_of block ≡ flat_map dentries_of (take page blocks ++ block ∷ [])
      next block = sym (flat_map-append dentries_of (take page blocks) (block ∷ []) ∙ ap (λ (ds : List Dentry). flat_map dentries_of (take page blocks) ++ ds) (append-nil (dentries_of block)))

  pub names_same : map.get pages page ≡ None → flat_map dentries_of (take page blocks) ≡ flat_map dentries_of (take (page + 1) blocks)
  names_same none = by_place (slice_get_cases blocks page).1
    where
      by_place : ((x : List ℕ) × (page < length blocks) × (slice_get blocks page ≡ Some x) × (get_or blocks page x ≡ x)) ⊎ ((length blocks ≤ page) × (slice_get blocks page ≡ None)) → flat_map dentries_of (take page blocks) ≡ flat_map dentries_of (take (page + 1) blocks)
      by_place (inl there) = absurd (no there.0 (sym there.2 ∙ sym (are.each page within) ∙ none))
        where
          no : (x : List ℕ) → Some x ≡ None → ⊥
          no x e = cc
      by_place (inr past) = ap (flat_map dentries_of) (take_all page blocks past.0 ∙ sym (take_all (page + 1) blocks (omega (arith, past.0))))
