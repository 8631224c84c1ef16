-- The weight of a file from the list of its pages.
use Rattle.std.proofs.Common.{◌≡◌, ℕ, ◌+◌, ◌*◌, ◌%◌, ◌^◌, ◌<◌, ◌≤◌, List, [], ◌∷◌, map as map_list, length, drop, refl, sym, ap, subst, ◌∙◌, add-zero, mod-eq_of_lt, drop_of_length-le}
use Rattle.std.specs.Prelude.{Some}
use Rattle.std.specs.Option.{unwrap_or}
use Rattle.std.specs.List.{AllByRecursion, sum_by}
use Rattle.std.specs.Cmp.{nat_cmp_total}
use Rattle.std.specs.Ordering.{nat_cmp}
use Rattle.std.specs.FinMap as map
use Rattle.std.proofs.lemmas.List.{length-map}
use Rattle.std.proofs.lemmas.List.Sums.{sum_by-cons}
use Rattle.f2_image.specs.Images.{Image, block_at}
use Rattle.f2_model.specs.Content.{PAGE, PageMap}
use Rattle.f2_found.specs.Pages.{AreAt}
use Rattle.f2_recover.specs.declared.nodes.PageAt.{PageAt}
use Rattle.f2_script.specs.Trees.{bytes_weight, page_weight, weight_of}
use Rattle.f2_listing.proofs.Entries.{each_entry}

-- the weight of the bytes at the address of a page
abbrev pub listed_weight : Image → PageAt → ℕ
listed_weight image listed = bytes_weight (listed.page * PAGE) (block_at image listed.at)

-- a page of a file with its bytes
abbrev pub shown : Image → PageAt → ℕ × List ℕ
shown image listed = (listed.page, block_at image listed.at)

sum_listed : (image : Image) (pages : PageMap) (list : List PageAt) → AllByRecursion (λ e. map.get pages e.0 ≡ Some e.1) (map_list (shown image) list)
    → sum_by (page_weight pages) (map_list (λ e. e.0) (map_list (shown image) list)) ≡ sum_by (listed_weight image) list
sum_listed image pages [] found = refl
sum_listed image pages (listed ∷ list) found =
    sum_by-cons (page_weight pages) listed.page (map_list (λ e. e.0) (map_list (shown image) list))
    ∙ (λ i. bytes_weight (listed.page * PAGE) (unwrap_or (found.0 i) []) + sum_listed image pages list found.1 i)
    ∙ sym (sum_by-cons (listed_weight image) listed list)

-- the weight of a file whose pages stand at the addresses of a list
pub weight_listed : (image : Image) (pages : PageMap) (list : List PageAt) → AreAt image pages list → weight_of pages ≡ sum_by (listed_weight image) list % 2 ^ 64
weight_listed image pages list at =
    let found = each_entry nat_cmp nat_cmp_total (λ e. map.get pages e.0 ≡ Some e.1) pages (λ k v is. is) in
    ap (λ es. sum_by (page_weight pages) (map_list (λ e. e.0) es) % 2 ^ 64) at
    ∙ ap (λ n. n % 2 ^ 64) (sum_listed image pages list (subst (AllByRecursion (λ e. map.get pages e.0 ≡ Some e.1)) at found))

-- and how many pages it has
pub count_listed : (image : Image) (pages : PageMap) (list : List PageAt) → AreAt image pages list → map.len pages ≡ length list
count_listed image pages list at = map.len-entries pages ∙ ap length at ∙ length-map list (shown image)

-- the weight when all pages were read
pub weight_all : (image : Image) (list : List PageAt) (read sum : ℕ) → length list ≤ read → sum < 2 ^ 64 → (sum + sum_by (listed_weight image) (drop read list)) % 2 ^ 64 ≡ sum_by (listed_weight image) list % 2 ^ 64
    → (pages : PageMap) → AreAt image pages list → sum ≡ weight_of pages
weight_all image list read sum past small before pages at =
    let whole : sum + sum_by (listed_weight image) (drop read list) ≡ sum = ap (λ xs. sum + sum_by (listed_weight image) xs) (drop_of_length-le list past) ∙ add-zero sum in
    sym (mod-eq_of_lt small) ∙ ap (λ n. n % 2 ^ 64) (sym whole) ∙ before ∙ sym (weight_listed image pages list at)
