-- Pages of zeros, put and taken out.
use Rattle.std.proofs.Common.{◌≡◌, ℕ, ◌+◌, ◌<◌, Bool, true, false, cond, ◌||◌, List, [], ◌∷◌, length, drop, get_or, add-one, drop-cons, refl, sym, ap, ◌∙◌}
use Rattle.std.specs.Prelude.{Some, None}
use Rattle.std.specs.List.{list_any}
use Rattle.std.specs.Cmp.{nat_cmp_total}
use Rattle.std.specs.FinMap as map
use Rattle.std.specs.FinMap.{get-insert, get-remove, same_map, nat_cmp-IsAntisymmetric}
use Rattle.std.proofs.lemmas.List.Folds.{list_any_at}
use Rattle.f2_model.specs.Content.{PageMap, zero_page}
use Rattle.f2_pieces.specs.Zeros.{with_zeros, without}
use Rattle.f2_pieces.proofs.Same.{is_same}

-- whether a number is among some
abbrev pub is_among : List ℕ → ℕ → Bool
is_among numbers page = list_any (is_same page) numbers

either : {A : Type 0} (a b : Bool) (x y : A) → cond b x (cond a x y) ≡ cond (a || b) x y
either true true x y = refl
either true false x y = refl
either false b x y = refl

pub get-with_zeros : (pages : PageMap) (numbers : List ℕ) (page : ℕ) → map.get (with_zeros pages numbers) page ≡ cond (is_among numbers page) (Some zero_page) (map.get pages page)
get-with_zeros pages [] page = refl
get-with_zeros pages (number ∷ numbers) page =
    get-with_zeros (map.insert pages number zero_page) numbers page
    ∙ ap (cond (is_among numbers page) (Some zero_page)) (get-insert nat_cmp_total pages number zero_page page)
    ∙ either (is_same page number) (is_among numbers page) (Some zero_page) (map.get pages page)

get-without : (pages : PageMap) (numbers : List ℕ) (page : ℕ) → map.get (without pages numbers) page ≡ cond (is_among numbers page) None (map.get pages page)
get-without pages [] page = refl
get-without pages (number ∷ numbers) page =
    get-without (map.remove pages number) numbers page
    ∙ ap (cond (is_among numbers page) None) (get-remove nat_cmp_total pages number page)
    ∙ either (is_same page number) (is_among numbers page) None (map.get pages page)

-- the numbers that are left, the first of them before the others
pub next_zeros : (pages : PageMap) (numbers : List ℕ) (i : ℕ) → i < length numbers → with_zeros pages (drop i numbers) ≡ with_zeros (map.insert pages (get_or numbers i 0) zero_page) (drop (i + 1) numbers)
next_zeros pages numbers i below =
    let parted : drop i numbers ≡ get_or numbers i 0 ∷ drop (i + 1) numbers = rw (add-one, drop-cons numbers i 0) in
    ap (with_zeros pages) parted

-- what is put at one of the numbers is taken out with them
pub without_put : (pages : PageMap) (numbers : List ℕ) (i : ℕ) (content : List ℕ) → i < length numbers → without (map.insert pages (get_or numbers i 0) content) numbers ≡ without pages numbers
without_put pages numbers i content below = same_map nat_cmp_total nat_cmp-IsAntisymmetric _ _ (λ page.
    get-without (map.insert pages number content) numbers page
    ∙ ap (cond (is_among numbers page) None) (get-insert nat_cmp_total pages number content page)
    ∙ by_same page (is_same page number) refl
    ∙ sym (get-without pages numbers page))
  where
    number : ℕ
    number = get_or numbers i 0

    by_same : (page : ℕ) (b : Bool) → is_same page number ≡ b → cond (is_among numbers page) None (cond b (Some content) (map.get pages page)) ≡ cond (is_among numbers page) None (map.get pages page)
    by_same page false apart = refl
    by_same page true same =
        let among : is_among numbers page ≡ true = list_any_at (is_same page) numbers i 0 below same in
        ap (λ b. cond b None (Some content)) among ∙ sym (ap (λ b. cond b None (map.get pages page)) among)

-- to take out pages that aren't there changes nothing
pub without_absent : (pages : PageMap) (numbers : List ℕ) → ((page : ℕ) → is_among numbers page ≡ true → map.get pages page ≡ None) → without pages numbers ≡ pages
without_absent pages numbers absent = same_map nat_cmp_total nat_cmp-IsAntisymmetric _ _ (λ page. get-without pages numbers page ∙ by_among page (is_among numbers page) refl)
  where
    by_among : (page : ℕ) (b : Bool) → is_among numbers page ≡ b → cond b None (map.get pages page) ≡ map.get pages page
    by_among page true among = sym (absent page among)
    by_among page false apart = refl
