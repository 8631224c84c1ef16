-- The part of a map that lies outside of another one.
use Rattle.std.proofs.Common.{◌≡◌, ℕ, Bool, true, false, cond, List, [], ◌∷◌, length, map as map_list, refl, sym, ap, ◌∙◌, arith}
use Rattle.std.specs.Prelude.{T, Option, Some, None, is_some, not}
use Rattle.std.specs.List.{filter}
use Rattle.std.specs.Ordering.{nat_cmp, match_ordering}
use Rattle.std.specs.declared.cmp.Ordering.TheVariants.{Less, Equal, Greater}
use Rattle.std.specs.Cmp.{nat_cmp_total}
use Rattle.std.specs.BTreeSet.{insert_key}
use Rattle.std.specs.FinMap as map
use Rattle.std.specs.FinMap.{entries, entries-insert, entries_sorted, entries-from_sorted, from_sorted, get-entries, get-from_sorted, get-insert, get-empty, get-retain_keys, len-empty, len-entries, same_map, nat_cmp-IsAntisymmetric}
use Rattle.std.specs.FinMap.Entries.{put, by_order, where_key, find-where_key, is_sorted-where_key}
use Rattle.f2_model.specs.Content.{PageMap}
use Rattle.f2_pieces.proofs.Same.{is_same, same_number}

-- the numbers of a map with one page more
keys-put : (es : List (ℕ × List ℕ)) (page : ℕ) (content : List ℕ) → map_list (λ e. e.0) (put nat_cmp page content es) ≡ insert_key nat_cmp (map_list (λ e. e.0) es) page
keys-put [] page content = refl
keys-put (e ∷ es) page content =
    elim (nat_cmp page e.0) as (λ o. map_list (λ e. e.0) (by_order o ((page, content) ∷ e ∷ es) ((e.0, content) ∷ es) (e ∷ put nat_cmp page content es)) ≡ match_ordering o (page ∷ e.0 ∷ map_list (λ e. e.0) es) (e.0 ∷ map_list (λ e. e.0) es) (e.0 ∷ insert_key nat_cmp (map_list (λ e. e.0) es) page)) [
      | Less ↦ refl
      | Equal ↦ refl
      | Greater ↦ ap (λ rest. e.0 ∷ rest) (keys-put es page content)
    ]

pub keys-insert : (pages : PageMap) (page : ℕ) (content : List ℕ) → map.keys (map.insert pages page content) ≡ insert_key nat_cmp (map.keys pages) page
keys-insert pages page content = ap (map_list (λ e. e.0)) (entries-insert nat_cmp_total pages page content) ∙ keys-put (entries pages) page content

-- the numbers that pass a test, and the map of them
keys-where_key : (test : ℕ → Bool) (es : List (ℕ × List ℕ)) → map_list (λ e. e.0) (where_key nat_cmp test es) ≡ filter test (map_list (λ e. e.0) es)
keys-where_key test [] = refl
keys-where_key test (e ∷ es) =
    elim (test e.0) as (λ b. map_list (λ e. e.0) (cond b (e ∷ where_key nat_cmp test es) (where_key nat_cmp test es)) ≡ cond b (e.0 ∷ filter test (map_list (λ e. e.0) es)) (filter test (map_list (λ e. e.0) es))) [
      | true ↦ ap (λ rest. e.0 ∷ rest) (keys-where_key test es)
      | false ↦ keys-where_key test es
    ]

module _ (test : ℕ → Bool) where
  alike : (q x : ℕ) → nat_cmp q x ≡ Equal → test x ≡ test q
  alike q x tie = ap test (sym (nat_cmp-IsAntisymmetric q x tie))

  keys-retain_keys : (pages : PageMap) → map.keys (map.retain_keys pages test) ≡ filter test (map.keys pages)
  keys-retain_keys pages =
      let es = where_key nat_cmp test (entries pages) in
      let sorted : T (map.is_sorted nat_cmp es) = is_sorted-where_key nat_cmp test (entries pages) (entries_sorted pages) in
      let same : map.retain_keys pages test ≡ from_sorted es = same_map nat_cmp_total nat_cmp-IsAntisymmetric _ _ (λ q.
      get-retain_keys pages test q (alike q)
      ∙ ap (λ found. cond (test q) found None) (get-entries pages q)
      ∙ sym (find-where_key nat_cmp test q (alike q) (entries pages))
      ∙ sym (get-from_sorted nat_cmp es q sorted)) in
      ap map.keys same ∙ ap (map_list (λ e. e.0)) (entries-from_sorted nat_cmp es sorted) ∙ keys-where_key test (entries pages)

-- the pages of a map that a file doesn't have
abbrev pub outside : PageMap → PageMap → PageMap
outside pages grown = map.retain_keys grown (λ page. not (map.contains_key pages page))

pub keys-outside : (pages grown : PageMap) → map.keys (outside pages grown) ≡ filter (λ page. not (map.contains_key pages page)) (map.keys grown)
keys-outside pages grown = keys-retain_keys (λ page. not (map.contains_key pages page)) grown

pub get-outside : (pages grown : PageMap) (page : ℕ) → map.get (outside pages grown) page ≡ cond (map.contains_key pages page) None (map.get grown page)
get-outside pages grown page = get-retain_keys grown (λ other. not (map.contains_key pages other)) page (alike (λ other. not (map.contains_key pages other)) page) ∙ turned (map.contains_key pages page)
  where
    turned : (b : Bool) → cond (not b) (map.get grown page) None ≡ cond b None (map.get grown page)
    turned true = refl
    turned false = refl

-- a file has no page outside of itself
pub outside_itself : (pages : PageMap) → outside pages pages ≡ map.empty
outside_itself pages = same_map nat_cmp_total nat_cmp-IsAntisymmetric _ _ (λ page. get-outside pages pages page ∙ by_found (map.get pages page) ∙ sym (get-empty nat_cmp page))
  where
    by_found : (found : Option (List ℕ)) → cond (is_some found) None found ≡ None
    by_found None = refl
    by_found (Some content) = refl

-- a page that the file has brings nothing, and another one is put
module _ (pages grown : PageMap) (page : ℕ) (content : List ℕ) where
  pub outside_held : map.contains_key pages page ≡ true → outside pages (map.insert grown page content) ≡ outside pages grown
  outside_held held = same_map nat_cmp_total nat_cmp-IsAntisymmetric _ _ (λ q.
      get-outside pages (map.insert grown page content) q
      ∙ ap (cond (map.contains_key pages q) None) (get-insert nat_cmp_total grown page content q)
      ∙ by_same q (is_same q page) refl
      ∙ sym (get-outside pages grown q))
    where
      by_same : (q : ℕ) (b : Bool) → is_same q page ≡ b → cond (map.contains_key pages q) None (cond b (Some content) (map.get grown q)) ≡ cond (map.contains_key pages q) None (map.get grown q)
      by_same q false apart = refl
      by_same q true same =
          let held_here : map.contains_key pages q ≡ true = ap (map.contains_key pages) (same_number q page same) ∙ held in
          ap (λ b. cond b None (Some content)) held_here ∙ sym (ap (λ b. cond b None (map.get grown q)) held_here)

  pub outside_new : map.contains_key pages page ≡ false → outside pages (map.insert grown page content) ≡ map.insert (outside pages grown) page content
  outside_new absent = same_map nat_cmp_total nat_cmp-IsAntisymmetric _ _ (λ q.
      get-outside pages (map.insert grown page content) q
      ∙ ap (cond (map.contains_key pages q) None) (get-insert nat_cmp_total grown page content q)
      ∙ by_same q (is_same q page) refl
      ∙ ap (cond (is_same q page) (Some content)) (sym (get-outside pages grown q))
      ∙ sym (get-insert nat_cmp_total (outside pages grown) page content q))
    where
      by_same : (q : ℕ) (b : Bool) → is_same q page ≡ b → cond (map.contains_key pages q) None (cond b (Some content) (map.get grown q)) ≡ cond b (Some content) (cond (map.contains_key pages q) None (map.get grown q))
      by_same q false apart = refl
      by_same q true same = ap (λ b. cond b None (Some content)) (ap (map.contains_key pages) (same_number q page same) ∙ absent)

nothing : {A : Type 0} (es : List A) → length es ≡ 0 → [] ≡ es
nothing [] e = refl
nothing (x ∷ es) e = absurd (omega arith)

-- a file has no number outside of itself
pub none_outside : (pages : PageMap) → [] ≡ map.keys (outside pages pages)
none_outside pages =
    ap (map_list (λ e. e.0)) (nothing (entries (map.empty {X = List ℕ} {R = nat_cmp})) (sym (len-entries _) ∙ len-empty nat_cmp (List ℕ)))
    ∙ sym (ap map.keys (outside_itself pages))
