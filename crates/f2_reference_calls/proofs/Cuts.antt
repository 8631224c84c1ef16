-- Pages cut at a size.
use Rattle.std.proofs.Common.{◌≡◌, ◌≢◌, ℕ, ◌+◌, ◌*◌, ◌/◌, ◌%◌, ◌<◌, Bool, true, false, List, refl, sym, ap, ◌∙◌, arith}
use Rattle.std.specs.Prelude.{nat_lt, min, Option, Some, is_some, if◌then◌else◌}
use Rattle.std.specs.Option.{unwrap_or}
use Rattle.std.specs.FinMap as map
use Rattle.std.proofs.lemmas.Bool.{ne_eqb, lt-ltb, le-ltb}
use Rattle.f2_model.specs.Content.{PAGE, PageMap, zero_page, filled, begins_before, cut_pages}

-- how many pages begin before a size
abbrev pub pages_to : ℕ → ℕ
pages_to size = size / PAGE + min 1 (size % PAGE)

same_test : (size page : ℕ) → nat_lt page (pages_to size) ≡ begins_before size page
same_test size page = by_test (nat_lt (page * PAGE) size) refl
  where
    by_test : (b : Bool) → nat_lt (page * PAGE) size ≡ b → nat_lt page (pages_to size) ≡ b
    by_test true e = lt-ltb page (pages_to size) (omega (arith, Rattle.std.proofs.lemmas.Bool.ltb-true (page * PAGE) size e))
    by_test false e = le-ltb page (pages_to size) (omega (arith, Rattle.std.proofs.lemmas.Bool.ltb-false (page * PAGE) size e))

-- the pages that are kept
pub kept_pages : (pages : PageMap) (size : ℕ) → map.retain_keys pages (λ page. nat_lt page (pages_to size)) ≡ map.retain_keys pages (begins_before size)
kept_pages pages size i = map.retain_keys pages (λ page. same_test size page i)

-- the page that is cut is there, and the rest of it becomes zeros
pub cut_inside : (pages : PageMap) (size : ℕ) (content : List ℕ) → 0 < size % PAGE → Some content ≡ map.get (map.retain_keys pages (λ page. nat_lt page (pages_to size))) (size / PAGE) →
    map.insert (map.retain_keys pages (λ page. nat_lt page (pages_to size))) (size / PAGE) (filled content (size % PAGE) PAGE 0) ≡ cut_pages pages size
cut_inside pages size content inside found =
    let kept : PageMap = map.retain_keys pages (begins_before size) in
    let zeroed : Option (List ℕ) → PageMap = λ found. map.insert kept (size / PAGE) (filled (unwrap_or found zero_page) (size % PAGE) PAGE 0) in
    let there : map.get kept (size / PAGE) ≡ Some content = sym (ap (λ m. map.get m (size / PAGE)) (kept_pages pages size)) ∙ sym found in
    let apart : size % PAGE ≢ 0 = omega arith in
    ap (λ m. map.insert m (size / PAGE) (filled content (size % PAGE) PAGE 0)) (kept_pages pages size)
    ∙ sym (ap (λ b. if b then kept else (if is_some (map.get kept (size / PAGE)) then zeroed (map.get kept (size / PAGE)) else kept)) (ne_eqb (size % PAGE) 0 apart)
    ∙ ap (λ o. if is_some o then zeroed o else kept) there)
