-- The bytes of a file in parts.
use Rattle.std.proofs.Common.{◌≡◌, ℕ, zero, suc, ◌+◌, ◌-◌, ◌*◌, ◌/◌, ◌%◌, ◌<◌, ◌≤◌, min, max, List, ◌∷◌, ◌++◌, map, refl, ap, ◌∙◌, arith}
use Rattle.std.specs.Prelude.{slice_index}
use Rattle.std.specs.List.{range_with_len}
use Rattle.f2_model.specs.Content.{PAGE, PageMap, page_of, byte_at, bytes_between}

-- numbers up to one in their midst, and those from there on
map_parts : {X : Type 0} (f : ℕ → X) (a m n : ℕ) → map f (range_with_len a m) ++ map f (range_with_len (a + m) n) ≡ map f (range_with_len a (m + n))
map_parts f a zero n =
    let start : a + 0 ≡ a = omega arith in
    let count : n ≡ 0 + n = omega arith in
    ap (λ s. map f (range_with_len s n)) start ∙ ap (λ k. map f (range_with_len a k)) count
map_parts f a (suc m) n =
    let start : a + suc m ≡ a + 1 + m = omega arith in
    let count : suc (m + n) ≡ suc m + n = omega arith in
    ap (λ rest. f a ∷ rest) (ap (λ s. map f (range_with_len (a + 1) m) ++ map f (range_with_len s n)) start ∙ map_parts f (a + 1) m n)
    ∙ ap (λ k. map f (range_with_len a k)) count

pub bytes_parts : (pages : PageMap) (a b c : ℕ) → a ≤ b → b ≤ c → bytes_between pages a b ++ bytes_between pages b c ≡ bytes_between pages a c
bytes_parts pages a b c ab bc =
    let mid : b ≡ a + (b - a) = omega (arith, ab) in
    let all : b - a + (c - b) ≡ c - a = omega (arith, ab, bc) in
    ap (λ s. bytes_between pages a b ++ map (byte_at pages) (range_with_len s (c - b))) mid ∙ map_parts (byte_at pages) a (b - a) (c - b) ∙ ap (λ n. map (byte_at pages) (range_with_len a n)) all

-- bytes of one page
byte_in : (pages : PageMap) (page at : ℕ) → at < PAGE → slice_index (page_of pages page) at ≡ byte_at pages (page * PAGE + at)
byte_in pages page at less =
    let number : page ≡ (page * PAGE + at) / PAGE = omega (arith, less) in
    let place : at ≡ (page * PAGE + at) % PAGE = omega (arith, less) in
    ap (λ p. slice_index (page_of pages p) at) number ∙ ap (λ a. slice_index (page_of pages ((page * PAGE + at) / PAGE)) a) place

in_page : (pages : PageMap) (page start n : ℕ) → start + n ≤ PAGE → map (slice_index (page_of pages page)) (range_with_len start n) ≡ map (byte_at pages) (range_with_len (page * PAGE + start) n)
in_page pages page start zero small = refl
in_page pages page start (suc n) small =
    let next : page * PAGE + (start + 1) ≡ page * PAGE + start + 1 = omega arith in
    ap (λ byte. byte ∷ map (slice_index (page_of pages page)) (range_with_len (start + 1) n)) (byte_in pages page start (omega (arith, small)))
    ∙ ap (λ rest. byte_at pages (page * PAGE + start) ∷ rest) (in_page pages page (start + 1) n (omega (arith, small)) ∙ ap (λ s. map (byte_at pages) (range_with_len s n)) next)

-- those from one offset up to another
between_in : (pages : PageMap) (page lo hi : ℕ) → page * PAGE ≤ lo → lo ≤ page * PAGE + PAGE → hi ≤ page * PAGE + PAGE
    → map (slice_index (page_of pages page)) (range_with_len (lo - page * PAGE) (hi - page * PAGE - (lo - page * PAGE))) ≡ bytes_between pages lo hi
between_in pages page lo hi from to end =
    let start : page * PAGE + (lo - page * PAGE) ≡ lo = omega (arith, from) in
    let count : hi - page * PAGE - (lo - page * PAGE) ≡ hi - lo = omega (arith, from) in
    in_page pages page (lo - page * PAGE) (hi - page * PAGE - (lo - page * PAGE)) (omega (arith, from, to, end))
    ∙ ap (λ s. map (byte_at pages) (range_with_len s (hi - page * PAGE - (lo - page * PAGE)))) start
    ∙ ap (λ n. map (byte_at pages) (range_with_len lo n)) count

pub part_bytes : (pages : PageMap) (page from to first lo hi : ℕ) (block : List ℕ) → first ≡ page * PAGE → lo ≡ max from first → hi ≡ min to (first + PAGE)
    → page * PAGE < to → from < page * PAGE + PAGE → block ≡ page_of pages page
    → map (slice_index block) (range_with_len (lo - first) (hi - first - (lo - first))) ≡ bytes_between pages (max from (page * PAGE)) (min to (page * PAGE + PAGE))
part_bytes pages page from to first lo hi block begins low high before behind is =
    let lo_is : lo ≡ max from (page * PAGE) = low ∙ ap (max from) begins in
    let hi_is : hi ≡ min to (page * PAGE + PAGE) = high ∙ ap (λ f. min to (f + PAGE)) begins in
    ap (λ b. map (slice_index b) (range_with_len (lo - first) (hi - first - (lo - first)))) is
    ∙ ap (λ f. map (slice_index (page_of pages page)) (range_with_len (lo - f) (hi - f - (lo - f)))) begins
    ∙ between_in pages page lo hi (omega (arith, lo_is)) (omega (arith, lo_is, behind)) (omega (arith, hi_is))
    ∙ ap (λ l. bytes_between pages l hi) lo_is ∙ ap (bytes_between pages (max from (page * PAGE))) hi_is

-- one page more
pub step_bytes : (pages : PageMap) (from to page : ℕ) (old new : List ℕ) → from < to → page * PAGE < to → from < page * PAGE + PAGE
    → old ≡ bytes_between pages from (min to (max from (page * PAGE))) → new ≡ old ++ bytes_between pages (max from (page * PAGE)) (min to (page * PAGE + PAGE))
    → new ≡ bytes_between pages from (min to (max from ((page + 1) * PAGE)))
step_bytes pages from to page old new some before behind was is =
    let mid : min to (max from (page * PAGE)) ≡ max from (page * PAGE) = omega (arith, some, before) in
    let end : min to (page * PAGE + PAGE) ≡ min to (max from ((page + 1) * PAGE)) = omega (arith, behind) in
    is
    ∙ ap (λ bytes. bytes ++ bytes_between pages (max from (page * PAGE)) (min to (page * PAGE + PAGE))) (was ∙ ap (bytes_between pages from) mid)
    ∙ bytes_parts pages from (max from (page * PAGE)) (min to (page * PAGE + PAGE)) (omega arith) (omega (arith, some, before, behind))
    ∙ ap (bytes_between pages from) end
