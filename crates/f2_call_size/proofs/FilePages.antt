-- What a file takes before and after a write, and before and after a cut.
use Rattle.std.proofs.Common.{◌≡◌, ◌+◌, ◌/◌, ◌%◌, ℕ, Bool, true, false, cond, not, ◌&&◌, ◌||◌, ◌==◌, List, [], ◌∷◌, ◌++◌, length, refl, sym, ap, ◌∙◌, arith}
use Rattle.std.specs.Prelude.{nat_lt, if◌then◌else◌, is_some, Some, None}
use Rattle.std.specs.List.{AllByRecursion, filter, flat_map}
use Rattle.std.specs.List.Sorted.{IsStrictlySortedBy}
use Rattle.std.specs.Ordering.{nat_cmp, eq_by_cmp}
use Rattle.std.specs.declared.cmp.Ordering.TheVariants.{Less}
use Rattle.std.specs.Cmp.{nat_cmp_total}
use Rattle.std.specs.FinMap as map
use Rattle.std.specs.FinSet as set
use Rattle.std.proofs.lemmas.Bool.Decides.{nat_tests}
use Rattle.std.proofs.lemmas.List.Folds.{list_any-append}
use Rattle.f2_files.proofs.Naming.{keys_sorted}
use Rattle.f2_files.proofs.PageMaps.{pieces_alike}
use Rattle.f2_files.specs.Cuts.{Addressed}
use Rattle.f2_files.specs.Shape.{IsShape, with_page, with_all_pages}
use Rattle.f2_files.specs.declared.shapes.Shape.{Shape}
use Rattle.f2_format.specs.Offsets.{node_count, nodes_over}
use Rattle.f2_held.specs.Recovered.{size_of_file}
use Rattle.f2_model.specs.Content.{PAGE, PageMap, begins_before, cut_pages, filled, page_of, pages_of_piece, put_pieces}
use Rattle.f2_model.specs.Fallback.{Both}
use Rattle.f2_model.specs.declared.requests.Piece.{Piece}
use Rattle.f2_model.specs.declared.rows.Kind.TheVariants.{Regular}
use Rattle.f2_model.specs.declared.rows.Row.{Row}
use Rattle.f2_call_size.specs.Beyond.{IsMore, is_one, listed, pages_below, pages_from}
use Rattle.f2_call_size.proofs.Listed.{any_filter, len_keys, len_sorted, length-parts, same_listed, same_nodes, tied}

-- equal maps of page numbers
same_count : {X Y : Type 0} (m : map.FinMap nat_cmp X) (n : map.FinMap nat_cmp Y) → ((q : ℕ) → map.contains_key m q ≡ map.contains_key n q) → (q : ℕ) → is_one q (map.keys m) ≡ is_one q (map.keys n)
same_count m n same q = sym (map.contains_key-keys m q) ∙ same q ∙ map.contains_key-keys n q

or_swap : (a b c : Bool) → ((a || b) || c) ≡ (a || (b || c))
or_swap true b c = refl
or_swap false b c = refl

with_one : (s : Addressed) (x q : ℕ) → map.contains_key (with_page s x) q ≡ (map.contains_key s q || eq_by_cmp nat_cmp q x)
with_one s x q = by (map.contains_key s x) refl (eq_by_cmp nat_cmp q x) refl
  where
    or_false : (a : Bool) → a ≡ (a || false)
    or_false true = refl
    or_false false = refl

    or_true : (a : Bool) → true ≡ (a || true)
    or_true true = refl
    or_true false = refl

    by : (b : Bool) → map.contains_key s x ≡ b → (c : Bool) → eq_by_cmp nat_cmp q x ≡ c → map.contains_key (if b then s else map.insert s x 0) q ≡ (map.contains_key s q || c)
    by true there true e = ap (map.contains_key s) (tied q x e) ∙ there ∙ or_true (map.contains_key s q)
    by true there false e = or_false (map.contains_key s q)
    by false there c e = ap (λ o. is_some o) (map.get-insert nat_cmp_total s x 0 q ∙ ap (λ b. cond b (Some 0) (map.get s q)) e) ∙ put c
      where
        put : (c : Bool) → is_some (cond c (Some 0) (map.get s q)) ≡ (map.contains_key s q || c)
        put true = or_true (map.contains_key s q)
        put false = or_false (map.contains_key s q)

with_all : (s : Addressed) (xs : List ℕ) (q : ℕ) → map.contains_key (with_all_pages s xs) q ≡ (map.contains_key s q || is_one q xs)
with_all s [] q = or_false (map.contains_key s q)
  where
    or_false : (a : Bool) → a ≡ (a || false)
    or_false true = refl
    or_false false = refl
with_all s (x ∷ xs) q = with_all (with_page s x) xs q ∙ ap (λ b. b || is_one q xs) (with_one s x q) ∙ or_swap (map.contains_key s q) (eq_by_cmp nat_cmp q x) (is_one q xs)

module _ (row : Shape) (one : Row) (alike : IsShape row one) (file : one.kind ≡ Regular) where
  keys_same : (q : ℕ) → is_one q (map.keys one.pages) ≡ is_one q (map.keys row.pages)
  keys_same = same_count one.pages row.pages (λ q. sym (alike.pages file q))

  count_of : map.len one.pages ≡ set.len (listed (map.keys row.pages))
  count_of = sym (len_keys one.pages) ∙ ap (λ s. set.len s) (same_listed (map.keys one.pages) (map.keys row.pages) keys_same)

  nodes_of : node_count (map.keys one.pages) ≡ node_count (map.keys row.pages)
  nodes_of = ap (λ s. set.len s) (same_nodes (map.keys one.pages) (map.keys row.pages) keys_same)

  module _ (pieces : List Piece) where
    abbrev reached : List ℕ
    reached = flat_map pages_of_piece pieces

    put_same : (q : ℕ) → is_one q (map.keys (put_pieces one.pages pieces)) ≡ is_one q (map.keys row.pages ++ reached)
    put_same q =
        sym (map.contains_key-keys (put_pieces one.pages pieces) q)
        ∙ sym (pieces_alike pieces row.pages one.pages (alike.pages file) q)
        ∙ with_all row.pages reached q
        ∙ ap (λ b. b || is_one q reached) (map.contains_key-keys row.pages q)
        ∙ sym (list_any-append (eq_by_cmp nat_cmp q) (map.keys row.pages) reached)

    pub more_by_pieces : (size : Both) → node_count (map.keys row.pages ++ reached) ≡ node_count (map.keys row.pages) + size.nodes → set.len (listed (map.keys row.pages ++ reached)) ≡ set.len (listed (map.keys row.pages)) + size.pages
        → IsMore (record one { pages = put_pieces one.pages pieces }) one size
    more_by_pieces size nodes pages =
        let all_nodes : node_count (map.keys (put_pieces one.pages pieces)) ≡ node_count (map.keys one.pages) + size.nodes =
        ap (λ s. set.len s) (same_nodes (map.keys (put_pieces one.pages pieces)) (map.keys row.pages ++ reached) put_same) ∙ nodes ∙ ap (λ n. n + size.nodes) (sym nodes_of) in
        let all_pages : map.len (put_pieces one.pages pieces) ≡ map.len one.pages + size.pages =
        sym (len_keys (put_pieces one.pages pieces)) ∙ ap (λ s. set.len s) (same_listed (map.keys (put_pieces one.pages pieces)) (map.keys row.pages ++ reached) put_same) ∙ pages ∙ ap (λ n. n + size.pages) (sym count_of) in
        λ i. record { nodes = all_nodes i; pages = all_pages i }

-- a filter leaves numbers that rise as they do
module _ (p : ℕ → Bool) where
  filter_below : (x : ℕ) (ks : List ℕ) → AllByRecursion (λ y. nat_cmp x y ≡ Less) ks → AllByRecursion (λ y. nat_cmp x y ≡ Less) (filter p ks)
  filter_below x [] h = tt
  filter_below x (k ∷ ks) h = by (filter_below x ks h.1) (p k)
    where
      by : AllByRecursion (λ y. nat_cmp x y ≡ Less) (filter p ks) → (b : Bool) → AllByRecursion (λ y. nat_cmp x y ≡ Less) (cond b (k ∷ filter p ks) (filter p ks))
      by rest true = (h.0, rest)
      by rest false = rest

  filter_rises : (ks : List ℕ) → IsStrictlySortedBy nat_cmp ks → IsStrictlySortedBy nat_cmp (filter p ks)
  unfolding IsStrictlySortedBy
  filter_rises [] h = tt
  filter_rises (k ∷ ks) h = by (filter_rises ks h.1) (p k)
    where
      by : IsStrictlySortedBy nat_cmp (filter p ks) → (b : Bool) → IsStrictlySortedBy nat_cmp (cond b (k ∷ filter p ks) (filter p ks))
      by rest true = (filter_below k ks h.0, rest)
      by rest false = rest

-- the pages of a cut file
module _ (pages : PageMap) (size q : ℕ) where
  abbrev kept : PageMap
  kept = map.retain_keys pages (begins_before size)

  kept_has : map.contains_key kept q ≡ (begins_before size q && map.contains_key pages q)
  kept_has = ap (λ o. is_some o) (map.get-retain_keys pages (begins_before size) q (λ x e. ap (begins_before size) (sym (set.nat_cmp-IsAntisymmetric q x e)))) ∙ by (begins_before size q)
    where
      by : (b : Bool) → is_some (cond b (map.get pages q) None) ≡ (b && map.contains_key pages q)
      by true = refl
      by false = refl

  by_there : (b : Bool) → map.contains_key kept (size / PAGE) ≡ b → map.contains_key (if b then map.insert kept (size / PAGE) (filled (page_of kept (size / PAGE)) (size % PAGE) PAGE 0) else kept) q ≡ map.contains_key kept q
  by_there false e = refl
  by_there true e =
      ap (λ o. is_some o) (map.get-insert nat_cmp_total kept (size / PAGE) (filled (page_of kept (size / PAGE)) (size % PAGE) PAGE 0) q) ∙ by (eq_by_cmp nat_cmp q (size / PAGE)) refl
    where
      by : (c : Bool) → eq_by_cmp nat_cmp q (size / PAGE) ≡ c → is_some (cond c (Some (filled (page_of kept (size / PAGE)) (size % PAGE) PAGE 0)) (map.get kept q)) ≡ map.contains_key kept q
      by true t = sym (ap (map.contains_key kept) (tied q (size / PAGE) t) ∙ e)
      by false t = refl

  by_page : (b : Bool) → map.contains_key (if b then kept else (if map.contains_key kept (size / PAGE) then map.insert kept (size / PAGE) (filled (page_of kept (size / PAGE)) (size % PAGE) PAGE 0) else kept)) q ≡ map.contains_key kept q
  by_page true = refl
  by_page false = by_there (map.contains_key kept (size / PAGE)) refl

  cut_has : map.contains_key (cut_pages pages size) q ≡ (begins_before size q && map.contains_key pages q)
  cut_has = by_page (size % PAGE == 0) ∙ kept_has

module _ (row : Shape) (one : Row) (alike : IsShape row one) (file : one.kind ≡ Regular) (size end : ℕ) (to : (page : ℕ) → nat_lt page end ≡ begins_before size page) where
  abbrev low : List ℕ
  low = pages_below row.pages end

  abbrev high : List ℕ
  high = pages_from row.pages end

  parts : (q : ℕ) → is_one q (map.keys one.pages) ≡ is_one q (low ++ high)
  parts q =
      keys_same row one alike file q ∙ split (nat_lt q end) (is_one q (map.keys row.pages))
      ∙ (λ i. sym (any_filter (λ page. nat_lt page end) q (map.keys row.pages)) i || sym (any_filter (λ page. not (nat_lt page end)) q (map.keys row.pages)) i)
      ∙ sym (list_any-append (eq_by_cmp nat_cmp q) low high)
    where
      split : (a b : Bool) → b ≡ ((a && b) || (not a && b))
      split true true = refl
      split true false = refl
      split false b = refl

  left : (q : ℕ) → is_one q (map.keys (cut_pages one.pages size)) ≡ is_one q low
  left q =
      sym (map.contains_key-keys (cut_pages one.pages size) q) ∙ cut_has one.pages size q
      ∙ (λ i. sym (to q) i && (sym (alike.pages file q) ∙ map.contains_key-keys row.pages q) i)
      ∙ sym (any_filter (λ page. nat_lt page end) q (map.keys row.pages))

  sorted : IsStrictlySortedBy nat_cmp (map.keys row.pages)
  sorted = keys_sorted nat_cmp (map.entries row.pages) (map.entries_sorted row.pages)

  count_left : map.len (cut_pages one.pages size) ≡ length low
  count_left =
      sym (len_keys (cut_pages one.pages size)) ∙ ap (λ s. set.len s) (same_listed (map.keys (cut_pages one.pages size)) low left)
      ∙ len_sorted low (filter_rises (λ page. nat_lt page end) (map.keys row.pages) sorted)

  count_whole : map.len one.pages ≡ length (map.keys row.pages)
  count_whole = count_of row one alike file ∙ len_sorted (map.keys row.pages) sorted

  pub less_by_cut : (gone : Both) → node_count (low ++ high) ≡ node_count low + gone.nodes → gone.pages ≡ length high → IsMore one (record one { pages = cut_pages one.pages size }) gone
  less_by_cut gone nodes pages =
      let all_nodes : node_count (map.keys one.pages) ≡ node_count (map.keys (cut_pages one.pages size)) + gone.nodes =
      ap (λ s. set.len s) (same_nodes (map.keys one.pages) (low ++ high) parts) ∙ nodes ∙ ap (λ n. n + gone.nodes) (sym (ap (λ s. set.len s) (same_nodes (map.keys (cut_pages one.pages size)) low left))) in
      let sum = length-parts (λ page. nat_lt page end) (map.keys row.pages) in
      let all_pages : map.len one.pages ≡ map.len (cut_pages one.pages size) + gone.pages = omega (arith, sum, count_left, count_whole, pages) in
      λ i. record { nodes = all_nodes i; pages = all_pages i }

-- a file cut at 0 has no page
never : (q : ℕ) → begins_before 0 q ≡ false
never q = grind (arith, nat_tests)

no_page : (pages : PageMap) (q : ℕ) → is_one q (map.keys (cut_pages pages 0)) ≡ is_one q []
no_page pages q = sym (map.contains_key-keys (cut_pages pages 0) q) ∙ cut_has pages 0 q ∙ ap (λ b. b && map.contains_key pages q) (never q)

-- no page needs the inode alone
pub alone : node_count [] ≡ 1
unfolding nodes_over
alone = set.len-insert nat_cmp_total set.empty 0 ∙ ap (λ b. cond b (set.len {R = nat_cmp} set.empty) (set.len {R = nat_cmp} set.empty + 1)) (set.contains-empty nat_cmp 0) ∙ ap (λ n. n + 1) (set.len-empty nat_cmp)

pub emptied : (one : Row) → size_of_file (record one { pages = cut_pages one.pages 0 }) ≡ record { nodes = 1; pages = 0 }
emptied one = λ i. record { nodes = nodes i; pages = pages i }
  where
    nodes : node_count (map.keys (cut_pages one.pages 0)) ≡ 1
    nodes = ap (λ s. set.len s) (same_nodes (map.keys (cut_pages one.pages 0)) [] (no_page one.pages)) ∙ alone

    pages : map.len (cut_pages one.pages 0) ≡ 0
    pages = sym (len_keys (cut_pages one.pages 0)) ∙ ap (λ s. set.len s) (same_listed (map.keys (cut_pages one.pages 0)) [] (no_page one.pages)) ∙ set.len-empty nat_cmp
