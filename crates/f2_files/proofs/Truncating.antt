-- What a cut of a file leaves.
use Rattle.std.proofs.Common.{◌≡◌, ◌≢◌, ◌⊎◌, inl, inr, ℕ, ◌*◌, ◌/◌, ◌%◌, Bool, true, false, true≢false, cond, not, ◌&&◌, ◌||◌, ◌==◌, List, [], ◌∷◌, ◌++◌, length, refl, sym, ap, subst, ◌∙◌, arith}
use Rattle.std.specs.Prelude.{Option, Some, None, Result, Ok, Err, is_some, nat_lt, if◌then◌else◌}
use Rattle.std.specs.List.{cons_option, filter, list_any}
use Rattle.std.specs.Ordering.{nat_cmp}
use Rattle.std.specs.Cmp.{nat_cmp_total}
use Rattle.std.specs.FinMap as map
use Rattle.std.specs.FinMap.{FinMap, nat_cmp-IsAntisymmetric}
use Rattle.std.specs.FinSet as set
use Rattle.std.proofs.lemmas.Bool.{lt-ltb, eqb-false, ne_eqb}
use Rattle.f2_format.specs.Offsets.{direct_of}
use Rattle.f2_model.proofs.RisingLemmas.{rising-is}
use Rattle.f2_model.specs.Content.{PAGE, PageMap, begins_before, cut_pages, filled, page_of}
use Rattle.f2_model.specs.Tree.{Rows, is_directory, walk}
use Rattle.f2_model.specs.Call.{on_row, row_passes}
use Rattle.f2_model.specs.State.{Pairs, Inos, directs_of, dirtied, from_both_rows, has_direct, removed, touched, with_pairs, without_pairs}
use Rattle.f2_model.specs.declared.rows.Row.{Row}
use Rattle.f2_model.specs.declared.rows.Kind.{Kind}
use Rattle.f2_model.specs.declared.rows.Kind.TheVariants.{Regular}
use Rattle.f2_model.specs.declared.requests.Request.TheVariants.{Truncate}
use Rattle.f2_model.specs.declared.replies.Reply.{Reply}
use Rattle.f2_laws.proofs.Maps.{get_put, get_put-other}
use Rattle.f2_laws.proofs.Passed.{passed, regular as regular_kind}
use Rattle.f2_laws.proofs.Places.{same_or_other}
use Rattle.f2_files.specs.Cuts.{has_page_in, nodes_gone, nodes_kept, page_cut, pages_before, pages_past}
use Rattle.f2_files.specs.Known.{Known, IsAllowed, IsKnownOf, Follows, LeadsTo}
use Rattle.f2_files.specs.Led.{Dirs, Place, ino_at, led, place_at, BindsNames}
use Rattle.f2_files.specs.Shape.{IsShape, IsShapeOf}
use Rattle.f2_files.specs.declared.shapes.Shape.{Shape}
use Rattle.f2_files.proofs.Alike.{put_alike}
use Rattle.f2_files.proofs.Leads.{leads}
use Rattle.f2_files.proofs.Naming.{keys_sorted}
use Rattle.f2_files.proofs.NodePages.{contains-retain, has_page}
use Rattle.f2_files.proofs.PairOrder.{Pair}
use Rattle.f2_files.proofs.PairSets.{has, is_pair, pair_same}
use Rattle.f2_files.proofs.Removing.{shape_led}
use Rattle.f2_files.proofs.Swaps.{apart, back, has-filter}
use Rattle.f2_files.proofs.Writing.{changes}

-- maps with the same keys have them in the same order
pub keys_same : {X Y : Type 0} (m : FinMap nat_cmp X) (n : FinMap nat_cmp Y) → ((q : ℕ) → map.contains_key m q ≡ map.contains_key n q) → map.keys m ≡ map.keys n
keys_same m n same =
    let members = set.from_list {R = nat_cmp} (map.keys m) in
    sym (rising-is nat_cmp_total nat_cmp-IsAntisymmetric members (map.keys m) (keys_sorted nat_cmp (map.entries m) (map.entries_sorted m)) (λ q. set.contains-from_list nat_cmp_total (map.keys m) q))
    ∙ rising-is nat_cmp_total nat_cmp-IsAntisymmetric members (map.keys n) (keys_sorted nat_cmp (map.entries n) (map.entries_sorted n)) (λ q.
    set.contains-from_list nat_cmp_total (map.keys m) q ∙ sym (map.contains_key-keys m q) ∙ same q ∙ map.contains_key-keys n q)

-- a key that is there gets another value
put_there : {X : Type 0} (m : FinMap nat_cmp X) (k : ℕ) (v : X) → map.contains_key m k ≡ true → (q : ℕ) → map.contains_key (map.insert m k v) q ≡ map.contains_key m q
put_there m k v there q = by_key (same_or_other q k)
  where
    by_key : (q ≡ k) ⊎ (q ≢ k) → map.contains_key (map.insert m k v) q ≡ map.contains_key m q
    by_key (inl same) = ap (map.contains_key (map.insert m k v)) same ∙ ap (λ o. is_some o) (get_put m k v) ∙ sym there ∙ ap (map.contains_key m) (sym same)
    by_key (inr other) = ap (λ o. is_some o) (get_put-other m k v q other)

-- pages that are cut are those that begin before the size
contains-cut : (pages : PageMap) (size q : ℕ) → map.contains_key (cut_pages pages size) q ≡ (begins_before size q && map.contains_key pages q)
contains-cut pages size q = by_size (size % PAGE == 0) ∙ contains-retain pages (begins_before size) q
  where
    by_there : (b : Bool) → map.contains_key (map.retain_keys pages (begins_before size)) (size / PAGE) ≡ b
        → map.contains_key (if b then map.insert (map.retain_keys pages (begins_before size)) (size / PAGE) (filled (page_of (map.retain_keys pages (begins_before size)) (size / PAGE)) (size % PAGE) PAGE 0) else map.retain_keys pages (begins_before size)) q
        ≡ map.contains_key (map.retain_keys pages (begins_before size)) q
    by_there true is = put_there (map.retain_keys pages (begins_before size)) (size / PAGE) _ is q
    by_there false is = refl

    by_size : (b : Bool) → map.contains_key (if b then map.retain_keys pages (begins_before size) else
        (if map.contains_key (map.retain_keys pages (begins_before size)) (size / PAGE) then map.insert (map.retain_keys pages (begins_before size)) (size / PAGE) (filled (page_of (map.retain_keys pages (begins_before size)) (size / PAGE)) (size % PAGE) PAGE 0) else map.retain_keys pages (begins_before size))) q
        ≡ map.contains_key (map.retain_keys pages (begins_before size)) q
    by_size true = refl
    by_size false = by_there (map.contains_key (map.retain_keys pages (begins_before size)) (size / PAGE)) refl

-- where something passes, not none do
any_some : (test : ℕ → Bool) (xs : List ℕ) → list_any test xs ≡ not (length (filter test xs) == 0)
any_some test [] = refl
any_some test (x ∷ xs) = by_test (any_some test xs) (test x)
  where
    by_test : list_any test xs ≡ not (length (filter test xs) == 0) → (b : Bool) → (b || list_any test xs) ≡ not (length (cond b (x ∷ filter test xs) (filter test xs)) == 0)
    by_test rest true = let some : length (x ∷ filter test xs) ≢ 0 = omega arith in sym (ap not (ne_eqb (length (x ∷ filter test xs)) 0 some))
    by_test rest false = rest

module _ (row : Shape) (size : ℕ) where
  abbrev left : Shape
  left = record row { size = size; pages = pages_before row.pages size }

  -- the page that the size cuts is there, and begins before it
  pub record IsCutAt (page : ℕ) : Type 0 where
    pub at : page ≡ size / PAGE
    pub before : begins_before size page ≡ true
    pub there : map.contains_key row.pages page ≡ true

  or_false : (a : Bool) → (a || false) ≡ true → a ≡ true
  or_false true h = refl
  or_false false h = h

  three : (a b c : Bool) → (a && b && c) ≡ true → (b ≡ true) × (c ≡ true)
  three true true true h = (refl, refl)
  three true true false h = absurd (true≢false (sym h))
  three true false c h = absurd (true≢false (sym h))
  three false b c h = absurd (true≢false (sym h))

  begins : not (size % PAGE == 0) ≡ true → begins_before size (size / PAGE) ≡ true
  begins h = by_test (size % PAGE == 0) refl h
    where
      by_test : (b : Bool) → (size % PAGE == 0) ≡ b → not b ≡ true → begins_before size (size / PAGE) ≡ true
      by_test true is h = absurd (true≢false (sym h))
      by_test false is h = let some = eqb-false (size % PAGE) 0 is in lt-ltb (size / PAGE * PAGE) size (omega (arith, some))

  module _ (ino : ℕ) where
    cut_at : (q : Pair) → has ino (page_cut row size) q ≡ true → IsCutAt q.1
    cut_at q h = by_test (nat_lt size row.size && not (size % PAGE == 0) && map.contains_key row.pages (size / PAGE)) refl h
      where
        by_test : (b : Bool) → (nat_lt size row.size && not (size % PAGE == 0) && map.contains_key row.pages (size / PAGE)) ≡ b → has ino (if b then (size / PAGE) ∷ [] else []) q ≡ true → IsCutAt q.1
        by_test false is h = absurd (true≢false (sym h))
        by_test true is h =
            let parts = three (nat_lt size row.size) (not (size % PAGE == 0)) (map.contains_key row.pages (size / PAGE)) is in
            let at : q.1 ≡ size / PAGE = ap (λ (one : Pair). one.1) (pair_same q (ino, size / PAGE) (or_false (is_pair q (ino, size / PAGE)) h)) in
            record { at = at; before = ap (begins_before size) at ∙ begins parts.0; there = ap (map.contains_key row.pages) at ∙ parts.1 }

    -- it isn't among those that go
    cut_stays : (q : Pair) → has ino (page_cut row size) q ≡ true → has ino (pages_past row.pages size) q ≡ false
    cut_stays q h =
        has-filter ino (λ page. not (begins_before size page)) (map.keys row.pages) q
        ∙ ap (λ b. has ino (map.keys row.pages) q && not b) (cut_at q h).before
        ∙ none (has ino (map.keys row.pages) q)
      where
        none : (a : Bool) → (a && false) ≡ false
        none true = refl
        none false = refl

    -- and its direct node keeps it
    node_stays : (q : Pair) → has ino (directs_of (page_cut row size)) q ≡ true → has_page_in (pages_before row.pages size) q.1 ≡ true
    node_stays q h = by_test (nat_lt size row.size && not (size % PAGE == 0) && map.contains_key row.pages (size / PAGE)) refl h
      where
        by_direct : map.contains_key (pages_before row.pages size) (size / PAGE) ≡ true → (o : Option ℕ) → direct_of (size / PAGE) ≡ o → has ino (cons_option o []) q ≡ true → has_page_in (pages_before row.pages size) q.1 ≡ true
        by_direct there None is h = absurd (true≢false (sym h))
        by_direct there (Some node) is h =
            let at : q.1 ≡ node = ap (λ (one : Pair). one.1) (pair_same q (ino, node) (or_false (is_pair q (ino, node)) h)) in
            ap (has_page_in (pages_before row.pages size)) at ∙ has_page (pages_before row.pages size) node (size / PAGE) there is

        by_test : (b : Bool) → (nat_lt size row.size && not (size % PAGE == 0) && map.contains_key row.pages (size / PAGE)) ≡ b → has ino (directs_of (if b then (size / PAGE) ∷ [] else [])) q ≡ true → has_page_in (pages_before row.pages size) q.1 ≡ true
        by_test false is h = absurd (true≢false (sym h))
        by_test true is h =
            let parts = three (nat_lt size row.size) (not (size % PAGE == 0)) (map.contains_key row.pages (size / PAGE)) is in
            by_direct (contains-retain row.pages (begins_before size) (size / PAGE) ∙ (λ i. begins parts.0 i && parts.1 i)) (direct_of (size / PAGE)) refl h

  -- the same of the row of a tree that has this shape
  module _ (one : Row) (is : IsShape row one) (file : row.kind ≡ Regular) where
    regular : one.kind ≡ Regular
    regular = sym is.kind ∙ file

    pages_same : map.keys row.pages ≡ map.keys one.pages
    pages_same = keys_same row.pages one.pages (is.pages regular)

    left_same : (q : ℕ) → map.contains_key (pages_before row.pages size) q ≡ map.contains_key (cut_pages one.pages size) q
    left_same q =
        contains-retain row.pages (begins_before size) q
        ∙ ap (λ b. begins_before size q && b) (is.pages regular q)
        ∙ sym (contains-cut one.pages size q)

    pub cut_alike : IsShape left (record one { size = size; pages = cut_pages one.pages size })
    cut_alike = record { ino = is.ino; kind = is.kind; parent = is.parent; name = is.name; size = refl; pages = λ kind q. left_same q }

    past_same : (path : List (List ℕ)) → pages_past row.pages size ≡ removed one (Truncate path size)
    past_same path = ap (filter (λ page. not (begins_before size page))) pages_same

    touched_same : (path : List (List ℕ)) → page_cut row size ≡ touched one (Truncate path size)
    touched_same path i = if nat_lt size (is.size i) && not (size % PAGE == 0) && is.pages regular (size / PAGE) i then (size / PAGE) ∷ [] else []

    nodes_same : has_page_in (pages_before row.pages size) ≡ (λ node. list_any (λ other. other == node) (directs_of (map.keys (cut_pages one.pages size))))
    nodes_same = ap (λ keys. λ node. list_any (λ other. other == node) (directs_of keys)) (keys_same (pages_before row.pages size) (cut_pages one.pages size) left_same)

turned : {X : Type 0} (b : Bool) (x y : X) → (if b then x else y) ≡ (if not b then y else x)
turned true x y = refl
turned false x y = refl

module _ (row : Shape) (size : ℕ) (one : Row) (is : IsShape row one) (file : row.kind ≡ Regular) (path : List (List ℕ)) (ino : ℕ) (own : ino ≡ one.ino) where
  abbrev put : Row
  put = record one { size = size; pages = cut_pages one.pages size }

  pages_marked : (s t : Pairs) → s ≡ t → without_pairs ino (with_pairs ino s (page_cut row size)) (pages_past row.pages size) ≡ with_pairs one.ino (without_pairs one.ino t (removed one (Truncate path size))) (touched one (Truncate path size))
  pages_marked s t same =
      apart ino s (pages_past row.pages size) (page_cut row size) (cut_stays row size ino)
      ∙ (λ i. with_pairs (own i) (without_pairs (own i) (same i) (past_same row size one is file path i)) (touched_same row size one is file path i))

  nodes_marked : (s t : Pairs) → s ≡ t → without_pairs ino (with_pairs ino s (nodes_kept row.pages size ++ directs_of (page_cut row size))) (nodes_gone row.pages size)
      ≡ with_pairs one.ino (without_pairs one.ino t (directs_of (removed one (Truncate path size)))) (filter (has_direct put) (directs_of (removed one (Truncate path size))) ++ directs_of (touched one (Truncate path size)))
  nodes_marked s t same =
      back ino s (directs_of (pages_past row.pages size)) (directs_of (page_cut row size)) (has_page_in (pages_before row.pages size)) (node_stays row size ino)
      ∙ (λ i. with_pairs (own i) (without_pairs (own i) (same i) (directs_of (past_same row size one is file path i)))
      (filter (nodes_same row size one is file i) (directs_of (past_same row size one is file path i)) ++ directs_of (touched_same row size one is file path i)))

  shrunk_marked : (s t : Inos) → s ≡ t → (if length (nodes_gone row.pages size) == 0 then s else set.insert s ino)
      ≡ (if list_any (λ node. not (has_direct put node)) (directs_of (removed one (Truncate path size))) then set.insert t one.ino else t)
  shrunk_marked s t same =
      turned (length (nodes_gone row.pages size) == 0) s (set.insert s ino)
      ∙ ap (λ b. if b then set.insert s ino else s) (sym (any_some (λ node. not (has_page_in (pages_before row.pages size) node)) (directs_of (pages_past row.pages size))))
      ∙ (λ i. if list_any (λ node. not (nodes_same row size one is file i node)) (directs_of (past_same row size one is file path i)) then set.insert (same i) (own i) else same i)

module _ (k : Known) (dirs : Dirs) (binds : BindsNames k.shapes dirs) (path : List (List ℕ)) (place : Place) (led_to : led dirs path ≡ Ok place) (row : Shape) (there : map.get k.shapes place.0 ≡ Some row) (file : row.kind ≡ Regular) (size : ℕ) where
  -- what is known once a file is cut
  abbrev pub after_cut : Known
  after_cut = record k {
    shapes = map.insert k.shapes place.0 (record row { size = size; pages = pages_before row.pages size });
    dirty_pages = without_pairs place.0 (with_pairs place.0 k.dirty_pages (page_cut row size)) (pages_past row.pages size);
    dirty_nodes = without_pairs place.0 (with_pairs place.0 k.dirty_nodes (nodes_kept row.pages size ++ directs_of (page_cut row size))) (nodes_gone row.pages size);
    shrunk = if length (nodes_gone row.pages size) == 0 then k.shrunk else set.insert k.shrunk place.0;
  }

  pub truncate_follows : Follows k after_cut (Truncate path size) 0
  truncate_follows most state good known =
      let changed : Shape = record row { size = size; pages = pages_before row.pages size } in
      let ends = changes k.shapes dirs binds path place led_to row there most state.live good known.shapes (λ one. size) (λ one. cut_pages one.pages size) changed refl refl refl (λ one is. cut_alike row size one is file) in
      let one : Row = ends.one in
      let now : Row = record one { size = size; pages = cut_pages one.pages size } in
      let after : Rows = map.insert state.live one.ino now in
      let own : place.0 ≡ one.ino = sym ends.own in
      subst (λ o. IsKnownOf after_cut (record (from_both_rows state o (walk (on_row state.live o (λ r. map.insert state.live r.ino (record r { size = size; pages = cut_pages r.pages size }))) path) (λ was is. dirtied state was is (touched was (Truncate path size)) (removed was (Truncate path size)))) { live = on_row state.live o (λ r. map.insert state.live r.ino (record r { size = size; pages = cut_pages r.pages size })) })) (sym ends.leads)
      (subst (λ o. IsKnownOf after_cut (record (from_both_rows state (Ok one) o (λ was is. dirtied state was is (touched was (Truncate path size)) (removed was (Truncate path size)))) { live = after })) (sym ends.leads_now)
      (subst (λ (r : Row). IsKnownOf after_cut (record (dirtied state one r (touched one (Truncate path size)) (removed one (Truncate path size))) { live = after })) (sym ends.now_is)
      (record {
        shapes = subst (λ i. IsShapeOf (map.insert k.shapes i changed) after) ends.own (put_alike k.shapes state.live known.shapes one.ino changed now (cut_alike row size one ends.alike file));
        dirty_pages = pages_marked row size one ends.alike file path place.0 own k.dirty_pages state.dirty_pages known.dirty_pages;
        dirty_nodes = nodes_marked row size one ends.alike file path place.0 own k.dirty_nodes state.dirty_nodes known.dirty_nodes;
        moved = known.moved;
        shrunk = shrunk_marked row size one ends.alike file path place.0 own k.shrunk state.shrunk known.shrunk;
        flights = known.flights;
      })))

-- a row at whose ino a walk ends
ends_at : (end : Result Row Reply) (ino : ℕ) → ino_at end ≡ Ok ino → (one : Row) × (end ≡ Ok one) × (one.ino ≡ ino)
ends_at (Ok one) ino h = let same : one.ino ≡ ino = cc in (one, refl, same)
ends_at (Err refused) ino h = absurd (cc)

-- where a path leads that a cut is allowed on: to a file, which has a row
pub record LeadsToFile (k : Known) (dirs : Dirs) (path : List (List ℕ)) (ino : ℕ) : Type 0 where
  pub kind : Kind
  pub leads : led dirs path ≡ Ok (ino, kind)
  pub row : Shape
  pub there : map.get k.shapes ino ≡ Some row
  pub file : row.kind ≡ Regular

pub file_led : (k : Known) (dirs : Dirs) → BindsNames k.shapes dirs → (path : List (List ℕ)) (ino size : ℕ) → IsAllowed k (Truncate path size) → LeadsTo k path ino → LeadsToFile k dirs path ino
file_led k dirs binds path ino size allowed to =
    let tree : Rows = allowed.tree in
    let end = ends_at (walk tree path) ino (to allowed.most tree allowed.good allowed.shape) in
    let one : Row = end.0 in
    let leads_to : led dirs path ≡ Ok (ino, one.kind) = leads allowed.most tree allowed.good k.shapes allowed.shape dirs binds path ∙ ap place_at end.1 ∙ ap (λ i. Ok (i, one.kind)) end.2 in
    let pass = passed allowed.limits tree (Truncate path size) allowed.unrefused in
    let kind : one.kind ≡ Regular = regular_kind one.kind (sym (ap (λ o. row_passes (λ r. is_directory r.kind) o) end.1) ∙ pass.file) in
    let shape = shape_led k.shapes dirs binds allowed.most tree allowed.good allowed.shape path (ino, one.kind) leads_to in
    record { kind = one.kind; leads = leads_to; row = shape.0; there = shape.1; file = shape.2 ∙ kind }
