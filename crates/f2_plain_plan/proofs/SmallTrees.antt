-- Small trees that every image can have: the root alone, and the root with two files.
use Rattle.std.proofs.Common.{◌≡◌, ◌≢◌, ℕ, ◌+◌, ◌*◌, ◌<◌, ◌≤◌, Bool, true, false, cond, ◌||◌, List, [], ◌∷◌, map as map_list, length, refl, sym, ap, subst, ◌∙◌, arith, Some, None, IsTrue}
use Rattle.std.specs.Prelude.{slice_index}
use Rattle.std.specs.List.{AllByRecursion, range_with_len, sum_by}
use Rattle.std.specs.List.Sorted.{IsStrictlySortedBy}
use Rattle.std.specs.Ordering.{nat_cmp, eq_by_cmp}
use Rattle.std.specs.Cmp.{nat_cmp_total}
use Rattle.std.specs.Cmp.Lexicographic.{nat_list_cmp_total}
use Rattle.std.specs.FinMap as map
use Rattle.std.specs.FinMap.{FinMap, entries, entries-insert, find, get-entries, get-empty, len-entries, len-empty, nat_cmp-IsAntisymmetric, slice_cmp-IsAntisymmetric}
use Rattle.std.specs.FinSet as set
use Rattle.std.specs.FinSet.{contains-from_list}
use Rattle.std.proofs.lemmas.List.{get_or_past}
use Rattle.std.proofs.lemmas.List.Sums.{sum_by-cons}
use Rattle.f2_format.specs.Geometry.{ImageGeometry, IsGeometry, nid_limit}
use Rattle.f2_format.specs.Inode.{SIZE_LIMIT}
use Rattle.f2_format.specs.Offsets.{direct_of, inode_pages, node_count, nodes_over}
use Rattle.f2_format.specs.Packing.{blocks_of_names}
use Rattle.f2_held.proofs.Lists.{tied-true}
use Rattle.f2_laid.specs.Laid.{IsKept, IsStorable, pages_of_place, root_alone, root_row}
use Rattle.f2_laid.specs.declared.places.Place.{Place}
use Rattle.f2_model.proofs.RisingLemmas.{rising-is}
use Rattle.f2_model.specs.Content.{PAGE}
use Rattle.f2_model.specs.Count.{data_of_row, data_of_tree, dentry_blocks, nodes_of_row, nodes_of_tree}
use Rattle.f2_model.specs.Names.{is_good_name}
use Rattle.f2_model.specs.Rising.{rising}
use Rattle.f2_model.specs.Tree.{HasGoodPages, IsAtDepth, ROOT, Rows, most_depth}
use Rattle.f2_model.specs.declared.rows.Kind.TheVariants.{Regular, Directory}
use Rattle.f2_model.specs.declared.rows.Row.{Row}
use Rattle.f2_plain_plan.proofs.NameMaps.{name_cmp}

no_some : {X : Type 0} (x : X) → None ≡ Some x → ⊥
no_some x e = cc

same_some : {X : Type 0} (x y : X) → Some x ≡ Some y → x ≡ y
same_some x y e = cc

no_length : {A : Type 0} (xs : List A) → length xs ≡ 0 → xs ≡ []
no_length [] e = refl
no_length (x ∷ xs) e = absurd (omega arith)

no_entries : {X : Type 0} → entries (map.empty {X = X} {R = nat_cmp}) ≡ []
no_entries {X} = no_length (entries map.empty) (sym (len-entries map.empty) ∙ len-empty nat_cmp X)

-- what holds of each entry holds of what is found
found_at : {X : Type 0} (P : ℕ → X → Type 0) (es : List (ℕ × X)) → AllByRecursion (λ e. P e.0 e.1) es → (k : ℕ) (v : X) → find nat_cmp k es ≡ Some v → P k v
found_at P [] all k v h = absurd (no_some v h)
found_at P (e ∷ es) all k v h = go (found_at P es all.1 k v) (eq_by_cmp nat_cmp k e.0) refl h
  where
    go : (find nat_cmp k es ≡ Some v → P k v) → (b : Bool) → eq_by_cmp nat_cmp k e.0 ≡ b → cond b (Some e.1) (find nat_cmp k es) ≡ Some v → P k v
    go rest true t g = subst (λ n. P n v) (sym (tied-true k e.0 t)) (subst (P e.0) (same_some e.1 v g) all.0)
    go rest false t g = rest g

-- a file whose pages need no node but the inode has one node
one_node : (pages : List ℕ) → nodes_over pages ≡ set.from_list (0 ∷ []) → node_count pages ≡ 1
one_node pages e = ap set.len e ∙ set.len-insert nat_cmp_total none 0 ∙ ap (λ b. cond b (set.len none) (set.len none + 1)) (set.contains-empty nat_cmp 0) ∙ ap (λ n. n + 1) (set.len-empty nat_cmp)
  where
    none : set.FinSet nat_cmp
    none = set.empty

no_pages : nodes_over [] ≡ set.from_list (0 ∷ [])
unfolding nodes_over
no_pages = refl

first_page : nodes_over (0 ∷ []) ≡ set.from_list (0 ∷ [])
unfolding nodes_over direct_of
first_page = refl

alone_entries : entries root_alone ≡ (ROOT, root_row) ∷ []
alone_entries = entries-insert nat_cmp_total map.empty ROOT root_row ∙ ap (map.put nat_cmp ROOT root_row) no_entries

good_nothing : (row : Row) → row.size ≡ 0 → row.pages ≡ map.empty → HasGoodPages SIZE_LIMIT row
good_nothing row size pages =
    let none = λ (page : ℕ) (bytes : List ℕ) (h : map.get row.pages page ≡ Some bytes). no_some bytes (sym (get-empty nat_cmp page) ∙ ap (λ (m : FinMap nat_cmp (List ℕ)). map.get m page) (sym pages) ∙ h) in
    record {
      directory = λ _. (size, pages);
      size = omega (arith, size);
      whole = λ page bytes h. absurd (none page bytes h);
      before = λ page bytes h. absurd (none page bytes h);
      zeros = λ page at bytes h. absurd (none page bytes h);
    }

no_names : rising (set.empty {R = name_cmp}) ≡ []
unfolding IsStrictlySortedBy
no_names = rising-is nat_list_cmp_total (slice_cmp-IsAntisymmetric nat_cmp-IsAntisymmetric) set.empty [] tt (λ q. set.contains-empty name_cmp q)

swapped : (a b : Bool) → (a || (b || false)) ≡ (b || (a || false))
swapped true true = refl
swapped true false = refl
swapped false true = refl
swapped false false = refl

both_names : rising (set.from_list {R = name_cmp} ((98 ∷ []) ∷ (97 ∷ []) ∷ [])) ≡ (97 ∷ []) ∷ (98 ∷ []) ∷ []
unfolding IsStrictlySortedBy
both_names = rising-is nat_list_cmp_total (slice_cmp-IsAntisymmetric nat_cmp-IsAntisymmetric) (set.from_list ((98 ∷ []) ∷ (97 ∷ []) ∷ [])) ((97 ∷ []) ∷ (98 ∷ []) ∷ []) ((refl, tt), (tt, tt))
    (λ q. contains-from_list nat_list_cmp_total ((98 ∷ []) ∷ (97 ∷ []) ∷ []) q ∙ swapped (eq_by_cmp name_cmp q (98 ∷ [])) (eq_by_cmp name_cmp q (97 ∷ [])))

-- the rows of files in the root
abbrev pub file_row : ℕ → ℕ → ℕ → FinMap nat_cmp (List ℕ) → Row
file_row ino name size pages = record { ino = ino; kind = Regular; parent = ROOT; name = name ∷ []; size = size; pages = pages }

-- the root with a file `b` of one page and a file `a` without
abbrev pub one_page : List ℕ → FinMap nat_cmp (List ℕ)
one_page bytes = map.insert map.empty 0 bytes

abbrev pub two_files : List ℕ → Rows
two_files bytes = map.insert (map.insert root_alone 4 (file_row 4 98 4096 (one_page bytes))) 5 (file_row 5 97 0 map.empty)

module _ (geom : ImageGeometry) (geometry : IsGeometry geom) where
  alone_values : map.values root_alone ≡ root_row ∷ []
  alone_values = ap (map_list (λ e. e.1)) alone_entries

  alone_there : map.get root_alone ROOT ≡ Some root_row
  alone_there = get-entries root_alone ROOT ∙ ap (find nat_cmp ROOT) alone_entries

  each : (P : ℕ → Row → Type 0) → P ROOT root_row → (k : ℕ) (row : Row) → map.get root_alone k ≡ Some row → P k row
  each P p k row h = found_at P ((ROOT, root_row) ∷ []) (p, tt) k row (ap (find nat_cmp k) (sym alone_entries) ∙ sym (get-entries root_alone k) ∙ h)

  alone_dentries : dentry_blocks (map.values root_alone) ROOT ≡ 0
  alone_dentries = ap (λ rows. dentry_blocks rows ROOT) alone_values ∙ ap blocks_of_names no_names

  alone_nodes : nodes_of_tree root_alone ≡ 1
  alone_nodes =
      let rows = root_row ∷ [] in
      let root : nodes_of_row rows root_row ≡ 1 = ap (λ names. node_count (range_with_len 0 (blocks_of_names names))) no_names ∙ one_node [] no_pages in
      ap (λ rows. sum_by (nodes_of_row rows) rows) alone_values ∙ (let sum = sum_by-cons (nodes_of_row rows) root_row [] in omega (arith, sum, root))

  alone_blocks : data_of_tree root_alone ≡ 0
  alone_blocks =
      let rows = root_row ∷ [] in
      let root : data_of_row rows root_row ≡ 0 = ap blocks_of_names no_names in
      ap (λ rows. sum_by (data_of_row rows) rows) alone_values ∙ (let sum = sum_by-cons (data_of_row rows) root_row [] in omega (arith, sum, root))

  -- an image can have the root alone
  pub alone_storable : IsStorable geom root_alone
  alone_storable =
      let nodes = alone_nodes in
      let blocks = alone_blocks in
      let zones = geometry.zones in
      let nids = geometry.nids in
      record {
        good = record {
          root = (root_row, alone_there, record { ino = refl; kind = refl; parent = refl; name = refl });
          keyed = each (λ k row. row.ino ≡ k) refl;
          parents = each (λ k row. (up : Row) × (map.get root_alone row.parent ≡ Some up) × (up.kind ≡ Directory)) (root_row, alone_there, refl);
          names = each (λ k row. k ≢ ROOT → IsTrue (is_good_name row.name)) (λ ne. absurd (ne refl));
          apart = λ i j a b h k ne. absurd (ne (each (λ k row. k ≡ ROOT) refl i a h));
          reached = each (λ k row. (depth : ℕ) × (depth ≤ most_depth row.kind) × IsAtDepth root_alone depth k) (0, omega arith, refl);
          pages = each (λ k row. HasGoodPages SIZE_LIMIT row) (good_nothing root_row refl refl);
        };
        low = λ ino row h ne. absurd (ne (each (λ k row. k ≡ ROOT) refl ino row h));
        numbered = each (λ k row. k < nid_limit geom) (omega (arith, nids, zones));
        nodes = omega (arith, nodes, zones);
        blocks = omega (arith, blocks);
        short_files = λ ino page row bytes h g. absurd (no_some bytes (sym (get-empty nat_cmp page) ∙ ap (λ (m : FinMap nat_cmp (List ℕ)). map.get m page) (sym (each (λ k row. row.pages ≡ map.empty) refl ino row h)) ∙ g));
        short_directories = λ ino row h d. subst (λ k. dentry_blocks (map.values root_alone) k ≤ inode_pages) (sym (each (λ k row. k ≡ ROOT) refl ino row h)) (let dentries = alone_dentries in omega (arith, dentries));
      }

  module _ (bytes : List ℕ) (long : length bytes ≡ PAGE) where
    abbrev b_row : Row
    b_row = file_row 4 98 4096 (one_page bytes)

    abbrev a_row : Row
    a_row = file_row 5 97 0 map.empty

    abbrev rows : List Row
    rows = root_row ∷ b_row ∷ a_row ∷ []

    two_entries : entries (two_files bytes) ≡ (ROOT, root_row) ∷ (4, b_row) ∷ (5, a_row) ∷ []
    two_entries =
        entries-insert nat_cmp_total (map.insert root_alone 4 b_row) 5 a_row
        ∙ ap (map.put nat_cmp 5 a_row) (entries-insert nat_cmp_total root_alone 4 b_row ∙ ap (map.put nat_cmp 4 b_row) alone_entries)

    two_there : map.get (two_files bytes) ROOT ≡ Some root_row
    two_there = get-entries (two_files bytes) ROOT ∙ ap (find nat_cmp ROOT) two_entries

    b_there : map.get (two_files bytes) 4 ≡ Some b_row
    b_there = get-entries (two_files bytes) 4 ∙ ap (find nat_cmp 4) two_entries

    a_there : map.get (two_files bytes) 5 ≡ Some a_row
    a_there = get-entries (two_files bytes) 5 ∙ ap (find nat_cmp 5) two_entries

    each_two : (P : ℕ → Row → Type 0) → P ROOT root_row → P 4 b_row → P 5 a_row → (k : ℕ) (row : Row) → map.get (two_files bytes) k ≡ Some row → P k row
    each_two P r b a k row h = found_at P ((ROOT, root_row) ∷ (4, b_row) ∷ (5, a_row) ∷ []) (r, (b, (a, tt))) k row (ap (find nat_cmp k) (sym two_entries) ∙ sym (get-entries (two_files bytes) k) ∙ h)

    page_entries : entries (one_page bytes) ≡ (0, bytes) ∷ []
    page_entries = entries-insert nat_cmp_total map.empty 0 bytes ∙ ap (map.put nat_cmp 0 bytes) no_entries

    each_page : (P : ℕ → List ℕ → Type 0) → P 0 bytes → (page : ℕ) (content : List ℕ) → map.get (one_page bytes) page ≡ Some content → P page content
    each_page P p page content h = found_at P ((0, bytes) ∷ []) (p, tt) page content (ap (find nat_cmp page) (sym page_entries) ∙ sym (get-entries (one_page bytes) page) ∙ h)

    no_directory : Regular ≡ Directory → ⊥
    no_directory e = cc

    good_page : HasGoodPages SIZE_LIMIT b_row
    good_page = record {
      directory = λ e. absurd (no_directory e);
      size = omega arith;
      whole = each_page (λ page content. length content ≡ PAGE) long;
      before = each_page (λ page content. page * PAGE < 4096) (omega arith);
      zeros = λ page at content h past. each_page (λ page content. 4096 ≤ page * PAGE + at → slice_index content at ≡ 0) (λ past. get_or_past bytes at 0 (omega (arith, long, past))) page content h past;
    }

    names_apart : {A : Type 0} → b_row.name ≡ a_row.name → A
    names_apart e = let h = ap (λ (name : List ℕ). slice_index name 0) e in absurd (omega (arith, h))

    abbrev Apart : ℕ → Row → Type 0
    Apart i a = (j : ℕ) (b : Row) → map.get (two_files bytes) j ≡ Some b → i ≢ ROOT → j ≢ ROOT → a.name ≡ b.name → i ≡ j

    apart : (i : ℕ) (a : Row) → map.get (two_files bytes) i ≡ Some a → Apart i a
    apart = each_two Apart
        (λ j b h ne. absurd (ne refl))
        (each_two (λ j b. 4 ≢ ROOT → j ≢ ROOT → b_row.name ≡ b.name → 4 ≡ j) (λ _ ne. absurd (ne refl)) (λ _ _ _. refl) (λ _ _ e. names_apart e))
        (each_two (λ j b. 5 ≢ ROOT → j ≢ ROOT → a_row.name ≡ b.name → 5 ≡ j) (λ _ ne. absurd (ne refl)) (λ _ _ e. names_apart (sym e)) (λ _ _ _. refl))

    two_values : map.values (two_files bytes) ≡ rows
    two_values = ap (map_list (λ e. e.1)) two_entries

    two_dentries : (k : ℕ) → k ≡ ROOT → dentry_blocks (map.values (two_files bytes)) k ≡ 1
    two_dentries k e = ap (λ k. dentry_blocks (map.values (two_files bytes)) k) e ∙ ap (λ rows. dentry_blocks rows ROOT) two_values ∙ ap blocks_of_names both_names

    two_nodes : nodes_of_tree (two_files bytes) ≡ 3
    two_nodes =
        let root : nodes_of_row rows root_row ≡ 1 = ap (λ names. node_count (range_with_len 0 (blocks_of_names names))) both_names ∙ one_node (0 ∷ []) first_page in
        let b : nodes_of_row rows b_row ≡ 1 = ap node_count (ap (map_list (λ e. e.0)) page_entries) ∙ one_node (0 ∷ []) first_page in
        let a : nodes_of_row rows a_row ≡ 1 = ap node_count (ap (map_list (λ e. e.0)) no_entries) ∙ one_node [] no_pages in
        let s = sum_by-cons (nodes_of_row rows) root_row (b_row ∷ a_row ∷ []) in
        let t = sum_by-cons (nodes_of_row rows) b_row (a_row ∷ []) in
        let u = sum_by-cons (nodes_of_row rows) a_row [] in
        ap (λ rows. sum_by (nodes_of_row rows) rows) two_values ∙ omega (arith, root, b, a, s, t, u)

    two_blocks : data_of_tree (two_files bytes) ≡ 2
    two_blocks =
        let root : data_of_row rows root_row ≡ 1 = ap blocks_of_names both_names in
        let b : data_of_row rows b_row ≡ 1 = len-entries (one_page bytes) ∙ ap length page_entries in
        let a : data_of_row rows a_row ≡ 0 = len-empty nat_cmp (List ℕ) in
        let s = sum_by-cons (data_of_row rows) root_row (b_row ∷ a_row ∷ []) in
        let t = sum_by-cons (data_of_row rows) b_row (a_row ∷ []) in
        let u = sum_by-cons (data_of_row rows) a_row [] in
        ap (λ rows. sum_by (data_of_row rows) rows) two_values ∙ omega (arith, root, b, a, s, t, u)

    -- an image can have the root with two files
    pub two_storable : IsStorable geom (two_files bytes)
    two_storable =
        let nodes = two_nodes in
        let blocks = two_blocks in
        let zones = geometry.zones in
        let nids = geometry.nids in
        record {
          good = record {
            root = (root_row, two_there, record { ino = refl; kind = refl; parent = refl; name = refl });
            keyed = each_two (λ k row. row.ino ≡ k) refl refl refl;
            parents = each_two (λ k row. (up : Row) × (map.get (two_files bytes) row.parent ≡ Some up) × (up.kind ≡ Directory)) (root_row, two_there, refl) (root_row, two_there, refl) (root_row, two_there, refl);
            names = each_two (λ k row. k ≢ ROOT → IsTrue (is_good_name row.name)) (λ ne. absurd (ne refl)) (λ _. refl) (λ _. refl);
            apart = λ i j a b h k ne other _ named. apart i a h j b k ne other named;
            reached = each_two (λ k row. (depth : ℕ) × (depth ≤ most_depth row.kind) × IsAtDepth (two_files bytes) depth k) (0, omega arith, refl) (1, omega arith, (omega arith, (b_row, b_there, refl))) (1, omega arith, (omega arith, (a_row, a_there, refl)));
            pages = each_two (λ k row. HasGoodPages SIZE_LIMIT row) (good_nothing root_row refl refl) good_page (good_nothing a_row refl refl);
          };
          low = each_two (λ k row. k ≢ ROOT → 4 ≤ k) (λ ne. absurd (ne refl)) (λ _. omega arith) (λ _. omega arith);
          numbered = each_two (λ k row. k < nid_limit geom) (omega (arith, nids, zones)) (omega (arith, nids, zones)) (omega (arith, nids, zones));
          nodes = omega (arith, nodes, zones);
          blocks = omega (arith, blocks, zones);
          short_files = λ ino page row content h. each_two (λ k row. map.get row.pages page ≡ Some content → page < inode_pages)
              (λ g. absurd (no_some content (sym (get-empty nat_cmp page) ∙ g))) (each_page (λ page content. page < inode_pages) (omega arith) page content) (λ g. absurd (no_some content (sym (get-empty nat_cmp page) ∙ g))) ino row h;
          short_directories = λ ino row h d. let dentries = two_dentries ino (each_two (λ k row. row.kind ≡ Directory → k ≡ ROOT) (λ _. refl) (λ e. absurd (no_directory e)) (λ e. absurd (no_directory e)) ino row h d) in omega (arith, dentries);
        }

-- no place takes no room
pub nothing_kept : (geom : ImageGeometry) → IsKept geom map.empty
nothing_kept geom =
    let none = λ (ino : ℕ) (place : Place) (h : map.get map.empty ino ≡ Some place). no_some place (sym (get-empty nat_cmp ino) ∙ h) in
    let files = len-empty nat_cmp Place in
    let pages = ap (λ es. sum_by pages_of_place (map_list (λ e. e.1) es)) (no_entries {X = Place}) in
    record {
      placed = record {
        whole = λ ino place h. absurd (none ino place h);
        nodes = λ ino place h. absurd (none ino place h);
        nodes_apart = λ ino other a b h. absurd (none ino a h);
        pages = λ ino page place h. absurd (none ino place h);
        pages_apart = λ ino page other more a b h. absurd (none ino a h);
      };
      files = omega (arith, files);
      pages = omega (arith, pages);
    }
