-- A tree with one row more takes the same space whichever ino the row gets.
use Rattle.std.proofs.Common.{◌≡◌, ◌≢◌, ℕ, ◌+◌, Bool, true, false, cond, ◌||◌, List, [], ◌∷◌, ◌++◌, map as map_list, refl, sym, ap, ◌∙◌, arith, true≢false}
use Rattle.std.specs.Prelude.{Option, Some, None, Result, Ok, Err, if◌then◌else◌, ◌==◌, nat_lt}
use Rattle.std.specs.Bool.{then_some}
use Rattle.std.specs.List.{list_any, find, filter, flat_map, range_with_len, sum_by}
use Rattle.std.proofs.lemmas.List.{map-append}
use Rattle.std.proofs.lemmas.List.Elements.{filter-append}
use Rattle.std.proofs.lemmas.List.Folds.{list_any-append}
use Rattle.std.proofs.lemmas.List.Sums.{sum_by-cons}
use Rattle.std.proofs.lemmas.Bool.{ne_eqb, eqb-true}
use Rattle.std.specs.Ordering.{nat_cmp, eq_by_cmp, is_eq}
use Rattle.std.specs.Cmp.{nat_cmp_total}
use Rattle.std.specs.Cmp.Lexicographic.{slice_cmp, nat_list_cmp_total}
use Rattle.std.specs.declared.cmp.Ordering.{Ordering}
use Rattle.std.specs.declared.cmp.Ordering.TheVariants.{Less, Equal, Greater}
use Rattle.std.specs.FinMap as finite
use Rattle.std.specs.FinMap.Entries.{by_order}
use Rattle.std.specs.FinSet as set
use Rattle.f2_format.specs.Offsets.{node_count}
use Rattle.f2_format.specs.Packing.{blocks_of_names}
use Rattle.f2_model.specs.Rising.{rising}
use Rattle.f2_model.specs.Tree.{Rows, ROOT, IsGoodTree, names_of, is_in, names_under, names_in, is_directory, walk, parent_path, last_name}
use Rattle.f2_model.specs.Count.{dentry_blocks, nodes_of_row, data_of_row, nodes_of_tree, data_of_tree, page_numbers, data_of_kind}
use Rattle.f2_model.specs.Lists.{first_some}
use Rattle.f2_model.specs.Call.{space_refusal, on_row, new_row, to_directory}
use Rattle.f2_model.specs.declared.bounds.Limits.{Limits}
use Rattle.f2_model.specs.declared.rows.Row.{Row}
use Rattle.f2_model.specs.declared.rows.Kind.{Kind}
use Rattle.f2_model.specs.declared.rows.Kind.TheVariants.{Regular, Directory}
use Rattle.f2_model.specs.declared.requests.Request.TheVariants.{Create, Mkdir, Write, Truncate, Unlink, Rmdir, Rename, Read, List as ListNames, Fsync, Sync}
use Rattle.f2_model.specs.declared.replies.Space.TheVariants.{Node, Data}
use Rattle.f2_model.specs.declared.replies.Reply.{Reply}
use Rattle.f2_model.specs.declared.replies.Reply.TheVariants.{NotDir, NoSpace}
use Rattle.f2_laws.specs.Space.{InoLeavesSpace}
use Rattle.f2_laws.proofs.Values.{value_found, find_none}
use Rattle.f2_laws.proofs.Walks.{some_none, walk_ends}

-- the rows among entries
abbrev rows_in : List (ℕ × Row) → List Row
rows_in entries = map_list (λ e. e.1) entries

-- what one entry put among others without its key adds to a sum
put_sum : (f : Row → ℕ) (k : ℕ) (v : Row) (es : List (ℕ × Row)) → finite.find nat_cmp k es ≡ None → sum_by f (rows_in (finite.put nat_cmp k v es)) ≡ f v + sum_by f (rows_in es)
put_sum f k v [] none = sum_by-cons f v []
put_sum f k v (e ∷ es) none = by_place (put_sum f k v es) (nat_cmp k e.0) none
  where
    by_place : (finite.find nat_cmp k es ≡ None → sum_by f (rows_in (finite.put nat_cmp k v es)) ≡ f v + sum_by f (rows_in es)) → (o : Ordering) → cond (is_eq o) (Some e.1) (finite.find nat_cmp k es) ≡ None →
        sum_by f (rows_in (by_order o ((k, v) ∷ e ∷ es) ((e.0, v) ∷ es) (e ∷ finite.put nat_cmp k v es))) ≡ f v + sum_by f (e.1 ∷ rows_in es)
    by_place rest Less none = sum_by-cons f v (e.1 ∷ rows_in es)
    by_place rest Equal none = absurd (some_none none)
    by_place rest Greater none = omega (arith, sum_by-cons f e.1 (rows_in (finite.put nat_cmp k v es)), sum_by-cons f e.1 (rows_in es), rest none)

-- the names that one row has in a directory
abbrev own_names : ℕ → Row → List (List ℕ)
own_names directory row = map_list (λ (at : ℕ × List ℕ). at.1) (filter (λ (at : ℕ × List ℕ). at.0 == directory) (names_of row))

under-cons : (directory : ℕ) (row : Row) (rows : List Row) → names_under (row ∷ rows) directory ≡ own_names directory row ++ names_under rows directory
under-cons directory row rows =
    ap (map_list (λ (at : ℕ × List ℕ). at.1)) (filter-append (λ (at : ℕ × List ℕ). at.0 == directory) (names_of row) (flat_map names_of rows))
    ∙ map-append (λ (at : ℕ × List ℕ). at.1) (filter (λ (at : ℕ × List ℕ). at.0 == directory) (names_of row)) _

any_under-cons : (p : List ℕ → Bool) (directory : ℕ) (row : Row) (rows : List Row) → list_any p (names_under (row ∷ rows) directory) ≡ (list_any p (own_names directory row) || list_any p (names_under rows directory))
any_under-cons p directory row rows = ap (list_any p) (under-cons directory row rows) ∙ list_any-append p (own_names directory row) (names_under rows directory)

or_swap : (a b c : Bool) → (a || (b || c)) ≡ (b || (a || c))
or_swap true true c = refl
or_swap true false c = refl
or_swap false b c = refl

-- a name is had in a directory with one entry put, where the entry's row or another has it
put_any : (p : List ℕ → Bool) (directory k : ℕ) (v : Row) (es : List (ℕ × Row)) → finite.find nat_cmp k es ≡ None → list_any p (names_under (rows_in (finite.put nat_cmp k v es)) directory) ≡ (list_any p (own_names directory v) || list_any p (names_under (rows_in es) directory))
put_any p directory k v [] none = any_under-cons p directory v []
put_any p directory k v (e ∷ es) none = by_place (put_any p directory k v es) (nat_cmp k e.0) none
  where
    by_place : (finite.find nat_cmp k es ≡ None → list_any p (names_under (rows_in (finite.put nat_cmp k v es)) directory) ≡ (list_any p (own_names directory v) || list_any p (names_under (rows_in es) directory))) → (o : Ordering) → cond (is_eq o) (Some e.1) (finite.find nat_cmp k es) ≡ None →
        list_any p (names_under (rows_in (by_order o ((k, v) ∷ e ∷ es) ((e.0, v) ∷ es) (e ∷ finite.put nat_cmp k v es))) directory) ≡ (list_any p (own_names directory v) || list_any p (names_under (e.1 ∷ rows_in es) directory))
    by_place rest Less none = any_under-cons p directory v (e.1 ∷ rows_in es)
    by_place rest Equal none = absurd (some_none none)
    by_place rest Greater none =
        any_under-cons p directory e.1 (rows_in (finite.put nat_cmp k v es))
        ∙ ap (λ b. list_any p (own_names directory e.1) || b) (rest none)
        ∙ or_swap (list_any p (own_names directory e.1)) (list_any p (own_names directory v)) (list_any p (names_under (rows_in es) directory))
        ∙ ap (λ b. list_any p (own_names directory v) || b) (sym (any_under-cons p directory e.1 (rows_in es)))

filter_none : {A : Type 0} (p : A → Bool) (xs : List A) → list_any p xs ≡ false → filter p xs ≡ []
filter_none p [] h = refl
filter_none p (x ∷ xs) h = by_test (filter_none p xs) (p x) h
  where
    by_test : (list_any p xs ≡ false → filter p xs ≡ []) → (b : Bool) → (b || list_any p xs) ≡ false → cond b (x ∷ filter p xs) (filter p xs) ≡ []
    by_test rest true h = absurd (true≢false h)
    by_test rest false h = rest h

-- where no row is in a directory, no name is
none_under : (p : List ℕ → Bool) (directory : ℕ) (rows : List Row) → list_any (is_in directory) rows ≡ false → list_any p (names_under rows directory) ≡ false
none_under p directory [] h = refl
none_under p directory (row ∷ rows) h = by_test (none_under p directory rows) (is_in directory row) refl h
  where
    by_test : (list_any (is_in directory) rows ≡ false → list_any p (names_under rows directory) ≡ false) → (b : Bool) → is_in directory row ≡ b → (b || list_any (is_in directory) rows) ≡ false → list_any p (names_under (row ∷ rows) directory) ≡ false
    by_test rest true e h = absurd (true≢false h)
    by_test rest false e h =
        any_under-cons p directory row rows
        ∙ ap (λ names. list_any p (map_list (λ (at : ℕ × List ℕ). at.1) names) || list_any p (names_under rows directory)) (filter_none (λ (at : ℕ × List ℕ). at.0 == directory) (names_of row) e)
        ∙ rest h

module _ (tree : Rows) (k : ℕ) (v : Row) (none : finite.get tree k ≡ None) where
  absent : finite.find nat_cmp k (finite.entries tree) ≡ None
  absent = sym (finite.get-entries tree k) ∙ none

  values_put : finite.values (finite.insert tree k v) ≡ rows_in (finite.put nat_cmp k v (finite.entries tree))
  values_put = ap rows_in (finite.entries-insert nat_cmp_total tree k v)

  pub inserted_sum : (f : Row → ℕ) → sum_by f (finite.values (finite.insert tree k v)) ≡ f v + sum_by f (finite.values tree)
  inserted_sum f = ap (sum_by f) values_put ∙ put_sum f k v (finite.entries tree) absent

  pub inserted_names : (directory : ℕ) (name : List ℕ) → set.contains (names_in (finite.values (finite.insert tree k v)) directory) name ≡ (list_any (eq_by_cmp (slice_cmp nat_cmp) name) (own_names directory v) || list_any (eq_by_cmp (slice_cmp nat_cmp) name) (names_under (finite.values tree) directory))
  inserted_names directory name =
      set.contains-from_list nat_list_cmp_total (names_under (finite.values (finite.insert tree k v)) directory) name
      ∙ ap (λ rows. list_any (eq_by_cmp (slice_cmp nat_cmp) name) (names_under rows directory)) values_put
      ∙ put_any (eq_by_cmp (slice_cmp nat_cmp) name) directory k v (finite.entries tree) absent

same_names : (a b : set.FinSet (slice_cmp nat_cmp)) → ((name : List ℕ) → set.contains a name ≡ set.contains b name) → a ≡ b
same_names a b h = set.same_set nat_list_cmp_total (set.slice_cmp-IsAntisymmetric set.nat_cmp-IsAntisymmetric) a b h

-- two rows of a kind with the same pages take the same among rows, where as directories they have as many blocks
same_nodes : (kind : Kind) (rows others : List Row) (row other : Row) → row.pages ≡ other.pages → dentry_blocks rows row.ino ≡ dentry_blocks others other.ino → node_count (page_numbers kind rows row) ≡ node_count (page_numbers kind others other)
same_nodes Regular rows others row other pages blocks = ap (λ m. node_count (finite.keys m)) pages
same_nodes Directory rows others row other pages blocks = ap (λ n. node_count (range_with_len 0 n)) blocks

same_data : (kind : Kind) (rows others : List Row) (row other : Row) → row.pages ≡ other.pages → dentry_blocks rows row.ino ≡ dentry_blocks others other.ino → data_of_kind kind rows row ≡ data_of_kind kind others other
same_data Regular rows others row other pages blocks = ap (λ m. finite.len m) pages
same_data Directory rows others row other pages blocks = blocks

same_sum : (f g : Row → ℕ) → ((row : Row) → f row ≡ g row) → (rows : List Row) → sum_by f rows ≡ sum_by g rows
same_sum f g h rows = ap (λ (measure : Row → ℕ). sum_by measure rows) (λ i row. h row i)

-- a tree that gets a row more in a directory of it
module _ (most : ℕ) (tree : Rows) (good : IsGoodTree most tree) (kind : Kind) (up : Row) (there : finite.get tree up.ino ≡ Some up) (name : List ℕ) where
  abbrev row_at : ℕ → Row
  row_at ino = new_row kind ino up.ino name

  abbrev rows_with : ℕ → List Row
  rows_with ino = finite.values (finite.insert tree ino (row_at ino))

  not_root : (ino : ℕ) → finite.get tree ino ≡ None → ino ≢ ROOT
  not_root ino none same = some_none (sym good.root.1 ∙ ap (λ i. finite.get tree i) (sym same) ∙ none)

  own_is : (ino directory : ℕ) → finite.get tree ino ≡ None → own_names directory (row_at ino) ≡ map_list (λ (at : ℕ × List ℕ). at.1) (filter (λ (at : ℕ × List ℕ). at.0 == directory) ((up.ino, name) ∷ []))
  own_is ino directory none =
      ap (λ b. map_list (λ (at : ℕ × List ℕ). at.1) (filter (λ (at : ℕ × List ℕ). at.0 == directory) (if b then [] else ((up.ino, name) ∷ [])))) (ne_eqb ino ROOT (not_root ino none))

  -- nothing stands in the new row
  nobody_in : (ino : ℕ) → finite.get tree ino ≡ None → list_any (is_in ino) (finite.values tree) ≡ false
  nobody_in ino none = find_none (is_in ino) (finite.values tree) (by_find (find (is_in ino) (finite.values tree)) refl)
    where
      by_root : (row : Row) → (b : Bool) → list_any (λ (at : ℕ × List ℕ). at.0 == ino) (if b then [] else ((row.parent, row.name) ∷ [])) ≡ true → row.parent ≡ ino
      by_root row true h = absurd (true≢false (sym h))
      by_root row false h = eqb-true row.parent ino (or_no (row.parent == ino) h)
        where
          or_no : (b : Bool) → (b || false) ≡ true → b ≡ true
          or_no true h = refl
          or_no false h = h

      by_find : (o : Option Row) → find (is_in ino) (finite.values tree) ≡ o → o ≡ None
      by_find None e = refl
      by_find (Some row) e =
          let found = value_found tree (is_in ino) row e in
          let above = good.parents found.1.0 row found.1.1 in
          let parent : row.parent ≡ ino = by_root row (row.ino == ROOT) found.0 in
          absurd (some_none (sym above.1 ∙ ap (λ i. finite.get tree i) parent ∙ none))

  module _ (ino other : ℕ) (none : finite.get tree ino ≡ None) (other_none : finite.get tree other ≡ None) where
    blocks_alike : (directory : ℕ) → dentry_blocks (rows_with ino) directory ≡ dentry_blocks (rows_with other) directory
    blocks_alike directory =
        ap (λ names. blocks_of_names (rising names)) (same_names (names_in (rows_with ino) directory) (names_in (rows_with other) directory) (λ one.
        inserted_names tree ino (row_at ino) none directory one
        ∙ ap (λ own. list_any (eq_by_cmp (slice_cmp nat_cmp) one) own || list_any (eq_by_cmp (slice_cmp nat_cmp) one) (names_under (finite.values tree) directory)) (own_is ino directory none ∙ sym (own_is other directory other_none))
        ∙ sym (inserted_names tree other (row_at other) other_none directory one)))

    nothing_in : (new : ℕ) → finite.get tree new ≡ None → (one : List ℕ) → set.contains (names_in (rows_with new) new) one ≡ false
    nothing_in new absent one =
        let apart : up.ino ≢ new = λ same. some_none (sym there ∙ ap (λ i. finite.get tree i) same ∙ absent) in
        let own : own_names new (row_at new) ≡ [] = own_is new new absent ∙ ap (λ b. map_list (λ (at : ℕ × List ℕ). at.1) (cond b ((up.ino, name) ∷ []) [])) (ne_eqb up.ino new apart) in
        inserted_names tree new (row_at new) absent new one
        ∙ ap (λ names. list_any (eq_by_cmp (slice_cmp nat_cmp) one) names || list_any (eq_by_cmp (slice_cmp nat_cmp) one) (names_under (finite.values tree) new)) own
        ∙ none_under (eq_by_cmp (slice_cmp nat_cmp) one) new (finite.values tree) (nobody_in new absent)

    own_blocks : dentry_blocks (rows_with ino) ino ≡ dentry_blocks (rows_with other) other
    own_blocks = ap (λ names. blocks_of_names (rising names)) (same_names (names_in (rows_with ino) ino) (names_in (rows_with other) other) (λ one. nothing_in ino none one ∙ sym (nothing_in other other_none one)))

    pub nodes_alike : nodes_of_tree (finite.insert tree ino (row_at ino)) ≡ nodes_of_tree (finite.insert tree other (row_at other))
    nodes_alike =
        inserted_sum tree ino (row_at ino) none (nodes_of_row (rows_with ino))
        ∙ ap (λ n. n + sum_by (nodes_of_row (rows_with ino)) (finite.values tree)) (same_nodes kind (rows_with ino) (rows_with other) (row_at ino) (row_at other) refl own_blocks)
        ∙ ap (λ n. nodes_of_row (rows_with other) (row_at other) + n) (same_sum (nodes_of_row (rows_with ino)) (nodes_of_row (rows_with other)) (λ row. same_nodes row.kind (rows_with ino) (rows_with other) row row refl (blocks_alike row.ino)) (finite.values tree))
        ∙ sym (inserted_sum tree other (row_at other) other_none (nodes_of_row (rows_with other)))

    pub data_alike : data_of_tree (finite.insert tree ino (row_at ino)) ≡ data_of_tree (finite.insert tree other (row_at other))
    data_alike =
        inserted_sum tree ino (row_at ino) none (data_of_row (rows_with ino))
        ∙ ap (λ n. n + sum_by (data_of_row (rows_with ino)) (finite.values tree)) (same_data kind (rows_with ino) (rows_with other) (row_at ino) (row_at other) refl own_blocks)
        ∙ ap (λ n. data_of_row (rows_with other) (row_at other) + n) (same_sum (data_of_row (rows_with ino)) (data_of_row (rows_with other)) (λ row. same_data row.kind (rows_with ino) (rows_with other) row row refl (blocks_alike row.ino)) (finite.values tree))
        ∙ sym (inserted_sum tree other (row_at other) other_none (data_of_row (rows_with other)))

-- want of space, told from the two counts
abbrev wants : Limits → ℕ → ℕ → Option Reply
wants limits nodes blocks = first_some (
    then_some (nat_lt limits.nodes nodes) (NoSpace Node nodes limits.nodes)
    ∷ then_some (nat_lt limits.data_blocks blocks) (NoSpace Data blocks limits.data_blocks)
    ∷ [])

module _ (limits : Limits) (tree : Rows) (good : IsGoodTree limits.size tree) (ino other : ℕ) (none : finite.get tree ino ≡ None) (other_none : finite.get tree other ≡ None) where
  added_alike : (kind : Kind) (path : List (List ℕ)) → space_refusal limits (on_row tree (to_directory (walk tree (parent_path path))) (λ up. finite.insert tree ino (new_row kind ino up.ino (last_name path))))
      ≡ space_refusal limits (on_row tree (to_directory (walk tree (parent_path path))) (λ up. finite.insert tree other (new_row kind other up.ino (last_name path))))
  added_alike kind path = by_end (walk tree (parent_path path)) refl
    where
      by_kind : (up : Row) → walk tree (parent_path path) ≡ Ok up → (is : Kind) → space_refusal limits (on_row tree (if is_directory is then Ok up else Err NotDir) (λ up. finite.insert tree ino (new_row kind ino up.ino (last_name path))))
          ≡ space_refusal limits (on_row tree (if is_directory is then Ok up else Err NotDir) (λ up. finite.insert tree other (new_row kind other up.ino (last_name path))))
      by_kind up e Regular = refl
      by_kind up e Directory =
          let there = (walk_ends limits.size tree good (parent_path path) up e).there in
          let nodes = nodes_alike limits.size tree good kind up there (last_name path) ino other none other_none in
          let blocks = data_alike limits.size tree good kind up there (last_name path) ino other none other_none in
          λ i. wants limits (nodes i) (blocks i)

      by_end : (end : Result Row Reply) → walk tree (parent_path path) ≡ end → space_refusal limits (on_row tree (to_directory end) (λ up. finite.insert tree ino (new_row kind ino up.ino (last_name path))))
          ≡ space_refusal limits (on_row tree (to_directory end) (λ up. finite.insert tree other (new_row kind other up.ino (last_name path))))
      by_end (Err refused) e = refl
      by_end (Ok up) e = by_kind up e up.kind

pub same_space : InoLeavesSpace
same_space limits tree (Create path) ino other good none other_none = added_alike limits tree good ino other none other_none Regular path
same_space limits tree (Mkdir path) ino other good none other_none = added_alike limits tree good ino other none other_none Directory path
same_space limits tree (Write path pieces) ino other good none other_none = refl
same_space limits tree (Truncate path size) ino other good none other_none = refl
same_space limits tree (Unlink path) ino other good none other_none = refl
same_space limits tree (Rmdir path) ino other good none other_none = refl
same_space limits tree (Rename from to) ino other good none other_none = refl
same_space limits tree (Read path off len) ino other good none other_none = refl
same_space limits tree (ListNames path) ino other good none other_none = refl
same_space limits tree (Fsync path) ino other good none other_none = refl
same_space limits tree Sync ino other good none other_none = refl
