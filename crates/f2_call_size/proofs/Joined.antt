-- What a tree takes with one row more: what the row takes, and what its name changes in its directory.
use Rattle.std.proofs.Common.{◌≡◌, ◌≢◌, ◌⊎◌, inl, inr, ℕ, ◌+◌, Bool, true, false, cond, ◌||◌, ◌==◌, List, [], ◌∷◌, map as map_list, refl, sym, ap, ◌∙◌, arith}
use Rattle.std.specs.Prelude.{Some, None, if◌then◌else◌}
use Rattle.std.specs.List.{AllByRecursion, list_any, filter, range_with_len, sum_by}
use Rattle.std.specs.Ordering.{nat_cmp, eq_by_cmp}
use Rattle.std.specs.Cmp.{nat_cmp_total}
use Rattle.std.specs.Cmp.Lexicographic.{slice_cmp, nat_list_cmp_total}
use Rattle.std.specs.FinMap as map
use Rattle.std.specs.FinSet as set
use Rattle.std.proofs.lemmas.Bool.{ne_eqb, eq-eqb}
use Rattle.std.proofs.lemmas.List.Sums.{sum_by-cons}
use Rattle.f2_format.specs.Offsets.{node_count}
use Rattle.f2_format.specs.Packing.{blocks_of_names}
use Rattle.f2_held.proofs.MapSums.{each_entry}
use Rattle.f2_held.specs.Sums.{of_blocks}
use Rattle.f2_laws.proofs.Maps.{get_put, get_put-other, get_taken, get_taken-other}
use Rattle.f2_laws.proofs.NewRows.{inserted_names, inserted_sum}
use Rattle.f2_laws.proofs.Places.{same_or_other}
use Rattle.f2_laws.proofs.Walks.{some_none}
use Rattle.f2_model.specs.Count.{dentry_blocks, nodes_of_row, data_of_row, page_numbers, data_of_kind}
use Rattle.f2_model.specs.Fallback.{Both}
use Rattle.f2_model.specs.Rising.{rising}
use Rattle.f2_model.specs.Tree.{Rows, ROOT, names_of, names_under, names_in}
use Rattle.f2_model.specs.declared.rows.Row.{Row}
use Rattle.f2_model.specs.declared.rows.Kind.{Kind}
use Rattle.f2_model.specs.declared.rows.Kind.TheVariants.{Regular, Directory}
use Rattle.f2_call_size.specs.Sizes.{takes}

abbrev pub Names : Type 0
Names = set.FinSet (slice_cmp nat_cmp)

-- the names of a directory of a tree, and its blocks
abbrev pub names_at : Rows → ℕ → Names
names_at tree directory = names_in (map.values tree) directory

abbrev pub blocks_at : Rows → ℕ → ℕ
blocks_at tree directory = dentry_blocks (map.values tree) directory

abbrev pub packed : Names → ℕ
packed names = blocks_of_names (rising names)

-- what a row takes of a tree
abbrev pub own : Rows → Row → Both
own tree row = record { nodes = nodes_of_row (map.values tree) row; pages = data_of_row (map.values tree) row }

abbrev is_name : List ℕ → List ℕ → Bool
is_name = eq_by_cmp (slice_cmp nat_cmp)

pub same_names : (a b : Names) → ((q : List ℕ) → set.contains a q ≡ set.contains b q) → a ≡ b
same_names a b same = set.same_set nat_list_cmp_total (set.slice_cmp-IsAntisymmetric set.nat_cmp-IsAntisymmetric) a b same

-- a value that is there, taken out and put again
pub put_again : (m : Rows) (k : ℕ) (row : Row) → map.get m k ≡ Some row → map.insert (map.remove m k) k row ≡ m
put_again m k row there = map.same_map nat_cmp_total map.nat_cmp-IsAntisymmetric _ _ (λ q. by q (same_or_other q k))
  where
    by : (q : ℕ) → (q ≡ k) ⊎ (q ≢ k) → map.get (map.insert (map.remove m k) k row) q ≡ map.get m q
    by q (inl e) = ap (map.get (map.insert (map.remove m k) k row)) e ∙ get_put (map.remove m k) k row ∙ sym there ∙ ap (map.get m) (sym e)
    by q (inr other) = get_put-other (map.remove m k) k row q other ∙ get_taken-other m k q other

-- a value put over another one, or beside the others
pub put_over : (m : Rows) (k : ℕ) (row : Row) → map.insert (map.remove m k) k row ≡ map.insert m k row
put_over m k row = map.same_map nat_cmp_total map.nat_cmp-IsAntisymmetric _ _ (λ q. by q (same_or_other q k))
  where
    by : (q : ℕ) → (q ≡ k) ⊎ (q ≢ k) → map.get (map.insert (map.remove m k) k row) q ≡ map.get (map.insert m k row) q
    by q (inl e) = ap (map.get (map.insert (map.remove m k) k row)) e ∙ get_put (map.remove m k) k row ∙ sym (get_put m k row) ∙ ap (map.get (map.insert m k row)) (sym e)
    by q (inr other) = get_put-other (map.remove m k) k row q other ∙ get_taken-other m k q other ∙ sym (get_put-other m k row q other)

-- measures that agree on all rows have one sum
module _ (f g : Row → ℕ) where
  agree : (es : List (ℕ × Row)) → AllByRecursion (λ e. f e.1 ≡ g e.1) es → sum_by f (map_list (λ e. e.1) es) ≡ sum_by g (map_list (λ e. e.1) es)
  agree [] h = refl
  agree (e ∷ es) h = sum_by-cons f e.1 (map_list (λ e. e.1) es) ∙ (λ i. h.0 i + agree es h.1 i) ∙ sym (sum_by-cons g e.1 (map_list (λ e. e.1) es))

  sums_agree : (m : Rows) → ((q : ℕ) (row : Row) → map.get m q ≡ Some row → f row ≡ g row) → sum_by f (map.values m) ≡ sum_by g (map.values m)
  sums_agree m same = agree (map.entries m) (each_entry (λ e. f e.1 ≡ g e.1) (map.entries m) (map.entries_sorted m) (λ q row h. same q row (map.get-entries m q ∙ h)))

  -- the same where they agree on all rows but one
  sums_swap : (m : Rows) (k : ℕ) (row : Row) → map.get m k ≡ Some row → ((q : ℕ) (other : Row) → map.get m q ≡ Some other → q ≢ k → f other ≡ g other) → sum_by f (map.values m) + g row ≡ sum_by g (map.values m) + f row
  sums_swap m k row there same =
      let rest : Rows = map.remove m k in
      let one : sum_by f (map.values m) ≡ f row + sum_by f (map.values rest) = ap (λ (t : Rows). sum_by f (map.values t)) (sym (put_again m k row there)) ∙ inserted_sum rest k row (get_taken m k) f in
      let other : sum_by g (map.values m) ≡ g row + sum_by g (map.values rest) = ap (λ (t : Rows). sum_by g (map.values t)) (sym (put_again m k row there)) ∙ inserted_sum rest k row (get_taken m k) g in
      let both : sum_by f (map.values rest) ≡ sum_by g (map.values rest) = sums_agree rest (λ q r h. by q r h (same_or_other q k)) in
      omega (arith, one, other, both)
    where
      by : (q : ℕ) (r : Row) → map.get (map.remove m k) q ≡ Some r → (q ≡ k) ⊎ (q ≢ k) → f r ≡ g r
      by q r h (inl e) = absurd (some_none (sym h ∙ ap (map.get (map.remove m k)) e ∙ get_taken m k))
      by q r h (inr other) = same q r (sym (get_taken-other m k q other) ∙ h) other

-- a number for each row among rows; that of a directory comes from its blocks, that of a file from the file alone
pub record IsMeasure (f : List Row → Row → ℕ) (h : ℕ → ℕ) : Type 0 where
  pub directory : (rows : List Row) (row : Row) → row.kind ≡ Directory → f rows row ≡ h (dentry_blocks rows row.ino)
  pub same : (rows others : List Row) (row : Row) → dentry_blocks rows row.ino ≡ dentry_blocks others row.ino → f rows row ≡ f others row

abbrev nodes_of_blocks : ℕ → ℕ
nodes_of_blocks blocks = node_count (range_with_len 0 blocks)

abbrev blocks_alone : ℕ → ℕ
blocks_alone blocks = blocks

nodes_measure : IsMeasure nodes_of_row nodes_of_blocks
nodes_measure = record {
  directory = λ rows row kind. ap (λ (k : Kind). node_count (page_numbers k rows row)) kind;
  same = λ rows others row blocks. by rows others row blocks row.kind;
}
  where
    by : (rows others : List Row) (row : Row) → dentry_blocks rows row.ino ≡ dentry_blocks others row.ino → (kind : Kind) → node_count (page_numbers kind rows row) ≡ node_count (page_numbers kind others row)
    by rows others row blocks Regular = refl
    by rows others row blocks Directory = ap nodes_of_blocks blocks

data_measure : IsMeasure data_of_row blocks_alone
data_measure = record {
  directory = λ rows row kind. ap (λ (k : Kind). data_of_kind k rows row) kind;
  same = λ rows others row blocks. by rows others row blocks row.kind;
}
  where
    by : (rows others : List Row) (row : Row) → dentry_blocks rows row.ino ≡ dentry_blocks others row.ino → (kind : Kind) → data_of_kind kind rows row ≡ data_of_kind kind others row
    by rows others row blocks Regular = refl
    by rows others row blocks Directory = blocks

-- a tree with a row more takes what the row takes, and what its directory then takes in place of what it took
pub record IsJoin (rest all row without with : Both) : Type 0 where
  pub nodes : all.nodes + without.nodes ≡ rest.nodes + row.nodes + with.nodes
  pub pages : all.pages + without.pages ≡ rest.pages + row.pages + with.pages

module _ (rest : Rows) (k : ℕ) (v : Row) (none : map.get rest k ≡ None) (not_root : v.ino ≢ ROOT) where
  abbrev all : Rows
  all = map.insert rest k v

  own_names : (d : ℕ) (b : Bool) → (v.parent == d) ≡ b → map_list (λ (at : ℕ × List ℕ). at.1) (filter (λ (at : ℕ × List ℕ). at.0 == d) (names_of v)) ≡ cond b (v.name ∷ []) []
  own_names d b e =
      ap (λ r. map_list (λ (at : ℕ × List ℕ). at.1) (filter (λ (at : ℕ × List ℕ). at.0 == d) (if r then [] else ((v.parent, v.name) ∷ [])))) (ne_eqb v.ino ROOT not_root)
      ∙ ap (λ r. map_list (λ (at : ℕ × List ℕ). at.1) (cond r ((v.parent, v.name) ∷ []) [])) e ∙ last b
    where
      last : (b : Bool) → map_list (λ (at : ℕ × List ℕ). at.1) (cond b ((v.parent, v.name) ∷ []) []) ≡ cond b (v.name ∷ []) []
      last true = refl
      last false = refl

  has : (d : ℕ) (b : Bool) → (v.parent == d) ≡ b → (q : List ℕ) → set.contains (names_at all d) q ≡ (list_any (is_name q) (cond b (v.name ∷ []) []) || set.contains (names_at rest d) q)
  has d b e q =
      inserted_names rest k v none d q
      ∙ ap (λ own. list_any (is_name q) own || list_any (is_name q) (names_under (map.values rest) d)) (own_names d b e)
      ∙ ap (λ c. list_any (is_name q) (cond b (v.name ∷ []) []) || c) (sym (set.contains-from_list nat_list_cmp_total (names_under (map.values rest) d) q))

  pub names_here : names_at all v.parent ≡ set.insert (names_at rest v.parent) v.name
  names_here = same_names _ _ (λ q.
      has v.parent true (eq-eqb v.parent v.parent refl) q ∙ ap (λ b. b || set.contains (names_at rest v.parent) q) (or_false (is_name q v.name))
      ∙ sym (set.contains-insert nat_list_cmp_total (names_at rest v.parent) v.name q))
    where
      or_false : (b : Bool) → (b || false) ≡ b
      or_false true = refl
      or_false false = refl

  pub names_elsewhere : (d : ℕ) → d ≢ v.parent → names_at all d ≡ names_at rest d
  names_elsewhere d other = same_names _ _ (has d false (ne_eqb v.parent d (λ e. other (sym e))))

  module _ (keyed : (q : ℕ) (row : Row) → map.get rest q ≡ Some row → row.ino ≡ q) (up : Row) (there : map.get rest v.parent ≡ Some up) (kind : up.kind ≡ Directory) where
    module _ (f : List Row → Row → ℕ) (h : ℕ → ℕ) (is : IsMeasure f h) where
      total : sum_by (f (map.values all)) (map.values all) + h (blocks_at rest v.parent) ≡ sum_by (f (map.values rest)) (map.values rest) + f (map.values all) v + h (blocks_at all v.parent)
      total =
          let one = inserted_sum rest k v none (f (map.values all)) in
          let two = sums_swap (f (map.values all)) (f (map.values rest)) rest v.parent up there (λ q row at other.
          is.same (map.values all) (map.values rest) row (ap packed (names_elsewhere row.ino (λ e. other (sym (keyed q row at) ∙ e))))) in
          let here : up.ino ≡ v.parent = keyed v.parent up there in
          let before : f (map.values rest) up ≡ h (blocks_at rest v.parent) = is.directory (map.values rest) up kind ∙ ap (λ d. h (blocks_at rest d)) here in
          let after : f (map.values all) up ≡ h (blocks_at all v.parent) = is.directory (map.values all) up kind ∙ ap (λ d. h (blocks_at all d)) here in
          omega (arith, one, two, before, after)

    pub joined : IsJoin (takes rest) (takes all) (own all v) (of_blocks (blocks_at rest v.parent)) (of_blocks (blocks_at all v.parent))
    joined = record { nodes = total nodes_of_row nodes_of_blocks nodes_measure; pages = total data_of_row blocks_alone data_measure }
