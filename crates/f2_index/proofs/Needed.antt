-- A dirty direct node is one that the pages need.
use Rattle.std.proofs.Common.{◌≡◌, ℕ, true, false, ◌||◌, List, [], ◌∷◌, Option, Some, None, is_some, refl, ap, sym, ◌∙◌, arith, inl, inr}
use Rattle.std.specs.List.{list_any, flat_map}
use Rattle.std.specs.Ordering.{nat_cmp, eq_by_cmp}
use Rattle.std.specs.Cmp.{nat_cmp_total}
use Rattle.std.specs.FinMap as map
use Rattle.std.specs.FinSet as set
use Rattle.std.proofs.lemmas.Bool.{or_cases}
use Rattle.std.proofs.lemmas.Bool.Decides.{nat_tests}
use Rattle.std.proofs.lemmas.List.Folds.{list_any-append}
use Rattle.f2_format.specs.Offsets.{direct_of, nodes_above, nodes_of_page, nodes_down_to, nodes_over}
use Rattle.f2_index.specs.Paged.{is_direct_of, nodes_of_pages}
use Rattle.f2_index.specs.Nodes.{Nodes, AreNodesOf, is_dirty, dirty_of}
use Rattle.f2_index.specs.declared.nodes.Node.{Node}
use Rattle.f2_index.proofs.Counts.{contains-dirty_of}
use Rattle.f2_index.proofs.Cuts.{page_of, or_left, or_right}

tied_same : (q k : ℕ) → eq_by_cmp nat_cmp q k ≡ true → q ≡ k
tied_same q k tied = grind (arith, nat_tests)

tied_self : (q : ℕ) → eq_by_cmp nat_cmp q q ≡ true
tied_self q = grind (arith, nat_tests)

there_since : (o : Option Node) → is_dirty o ≡ true → is_some o ≡ true
there_since (Some node) h = refl
there_since None h = h

-- a page needs its direct node
own_node : (d : ℕ) (o : Option ℕ) → is_direct_of d o ≡ true → list_any (eq_by_cmp nat_cmp d) (nodes_down_to o) ≡ true
own_node d None h = absurd (let wrong : ◌≡◌ false true = h in cc)
own_node d (Some e) h =
    list_any-append (eq_by_cmp nat_cmp d) (nodes_above e) (e ∷ [])
    ∙ or_right (list_any (eq_by_cmp nat_cmp d) (nodes_above e)) _ (or_left (eq_by_cmp nat_cmp d e) false (let same : e ≡ d = grind (arith, nat_tests) in ap (λ n. eq_by_cmp nat_cmp d n) same ∙ tied_self d))

-- so do pages among which it is
needed_by : (d page : ℕ) (pages : List ℕ) → list_any (eq_by_cmp nat_cmp page) pages ≡ true → list_any (eq_by_cmp nat_cmp d) (nodes_of_page page) ≡ true → list_any (eq_by_cmp nat_cmp d) (flat_map nodes_of_page pages) ≡ true
needed_by d page [] has own = absurd (let wrong : ◌≡◌ false true = has in cc)
needed_by d page (p ∷ ps) has own =
    list_any-append (eq_by_cmp nat_cmp d) (nodes_of_page p) (flat_map nodes_of_page ps)
    ∙ elim (or_cases (eq_by_cmp nat_cmp page p) (list_any (eq_by_cmp nat_cmp page) ps) has) [
      | inl here ↦ or_left (list_any (eq_by_cmp nat_cmp d) (nodes_of_page p)) _ (ap (λ q. list_any (eq_by_cmp nat_cmp d) (nodes_of_page q)) (sym (tied_same page p here)) ∙ own)
      | inr later ↦ or_right (list_any (eq_by_cmp nat_cmp d) (nodes_of_page p)) _ (needed_by d page ps later own)
    ]

contains-nodes_over : (ps : List ℕ) (n : ℕ) → set.contains (nodes_over ps) n ≡ (eq_by_cmp nat_cmp n 0 || list_any (eq_by_cmp nat_cmp n) (flat_map nodes_of_page ps))
unfolding nodes_over
contains-nodes_over ps n = set.contains-from_list nat_cmp_total (0 ∷ flat_map nodes_of_page ps) n

pub dirty_of-needed : (pages : map.FinMap nat_cmp ℕ) (nodes : Nodes) → AreNodesOf pages nodes → set.is_subset (dirty_of nodes) (nodes_of_pages pages) ≡ true
dirty_of-needed pages nodes are = set.contains-is_subset nat_cmp_total (dirty_of nodes) (nodes_of_pages pages) (λ d dirty.
    let there = there_since (map.get nodes d) (sym (contains-dirty_of nodes d) ∙ dirty) in
    let found = page_of pages d (sym (are.present d) ∙ there) in
    contains-nodes_over (map.keys pages) d
    ∙ or_right (eq_by_cmp nat_cmp d 0) _ (needed_by d found.0 (map.keys pages) (sym (map.contains_key-keys pages found.0) ∙ found.1.0) (own_node d (direct_of found.0) found.1.1)))
