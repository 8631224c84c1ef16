use Rattle.std.proofs.Common.{◌≡◌, ℕ, ◌+◌, ◌*◌, ◌<◌, Bool, true, false, refl, ap, sym, ◌∙◌, arith}
use Rattle.std.specs.FinMap as map
use Rattle.std.specs.FinSet as set
use Rattle.f2_format.specs.Offsets.{node_slots}
use Rattle.f2_index.specs.Paged.{nodes_of_pages}
use Rattle.f2_blocks.specs.Blocks.{Numbered}
use Rattle.f2_blocks.specs.Slots.{AreNodesOf, ArePagesOf}
use Rattle.f2_blocks.specs.Tree.{node_limit}
use Rattle.f2_blocks.proofs.OnWays.{has_node-parent, has_node-child, has_node-page, page-has_node}
use Rattle.f2_blocks.proofs.present.+has_node.Goals as goal

-- the answer for a direct node, from a look at its pages
by_pages : (pages : Numbered) (n first : ℕ) (found : Bool) → 0 < n → n < node_limit → ArePagesOf n first
    → (found ≡ true → (slot : ℕ) × (slot < node_slots) × (map.contains_key pages (first + slot) ≡ true))
    → ((slot : ℕ) × (slot < node_slots) × (map.contains_key pages (first + slot) ≡ true) → found ≡ true)
    → found ≡ set.contains (nodes_of_pages pages) n
by_pages pages n first true low high are some none =
    let one = some refl in
    sym (page-has_node pages n one.0 low high are.kind one.1 (ap (λ p. map.contains_key pages (p + one.0)) (sym are.is) ∙ one.2))
by_pages pages n first false low high are some none = by_test (set.contains (nodes_of_pages pages) n) refl
  where
    by_test : (b : Bool) → set.contains (nodes_of_pages pages) n ≡ b → false ≡ b
    by_test false e = refl
    by_test true e =
        let one = has_node-page pages n are.kind (λ z. omega arith) e in
        none (one.0, one.1, ap (λ p. map.contains_key pages (p + one.0)) are.is ∙ one.2)

pub returns-in-Pages : goal.returns-in-Pages
returns-in-Pages g t c =
    by_pages (g.P.PageAddresses.addresses c.args.index.now) c.args.offset c.in-Pages.first c.has_page.result c.requires.below c.requires.limit c.in-Pages.ensures.slots c.has_page.ensures.0 c.has_page.ensures.1

pub returns-then-has_node : goal.returns-then-has_node
returns-then-has_node g t c =
    let pages = (g.P.PageAddresses.addresses c.args.index.now) in
    let are = c.in-Nodes.ensures.slots in
    let slot = c.loop-slot.slot in
    let at = are.each slot c.loop-slot-test.true in
    let low = c.in-Nodes.ensures.within.below in
    let there = ap (set.contains (nodes_of_pages pages)) (sym at) ∙ sym c.has_node.ensures ∙ c.if-has_node.true in
    sym (has_node-parent pages c.args.offset slot are.kind c.loop-slot-test.true (λ z. omega arith) there)

none_below : (pages : Numbered) (n first apart : ℕ) → 0 < n → AreNodesOf n first apart → ((k : ℕ) → k < node_slots → set.contains (nodes_of_pages pages) (first + k * apart) ≡ false)
    → false ≡ set.contains (nodes_of_pages pages) n
none_below pages n first apart low are absent = by_test (set.contains (nodes_of_pages pages) n) refl
  where
    by_test : (b : Bool) → set.contains (nodes_of_pages pages) n ≡ b → false ≡ b
    by_test false e = refl
    by_test true e =
        let one = has_node-child pages n are.kind (λ z. omega arith) e in
        sym (absent one.0 one.1) ∙ ap (set.contains (nodes_of_pages pages)) (are.each one.0 one.1) ∙ one.2

pub returns-after-loop-slot : goal.returns-after-loop-slot
returns-after-loop-slot g t c =
    none_below (g.P.PageAddresses.addresses c.args.index.now) c.args.offset c.in-Nodes.first c.in-Nodes.apart c.requires.below c.in-Nodes.ensures.slots (λ k h. c.loop-slot.invariant k (omega arith))
