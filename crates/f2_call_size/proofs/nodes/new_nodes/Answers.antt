use Rattle.std.proofs.Common.{◌+◌, ◌++◌, ℕ, List, [], take, append-nil, ap, sym, subst, ◌∙◌}
use Rattle.std.specs.FinMap as map
use Rattle.std.specs.FinSet as set
use Rattle.std.proofs.lemmas.List.{take_all, take_more}
use Rattle.f2_format.specs.Offsets.{node_count, nodes_over}
use Rattle.f2_call_size.specs.Beyond.{IsBeyond, Numbers}
use Rattle.f2_call_size.proofs.Listed.{beyond_none}
use Rattle.f2_call_size.proofs.nodes.new_nodes.Goals as goal

pub loop-page-init : goal.loop-page-init
loop-page-init c =
    let own : List ℕ = map.keys c.args.own.now in
    subst (λ (found : Numbers). IsBeyond (nodes_over own) found (nodes_over (own ++ []))) (sym c.new-found.ensures)
    (subst (λ xs. IsBeyond (nodes_over own) set.empty (nodes_over xs)) (sym (append-nil own)) (beyond_none (nodes_over own)))

pub loop-page-preserved : goal.loop-page-preserved
loop-page-preserved c =
    let own : List ℕ = map.keys c.args.own.now in
    let xs : List ℕ = c.args.more.now in
    let i = c.loop-page.page-index in
    subst (λ (more : List ℕ). IsBeyond (nodes_over own) c.note_page.new.found (nodes_over (own ++ more))) (sym (take_more xs i 0 c.loop-page-test.true))
    (c.in_ok-note_page.ensures own (take i xs) c.near-before.ensures c.loop-page.invariant)

pub returns-clause-nodes : goal.returns-clause-nodes
returns-clause-nodes c =
    let own : List ℕ = map.keys c.args.own.now in
    let whole = take_all c.loop-page.page-index c.args.more.now c.loop-page-test.false in
    sym (ap (λ xs. node_count (own ++ xs)) whole) ∙ c.loop-page.invariant.count ∙ ap (λ n. node_count own + n) (sym c.len.ensures.len)
