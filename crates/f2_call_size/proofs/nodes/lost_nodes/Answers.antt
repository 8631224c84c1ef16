use Rattle.std.proofs.Common.{◌≡◌, ◌≤◌, ◌<◌, ◌+◌, ◌++◌, ℕ, Bool, true, false, not, List, [], take, get_or, length, append-nil, refl, ap, sym, subst, ◌∙◌, true≢false}
use Rattle.std.specs.Prelude.{nat_lt}
use Rattle.std.specs.FinMap as map
use Rattle.std.specs.FinSet as set
use Rattle.std.proofs.lemmas.Bool.{ltb-false}
use Rattle.std.proofs.lemmas.List.{take_all, take_more}
use Rattle.f2_format.specs.Offsets.{node_count, nodes_over}
use Rattle.f2_call_size.specs.Beyond.{IsBeyond, Numbers, pages_below}
use Rattle.f2_call_size.proofs.Listed.{beyond_none, passes_at}
use Rattle.f2_call_size.proofs.nodes.lost_nodes.Goals as goal

not_less : (page end : ℕ) → not (nat_lt page end) ≡ true → end ≤ page
not_less page end h = by (nat_lt page end) refl h
  where
    by : (b : Bool) → nat_lt page end ≡ b → not b ≡ true → end ≤ page
    by true e h = absurd (true≢false (sym h))
    by false e h = ltb-false page end e

pub loop-page-init : goal.loop-page-init
loop-page-init c =
    let own : List ℕ = pages_below c.args.own.now c.args.end in
    subst (λ (found : Numbers). IsBeyond (nodes_over own) found (nodes_over (own ++ []))) (sym c.new-found.ensures)
    (subst (λ xs. IsBeyond (nodes_over own) set.empty (nodes_over xs)) (sym (append-nil own)) (beyond_none (nodes_over own)))

pub loop-page-preserved : goal.loop-page-preserved
loop-page-preserved c =
    let own : List ℕ = pages_below c.args.own.now c.args.end in
    let xs : List ℕ = c.args.lost.now in
    let i = c.loop-page.page-index in
    let within : i < length xs = c.loop-page-test.true in
    let there : not (nat_lt (get_or xs i 0) c.args.end) ≡ true =
    subst (λ (ys : List ℕ). i < length ys → not (nat_lt (get_or ys i 0) c.args.end) ≡ true) (sym c.requires) (passes_at (λ page. not (nat_lt page c.args.end)) (map.keys c.args.own.now) i) within in
    let past : c.args.end ≤ get_or xs i 0 = not_less (get_or xs i 0) c.args.end there in
    subst (λ (more : List ℕ). IsBeyond (nodes_over own) c.note_page.new.found (nodes_over (own ++ more))) (sym (take_more xs i 0 within))
    (c.in_ok-note_page.ensures own (take i xs) (c.last_below-before.ensures (get_or xs i 0) past) c.loop-page.invariant)

pub returns-clause-nodes : goal.returns-clause-nodes
returns-clause-nodes c =
    let own : List ℕ = pages_below c.args.own.now c.args.end in
    let whole = take_all c.loop-page.page-index c.args.lost.now c.loop-page-test.false in
    sym (ap (λ xs. node_count (own ++ xs)) whole) ∙ c.loop-page.invariant.count ∙ ap (λ n. node_count own + n) (sym c.len.ensures.len)
