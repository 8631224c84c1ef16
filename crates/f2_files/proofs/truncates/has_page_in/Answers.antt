use Rattle.std.proofs.Common.{◌≡◌, ℕ, ◌+◌, ◌&&◌, not, refl, sym, ap, ◌∙◌, arith}
use Rattle.std.specs.Prelude.{min, nat_lt}
use Rattle.std.specs.List.{list_any}
use Rattle.std.specs.FinMap as map
use Rattle.f2_shape.proofs.Parts.{number_of-direct}
use Rattle.f2_files.specs.Cuts.{Addressed}
use Rattle.f2_files.proofs.NodePages.{node_between, no_node}
use Rattle.f2_files.proofs.truncates.has_page_in.Goals as goal

pub overflow_cast-first : goal.overflow_cast-first
overflow_cast-first c =
    let first = number_of-direct c.in-Some.first c.args.node c.in-Some.ensures.first.held in
    omega (arith, first)

pub overflow_add-first : goal.overflow_add-first
overflow_add-first c =
    let first = number_of-direct c.in-Some.first c.args.node c.in-Some.ensures.first.held in
    omega (arith, first)

pub returns-in-Some : goal.returns-in-Some
returns-in-Some c =
    let pages : Addressed = c.args.pages.now in
    let first : ℕ = c.in-Some.first in
    let to : c.min.result ≡ min c.args.end (first + 1018) = c.min.ensures in
    let has : c.has_between.result ≡ list_any (λ page. not (nat_lt page first) && nat_lt page c.min.result) (map.keys pages) = c.has_between.ensures in
    has ∙ ap (λ n. list_any (λ page. not (nat_lt page first) && nat_lt page n) (map.keys pages)) to ∙ node_between pages c.args.end c.args.node first c.in-Some.ensures.first

pub returns-in-None : goal.returns-in-None
returns-in-None c = sym (no_node c.args.pages.now c.args.end c.args.node (c.in-None.ensures.none.0 refl))
