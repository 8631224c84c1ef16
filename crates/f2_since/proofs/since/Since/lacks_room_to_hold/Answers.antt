use Rattle.std.proofs.Common.{◌≡◌, ◌∙◌, sym, ap}
use Rattle.std.specs.Prelude.{nat_lt}
use Rattle.std.proofs.lemmas.Bool.{lt-ltb, le-ltb}
use Rattle.f2_held.specs.Taken.{raised, bound, total_of}
use Rattle.f2_model.specs.Fallback.{Both, held}
use Rattle.f2_since.specs.Counted.{Counted}
use Rattle.f2_since.proofs.Holding.{holds, or_first, or_second}
use Rattle.f2_since.proofs.since.Since.lacks_room_to_hold.Goals as goal

pub returns-then-held-from : goal.returns-then-held-from
returns-then-held-from c files state known is runs at kind =
    let total = c.in_ok-held.ensures ∙ ap (λ (since : Counted). total_of (record { files = raised since.held.files c.args.shape.now.ino c.in_ok-size.size; directories = bound since.held.directories c.args.shape.now.parent c.args.shape.now.name })) c.self.view_is in
    let whole = holds c.args.self.now files state c.args.shape.now c.in_ok-size.size c.in_ok-held.held known is runs at kind c.requires c.in_ok-size.ensures.nodes c.in_ok-size.ensures.pages total in
    let nodes = ap (λ (b : Both). b.nodes) (c.held.view_is ∙ whole) in
    let same : nat_lt c.from.result c.held.inside.nodes ≡ nat_lt c.args.limits.nodes (held state c.args.shape.now.ino).nodes = λ i. nat_lt (c.from.ensures i) (nodes i) in
    same ∙ or_first _ _ (sym same ∙ lt-ltb c.from.result c.held.inside.nodes c.if-held-from.true)

pub returns-else-held-from : goal.returns-else-held-from
returns-else-held-from c files state known is runs at kind =
    let total = c.in_ok-held.ensures ∙ ap (λ (since : Counted). total_of (record { files = raised since.held.files c.args.shape.now.ino c.in_ok-size.size; directories = bound since.held.directories c.args.shape.now.parent c.args.shape.now.name })) c.self.view_is in
    let whole = holds c.args.self.now files state c.args.shape.now c.in_ok-size.size c.in_ok-held.held known is runs at kind c.requires c.in_ok-size.ensures.nodes c.in_ok-size.ensures.pages total in
    let nodes = ap (λ (b : Both). b.nodes) (c.held.view_is ∙ whole) in
    let pages = ap (λ (b : Both). b.pages) (c.held.view_is ∙ whole) in
    let first : nat_lt c.from.result c.held.inside.nodes ≡ nat_lt c.args.limits.nodes (held state c.args.shape.now.ino).nodes = λ i. nat_lt (c.from.ensures i) (nodes i) in
    let second : nat_lt c.from-else-held-from.result c.held.inside.pages ≡ nat_lt c.args.limits.data_blocks (held state c.args.shape.now.ino).pages = λ i. nat_lt (c.from-else-held-from.ensures i) (pages i) in
    second ∙ or_second _ _ (sym first ∙ le-ltb c.from.result c.held.inside.nodes c.if-held-from.false)
