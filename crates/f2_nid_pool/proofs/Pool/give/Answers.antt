use Rattle.std.proofs.Common.{◌||◌, sym, ap, ◌∙◌}
use Rattle.std.specs.FinSet as set
use Rattle.f2_nid_pool.specs.Nids.{Nids}
use Rattle.f2_nid_pool.proofs.Laws.{IsPool-give_free, IsPool-give_held}
use Rattle.f2_nid_pool.proofs.Pool.give.Goals as goal

pub invariant_of-self : goal.invariant_of-self
invariant_of-self c =
    let live = ap (λ (p : Nids). set.contains p.live c.args.nid) c.self.view_is ∙ c.requires.live in
    rw (c.remove.ensures, c.remove-then-not-contains-2.ensures)
    (IsPool-give_free _ _ _ _ _ c.args.nid c.self.invariant live c.requires.not_root (sym c.contains.ensures.member ∙ c.if-not-contains.true) (sym c.contains-then-not-contains.ensures.member ∙ c.if-not-contains-2.true))

pub invariant_of-self-else-not-contains-2 : goal.invariant_of-self-else-not-contains-2
invariant_of-self-else-not-contains-2 c =
    let live = ap (λ (p : Nids). set.contains p.live c.args.nid) c.self.view_is ∙ c.requires.live in
    rw c.remove.ensures
    (IsPool-give_held _ _ _ _ _ c.args.nid c.self.invariant live c.requires.not_root (ap (λ b. b || set.contains c.self.inside.logged.members c.args.nid) (sym c.contains.ensures.member ∙ c.if-not-contains.true) ∙ sym c.contains-then-not-contains.ensures.member ∙ c.if-not-contains-2.false))

pub invariant_of-self-else-not-contains : goal.invariant_of-self-else-not-contains
invariant_of-self-else-not-contains c =
    let live = ap (λ (p : Nids). set.contains p.live c.args.nid) c.self.view_is ∙ c.requires.live in
    rw c.remove.ensures
    (IsPool-give_held _ _ _ _ _ c.args.nid c.self.invariant live c.requires.not_root (ap (λ b. b || set.contains c.self.inside.logged.members c.args.nid) (sym c.contains.ensures.member ∙ c.if-not-contains.false)))
