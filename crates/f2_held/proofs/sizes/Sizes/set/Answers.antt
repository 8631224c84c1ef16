use Rattle.std.proofs.Common.{◌∙◌, sym, subst, Result, Ok, Err, OnErr}
use Rattle.f2_model.proofs.MapViews.{lookup-seen, seen-insert}
use Rattle.f2_held.specs.Sums.{IsSizes}
use Rattle.f2_held.proofs.MapSums.{sizes_le, sizes_sum, IsSizes-put}
use Rattle.f2_held.proofs.sizes.Sizes.set.Goals as goal

pub exchanged-self-inside-requires-clause-nodes : goal.exchanged-self-inside-requires-clause-nodes
exchanged-self-inside-requires-clause-nodes c =
    (sizes_le _ c.self.inside.sum (subst (λ m. IsSizes m c.self.inside.sum) c.self.view_is c.self.invariant) c.args.ino c.stood-stood.result c.stood-stood.ensures.stood).0

pub exchanged-self-inside-requires-clause-pages : goal.exchanged-self-inside-requires-clause-pages
exchanged-self-inside-requires-clause-pages c =
    (sizes_le _ c.self.inside.sum (subst (λ m. IsSizes m c.self.inside.sum) c.self.view_is c.self.invariant) c.args.ino c.stood-stood.result c.stood-stood.ensures.stood).1

pub exchanged-self-inside-requires-clause-sum : goal.exchanged-self-inside-requires-clause-sum
exchanged-self-inside-requires-clause-sum c =
    sizes_sum _ c.self.inside.sum (subst (λ m. IsSizes m c.self.inside.sum) c.self.view_is c.self.invariant) c.args.ino c.stood-stood.result c.stood-stood.ensures.stood

pub invariant_of-self-2 : goal.invariant_of-self-2
invariant_of-self-2 c =
    let before = subst (λ m. IsSizes m c.self.inside.sum) c.self.view_is c.self.invariant in
    let seen = seen-insert _ _ c.self.view_is _ c.args.ino c.args.size c.in_ok-insert.ensures.updates.0 in
    subst (λ m. IsSizes m c.exchanged-self-inside.result) (sym seen)
    (subst (IsSizes _) (sym c.exchanged-self-inside.ensures) (IsSizes-put _ c.self.inside.sum before c.args.ino c.stood-stood.result c.stood-stood.ensures.stood c.args.size c.ranges.ino.fits c.requires))

on_err : {A E : Type 0} (r : Result A E) (P : Type 0) → P → OnErr r P
on_err (Ok a) P p = tt
on_err (Err e) P p = p

pub returns-in_err-insert-clause-absent : goal.returns-in_err-insert-clause-absent
returns-in_err-insert-clause-absent c = on_err c.from_residual.result _ (sym (lookup-seen _ _ c.self.view_is c.args.ino) ∙ c.in_err-insert.ensures.absent)

pub returns-clause-ok : goal.returns-clause-ok
returns-clause-ok c = seen-insert _ _ c.self.view_is _ c.args.ino c.args.size c.in_ok-insert.ensures.updates.0
