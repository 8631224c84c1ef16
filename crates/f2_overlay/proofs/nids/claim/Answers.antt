use Rattle.std.proofs.Common.{sym, ◌∙◌, subst}
use Rattle.f2_overlay.specs.Nids.{Holders, IsClaimed}
use Rattle.f2_overlay.specs.declared.holders.Holder.{Holder}
use Rattle.f2_overlay.proofs.NidChecks.{newly_claimed}
use Rattle.f2_overlay.proofs.nids.claim.Goals as goal

pub returns-clause-claimed : goal.returns-clause-claimed
returns-clause-claimed c =
    let nid = c.args.footer.now.nid in
    let owner : Holder = record { ino = c.args.footer.now.ino; offset = c.args.footer.now.offset } in
    subst (λ (now : Holders). IsClaimed c.args.owners.now now nid owner) (sym c.in_ok-put.ensures.ok) (newly_claimed c.args.owners.now nid owner (sym c.get.ensures ∙ c.in_default.is))
