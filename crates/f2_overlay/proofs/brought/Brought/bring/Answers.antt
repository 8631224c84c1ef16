use Rattle.std.proofs.Common.{◌∙◌, sym, subst}
use Rattle.f2_image.specs.Faults as faults
use Rattle.f2_overlay.specs.Brought.{IsBrought}
use Rattle.f2_overlay.proofs.Bringing.{brought_new}
use Rattle.f2_overlay.proofs.brought.Brought.bring.Goals as goal

pub returns-then-other-ino-clause-fault : goal.returns-then-other-ino-clause-fault
returns-then-other-ino-clause-fault c image ckpt place has right brings =
    let found = right.only c.args.directory c.args.name c.in-Some.other (sym c.in-Some.ensures) in
    (has, faults.in_log place found.earlier c.in-Some.other c.args.directory c.args.name brings found.brings found.before c.if-other-ino.true)

pub returns-clause-brought : goal.returns-clause-brought
returns-clause-brought c =
    subst (λ brought. IsBrought c.args.self.now brought c.args.directory c.args.name c.args.ino) (sym c.in_ok-put.ensures)
    (brought_new c.args.self.now c.args.directory c.args.name c.args.ino (sym c.get.ensures ∙ c.in_default.is))
