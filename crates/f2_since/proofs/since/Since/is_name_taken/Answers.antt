use Rattle.std.proofs.Common.{◌∙◌, sym, ap}
use Rattle.std.specs.Prelude.{is_some}
use Rattle.f2_since.specs.Counted.{Counted, holder}
use Rattle.f2_since.proofs.Telling.{name_parted}
use Rattle.f2_since.proofs.since.Since.is_name_taken.Goals as goal

pub returns : goal.returns
returns c state row is runs there not_root at name =
    c.is_some.ensures
    ∙ ap is_some (
    c.holder.ensures
    ∙ ap (λ (since : Counted). holder since.parted c.args.parent c.args.name.now) c.self.view_is
    ∙ sym (λ i. holder c.args.self.now.parted (at i) (name i)))
    ∙ name_parted c.args.self.now state row is runs there not_root
