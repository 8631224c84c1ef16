use Rattle.std.proofs.Common.{ap, sym, ◌∙◌}
use Rattle.f2_model.specs.Tree.{walk}
use Rattle.f2_reference_calls.proofs.Fitting.{short_end}
use Rattle.f2_reference_calls.proofs.answers.answer.Goals as goal

pub bytes_told-requires : goal.bytes_told-requires
bytes_told-requires c = short_end c.args.tree.now c.in-Read.path c.in-Ok.row.now c.requires (ap (walk c.args.tree.now) (sym c.as_slice.ensures) ∙ c.in-Ok.ensures)
