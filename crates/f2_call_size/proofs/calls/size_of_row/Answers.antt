use Rattle.std.proofs.Common.{sym, ap, ◌∙◌}
use Rattle.f2_model.specs.declared.rows.Kind.{Kind}
use Rattle.f2_call_size.specs.Calls.{size_of_kind}
use Rattle.f2_call_size.proofs.InPlace.{empty_directory}
use Rattle.f2_call_size.proofs.calls.size_of_row.Goals as goal

pub returns-in-Directory-clause-size : goal.returns-in-Directory-clause-size
returns-in-Directory-clause-size c = λ one alike.
    sym empty_directory ∙ ap (λ (kind : Kind). size_of_kind kind one) (sym (sym alike.kind ∙ c.in-Directory.is))
