use Rattle.std.proofs.Common.{ap}
use Rattle.std.specs.Option.{unwrap_or}
use Rattle.f2_model.specs.Content.{zero_page}
use Rattle.f2_reference_calls.proofs.contents.page_of.Goals as goal

pub returns-in-None : goal.returns-in-None
unfolding zero_page
returns-in-None c = ap (λ found. unwrap_or found zero_page) (c.in-None.ensures {u = tt})
