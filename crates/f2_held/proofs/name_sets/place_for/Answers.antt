use Rattle.std.proofs.Common.{rules}
use Rattle.std.proofs.lemmas.Fn.{always_returns_same}
use Rattle.std.specs.Ordering.{nat_cmp}
use Rattle.std.specs.Cmp.Lexicographic.{slice_cmp}
use Rattle.f2_held.proofs.NameLemmas.{name_found, place_found}
use Rattle.f2_held.proofs.name_sets.place_for.Goals as goal

pub returns-in-Ok-clause-there : goal.returns-in-Ok-clause-there
returns-in-Ok-clause-there c =
    name_found c.args.name.now c.args.names.now c.in-Ok.field-0 c.in-Ok.ensures.bound (c.in-Ok.ensures.position (λ y. slice_cmp nat_cmp y c.args.name.now) (always_returns_same _ _ _ (λ a r q called. search rules)))

pub returns-in-Err-clause-place : goal.returns-in-Err-clause-place
returns-in-Err-clause-place c =
    place_found c.args.name.now c.args.names.now c.in-Err.at c.in-Err.ensures.bound c.requires (c.in-Err.ensures.position (λ y. slice_cmp nat_cmp y c.args.name.now) (always_returns_same _ _ _ (λ a r q called. search rules)))
