use Rattle.std.proofs.Common.{rules}
use Rattle.std.proofs.lemmas.Fn.{always_returns_same}
use Rattle.std.specs.Ordering.{nat_cmp}
use Rattle.std.specs.Cmp.Lexicographic.{slice_cmp}
use Rattle.f2_held.proofs.NameLemmas.{place_of_found, name_not_found}
use Rattle.f2_held.proofs.name_sets.place_of.Goals as goal

pub returns-in-Ok-clause-place : goal.returns-in-Ok-clause-place
returns-in-Ok-clause-place c =
    place_of_found c.args.name.now c.args.names.now c.in-Ok.at c.in-Ok.ensures.bound c.requires (c.in-Ok.ensures.position (λ y. slice_cmp nat_cmp y c.args.name.now) (always_returns_same _ _ _ (λ a r q called. search rules)))

pub returns-in-Err-clause-absent : goal.returns-in-Err-clause-absent
returns-in-Err-clause-absent c =
    name_not_found c.args.name.now c.args.names.now c.in-Err.field-0 c.requires (c.in-Err.ensures.position (λ y. slice_cmp nat_cmp y c.args.name.now) (always_returns_same _ _ _ (λ a r q called. search rules)))
