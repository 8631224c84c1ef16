use Rattle.std.proofs.Common.{◌∙◌, ◌++◌, ◌∷◌, [], ap, sym, append_assoc}
use Rattle.f2_plain_read.proofs.Named.{one_more, not_fresh}
use Rattle.f2_plain_read.proofs.Telling.{fault_came}
use Rattle.f2_plain_read.proofs.names.Names.bind_all.Goals as goal

pub loop-name-preserved : goal.loop-name-preserved
loop-name-preserved c = record {
  bound = one_more c.args.directory c.args.self.now c.loop-name.self c.bind.new.self c.loop-name.yielded c.in-Some.field-0 c.loop-name.invariant.bound c.in_ok-bind.ensures.bound;
  all = append_assoc c.loop-name.yielded (c.in-Some.field-0 ∷ []) c.next.new.self.rest.items ∙ ap (λ rest. c.loop-name.yielded ++ rest) (sym c.in-Some.ensures.steps.0) ∙ c.loop-name.invariant.all;
}

pub returns-in_err-bind-clause-bad : goal.returns-in_err-bind-clause-bad
returns-in_err-bind-clause-bad c bad fresh =
    not_fresh c.args.directory c.args.self.now c.loop-name.self c.loop-name.yielded c.in-Some.field-0 c.next.new.self.rest.items c.args.dents.items c.loop-name.invariant.bound
    (ap (λ rest. c.loop-name.yielded ++ rest) (sym c.in-Some.ensures.steps.0) ∙ c.loop-name.invariant.all)
    (c.in_err-bind.ensures.bad (fault_came _ _ _ c.from_residual.ensures.1 bad)) fresh
