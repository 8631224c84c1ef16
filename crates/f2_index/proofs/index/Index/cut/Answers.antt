use Rattle.std.proofs.Common.{◌≤◌, sym, ◌∙◌}
use Rattle.f2_index.specs.Paged.{IsCut}
use Rattle.f2_index.proofs.Tables.{some_facts, none_fact}
use Rattle.f2_index.proofs.Cuts.{IsCut-twice}
use Rattle.f2_index.proofs.index.Index.cut.Goals as goal

pub loop-preserved : goal.loop-preserved
loop-preserved c = λ last rest.
    c.loop.invariant last (some_facts c.cut_last.result (λ page. c.args.from ≤ page) (λ page. IsCut page c.loop.self c.cut_last.new.self) (IsCut c.args.from c.loop.self last)
    (sym c.is_some.ensures ∙ c.loop-test.true) c.cut_last.ensures.last c.cut_last.ensures.cut
    (λ page order one. IsCut-twice c.args.from page c.loop.self c.cut_last.new.self last order one rest))

pub returns : goal.returns
returns c =
    c.loop.invariant c.cut_last.new.self
    (none_fact c.cut_last.result (IsCut c.args.from c.loop.self c.cut_last.new.self) (sym c.is_some.ensures ∙ c.loop-test.false) c.cut_last.ensures.none)
