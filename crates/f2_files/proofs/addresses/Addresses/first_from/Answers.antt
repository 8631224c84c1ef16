use Rattle.std.proofs.Common.{ℕ, subst}
use Rattle.std.specs.Map.Iter.{TakesFirst, deref_pair}
use Rattle.f2_files.proofs.Nearest.{first_is, no_first}
use Rattle.f2_files.proofs.addresses.Addresses.first_from.Goals as goal

pub returns-in-Some : goal.returns-in-Some
returns-in-Some c =
    let pages = c.self.inside.pages in
    let step = subst (λ o. TakesFirst (deref_pair {K = ℕ} {X = ℕ}) c.range.result o c.next.new.self) c.in-Some.is c.next.ensures.steps in
    first_is pages c.args.self.now c.self.view_is c.args.from c.range.result (c.range.ensures.in_range tt) (c.in-Some.page.now, c.in-Some.field-0-1.now) c.next.new.self step

pub returns-in-None : goal.returns-in-None
returns-in-None c =
    let pages = c.self.inside.pages in
    let step = subst (λ o. TakesFirst (deref_pair {K = ℕ} {X = ℕ}) c.range.result o c.next.new.self) c.in-None.is c.next.ensures.steps in
    no_first pages c.args.self.now c.self.view_is c.args.from c.range.result (c.range.ensures.in_range tt) step.0
