use Rattle.std.proofs.Common.{ℕ, subst}
use Rattle.std.specs.Map.Iter.{TakesLast, deref_pair}
use Rattle.f2_files.proofs.Nearest.{last_is, no_last}
use Rattle.f2_files.proofs.addresses.Addresses.last_to.Goals as goal

pub returns-in-Some : goal.returns-in-Some
returns-in-Some c =
    let pages = c.self.inside.pages in
    let step = subst (λ o. TakesLast (deref_pair {K = ℕ} {X = ℕ}) c.range.result o c.next_back.new.self) c.in-Some.is c.next_back.ensures.steps in
    last_is pages c.args.self.now c.self.view_is c.args.to c.range.result (c.range.ensures.in_range tt) (c.in-Some.page.now, c.in-Some.field-0-1.now) c.next_back.new.self step

pub returns-in-None : goal.returns-in-None
returns-in-None c =
    let pages = c.self.inside.pages in
    let step = subst (λ o. TakesLast (deref_pair {K = ℕ} {X = ℕ}) c.range.result o c.next_back.new.self) c.in-None.is c.next_back.ensures.steps in
    no_last pages c.args.self.now c.self.view_is c.args.to c.range.result (c.range.ensures.in_range tt) step.0
