use Rattle.std.proofs.Common.{◌∙◌, ap, sym, subst}
use Rattle.std.specs.Option.{option_map, unwrap_or}
use Rattle.f2_model.specs.Fallback.{nothing}
use Rattle.f2_model.proofs.MapViews.{lookup-seen, seen-remove}
use Rattle.f2_held.specs.Taken.{of_names}
use Rattle.f2_held.specs.Sums.{IsDirectories}
use Rattle.f2_held.proofs.MapSums.{directories_sum, directories_le, IsDirectories-out}
use Rattle.f2_held.proofs.directories.Directories.close.Goals as goal

pub returns-in_default : goal.returns-in_default
returns-in_default c =
    seen-remove _ _ c.self.view_is _ c.args.ino c.remove.ensures.updates.0

pub exchanged-self-inside-requires-clause-nodes : goal.exchanged-self-inside-requires-clause-nodes
exchanged-self-inside-requires-clause-nodes c =
    let there = sym (lookup-seen _ _ c.self.view_is c.args.ino) ∙ sym c.remove.ensures.value ∙ c.in-Some.is in
    (directories_le _ c.self.inside.sum (subst (λ m. IsDirectories m c.self.inside.sum) c.self.view_is c.self.invariant) c.args.ino c.size-size.result (c.size-size.ensures.size ∙ sym (ap (λ o. unwrap_or (option_map of_names o) nothing) there))).0

pub exchanged-self-inside-requires-clause-pages : goal.exchanged-self-inside-requires-clause-pages
exchanged-self-inside-requires-clause-pages c =
    let there = sym (lookup-seen _ _ c.self.view_is c.args.ino) ∙ sym c.remove.ensures.value ∙ c.in-Some.is in
    (directories_le _ c.self.inside.sum (subst (λ m. IsDirectories m c.self.inside.sum) c.self.view_is c.self.invariant) c.args.ino c.size-size.result (c.size-size.ensures.size ∙ sym (ap (λ o. unwrap_or (option_map of_names o) nothing) there))).1

pub exchanged-self-inside-requires-clause-sum : goal.exchanged-self-inside-requires-clause-sum
exchanged-self-inside-requires-clause-sum c = directories_sum _ c.self.inside.sum c.self.invariant

pub invariant_of-self-2 : goal.invariant_of-self-2
invariant_of-self-2 c =
    let before = subst (λ m. IsDirectories m c.self.inside.sum) c.self.view_is c.self.invariant in
    let there = sym (lookup-seen _ _ c.self.view_is c.args.ino) ∙ sym c.remove.ensures.value ∙ c.in-Some.is in
    let out = IsDirectories-out _ c.self.inside.sum before c.args.ino c.size-size.result (c.size-size.ensures.size ∙ sym (ap (λ o. unwrap_or (option_map of_names o) nothing) there)) in
    subst (λ m. IsDirectories m c.exchanged-self-inside.result) (sym (seen-remove _ _ c.self.view_is _ c.args.ino c.remove.ensures.updates.0)) (subst (IsDirectories _) (sym c.exchanged-self-inside.ensures) out)

pub returns : goal.returns
returns c = seen-remove _ _ c.self.view_is _ c.args.ino c.remove.ensures.updates.0
