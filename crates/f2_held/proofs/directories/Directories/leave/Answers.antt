use Rattle.std.proofs.Common.{◌∙◌, ap, sym, subst, rules}
use Rattle.std.specs.Option.{option_map, unwrap_or, option_copied_mut}
use Rattle.std.specs.FinMap as map
use Rattle.f2_model.specs.Fallback.{nothing}
use Rattle.f2_model.proofs.MapViews.{lookup-seen, seen-insert}
use Rattle.f2_held.specs.Taken.{of_names, without_name}
use Rattle.f2_held.specs.Sums.{IsDirectories, IsSmall, in_place}
use Rattle.f2_held.proofs.MapSums.{directories_sum, directories_le, there_or_not, IsDirectories-put}
use Rattle.f2_held.proofs.directories.Directories.leave.Goals as goal

pub unreachable-requires : goal.unreachable-requires
unreachable-requires c =
    there_or_not (map.get c.args.self.now c.args.parent) (sym (lookup-seen _ _ c.self.view_is c.args.parent) ∙ sym c.get_mut.ensures.value ∙ ap option_copied_mut c.in_default.is) c.requires.parent

pub exchanged-self-inside-requires-clause-nodes : goal.exchanged-self-inside-requires-clause-nodes
exchanged-self-inside-requires-clause-nodes c =
    let there = sym (lookup-seen _ _ c.self.view_is c.args.parent) ∙ sym c.in-Some.ensures.value in
    (directories_le _ c.self.inside.sum (subst (λ m. IsDirectories m c.self.inside.sum) c.self.view_is c.self.invariant) c.args.parent c.size-before.result (c.size-before.ensures.size ∙ sym (ap (λ o. unwrap_or (option_map of_names o) nothing) there))).0

pub exchanged-self-inside-requires-clause-pages : goal.exchanged-self-inside-requires-clause-pages
exchanged-self-inside-requires-clause-pages c =
    let there = sym (lookup-seen _ _ c.self.view_is c.args.parent) ∙ sym c.in-Some.ensures.value in
    (directories_le _ c.self.inside.sum (subst (λ m. IsDirectories m c.self.inside.sum) c.self.view_is c.self.invariant) c.args.parent c.size-before.result (c.size-before.ensures.size ∙ sym (ap (λ o. unwrap_or (option_map of_names o) nothing) there))).1

pub exchanged-self-inside-requires-clause-sum : goal.exchanged-self-inside-requires-clause-sum
exchanged-self-inside-requires-clause-sum c = directories_sum _ c.self.inside.sum c.self.invariant

pub invariant_of-self : goal.invariant_of-self
invariant_of-self c =
    let before = subst (λ m. IsDirectories m c.self.inside.sum) c.self.view_is c.self.invariant in
    let there = sym (lookup-seen _ _ c.self.view_is c.args.parent) ∙ sym c.in-Some.ensures.value in
    let update = (c.get_mut.follows.holds c.leave.new.self).3 (search rules) in
    let seen = seen-insert _ _ c.self.view_is _ c.args.parent c.leave.new.self update.0 in
    let put = IsDirectories-put _ c.self.inside.sum before c.args.parent c.size-before.result (c.size-before.ensures.size ∙ sym (ap (λ o. unwrap_or (option_map of_names o) nothing) there)) c.leave.new.self c.ranges.parent.fits (subst IsSmall c.size-after.ensures.size c.size-after.ensures.small) in
    subst (λ m. IsDirectories m c.exchanged-self-inside.result) (sym seen) (subst (IsDirectories _) (sym (c.exchanged-self-inside.ensures ∙ ap (in_place c.self.inside.sum c.size-before.result) c.size-after.ensures.size)) put)

pub returns : goal.returns
returns c =
    let there = sym (lookup-seen _ _ c.self.view_is c.args.parent) ∙ sym c.in-Some.ensures.value in
    let update = (c.get_mut.follows.holds c.leave.new.self).3 (search rules) in
    seen-insert _ _ c.self.view_is _ c.args.parent c.leave.new.self update.0
    ∙ ap (map.insert c.args.self.now c.args.parent) (c.leave.ensures ∙ ap (λ names. without_name names c.args.name.now) (sym (ap (λ o. unwrap_or o map.empty) there)))
