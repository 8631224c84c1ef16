use Rattle.std.proofs.Common.{◌∙◌, ap, sym, subst}
use Rattle.std.specs.Option.{option_map, unwrap_or, option_copied}
use Rattle.std.specs.FinMap as map
use Rattle.f2_model.specs.Fallback.{nothing}
use Rattle.f2_model.proofs.MapViews.{lookup-seen}
use Rattle.f2_held.specs.Taken.{of_names, and_name, of_directories}
use Rattle.f2_held.specs.Sums.{IsDirectories, IsSmall, IsSmallSum, in_place}
use Rattle.f2_held.proofs.MapSums.{directories_sum, directories_le, directories_put, there_or_not, IsDirectories-put}
use Rattle.f2_held.proofs.directories.Directories.sum_with.Goals as goal

pub unreachable-requires : goal.unreachable-requires
unreachable-requires c =
    there_or_not (map.get c.args.self.now c.args.parent) (sym (lookup-seen _ _ c.self.view_is c.args.parent) ∙ sym c.get.ensures.value ∙ ap option_copied c.in_default.is) c.requires.parent

pub exchanged-requires-clause-nodes : goal.exchanged-requires-clause-nodes
exchanged-requires-clause-nodes c =
    let there = sym (lookup-seen _ _ c.self.view_is c.args.parent) ∙ sym c.in-Some.ensures.value in
    (directories_le _ c.self.inside.sum (subst (λ m. IsDirectories m c.self.inside.sum) c.self.view_is c.self.invariant) c.args.parent c.size.result (c.size.ensures.size ∙ sym (ap (λ o. unwrap_or (option_map of_names o) nothing) there))).0

pub exchanged-requires-clause-pages : goal.exchanged-requires-clause-pages
exchanged-requires-clause-pages c =
    let there = sym (lookup-seen _ _ c.self.view_is c.args.parent) ∙ sym c.in-Some.ensures.value in
    (directories_le _ c.self.inside.sum (subst (λ m. IsDirectories m c.self.inside.sum) c.self.view_is c.self.invariant) c.args.parent c.size.result (c.size.ensures.size ∙ sym (ap (λ o. unwrap_or (option_map of_names o) nothing) there))).1

pub exchanged-requires-clause-sum : goal.exchanged-requires-clause-sum
exchanged-requires-clause-sum c = directories_sum _ c.self.inside.sum c.self.invariant

pub returns-clause-sum : goal.returns-clause-sum
returns-clause-sum c =
    let before = subst (λ m. IsDirectories m c.self.inside.sum) c.self.view_is c.self.invariant in
    let there = sym (lookup-seen _ _ c.self.view_is c.args.parent) ∙ sym c.in-Some.ensures.value in
    c.exchanged.ensures
    ∙ ap (in_place c.self.inside.sum c.size.result) c.in_ok-after.ensures.size
    ∙ directories_put _ c.self.inside.sum before c.args.parent c.size.result (c.size.ensures.size ∙ sym (ap (λ o. unwrap_or (option_map of_names o) nothing) there)) (and_name c.in-Some.names.now c.args.name.now)
    ∙ sym (ap (λ o. of_directories (map.insert c.args.self.now c.args.parent (and_name (unwrap_or o map.empty) c.args.name.now))) there)

pub returns-clause-small : goal.returns-clause-small
returns-clause-small c =
    let before = subst (λ m. IsDirectories m c.self.inside.sum) c.self.view_is c.self.invariant in
    let there = sym (lookup-seen _ _ c.self.view_is c.args.parent) ∙ sym c.in-Some.ensures.value in
    let put = IsDirectories-put _ c.self.inside.sum before c.args.parent c.size.result (c.size.ensures.size ∙ sym (ap (λ o. unwrap_or (option_map of_names o) nothing) there)) (and_name c.in-Some.names.now c.args.name.now) c.ranges.parent.fits (subst IsSmall c.in_ok-after.ensures.size c.in_ok-after.ensures.small) in
    subst IsSmallSum (sym (c.exchanged.ensures ∙ ap (in_place c.self.inside.sum c.size.result) c.in_ok-after.ensures.size)) (directories_sum _ _ put)
