use Rattle.std.proofs.Common.{◌∙◌, ap, sym, subst}
use Rattle.std.specs.Prelude.{is_some}
use Rattle.std.specs.Option.{option_map, unwrap_or}
use Rattle.std.specs.FinMap as map
use Rattle.f2_model.specs.Fallback.{nothing}
use Rattle.f2_model.proofs.MapViews.{lookup-seen, seen-insert}
use Rattle.f2_held.specs.Taken.{of_names}
use Rattle.f2_held.specs.Sums.{IsDirectories, IsSmall, in_place}
use Rattle.f2_held.proofs.MapSums.{directories_sum, opened_same, opened_new, is_none, IsDirectories-put}
use Rattle.f2_held.proofs.directories.Directories.open.Goals as goal

pub returns-then-contains_key-clause-ok : goal.returns-then-contains_key-clause-ok
returns-then-contains_key-clause-ok c =
    opened_same c.args.self.now c.args.ino (ap is_some (sym (lookup-seen _ _ c.self.view_is c.args.ino)) ∙ sym c.contains_key.ensures ∙ c.if-contains_key.true)

pub exchanged-self-inside-requires-clause-sum : goal.exchanged-self-inside-requires-clause-sum
exchanged-self-inside-requires-clause-sum c = directories_sum _ c.self.inside.sum c.self.invariant

pub invariant_of-self-2 : goal.invariant_of-self-2
invariant_of-self-2 c =
    let before = subst (λ m. IsDirectories m c.self.inside.sum) c.self.view_is c.self.invariant in
    let none = is_none (map.get c.args.self.now c.args.ino) (ap is_some (sym (lookup-seen _ _ c.self.view_is c.args.ino)) ∙ sym c.contains_key.ensures ∙ c.if-contains_key.false) in
    let seen = seen-insert _ _ c.self.view_is _ c.args.ino c.new-names.result c.in_ok-insert.ensures.updates.0 in
    let put = IsDirectories-put _ c.self.inside.sum before c.args.ino nothing (sym (ap (λ o. unwrap_or (option_map of_names o) nothing) none)) c.new-names.result c.ranges.ino.fits (subst IsSmall c.size-size.ensures.size c.size-size.ensures.small) in
    subst (λ m. IsDirectories m c.exchanged-self-inside.result) (sym seen) (subst (IsDirectories _) (sym (c.exchanged-self-inside.ensures ∙ ap (in_place c.self.inside.sum nothing) c.size-size.ensures.size)) put)

pub returns-clause-ok : goal.returns-clause-ok
returns-clause-ok c =
    let none = is_none (map.get c.args.self.now c.args.ino) (ap is_some (sym (lookup-seen _ _ c.self.view_is c.args.ino)) ∙ sym c.contains_key.ensures ∙ c.if-contains_key.false) in
    seen-insert _ _ c.self.view_is _ c.args.ino c.new-names.result c.in_ok-insert.ensures.updates.0
    ∙ ap (map.insert c.args.self.now c.args.ino) c.new-names.ensures
    ∙ opened_new c.args.self.now c.args.ino none
