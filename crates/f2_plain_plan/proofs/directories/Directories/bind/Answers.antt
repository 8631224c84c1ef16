use Rattle.std.proofs.Common.{◌∙◌, ap, sym, rules, ℕ, Result, Ok, Err, OnOk, BTreeMap}
use Rattle.std.specs.Option.{unwrap_or}
use Rattle.std.specs.FinMap as map
use Rattle.f2_dir.specs.Entries.{Entries}
use Rattle.f2_dir.specs.declared.Dir.{Dir}
use Rattle.f2_model.proofs.MapViews.{lookup-seen, seen-insert}
use Rattle.f2_plain_plan.proofs.directories.Directories.bind.Goals as goal

on_ok : {A E : Type 0} (r : Result A E) (P Q : Type 0) → (P → Q) → OnOk r P → OnOk r Q
on_ok (Ok a) P Q f p = f p
on_ok (Err e) P Q f p = tt

pub returns-in-Some : goal.returns-in-Some
returns-in-Some c =
    let there = sym (lookup-seen _ _ c.self.view_is c.args.row.now.parent) ∙ sym c.in-Some.ensures.value in
    let update = (c.get_mut.follows.holds c.put.new.self).3 (search rules) in
    on_ok c.put.result _ _ (λ put.
    seen-insert _ _ c.self.view_is _ c.args.row.now.parent c.put.new.self update.0
    ∙ ap (map.insert c.args.self.now c.args.row.now.parent)
    (put
    ∙ ap (λ name. map.insert c.in-Some.names.now name (c.args.row.now.ino, c.args.row.now.kind)) c.in_ok-name.ensures
    ∙ ap (λ (m : Entries). map.insert m c.args.row.now.name (c.args.row.now.ino, c.args.row.now.kind)) (sym (ap (λ o. unwrap_or o map.empty) there)))) c.put.ensures.ok

pub returns-in_ok-insert-in-None : goal.returns-in_ok-insert-in-None
returns-in_ok-insert-in-None c =
    let none = sym (lookup-seen _ _ c.self.view_is c.args.row.now.parent) ∙ sym c.in-None.ensures.value in
    let before = ap (λ (names : BTreeMap ℕ Dir). map.from_entries names.entries) c.get_mut.follows.holds-at-none ∙ c.self.view_is in
    seen-insert _ _ before _ c.args.row.now.parent c.put-in-None.new.self c.in_ok-insert-in-None.ensures.updates.0
    ∙ ap (map.insert c.args.self.now c.args.row.now.parent)
    (c.in_ok-put-in-None.ensures.ok
    ∙ ap (λ name. map.insert c.new-names.result name (c.args.row.now.ino, c.args.row.now.kind)) c.in_ok-name.ensures
    ∙ ap (λ (m : Entries). map.insert m c.args.row.now.name (c.args.row.now.ino, c.args.row.now.kind)) (c.new-names.ensures ∙ sym (ap (λ o. unwrap_or o map.empty) none)))
