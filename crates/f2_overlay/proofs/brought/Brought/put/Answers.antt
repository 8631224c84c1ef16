use Rattle.std.proofs.Common.{◌≡◌, ◌∙◌, ap, sym, Some, None}
use Rattle.std.specs.Prelude.{Result, OnOk, Ok, Err, is_some}
use Rattle.std.specs.Option.{unwrap_or}
use Rattle.std.specs.FinMap as map
use Rattle.f2_dir.specs.Entries.{Entries}
use Rattle.f2_model.specs.declared.rows.Kind.TheVariants.{Regular}
use Rattle.f2_model.proofs.MapViews.{lookup-seen, seen-insert}
use Rattle.f2_overlay.proofs.brought.Brought.put.Goals as goal

ok_map : {A E : Type 0} {P Q : Type 0} (r : Result A E) → (P → Q) → OnOk r P → OnOk r Q
ok_map (Ok a) f p = f p
ok_map (Err e) f p = tt

pub returns-in-Some : goal.returns-in-Some
returns-in-Some c =
    let brought = c.args.self.now in
    let at = c.args.directory in
    let there = ap is_some (sym c.in-Some.ensures.value) in
    let was : Some c.in-Some.names.now ≡ map.get brought at = c.in-Some.ensures.value ∙ lookup-seen _ _ c.self.view_is at in
    let put = seen-insert _ _ c.self.view_is _ at c.put.new.self ((c.get_mut.follows.holds c.put.new.self).3 there).0 in
    let named = λ (names : Entries). map.insert brought at (map.insert names c.args.name (c.args.ino, Regular)) in
    ok_map c.put.result (λ e. put ∙ ap (map.insert brought at) e ∙ ap (λ o. named (unwrap_or o map.empty)) was) c.put.ensures.ok

pub returns-in-None : goal.returns-in-None
returns-in-None c =
    let brought = c.args.self.now in
    let at = c.args.directory in
    let none : None ≡ map.get brought at = c.in-None.ensures.value ∙ lookup-seen _ _ c.self.view_is at in
    let same = ap (λ m. map.from_entries m.entries) c.get_mut.follows.holds-at-none ∙ c.self.view_is in
    let named = λ (names : Entries). map.insert names c.args.name (c.args.ino, Regular) in
    ok_map c.put_first.result (λ e. e ∙ ap (λ b. map.insert b at (named map.empty)) same ∙ ap (λ o. map.insert brought at (named (unwrap_or o map.empty))) none) c.put_first.ensures
