use Rattle.std.proofs.Common.{◌≡◌, ◌∙◌, ap, sym, subst, is_some, true, false}
use Rattle.std.specs.Prelude.{IsSome}
use Rattle.std.specs.Option.{option_map, unwrap_or}
use Rattle.std.specs.Box.{with_value}
use Rattle.std.specs.FinMap as map
use Rattle.f2_model.specs.Content.{filled, zero_page}
use Rattle.f2_model.proofs.MapViews.{lookup-shown_seen, shown_seen-insert}
use Rattle.f2_model.proofs.page_maps.Pages.fill.Goals as goal
use Rattle.f2_model.proofs.page_maps.Pages.fill.Goals.{in-Some, in_default}

pub returns : goal.returns
returns c = elim c.match-get_mut.branch [
  | in-Some w ↦ (
      let there = ap is_some (sym w.in-Some.ensures.value) in
      let seen = lookup-shown_seen c.self.inside.pages.entries (λ b. b.value) _ c.self.view_is c.args.page in
      let was = ap (option_map (λ b. b.value)) w.in-Some.ensures.value ∙ seen in
      let held = ap (λ o. unwrap_or o zero_page) was in
      let written = with_value w.in-Some.content.now w.fill.new.content in
      let put = shown_seen-insert c.self.inside.pages.entries (λ b. b.value) _ c.self.view_is _ c.args.page written ((c.get_mut.follows.holds written).3 there).0 in
      let content = w.fill.ensures ∙ ap (λ b. filled b c.args.from c.args.to c.args.byte) (w.deref_mut.ensures.value ∙ held) in
      (rw w.self-inside-is (put ∙ ap (map.insert c.args.self.now c.args.page) content)))
  | in_default w ↦ (
      let seen = lookup-shown_seen c.self.inside.pages.entries (λ b. b.value) _ c.self.view_is c.args.page in
      let none = ap (option_map (λ b. b.value)) w.in_default.ensures.value ∙ seen in
      let wrong : ◌≡◌ false true = subst IsSome (sym none) c.requires.there in
      cc)
]
