use Rattle.std.proofs.Common.{◌≡◌, ◌≤◌, ◌<◌, ◌-◌, true, false, [], ◌∷◌, ◌++◌, is_some, length, length-append, ap, sym, ◌∙◌, arith}
use Rattle.std.specs.Prelude.{option_map}
use Rattle.std.specs.Option.{option_to_list}
use Rattle.std.specs.FinMap as map
use Rattle.std.specs.HashMap.{spare as places_of}
use Rattle.std.specs.Box.{with_value}
use Rattle.f2_pages.specs.Kept.{Kept}
use Rattle.f2_pages.proofs.Pages.{shown-insert}
use Rattle.f2_pages.proofs.Stores.{same_kept, IsStore-kept, len-forgotten, spent_none, spent_one, dirty-at}
use Rattle.f2_pages.proofs.store.PageStore.put.Goals as goal

pub invariant_of-self : goal.invariant_of-self
invariant_of-self c =
    let is = c.self.invariant in
    let kept = (c.get_mut.follows.holds (with_value c.in-Some.block.now c.args.from.now)).6 in
    let places : c.self.inside.spare ≤ places_of (c.get_mut.follows.lender (with_value c.in-Some.block.now c.args.from.now)) = omega (arith, is.places_enough, kept) in
    IsStore-kept _ _ _ _ _ _ _ _ _ is places is.blocks_enough c.forget.ensures.cap (len-forgotten _ _ c.args.page c.forget.ensures.left)

pub returns-in-Some : goal.returns-in-Some
returns-in-Some c =
    let there = ap is_some (sym c.in-Some.ensures.value) in
    let dirty = dirty-at (λ b. b.value) _ _ _ _ _ c.args.page c.self.view_is ∙ ap (option_map (λ b. b.value)) (sym c.in-Some.ensures.value) in
    same_kept
    (shown-insert (λ b. b.value) _ _ c.args.page _ ((c.get_mut.follows.holds (with_value c.in-Some.block.now c.args.from.now)).3 there).0 ∙ ap (λ (k : Kept). map.insert k.dirty c.args.page c.args.from.now) c.self.view_is)
    (c.forget.ensures.left ∙ ap (λ (k : Kept). map.remove k.clean c.args.page) c.self.view_is)
    (ap (λ (k : Kept). k.spare) c.self.view_is ∙ spent_none _ _ (ap is_some dirty))
    (c.forget.ensures.cap ∙ ap (λ (k : Kept). k.room) c.self.view_is)

pub unwrap-block-requires : goal.unwrap-block-requires
unwrap-block-requires c =
    let absent = dirty-at (λ b. b.value) _ _ _ _ _ c.args.page c.self.view_is ∙ ap (option_map (λ b. b.value)) (sym c.in_default.ensures.value) in
    let spare = ap (λ (k : Kept). k.spare) c.self.view_is in
    let some : 0 < c.self.inside.blocks.len = omega (arith, c.requires absent, spare, c.self.invariant.blocks_enough, c.self.inside.blocks.ok) in
    c.pop.ensures.variant.1 some

pub unreachable-requires : goal.unreachable-requires
unreachable-requires c =
    let absent = dirty-at (λ b. b.value) _ _ _ _ _ c.args.page c.self.view_is ∙ ap (option_map (λ b. b.value)) (sym c.in_default.ensures.value) in
    let spare = ap (λ (k : Kept). k.spare) c.self.view_is in
    let same = ap (λ m. places_of m) c.get_mut.follows.holds-at-none in
    let some : 0 < places_of c.get_mut.follows.lender-at-none = omega (arith, c.requires absent, spare, c.self.invariant.places_enough, same) in
    let wrong : ◌≡◌ false true = c.in-Err.ensures.succeeds some in
    cc

pub overflow_sub-self : goal.overflow_sub-self
overflow_sub-self c =
    let absent = dirty-at (λ b. b.value) _ _ _ _ _ c.args.page c.self.view_is ∙ ap (option_map (λ b. b.value)) (sym c.in_default.ensures.value) in
    omega (arith, c.requires absent, ap (λ (k : Kept). k.spare) c.self.view_is)

pub invariant_of-self-in-Ok : goal.invariant_of-self-in-Ok
invariant_of-self-in-Ok c =
    let is = c.self.invariant in
    let same = ap (λ m. places_of m) c.get_mut.follows.holds-at-none in
    let places : c.self.inside.spare - 1 ≤ places_of c.insert.new.self = omega (arith, is.places_enough, c.in-Ok.ensures.spare, same) in
    let popped = ap length c.pop.ensures.items ∙ ap (λ o. length (c.pop.new.self.items ++ option_to_list o)) c.unwrap-block.ensures in
    let blocks : c.self.inside.spare - 1 ≤ length c.pop.new.self.items = omega (arith, is.blocks_enough, popped, length-append c.pop.new.self.items (c.unwrap-block.result ∷ [])) in
    IsStore-kept _ _ _ _ _ _ _ _ _ is places blocks c.forget.ensures.cap (len-forgotten _ _ c.args.page c.forget.ensures.left)

pub returns : goal.returns
returns c =
    let absent = dirty-at (λ b. b.value) _ _ _ _ _ c.args.page c.self.view_is ∙ ap (option_map (λ b. b.value)) (sym c.in_default.ensures.value) in
    let updated = rw c.get_mut.follows.holds-at-none at c.in-Ok.ensures.updates.0 in
    same_kept
    (shown-insert (λ b. b.value) _ _ c.args.page _ updated ∙ ap (λ (k : Kept). map.insert k.dirty c.args.page c.args.from.now) c.self.view_is)
    (c.forget.ensures.left ∙ ap (λ (k : Kept). map.remove k.clean c.args.page) c.self.view_is)
    (ap (λ (k : Kept). k.spare - 1) c.self.view_is ∙ spent_one _ _ (ap is_some absent))
    (c.forget.ensures.cap ∙ ap (λ (k : Kept). k.room) c.self.view_is)
