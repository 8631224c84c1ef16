use Rattle.std.proofs.Common.{◌≤◌, [], ◌∷◌, length, length-append, ap, ◌∙◌, arith}
use Rattle.std.specs.FinMap as map
use Rattle.std.specs.HashMap.{spare as places_of}
use Rattle.f2_pages.specs.Kept.{Kept}
use Rattle.f2_pages.proofs.Pages.{shown-remove}
use Rattle.f2_pages.proofs.Stores.{same_kept, IsStore-kept, len-forgotten}
use Rattle.f2_pages.proofs.store.PageStore.leave.Goals as goal

pub invariant_of-self : goal.invariant_of-self
invariant_of-self c =
    let is = c.self.invariant in
    let places : c.self.inside.spare ≤ places_of c.remove.new.self = omega (arith, is.places_enough, c.remove.ensures.spare) in
    IsStore-kept _ _ _ _ _ _ _ _ _ is places is.blocks_enough c.forget.ensures.cap (len-forgotten _ _ c.args.page c.forget.ensures.left)

pub invariant_of-self-else-len-capacity : goal.invariant_of-self-else-len-capacity
invariant_of-self-else-len-capacity c =
    let is = c.self.invariant in
    let places : c.self.inside.spare ≤ places_of c.remove.new.self = omega (arith, is.places_enough, c.remove.ensures.spare) in
    IsStore-kept _ _ _ _ _ _ _ _ _ is places is.blocks_enough c.forget.ensures.cap (len-forgotten _ _ c.args.page c.forget.ensures.left)

pub invariant_of-self-then-len-capacity : goal.invariant_of-self-then-len-capacity
invariant_of-self-then-len-capacity c =
    let is = c.self.invariant in
    let places : c.self.inside.spare ≤ places_of c.remove.new.self = omega (arith, is.places_enough, c.remove.ensures.spare) in
    let blocks : c.self.inside.spare ≤ length c.push_reserved.new.self.items = let e = ap length c.push_reserved.ensures.items in omega (arith, is.blocks_enough, e, length-append c.self.inside.blocks.items (c.in-Some.block ∷ [])) in
    IsStore-kept _ _ _ _ _ _ _ _ _ is places blocks c.forget.ensures.cap (len-forgotten _ _ c.args.page c.forget.ensures.left)

pub returns-then-len-capacity : goal.returns-then-len-capacity
returns-then-len-capacity c =
    same_kept
    (shown-remove (λ b. b.value) _ _ c.args.page c.remove.ensures.updates.0 ∙ ap (λ (k : Kept). map.remove k.dirty c.args.page) c.self.view_is)
    (c.forget.ensures.left ∙ ap (λ (k : Kept). map.remove k.clean c.args.page) c.self.view_is)
    (ap (λ (k : Kept). k.spare) c.self.view_is)
    (c.forget.ensures.cap ∙ ap (λ (k : Kept). k.room) c.self.view_is)

pub returns-else-len-capacity : goal.returns-else-len-capacity
returns-else-len-capacity c =
    same_kept
    (shown-remove (λ b. b.value) _ _ c.args.page c.remove.ensures.updates.0 ∙ ap (λ (k : Kept). map.remove k.dirty c.args.page) c.self.view_is)
    (c.forget.ensures.left ∙ ap (λ (k : Kept). map.remove k.clean c.args.page) c.self.view_is)
    (ap (λ (k : Kept). k.spare) c.self.view_is)
    (c.forget.ensures.cap ∙ ap (λ (k : Kept). k.room) c.self.view_is)

pub returns-in_default : goal.returns-in_default
returns-in_default c =
    same_kept
    (shown-remove (λ b. b.value) _ _ c.args.page c.remove.ensures.updates.0 ∙ ap (λ (k : Kept). map.remove k.dirty c.args.page) c.self.view_is)
    (c.forget.ensures.left ∙ ap (λ (k : Kept). map.remove k.clean c.args.page) c.self.view_is)
    (ap (λ (k : Kept). k.spare) c.self.view_is)
    (c.forget.ensures.cap ∙ ap (λ (k : Kept). k.room) c.self.view_is)
