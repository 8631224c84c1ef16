-- A look that is let in: what it comes to in the table of beginnings.
use Rattle.std.proofs.Common.{◌≡◌, ◌⊎◌, inl, inr, ℕ, ◌≤◌, nat_lt, Bool, true, false, [], ◌∷◌, refl, arith, true≢false}
use Rattle.std.specs.Prelude.{None}
use Rattle.std.specs.Bool.{then_some}
use Rattle.f2_model.specs.Call.{answer, space_refusal}
use Rattle.f2_model.specs.Count.{nodes_of_tree, data_of_tree}
use Rattle.f2_model.specs.Lists.{first_some}
use Rattle.f2_model.specs.State.{State}
use Rattle.f2_model.specs.Step.{Faults, Turn, HasRisen, Serves, StepBegin, ReadFails, turn_with, told_at_once, replied}
use Rattle.f2_model.specs.Tree.{Rows}
use Rattle.f2_model.specs.declared.bounds.Limits.{Limits}
use Rattle.f2_model.specs.declared.histories.CallKind.TheVariants as kind
use Rattle.f2_model.specs.declared.histories.Entry.TheVariants as entry
use Rattle.f2_model.specs.declared.replies.Outcome.TheVariants as outcome
use Rattle.f2_model.specs.declared.replies.Reply.{Reply}
use Rattle.f2_model.specs.declared.replies.Reply.TheVariants as reply
use Rattle.f2_model.specs.declared.requests.Request.{Request}
use Rattle.f2_model.specs.declared.requests.Request.TheVariants.{Create, Mkdir, Write, Truncate, Unlink, Rmdir, Rename, Read, List as ListNames, Fsync, Sync}
use Rattle.f2_room_laws.specs.ProperTrees.{IsProperTree}
use Rattle.f2_state.specs.Barred.{IsLetIn}
use Rattle.f2_state.specs.Looks.{IsLook}
use Rattle.f2_state.proofs.Beginnings.{served}
use Rattle.f2_state.proofs.Tables.{on_none}

none_of : (a b : Bool) (x y : Reply) → a ≡ false → b ≡ false → first_some (then_some a x ∷ then_some b y ∷ []) ≡ None
none_of false false x y e f = refl
none_of true b x y e f = absurd (true≢false e)
none_of false true x y e f = absurd (true≢false f)

not_more : (most n : ℕ) → n ≤ most → nat_lt most n ≡ false
not_more most n le = grind (arith, le)

-- a proper tree wants no more space
proper_fits : (limits : Limits) (tree : Rows) → IsProperTree limits tree → space_refusal limits tree ≡ None
proper_fits limits tree proper =
    none_of (nat_lt limits.nodes (nodes_of_tree tree)) (nat_lt limits.data_blocks (data_of_tree tree)) _ _ (not_more limits.nodes (nodes_of_tree tree) proper.nodes) (not_more limits.data_blocks (data_of_tree tree) proper.data_blocks)

module _ (limits : Limits) (faults : Faults) (state : State) (seat : ℕ) (proper : IsProperTree limits state.live) where
  serves : (request : Request) (turn : Turn) → IsLook request → (turn ≡ told_at_once state seat request (answer state.live request) [] state) ⊎ ReadFails faults state seat request turn
      → Serves limits faults state seat request turn
  serves (Read path off len) turn look is = on_none (space_refusal limits state.live) _ _ (proper_fits limits state.live proper) is
  serves (ListNames path) turn look is = on_none (space_refusal limits state.live) _ _ (proper_fits limits state.live proper) is
  serves (Create path) turn look is = absurd look
  serves (Mkdir path) turn look is = absurd look
  serves (Write path pieces) turn look is = absurd look
  serves (Truncate path size) turn look is = absurd look
  serves (Unlink path) turn look is = absurd look
  serves (Rmdir path) turn look is = absurd look
  serves (Rename from to) turn look is = absurd look
  serves (Fsync path) turn look is = absurd look
  serves Sync turn look is = absurd look

  pub look_told : (request : Request) → IsLook request → IsLetIn limits state seat request → StepBegin limits faults state seat request (told_at_once state seat request (answer state.live request) [] state)
  look_told request look let_in = served state seat limits faults request _ let_in (serves request _ look (inl refl))

  pub look_failed : (request : Request) → IsLook request → IsLetIn limits state seat request → HasRisen faults
      → StepBegin limits faults state seat request (turn_with (replied reply.ReadFault) (entry.Did seat request outcome.ReadFault ∷ entry.Fault seat kind.Read faults.after ∷ []) [] state)
  look_failed request look let_in risen = served state seat limits faults request _ let_in (serves request _ look (inr (risen, refl)))
