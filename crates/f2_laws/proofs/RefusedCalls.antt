-- A refusal decides the whole outcome, and some calls have no effect on the tree.
use Rattle.std.proofs.Common.{◌≡◌, refl, ap, ◌∙◌}
use Rattle.std.specs.Prelude.{Option, Some, None}
use Rattle.f2_model.specs.Tree.{Rows}
use Rattle.f2_model.specs.Call.{refusal, effect, answer, space_refusal, space_wanted, or_refused}
use Rattle.f2_model.specs.declared.requests.Request.TheVariants.{Read, List as ListNames, Fsync, Sync}
use Rattle.f2_model.specs.declared.replies.Reply.{Reply}
use Rattle.f2_laws.specs.Refusals.{RefusalLeavesTheTree, WantOfSpaceLeavesTheTree, ReadersLeaveTheTree}

pub outcome-refused : RefusalLeavesTheTree
outcome-refused limits tree request ino refused e =
    ap (λ first. or_refused tree first (or_refused tree (space_wanted limits (effect tree request ino) request) (answer tree request, effect tree request ino))) e

pub outcome-space : WantOfSpaceLeavesTheTree
outcome-space limits tree request ino refused none e =
    ap (λ first. or_refused tree first (or_refused tree (space_wanted limits (effect tree request ino) request) (answer tree request, effect tree request ino))) none
    ∙ ap (λ want. or_refused tree want (answer tree request, effect tree request ino)) e

-- where the effect is the tree itself, so is what the outcome leaves
leaves : (tree : Rows) (first want : Option Reply) (told : Reply) → (or_refused tree first (or_refused tree want (told, tree))).1 ≡ tree
leaves tree (Some refused) want told = refl
leaves tree None (Some refused) told = refl
leaves tree None None told = refl

pub readers_leave : ReadersLeaveTheTree
readers_leave = record {
  read = λ limits tree path off len ino. leaves tree (refusal limits tree (Read path off len)) (space_refusal limits tree) (answer tree (Read path off len));
  list = λ limits tree path ino. leaves tree (refusal limits tree (ListNames path)) (space_refusal limits tree) (answer tree (ListNames path));
  fsync = λ limits tree path ino. leaves tree (refusal limits tree (Fsync path)) None (answer tree (Fsync path));
  sync = λ limits tree ino. leaves tree (refusal limits tree Sync) None (answer tree Sync);
}
