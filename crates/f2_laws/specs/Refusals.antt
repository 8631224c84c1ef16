-- What a refused call, and a call that changes nothing, leave of a tree.
use Rattle.std.specs.Prelude.{◌≡◌, ℕ, List, Some, None}
use Rattle.f2_model.specs.Tree.{Rows}
use Rattle.f2_model.specs.Call.{refusal, effect, space_wanted, outcome}
use Rattle.f2_model.specs.declared.bounds.Limits.{Limits}
use Rattle.f2_model.specs.declared.requests.Request.{Request}
use Rattle.f2_model.specs.declared.requests.Request.TheVariants.{Read, List as ListNames, Fsync, Sync}
use Rattle.f2_model.specs.declared.replies.Reply.{Reply}

-- a call that its paths, the tree or its numbers refuse is answered so, and leaves the tree
abbrev pub RefusalLeavesTheTree : Type 0
RefusalLeavesTheTree =
    (limits : Limits) (tree : Rows) (request : Request) (ino : ℕ) (refused : Reply) →
    refusal limits tree request ≡ Some refused →
    outcome limits tree request ino ≡ (refused, tree)

-- a call that finds no other refusal, but no space for what it would leave, is answered so, and leaves the tree
abbrev pub WantOfSpaceLeavesTheTree : Type 0
WantOfSpaceLeavesTheTree =
    (limits : Limits) (tree : Rows) (request : Request) (ino : ℕ) (refused : Reply) →
    refusal limits tree request ≡ None →
    space_wanted limits (effect tree request ino) request ≡ Some refused →
    outcome limits tree request ino ≡ (refused, tree)

-- whatever is answered, reads, lists, fsyncs and syncs leave the tree
pub record ReadersLeaveTheTree : Type 0 where
  pub read : (limits : Limits) (tree : Rows) (path : List (List ℕ)) (off len ino : ℕ) → (outcome limits tree (Read path off len) ino).1 ≡ tree
  pub list : (limits : Limits) (tree : Rows) (path : List (List ℕ)) (ino : ℕ) → (outcome limits tree (ListNames path) ino).1 ≡ tree
  pub fsync : (limits : Limits) (tree : Rows) (path : List (List ℕ)) (ino : ℕ) → (outcome limits tree (Fsync path) ino).1 ≡ tree
  pub sync : (limits : Limits) (tree : Rows) (ino : ℕ) → (outcome limits tree Sync ino).1 ≡ tree
