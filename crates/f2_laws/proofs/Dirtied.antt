-- What a call of one event changes beside the tree: what is dirty, and what is moved and shrunk.
use Rattle.std.proofs.Common.{◌≡◌, refl}
use Rattle.std.specs.Prelude.{Result, Ok, Err}
use Rattle.f2_model.specs.Tree.{Rows, walk}
use Rattle.f2_model.specs.State.{State, Pairs, Inos, marked_dirty, from_both_rows, from_row}
use Rattle.f2_model.specs.declared.rows.Row.{Row}
use Rattle.f2_model.specs.declared.requests.Request.{Request}
use Rattle.f2_model.specs.declared.requests.Request.TheVariants.{Create, Mkdir, Write, Truncate, Unlink, Rmdir, Rename, Read, List as ListNames, Fsync, Sync}
use Rattle.f2_model.specs.declared.replies.Reply.{Reply}

-- what holds of a state, and of each that follows from the rows at the ends of walks
pub from_both_rows_only : (P : State → Type 0) (state : State) (a b : Result Row Reply) (next : Row → Row → State) → P state → ((old new : Row) → a ≡ Ok old → P (next old new)) → P (from_both_rows state a b next)
from_both_rows_only P state (Ok old) (Ok new) next h each = each old new refl
from_both_rows_only P state (Ok old) (Err refused) next h each = h
from_both_rows_only P state (Err refused) b next h each = h

pub from_row_only : (P : State → Type 0) (state : State) (a : Result Row Reply) (next : Row → State) → P state → ((row : Row) → a ≡ Ok row → P (next row)) → P (from_row state a next)
from_row_only P state (Ok row) next h each = each row refl
from_row_only P state (Err refused) next h each = h

-- what holds of a state with whatever dirty, moved and shrunk files holds after a call's marks of them
module _ (P : State → Type 0) (state : State) (each : (pages nodes : Pairs) (moved shrunk : Inos) → P (record state { dirty_pages = pages; dirty_nodes = nodes; moved = moved; shrunk = shrunk })) (after : Rows) where
  same : P state
  same = each state.dirty_pages state.dirty_nodes state.moved state.shrunk

  pub dirty_only : (request : Request) → P (marked_dirty state request after)
  dirty_only (Write path pieces) = from_both_rows_only P state (walk state.live path) (walk after path) _ same (λ old new _. each _ _ _ _)
  dirty_only (Truncate path size) = from_both_rows_only P state (walk state.live path) (walk after path) _ same (λ old new _. each _ _ _ _)
  dirty_only (Unlink path) = from_row_only P state (walk state.live path) _ same (λ row _. each _ _ _ _)
  dirty_only (Rename from to) = from_row_only P state (walk state.live from) _ same (λ row _. each _ _ _ _)
  dirty_only (Create path) = same
  dirty_only (Mkdir path) = same
  dirty_only (Rmdir path) = same
  dirty_only (Read path off len) = same
  dirty_only (ListNames path) = same
  dirty_only (Fsync path) = same
  dirty_only Sync = same
