-- No refusal of a call that changes files is a fault of the disk.
use Rattle.std.proofs.Common.{◌≡◌, ◌≢◌, ℕ, Bool, true, false, List, [], ◌∷◌, Option, Some, None, Result, Ok, Err, refl, ap, ◌∙◌}
use Rattle.std.specs.Prelude.{if◌then◌else◌, nat_lt}
use Rattle.std.specs.Bool.{then_some}
use Rattle.std.specs.FinMap as map
use Rattle.f2_model.specs.declared.bounds.Limits.{Limits}
use Rattle.f2_model.specs.Tree.{Rows, ROOT, is_directory, child, or_no_entry, walked, walk, parent_path}
use Rattle.f2_model.specs.Call.{walk_parent, to_directory, refusal_of, refusal, space_refusal, has_bad_name, walk_refusal, names_directory, name_is_there, has_entries, is_too_big}
use Rattle.f2_model.specs.Lists.{first_some}
use Rattle.f2_model.specs.Count.{nodes_of_tree, data_of_tree}
use Rattle.f2_model.specs.Step.{replied}
use Rattle.f2_model.specs.declared.rows.Row.{Row}
use Rattle.f2_model.specs.declared.requests.Request.{Request}
use Rattle.f2_model.specs.declared.requests.Request.TheVariants.{Create, Write}
use Rattle.f2_model.specs.declared.replies.Reply.{Reply}
use Rattle.f2_model.specs.declared.replies.Reply.TheVariants.{Done, Bytes, Names, Roll, Cp, Synced, Closed, Spent, Busy, BadName, NoEnt, NotDir, IsDir, Exists, NotEmpty, TooBig, NoSpace, ReadFault, WriteFault, Memory}
use Rattle.f2_model.specs.declared.replies.Space.TheVariants.{Node, Data}
use Rattle.f2_core.specs.Changes.{IsChange}
use Rattle.f2_core.specs.Events.{TellsFault}

same_error : {A : Type 0} (a b : Reply) → ◌≡◌ {A = Result A Reply} (Err a) (Err b) → a ≡ b
same_error a b e = cc

same_refusal : (a b : Reply) → Some a ≡ Some b → a ≡ b
same_refusal a b e = cc

no_entry : (refused : Reply) → NoEnt ≡ refused → refused ≢ WriteFault
no_entry refused is same = let bad : NoEnt ≡ WriteFault = cc in cc

no_directory : (refused : Reply) → NotDir ≡ refused → refused ≢ WriteFault
no_directory refused is same = let bad : NotDir ≡ WriteFault = cc in cc

walked-refused : (tree : Rows) (path : List (List ℕ)) (row : Row) (refused : Reply) → walked tree path row ≡ Err refused → refused ≢ WriteFault
walked-refused tree [] row refused h = absurd (cc)
walked-refused tree (name ∷ names) row refused h = by_kind (λ next is. walked-refused tree names next refused is) (is_directory row.kind) h
  where
    by_child : ((next : Row) → walked tree names next ≡ Err refused → refused ≢ WriteFault) → (o : Option Row) → or_no_entry o (walked tree names) ≡ Err refused → refused ≢ WriteFault
    by_child rest None h = no_entry refused (same_error NoEnt refused h)
    by_child rest (Some next) h = rest next h

    by_kind : ((next : Row) → walked tree names next ≡ Err refused → refused ≢ WriteFault) → (b : Bool) → (if b then or_no_entry (child tree row.ino name) (walked tree names) else Err NotDir) ≡ Err refused → refused ≢ WriteFault
    by_kind rest true h = by_child rest (child tree row.ino name) h
    by_kind rest false h = no_directory refused (same_error NotDir refused h)

walk-refused : (tree : Rows) (path : List (List ℕ)) (refused : Reply) → walk tree path ≡ Err refused → refused ≢ WriteFault
walk-refused tree path refused h = by_root (map.get tree ROOT) h
  where
    by_root : (o : Option Row) → or_no_entry o (walked tree path) ≡ Err refused → refused ≢ WriteFault
    by_root None h = no_entry refused (same_error NoEnt refused h)
    by_root (Some row) h = walked-refused tree path row refused h

parent-refused : (end : Result Row Reply) (refused : Reply) → ((r : Reply) → end ≡ Err r → r ≢ WriteFault) → to_directory end ≡ Err refused → refused ≢ WriteFault
parent-refused (Err r) refused each h = each refused h
parent-refused (Ok row) refused each h = by_kind (is_directory row.kind) h
  where
    by_kind : (b : Bool) → (if b then Ok row else Err NotDir) ≡ Err refused → refused ≢ WriteFault
    by_kind true h = absurd (cc)
    by_kind false h = no_directory refused (same_error NotDir refused h)

-- the tests of a call in order, of which only the walk tells a refusal of its own
first-refused : (bad : Bool) (walks : Option Reply) (directory there entries big : Bool) (refused : Reply) → ((r : Reply) → walks ≡ Some r → r ≢ WriteFault)
    → first_some (then_some bad BadName ∷ walks ∷ then_some directory IsDir ∷ then_some there Exists ∷ then_some entries NotEmpty ∷ then_some big TooBig ∷ []) ≡ Some refused → refused ≢ WriteFault
first-refused true walks directory there entries big refused each h = λ same. let bad : BadName ≡ WriteFault = same_refusal BadName refused h ∙ same in cc
first-refused false (Some r) directory there entries big refused each h = each refused h
first-refused false None true there entries big refused each h = λ same. let bad : IsDir ≡ WriteFault = same_refusal IsDir refused h ∙ same in cc
first-refused false None false true entries big refused each h = λ same. let bad : Exists ≡ WriteFault = same_refusal Exists refused h ∙ same in cc
first-refused false None false false true big refused each h = λ same. let bad : NotEmpty ≡ WriteFault = same_refusal NotEmpty refused h ∙ same in cc
first-refused false None false false false true refused each h = λ same. let bad : TooBig ≡ WriteFault = same_refusal TooBig refused h ∙ same in cc
first-refused false None false false false false refused each h = absurd (cc)

walks-refused : (end : Result Row Reply) → ((r : Reply) → end ≡ Err r → r ≢ WriteFault) → (r : Reply) → refusal_of end ≡ Some r → r ≢ WriteFault
walks-refused (Ok row) each r h = absurd (cc)
walks-refused (Err refused) each r h = let is : refused ≡ r = same_refusal refused r h in each r (ap (λ e. Err e) is)

change_walks : (tree : Rows) (request : Request) → IsChange request → (r : Reply) → walk_refusal tree request ≡ Some r → r ≢ WriteFault
change_walks tree (Create path) is = walks-refused (walk_parent tree path) (λ r. parent-refused (walk tree (parent_path path)) r (walk-refused tree (parent_path path)))
change_walks tree (Write path pieces) is = walks-refused (walk tree path) (walk-refused tree path)
change_walks tree _ is = absurd is

pub change-refused : (limits : Limits) (tree : Rows) (request : Request) → IsChange request → (refused : Reply) → refusal limits tree request ≡ Some refused → refused ≢ WriteFault
change-refused limits tree request is refused h =
    first-refused (has_bad_name request) (walk_refusal tree request) (names_directory tree request) (name_is_there tree request) (has_entries tree request) (is_too_big limits tree request) refused (change_walks tree request is) h

pub space-refused : (limits : Limits) (tree : Rows) (refused : Reply) → space_refusal limits tree ≡ Some refused → refused ≢ WriteFault
space-refused limits tree refused h = by_room (nat_lt limits.nodes (nodes_of_tree tree)) (nat_lt limits.data_blocks (data_of_tree tree)) h
  where
    by_room : (nodes blocks : Bool) → first_some (then_some nodes (NoSpace Node (nodes_of_tree tree) limits.nodes) ∷ then_some blocks (NoSpace Data (data_of_tree tree) limits.data_blocks) ∷ []) ≡ Some refused → refused ≢ WriteFault
    by_room true blocks h = λ same. let is : NoSpace Node (nodes_of_tree tree) limits.nodes ≡ refused = same_refusal _ refused h in let bad : NoSpace Node (nodes_of_tree tree) limits.nodes ≡ WriteFault = cc in cc
    by_room false true h = λ same. let is : NoSpace Data (data_of_tree tree) limits.data_blocks ≡ refused = same_refusal _ refused h in let bad : NoSpace Data (data_of_tree tree) limits.data_blocks ≡ WriteFault = cc in cc
    by_room false false h = absurd (cc)

-- only one reply tells a fault of the disk
pub untold : (told : Reply) → told ≢ WriteFault → ¬ (TellsFault (replied told))
untold Done other h = h
untold (Bytes bytes) other h = h
untold (Names names) other h = h
untold Roll other h = h
untold (Cp reason) other h = h
untold Synced other h = h
untold Closed other h = h
untold Spent other h = h
untold (Busy by) other h = h
untold BadName other h = h
untold NoEnt other h = h
untold NotDir other h = h
untold IsDir other h = h
untold Exists other h = h
untold NotEmpty other h = h
untold TooBig other h = h
untold (NoSpace space need limit) other h = h
untold ReadFault other h = h
untold WriteFault other h = other refl
untold Memory other h = h
