-- No refusal and no answer of a call tells a failure.
use Rattle.std.proofs.Common.{◌≡◌, ℕ, Bool, true, false, if◌then◌else◌, List, [], ◌∷◌, Option, Some, None, Result, Ok, Err, refl, sym, ap, subst, ◌∙◌, nat_lt}
use Rattle.std.specs.Bool.{then_some}
use Rattle.std.specs.FinMap as map
use Rattle.f2_model.specs.declared.bounds.Limits.{Limits}
use Rattle.f2_model.specs.declared.rows.Row.{Row}
use Rattle.f2_model.specs.declared.requests.Request.{Request}
use Rattle.f2_model.specs.declared.requests.Request.TheVariants.{Create, Mkdir, Write, Truncate, Unlink, Rmdir, Rename, Read, List as ListNames, Fsync, Sync}
use Rattle.f2_model.specs.declared.replies.Reply.{Reply}
use Rattle.f2_model.specs.declared.replies.Reply.TheVariants as reply
use Rattle.f2_model.specs.Tree.{Rows, ROOT, is_directory, child, or_no_entry, walked, walk, parent_path}
use Rattle.f2_model.specs.Call.{refusal, effect, answer, space_refusal, refusal_of, to_directory, walk_parent, walk_refusal, bytes_told, names_told, has_bad_name, names_directory, name_is_there, has_entries, is_too_big}
use Rattle.f2_model.specs.Lists.{first_some}
use Rattle.f2_model.specs.Count.{nodes_of_tree, data_of_tree}
use Rattle.f2_model.specs.declared.replies.Space.TheVariants.{Node, Data}
use Rattle.f2_model.specs.Step.{replied}
use Rattle.f2_laws.specs.Choice.{tells_failure}

-- a reply that tells no failure, where there is one
abbrev pub IsPlain : Reply → Type 0
IsPlain told = tells_failure (replied told) ≡ false

abbrev EndsPlainly : Result Row Reply → Type 0
EndsPlainly (Ok row) = Unit {0}
EndsPlainly (Err refused) = IsPlain refused

abbrev ArePlain : Option Reply → Type 0
ArePlain None = Unit {0}
ArePlain (Some refused) = IsPlain refused

plain_entry : (o : Option Row) (next : Row → Result Row Reply) → ((row : Row) → EndsPlainly (next row)) → EndsPlainly (or_no_entry o next)
plain_entry None next rest = refl
plain_entry (Some row) next rest = rest row

plain_kind : (b : Bool) (o : Option Row) (next : Row → Result Row Reply) → ((row : Row) → EndsPlainly (next row)) → EndsPlainly (if b then or_no_entry o next else Err reply.NotDir)
plain_kind true o next rest = plain_entry o next rest
plain_kind false o next rest = refl

plain_walked : (tree : Rows) (names : List (List ℕ)) (row : Row) → EndsPlainly (walked tree names row)
plain_walked tree [] row = tt
plain_walked tree (name ∷ names) row = plain_kind (is_directory row.kind) (child tree row.ino name) (walked tree names) (plain_walked tree names)

plain_walk : (tree : Rows) (path : List (List ℕ)) → EndsPlainly (walk tree path)
plain_walk tree path = plain_entry (map.get tree ROOT) (walked tree path) (plain_walked tree path)

plain_directory : (end : Result Row Reply) → EndsPlainly end → EndsPlainly (to_directory end)
plain_directory (Err refused) plain = plain
plain_directory (Ok row) plain = by_kind (is_directory row.kind)
  where
    by_kind : (b : Bool) → EndsPlainly (if b then Ok row else Err reply.NotDir)
    by_kind true = tt
    by_kind false = refl

plain_end : (end : Result Row Reply) → EndsPlainly end → ArePlain (refusal_of end)
plain_end (Ok row) plain = tt
plain_end (Err refused) plain = plain

plain_first : (o : Option Reply) (rest : List (Option Reply)) → ArePlain o → ArePlain (first_some rest) → ArePlain (first_some (o ∷ rest))
plain_first None rest one others = others
plain_first (Some refused) rest one others = one

plain_some : (b : Bool) (told : Reply) → IsPlain told → ArePlain (then_some b told)
plain_some true told plain = plain
plain_some false told plain = tt

plain_refusal_of_walk : (tree : Rows) (path : List (List ℕ)) → ArePlain (refusal_of (walk tree path))
plain_refusal_of_walk tree path = plain_end (walk tree path) (plain_walk tree path)

plain_refusal_of_directory : (tree : Rows) (path : List (List ℕ)) → ArePlain (refusal_of (to_directory (walk tree path)))
plain_refusal_of_directory tree path = plain_end (to_directory (walk tree path)) (plain_directory (walk tree path) (plain_walk tree path))

plain_walks : (tree : Rows) (request : Request) → ArePlain (walk_refusal tree request)
plain_walks tree (Create path) = plain_refusal_of_directory tree (parent_path path)
plain_walks tree (Mkdir path) = plain_refusal_of_directory tree (parent_path path)
plain_walks tree (Write path pieces) = plain_refusal_of_walk tree path
plain_walks tree (Truncate path size) = plain_refusal_of_walk tree path
plain_walks tree (Unlink path) = plain_refusal_of_walk tree path
plain_walks tree (Rmdir path) = plain_refusal_of_directory tree path
plain_walks tree (Rename from to) =
    plain_first (refusal_of (walk tree from)) (refusal_of (walk_parent tree to) ∷ []) (plain_refusal_of_walk tree from)
    (plain_first (refusal_of (walk_parent tree to)) [] (plain_refusal_of_directory tree (parent_path to)) tt)
plain_walks tree (Read path off len) = plain_refusal_of_walk tree path
plain_walks tree (ListNames path) = plain_refusal_of_directory tree path
plain_walks tree (Fsync path) = plain_refusal_of_walk tree path
plain_walks tree Sync = tt

told_plainly : (o : Option Reply) (told : Reply) → ArePlain o → o ≡ Some told → IsPlain told
told_plainly None told plain e = absurd (cc)
told_plainly (Some other) told plain e = let same : other ≡ told = cc in subst IsPlain same plain

-- the refusals of a call tell no failure
pub plain_refusal : (limits : Limits) (tree : Rows) (request : Request) (told : Reply) → refusal limits tree request ≡ Some told → IsPlain told
plain_refusal limits tree request told =
    let six = plain_first (then_some (is_too_big limits tree request) reply.TooBig) [] (plain_some (is_too_big limits tree request) reply.TooBig refl) tt in
    let five = plain_first (then_some (has_entries tree request) reply.NotEmpty) _ (plain_some (has_entries tree request) reply.NotEmpty refl) six in
    let four = plain_first (then_some (name_is_there tree request) reply.Exists) _ (plain_some (name_is_there tree request) reply.Exists refl) five in
    let three = plain_first (then_some (names_directory tree request) reply.IsDir) _ (plain_some (names_directory tree request) reply.IsDir refl) four in
    let two = plain_first (walk_refusal tree request) _ (plain_walks tree request) three in
    told_plainly (refusal limits tree request) told (plain_first (then_some (has_bad_name request) reply.BadName) _ (plain_some (has_bad_name request) reply.BadName refl) two)

pub plain_space : (limits : Limits) (tree : Rows) (told : Reply) → space_refusal limits tree ≡ Some told → IsPlain told
plain_space limits tree told =
    let nodes = nat_lt limits.nodes (nodes_of_tree tree) in
    let blocks = nat_lt limits.data_blocks (data_of_tree tree) in
    let no_nodes = reply.NoSpace Node (nodes_of_tree tree) limits.nodes in
    let no_blocks = reply.NoSpace Data (data_of_tree tree) limits.data_blocks in
    told_plainly (space_refusal limits tree) told
    (plain_first (then_some nodes no_nodes) (then_some blocks no_blocks ∷ []) (plain_some nodes no_nodes refl) (plain_first (then_some blocks no_blocks) [] (plain_some blocks no_blocks refl) tt))

-- nor does a walk that stops
pub plain_stop : (tree : Rows) (path : List (List ℕ)) (told : Reply) → walk tree path ≡ Err told → IsPlain told
plain_stop tree path told e = subst EndsPlainly e (plain_walk tree path)

-- nor does an answer
plain_bytes : (off len : ℕ) (end : Result Row Reply) → EndsPlainly end → IsPlain (bytes_told off len end)
plain_bytes off len (Ok row) plain = refl
plain_bytes off len (Err refused) plain = plain

plain_names : (tree : Rows) (end : Result Row Reply) → EndsPlainly end → IsPlain (names_told tree end)
plain_names tree (Ok row) plain = refl
plain_names tree (Err refused) plain = plain

pub plain_answer : (tree : Rows) (request : Request) → IsPlain (answer tree request)
plain_answer tree (Create path) = refl
plain_answer tree (Mkdir path) = refl
plain_answer tree (Write path pieces) = refl
plain_answer tree (Truncate path size) = refl
plain_answer tree (Unlink path) = refl
plain_answer tree (Rmdir path) = refl
plain_answer tree (Rename from to) = refl
plain_answer tree (Read path off len) = plain_bytes off len (walk tree path) (plain_walk tree path)
plain_answer tree (ListNames path) = plain_names tree (walk tree path) (plain_walk tree path)
plain_answer tree (Fsync path) = refl
plain_answer tree Sync = refl
