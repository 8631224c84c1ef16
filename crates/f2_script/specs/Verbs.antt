-- The first words of lines and of calls.
use Rattle.std.specs.Prelude.{ℕ, List, [], ◌∷◌, Option, Some, None, codes}
use Rattle.f2_model.specs.declared.requests.Request.{Request}
use Rattle.f2_model.specs.declared.requests.Request.TheVariants as request
use Rattle.f2_script.specs.declared.script.Line.{Line}
use Rattle.f2_script.specs.declared.verbs.Verb.{Verb}
use Rattle.f2_script.specs.declared.verbs.Verb.TheVariants as verb
use Rattle.f2_script.specs.declared.verbs.Op.{Op}
use Rattle.f2_script.specs.declared.verbs.Op.TheVariants as op

abbrev pub verb_word : Verb → List ℕ
verb_word verb.Mkfs = codes "mkfs"
verb_word verb.Call = codes "call"
verb_word verb.Begin = codes "begin"
verb_word verb.Go = codes "go"
verb_word verb.Slot = codes "slot"
verb_word verb.End = codes "end"
verb_word verb.Tick = codes "tick"
verb_word verb.Crash = codes "crash"
verb_word verb.Fail = codes "fail"
verb_word verb.Stop = codes "stop"
verb_word verb.Mount = codes "mount"
verb_word verb.Unmount = codes "unmount"
verb_word verb.Tree = codes "tree"
verb_word verb.Gen = codes "gen"

abbrev pub op_word : Op → List ℕ
op_word op.Create = codes "create"
op_word op.Mkdir = codes "mkdir"
op_word op.Write = codes "write"
op_word op.Truncate = codes "truncate"
op_word op.Unlink = codes "unlink"
op_word op.Rmdir = codes "rmdir"
op_word op.Rename = codes "rename"
op_word op.Read = codes "read"
op_word op.List = codes "list"
op_word op.Fsync = codes "fsync"
op_word op.Sync = codes "sync"

-- the call that takes a path and nothing else
abbrev pub call_by_path : Op → List (List ℕ) → Option Request
call_by_path op.Create path = Some (request.Create path)
call_by_path op.Mkdir path = Some (request.Mkdir path)
call_by_path op.Unlink path = Some (request.Unlink path)
call_by_path op.Rmdir path = Some (request.Rmdir path)
call_by_path op.List path = Some (request.List path)
call_by_path op.Fsync path = Some (request.Fsync path)
call_by_path _ path = None

-- the line that has no words after its first
abbrev pub bare : Line → List (List ℕ) → Option Line
bare line [] = Some line
bare line (text ∷ texts) = None
