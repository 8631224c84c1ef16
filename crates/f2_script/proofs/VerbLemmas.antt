-- Which line, and which call, a first word begins.
use Rattle.std.proofs.Common.{◌≡◌, ◌≢◌, ℕ, List, ◌∷◌, refl, sym, ◌∙◌, ap, subst, codes, if◌then◌else◌, Some, None, Option}
use Rattle.std.specs.Str.{bytes_eq}
use Rattle.f2_model.specs.declared.histories.CallKind.{CallKind}
use Rattle.f2_model.specs.declared.requests.Piece.{Piece}
use Rattle.f2_model.specs.declared.requests.Request.{Request}
use Rattle.f2_model.specs.declared.requests.Request.TheVariants as request
use Rattle.f2_script.specs.declared.script.Line.{Line}
use Rattle.f2_script.specs.declared.script.Line.TheVariants as line
use Rattle.f2_script.specs.declared.verbs.Verb.{Verb}
use Rattle.f2_script.specs.declared.verbs.Verb.TheVariants as verb
use Rattle.f2_script.specs.declared.verbs.Op.{Op}
use Rattle.f2_script.specs.declared.verbs.Op.TheVariants as op
use Rattle.f2_script.specs.Words.{AreWords}
use Rattle.f2_script.specs.Lines.{request_words, line_words}
use Rattle.f2_script.specs.Verbs.{verb_word, op_word}
use Rattle.f2_script.specs.Grammar.{IsRequest, IsSaid}

-- the verb that a word is
abbrev verb_at : List ℕ → Option Verb
verb_at word =
    if bytes_eq word (codes "mkfs") then Some verb.Mkfs else
    if bytes_eq word (codes "call") then Some verb.Call else
    if bytes_eq word (codes "begin") then Some verb.Begin else
    if bytes_eq word (codes "go") then Some verb.Go else
    if bytes_eq word (codes "slot") then Some verb.Slot else
    if bytes_eq word (codes "end") then Some verb.End else
    if bytes_eq word (codes "tick") then Some verb.Tick else
    if bytes_eq word (codes "crash") then Some verb.Crash else
    if bytes_eq word (codes "fail") then Some verb.Fail else
    if bytes_eq word (codes "stop") then Some verb.Stop else
    if bytes_eq word (codes "mount") then Some verb.Mount else
    if bytes_eq word (codes "unmount") then Some verb.Unmount else
    if bytes_eq word (codes "tree") then Some verb.Tree else
    if bytes_eq word (codes "gen") then Some verb.Gen else
    None

verb_known : (v : Verb) → verb_at (verb_word v) ≡ Some v
verb_known verb.Mkfs = refl
verb_known verb.Call = refl
verb_known verb.Begin = refl
verb_known verb.Go = refl
verb_known verb.Slot = refl
verb_known verb.End = refl
verb_known verb.Tick = refl
verb_known verb.Crash = refl
verb_known verb.Fail = refl
verb_known verb.Stop = refl
verb_known verb.Mount = refl
verb_known verb.Unmount = refl
verb_known verb.Tree = refl
verb_known verb.Gen = refl

-- a word that begins no line
pub no_such_verb : (word : List ℕ) → verb_at word ≡ None → (v : Verb) → word ≢ verb_word v
no_such_verb word none v e =
    let f : None ≡ Some v = sym none ∙ ap verb_at e ∙ verb_known v in
    cc

-- the verb of a line
abbrev verb_of : Line → Option Verb
verb_of line.Skipped = None
verb_of (line.Mkfs blocks nat) = Some verb.Mkfs
verb_of (line.Call seat request) = Some verb.Call
verb_of (line.Begin seat request) = Some verb.Begin
verb_of (line.Go seat) = Some verb.Go
verb_of (line.Slot seat) = Some verb.Slot
verb_of (line.End seat) = Some verb.End
verb_of line.Tick = Some verb.Tick
verb_of (line.Crash pick) = Some verb.Crash
verb_of (line.Fail kind n) = Some verb.Fail
verb_of (line.Stop n) = Some verb.Stop
verb_of line.Mount = Some verb.Mount
verb_of line.Unmount = Some verb.Unmount
verb_of line.Tree = Some verb.Tree
verb_of (line.Gen start count) = Some verb.Gen

first_word : (line : Line) (word : List ℕ) (texts : List (List ℕ)) → AreWords (line_words line) (word ∷ texts) → verb_at word ≡ verb_of line
first_word line.Skipped word texts h = absurd h
first_word (line.Mkfs blocks nat) word texts h = ap verb_at h.0
first_word (line.Call seat request) word texts h = ap verb_at h.0
first_word (line.Begin seat request) word texts h = ap verb_at h.0
first_word (line.Go seat) word texts h = ap verb_at h.0
first_word (line.Slot seat) word texts h = ap verb_at h.0
first_word (line.End seat) word texts h = ap verb_at h.0
first_word line.Tick word texts h = ap verb_at h.0
first_word (line.Crash pick) word texts h = ap verb_at h.0
first_word (line.Fail kind n) word texts h = ap verb_at h.0
first_word (line.Stop n) word texts h = ap verb_at h.0
first_word line.Mount word texts h = ap verb_at h.0
first_word line.Unmount word texts h = ap verb_at h.0
first_word line.Tree word texts h = ap verb_at h.0
first_word (line.Gen start count) word texts h = ap verb_at h.0

-- what a line of a verb is
abbrev pub IsOfVerb : Option Verb → Line → Type 0
IsOfVerb None one = one ≡ line.Skipped
IsOfVerb (Some verb.Mkfs) one = (blocks nat : ℕ) × (one ≡ line.Mkfs blocks nat)
IsOfVerb (Some verb.Call) one = (seat : ℕ) × (request : Request) × (one ≡ line.Call seat request)
IsOfVerb (Some verb.Begin) one = (seat : ℕ) × (request : Request) × (one ≡ line.Begin seat request)
IsOfVerb (Some verb.Go) one = (seat : ℕ) × (one ≡ line.Go seat)
IsOfVerb (Some verb.Slot) one = (seat : ℕ) × (one ≡ line.Slot seat)
IsOfVerb (Some verb.End) one = (seat : ℕ) × (one ≡ line.End seat)
IsOfVerb (Some verb.Tick) one = one ≡ line.Tick
IsOfVerb (Some verb.Crash) one = (pick : ℕ) × (one ≡ line.Crash pick)
IsOfVerb (Some verb.Fail) one = (kind : CallKind) × (n : ℕ) × (one ≡ line.Fail kind n)
IsOfVerb (Some verb.Stop) one = (n : ℕ) × (one ≡ line.Stop n)
IsOfVerb (Some verb.Mount) one = one ≡ line.Mount
IsOfVerb (Some verb.Unmount) one = one ≡ line.Unmount
IsOfVerb (Some verb.Tree) one = one ≡ line.Tree
IsOfVerb (Some verb.Gen) one = (start count : ℕ) × (one ≡ line.Gen start count)

of_verb : (line : Line) → IsOfVerb (verb_of line) line
of_verb line.Skipped = refl
of_verb (line.Mkfs blocks nat) = (blocks, nat, refl)
of_verb (line.Call seat request) = (seat, request, refl)
of_verb (line.Begin seat request) = (seat, request, refl)
of_verb (line.Go seat) = (seat, refl)
of_verb (line.Slot seat) = (seat, refl)
of_verb (line.End seat) = (seat, refl)
of_verb line.Tick = refl
of_verb (line.Crash pick) = (pick, refl)
of_verb (line.Fail kind n) = (kind, n, refl)
of_verb (line.Stop n) = (n, refl)
of_verb line.Mount = refl
of_verb line.Unmount = refl
of_verb line.Tree = refl
of_verb (line.Gen start count) = (start, count, refl)

-- a line that begins with a verb's word is one of that verb
pub verb_parts : (v : Verb) (texts : List (List ℕ)) (line : Line) → IsSaid (verb_word v ∷ texts) line → IsOfVerb (Some v) line
verb_parts v texts line h = subst (λ found. IsOfVerb found line) (sym (first_word line (verb_word v) texts h.1) ∙ verb_known v) (of_verb line)

-- a line begins with a verb's word
verb_first : (line : Line) (word : List ℕ) (texts : List (List ℕ)) → AreWords (line_words line) (word ∷ texts) → (v : Verb) × (word ≡ verb_word v)
verb_first line.Skipped word texts h = absurd h
verb_first (line.Mkfs blocks nat) word texts h = (verb.Mkfs, h.0)
verb_first (line.Call seat request) word texts h = (verb.Call, h.0)
verb_first (line.Begin seat request) word texts h = (verb.Begin, h.0)
verb_first (line.Go seat) word texts h = (verb.Go, h.0)
verb_first (line.Slot seat) word texts h = (verb.Slot, h.0)
verb_first (line.End seat) word texts h = (verb.End, h.0)
verb_first line.Tick word texts h = (verb.Tick, h.0)
verb_first (line.Crash pick) word texts h = (verb.Crash, h.0)
verb_first (line.Fail kind n) word texts h = (verb.Fail, h.0)
verb_first (line.Stop n) word texts h = (verb.Stop, h.0)
verb_first line.Mount word texts h = (verb.Mount, h.0)
verb_first line.Unmount word texts h = (verb.Unmount, h.0)
verb_first line.Tree word texts h = (verb.Tree, h.0)
verb_first (line.Gen start count) word texts h = (verb.Gen, h.0)

pub no_verb : (word : List ℕ) (texts : List (List ℕ)) → ((v : Verb) → word ≢ verb_word v) → (line : Line) → ¬ (IsSaid (word ∷ texts) line)
no_verb word texts none line h = let v = verb_first line word texts h.1 in none v.0 v.1

-- the call that a word asks for
abbrev op_at : List ℕ → Option Op
op_at word =
    if bytes_eq word (codes "create") then Some op.Create else
    if bytes_eq word (codes "mkdir") then Some op.Mkdir else
    if bytes_eq word (codes "write") then Some op.Write else
    if bytes_eq word (codes "truncate") then Some op.Truncate else
    if bytes_eq word (codes "unlink") then Some op.Unlink else
    if bytes_eq word (codes "rmdir") then Some op.Rmdir else
    if bytes_eq word (codes "rename") then Some op.Rename else
    if bytes_eq word (codes "read") then Some op.Read else
    if bytes_eq word (codes "list") then Some op.List else
    if bytes_eq word (codes "fsync") then Some op.Fsync else
    if bytes_eq word (codes "sync") then Some op.Sync else
    None

op_known : (o : Op) → op_at (op_word o) ≡ Some o
op_known op.Create = refl
op_known op.Mkdir = refl
op_known op.Write = refl
op_known op.Truncate = refl
op_known op.Unlink = refl
op_known op.Rmdir = refl
op_known op.Rename = refl
op_known op.Read = refl
op_known op.List = refl
op_known op.Fsync = refl
op_known op.Sync = refl

abbrev op_of : Request → Op
op_of (request.Create path) = op.Create
op_of (request.Mkdir path) = op.Mkdir
op_of (request.Write path pieces) = op.Write
op_of (request.Truncate path size) = op.Truncate
op_of (request.Unlink path) = op.Unlink
op_of (request.Rmdir path) = op.Rmdir
op_of (request.Rename from to) = op.Rename
op_of (request.Read path off len) = op.Read
op_of (request.List path) = op.List
op_of (request.Fsync path) = op.Fsync
op_of request.Sync = op.Sync

op_first : (call : Request) (word : List ℕ) (texts : List (List ℕ)) → AreWords (request_words call) (word ∷ texts) → word ≡ op_word (op_of call)
op_first (request.Create path) word texts h = h.0
op_first (request.Mkdir path) word texts h = h.0
op_first (request.Write path pieces) word texts h = h.0
op_first (request.Truncate path size) word texts h = h.0
op_first (request.Unlink path) word texts h = h.0
op_first (request.Rmdir path) word texts h = h.0
op_first (request.Rename from to) word texts h = h.0
op_first (request.Read path off len) word texts h = h.0
op_first (request.List path) word texts h = h.0
op_first (request.Fsync path) word texts h = h.0
op_first request.Sync word texts h = h.0

-- what a call of an op is
abbrev pub IsOfOp : Option Op → Request → Type 0
IsOfOp None call = ⊥
IsOfOp (Some op.Create) call = (path : List (List ℕ)) × (call ≡ request.Create path)
IsOfOp (Some op.Mkdir) call = (path : List (List ℕ)) × (call ≡ request.Mkdir path)
IsOfOp (Some op.Write) call = (path : List (List ℕ)) × (pieces : List Piece) × (call ≡ request.Write path pieces)
IsOfOp (Some op.Truncate) call = (path : List (List ℕ)) × (size : ℕ) × (call ≡ request.Truncate path size)
IsOfOp (Some op.Unlink) call = (path : List (List ℕ)) × (call ≡ request.Unlink path)
IsOfOp (Some op.Rmdir) call = (path : List (List ℕ)) × (call ≡ request.Rmdir path)
IsOfOp (Some op.Rename) call = (from to : List (List ℕ)) × (call ≡ request.Rename from to)
IsOfOp (Some op.Read) call = (path : List (List ℕ)) × (off len : ℕ) × (call ≡ request.Read path off len)
IsOfOp (Some op.List) call = (path : List (List ℕ)) × (call ≡ request.List path)
IsOfOp (Some op.Fsync) call = (path : List (List ℕ)) × (call ≡ request.Fsync path)
IsOfOp (Some op.Sync) call = call ≡ request.Sync

of_op : (call : Request) → IsOfOp (Some (op_of call)) call
of_op (request.Create path) = (path, refl)
of_op (request.Mkdir path) = (path, refl)
of_op (request.Write path pieces) = (path, pieces, refl)
of_op (request.Truncate path size) = (path, size, refl)
of_op (request.Unlink path) = (path, refl)
of_op (request.Rmdir path) = (path, refl)
of_op (request.Rename from to) = (from, to, refl)
of_op (request.Read path off len) = (path, off, len, refl)
of_op (request.List path) = (path, refl)
of_op (request.Fsync path) = (path, refl)
of_op request.Sync = refl

-- a call that begins with an op's word is one of that op
pub op_parts : (o : Op) (texts : List (List ℕ)) (call : Request) → IsRequest (op_word o ∷ texts) call → IsOfOp (Some o) call
op_parts o texts call h = subst (λ found. IsOfOp found call) (sym (ap op_at (op_first call (op_word o) texts h.1) ∙ op_known (op_of call)) ∙ op_known o) (of_op call)

pub no_op : (word : List ℕ) (texts : List (List ℕ)) → ((o : Op) → word ≢ op_word o) → (call : Request) → ¬ (IsRequest (word ∷ texts) call)
no_op word texts none call h = none (op_of call) (op_first call word texts h.1)
