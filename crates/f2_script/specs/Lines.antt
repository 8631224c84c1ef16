-- The words of each line of a script.
use Rattle.std.specs.Prelude.{ℕ, List, [], ◌∷◌, codes}
use Rattle.std.specs.List.{flat_map}
use Rattle.f2_model.specs.declared.histories.CallKind.{CallKind}
use Rattle.f2_model.specs.declared.histories.CallKind.TheVariants as call_kind
use Rattle.f2_model.specs.declared.requests.Piece.{Piece}
use Rattle.f2_model.specs.declared.requests.Request.{Request}
use Rattle.f2_model.specs.declared.requests.Request.TheVariants.{Create, Mkdir, Write, Truncate, Unlink, Rmdir, Rename, Read, List as ListNames, Fsync, Sync}
use Rattle.f2_script.specs.declared.script.Line.{Line}
use Rattle.f2_script.specs.declared.script.Line.TheVariants.{Skipped, Mkfs, Call, Begin, Go, Slot, End, Tick, Crash, Fail, Stop, Mount, Unmount, Tree, Gen}
use Rattle.f2_script.specs.Words.{Word, Said, Number, Named, words_text}

-- a number of 32 bits, one of 64 bits, and a seat
abbrev pub Number32 : ℕ → Word
Number32 n = Number 0 4294967295 n

abbrev pub Number64 : ℕ → Word
Number64 n = Number 0 18446744073709551615 n

abbrev pub Seat : ℕ → Word
Seat seat = Number 1 8 seat

-- a piece of a write: its offset, its length and its byte
abbrev pub piece_words : Piece → List Word
piece_words p = Number64 p.off ∷ Number 1 65536 p.len ∷ Number 0 255 p.byte ∷ []

-- a call on the file tree
abbrev pub request_words : Request → List Word
request_words (Create path) = Said (codes "create") ∷ Named path ∷ []
request_words (Mkdir path) = Said (codes "mkdir") ∷ Named path ∷ []
request_words (Write path pieces) = Said (codes "write") ∷ Named path ∷ flat_map piece_words pieces
request_words (Truncate path size) = Said (codes "truncate") ∷ Named path ∷ Number64 size ∷ []
request_words (Unlink path) = Said (codes "unlink") ∷ Named path ∷ []
request_words (Rmdir path) = Said (codes "rmdir") ∷ Named path ∷ []
request_words (Rename from to) = Said (codes "rename") ∷ Named from ∷ Named to ∷ []
request_words (Read path off len) = Said (codes "read") ∷ Named path ∷ Number64 off ∷ Number 1 1024 len ∷ []
request_words (ListNames path) = Said (codes "list") ∷ Named path ∷ []
request_words (Fsync path) = Said (codes "fsync") ∷ Named path ∷ []
request_words Sync = Said (codes "sync") ∷ []

-- a kind of device call
abbrev pub kind_word : CallKind → List ℕ
kind_word call_kind.Read = codes "read"
kind_word call_kind.Write = codes "write"
kind_word call_kind.Flush = codes "flush"

-- a line; one that is skipped has no words
abbrev pub line_words : Line → List Word
line_words Skipped = []
line_words (Mkfs blocks nat) = Said (codes "mkfs") ∷ Number32 blocks ∷ Number32 nat ∷ []
line_words (Call seat request) = Said (codes "call") ∷ Seat seat ∷ request_words request
line_words (Begin seat request) = Said (codes "begin") ∷ Seat seat ∷ request_words request
line_words (Go seat) = Said (codes "go") ∷ Seat seat ∷ []
line_words (Slot seat) = Said (codes "slot") ∷ Seat seat ∷ []
line_words (End seat) = Said (codes "end") ∷ Seat seat ∷ []
line_words Tick = Said (codes "tick") ∷ []
line_words (Crash pick) = Said (codes "crash") ∷ Number64 pick ∷ []
line_words (Fail kind n) = Said (codes "fail") ∷ Said (kind_word kind) ∷ Number 1 4294967295 n ∷ []
line_words (Stop n) = Said (codes "stop") ∷ Number32 n ∷ []
line_words Mount = Said (codes "mount") ∷ []
line_words Unmount = Said (codes "unmount") ∷ []
line_words Tree = Said (codes "tree") ∷ []
line_words (Gen start count) = Said (codes "gen") ∷ Number64 start ∷ Number 0 50000 count ∷ []

-- a line as it is written back, without its end; one that was skipped is empty
abbrev pub spelling : Line → List ℕ
spelling line = words_text (line_words line)
