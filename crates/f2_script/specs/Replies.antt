-- The text that is printed for a reply.
use Rattle.std.specs.Prelude.{ℕ, ◌/◌, ◌%◌, List, [], ◌∷◌, ◌++◌, codes, decimal}
use Rattle.std.specs.List.{flat_map}
use Rattle.f2_model.specs.declared.replies.Reason.{Reason}
use Rattle.f2_model.specs.declared.replies.Reason.TheVariants.{NonRegular, Renamed, ParentNew, NameTaken, Shrunk, Room}
use Rattle.f2_model.specs.declared.replies.Space.{Space}
use Rattle.f2_model.specs.declared.replies.Space.TheVariants.{Node, Data}
use Rattle.f2_model.specs.declared.replies.Reply.{Reply}
use Rattle.f2_model.specs.declared.replies.Reply.TheVariants.{Done, Bytes, Names, Roll, Cp, Synced, Closed, Spent, Busy, BadName, NoEnt, NotDir, IsDir, Exists, NotEmpty, TooBig, NoSpace, ReadFault, WriteFault, Memory}
use Rattle.f2_script.specs.Text.{name_text, lower_digit}

-- why an fsync made a checkpoint
abbrev pub reason_word : Reason → List ℕ
reason_word NonRegular = codes "nonregular"
reason_word Renamed = codes "renamed"
reason_word ParentNew = codes "parentnew"
reason_word NameTaken = codes "nametaken"
reason_word Shrunk = codes "shrunk"
reason_word Room = codes "room"

-- the zone that lacks blocks
abbrev pub zone_word : Space → List ℕ
zone_word Node = codes "node"
zone_word Data = codes "data"

-- bytes as two lower-case hexadecimal digits each
abbrev pub hex_text : List ℕ → List ℕ
hex_text bytes = flat_map (λ b. lower_digit (b / 16) ∷ lower_digit (b % 16) ∷ []) bytes

-- what follows the `ok` of a read: nothing, or a space and the bytes
abbrev pub read_text : List ℕ → List ℕ
read_text [] = []
read_text (b ∷ bytes) = 32 ∷ hex_text (b ∷ bytes)

-- names, with a byte before each
abbrev pub names_text : ℕ → List (List ℕ) → List ℕ
names_text mark names = flat_map (λ name. mark ∷ name_text name) names

-- a reply, without the end of its line; want of memory ends the run and prints nothing
abbrev pub reply_spelling : Reply → List ℕ
reply_spelling Done = codes "ok"
reply_spelling (Bytes bytes) = codes "ok" ++ read_text bytes
reply_spelling (Names names) = codes "ok" ++ names_text 32 names
reply_spelling Roll = codes "ok roll"
reply_spelling (Cp reason) = codes "ok cp " ++ reason_word reason
reply_spelling Synced = codes "ok sync"
reply_spelling Closed = codes "closed"
reply_spelling Spent = codes "spent"
reply_spelling (Busy by) = codes "busy " ++ decimal by
reply_spelling BadName = codes "badname"
reply_spelling NoEnt = codes "noent"
reply_spelling NotDir = codes "notdir"
reply_spelling IsDir = codes "isdir"
reply_spelling Exists = codes "exists"
reply_spelling NotEmpty = codes "notempty"
reply_spelling TooBig = codes "toobig"
reply_spelling (NoSpace space need limit) = codes "nospace " ++ zone_word space ++ 32 ∷ decimal need ++ 32 ∷ decimal limit
reply_spelling ReadFault = codes "readfault"
reply_spelling WriteFault = codes "writefault"
reply_spelling Memory = []
