use Rattle.std.proofs.Common.{◌≡◌, ◌++◌, take}
use Rattle.f2_script.specs.Replies.{hex_text}
use Rattle.f2_script.proofs.texts.push_hex.Given as goal

abbrev pub invariant-loop-byte : goal.invariant-loop-byte
invariant-loop-byte l = l.text.items ≡ l.fn.text.items ++ hex_text (take l.byte-index l.bytes)
