use Rattle.std.proofs.Common.{◌≡◌, ◌++◌, take}
use Rattle.f2_script.specs.Replies.{names_text}
use Rattle.f2_script.proofs.texts.push_names.Given as goal

abbrev pub invariant-loop-name : goal.invariant-loop-name
invariant-loop-name l = l.text.items ≡ l.fn.text.items ++ names_text l.mark (take l.name-index l.names)
