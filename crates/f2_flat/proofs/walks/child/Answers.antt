use Rattle.std.proofs.Common.{◌≡◌, None, ap, sym, ◌∙◌, rules}
use Rattle.std.specs.FinMap as map
use Rattle.std.specs.Option.{option_copied}
use Rattle.f2_flat.proofs.Binds.{child_none, child_some}
use Rattle.f2_flat.proofs.walks.child.Goals as goal

pub returns-in_err-ino : goal.returns-in_err-ino
returns-in_err-ino c =
    let none : map.get c.args.names.now c.args.name.now ≡ None = search rules in
    ap option_copied c.from_residual.ensures ∙ sym (child_none c.args.tree.now c.args.names.now c.requires.files c.requires.names c.args.name.now none)

pub returns : goal.returns
returns c = c.get-2.ensures ∙ child_some c.args.tree.now c.args.names.now c.requires.files c.requires.names c.args.name.now c.in_ok-ino.ino c.in_ok-ino.field-0-1 (sym c.get.ensures ∙ c.in_ok-ino.was)
