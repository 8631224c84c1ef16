use Rattle.std.proofs.Common.{Some, None, sym, subst}
use Rattle.f2_model.specs.declared.requests.Request.TheVariants.{Write}
use Rattle.f2_core.specs.Changes.{IsChanged}
use Rattle.f2_core.proofs.Changed.{is_added, is_written}
use Rattle.f2_core.proofs.changes.change_files.Goals as goal

pub returns-in_ok-ino-in-Create-clause-changed : goal.returns-in_ok-ino-in-Create-clause-changed
returns-in_ok-ino-in-Create-clause-changed c =
    subst (λ request. IsChanged c.args.geometry.now c.args.files.now c.create.new.self request (Some c.in_ok-ino-in-Create.ino)) (sym c.in-Create.is)
    (is_added _ _ _ c.requires.flat _ _ c.in_ok-ino-in-Create.ensures.added)

pub returns-in_ok-write-in-Write-clause-changed : goal.returns-in_ok-write-in-Write-clause-changed
returns-in_ok-write-in-Write-clause-changed c =
    subst (λ request. IsChanged c.args.geometry.now c.args.files.now c.write.new.self request None) (sym c.in-Write.is)
    (subst (λ pieces. IsChanged c.args.geometry.now c.args.files.now c.write.new.self (Write c.in-Write.path pieces) None) c.as_slice.ensures
    (is_written _ _ _ c.requires.flat _ _ c.in_ok-write-in-Write.ensures.wrote))
