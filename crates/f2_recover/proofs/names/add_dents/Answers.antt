use Rattle.std.proofs.Common.{◌∙◌, ◌∷◌, [], append_assoc}
use Rattle.std.proofs.lemmas.List.Elements.{All-push}
use Rattle.f2_image.specs.Bases.{HasDentry}
use Rattle.f2_dentry_block.specs.Dents.{dentry_of}
use Rattle.f2_recover.specs.Dents.{IsFitDent}
use Rattle.f2_recover.proofs.Telling.{fault_holds}
use Rattle.f2_recover.proofs.ListPieces.{next_of, one_taken, pushed}
use Rattle.f2_recover.proofs.names.add_dents.Goals as goal

pub loop-dent-preserved : goal.loop-dent-preserved
loop-dent-preserved c =
    let before = c.loop-dent.invariant in
    record {
      dents = pushed c.args.dents.now.items c.loop-dent.yielded c.in-Some.dent c.loop-dent.dents.items c.push.new.self.items c.in_ok-push.ensures.items before.dents;
      fit = All-push IsFitDent c.loop-dent.yielded c.in-Some.dent before.fit (record { least = c.in_ok-check_dent.ensures.least; good = c.in_ok-check_dent.ensures.name });
      all = append_assoc c.loop-dent.yielded (c.in-Some.dent ∷ []) c.next.new.self.rest.items ∙ one_taken c.loop-dent.yielded c.in-Some.dent c.next.new.self.rest.items _ _ c.in-Some.ensures.steps.0 before.all;
    }

pub returns-in_err-check_dent-clause-fault : goal.returns-in_err-check_dent-clause-fault
returns-in_err-check_dent-clause-fault c =
    let split = one_taken c.loop-dent.yielded c.in-Some.dent c.next.new.self.rest.items _ _ c.in-Some.ensures.steps.0 c.loop-dent.invariant.all in
    fault_holds _ _ _ c.from_residual.ensures.1
    (λ image ckpt directory has reached are.
    c.in_err-check_dent.ensures.fault image ckpt directory has reached (next_of (λ dent. HasDentry image ckpt directory (dentry_of dent)) c.loop-dent.yielded c.in-Some.dent c.next.new.self.rest.items c.args.found.items split are))
