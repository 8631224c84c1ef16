use Rattle.std.specs.Prelude.{Result, Ok, Err, IfOk, OnOk}
use Rattle.f2_mount.proofs.logs.roll_log.Goals as goal

-- what two clauses say of one value
both : {T E : Type 0} (result : Result T E) (P Q : T → Type 0) (X : Type 0) → ((value : T) → P value → X → Q value) → IfOk result P → OnOk result X → IfOk result Q
both (Ok value) P Q X give one other = give value one other
both (Err fault) P Q X give one other = tt

pub returns-clause-rolled : goal.returns-clause-rolled
returns-clause-rolled g c =
    both c.roll_files.result _ _ _
    (λ rolls are pages image ckpt ground fine.
    let marks = c.in_ok-check_names.ensures.marks image ckpt ground.base ground.chain_is in
    record {
      right = record {
        base = ground.base;
        log = fine;
        nids = c.in_ok-check_nids.ensures.nids image ckpt ground.base ground.chain_is;
        apart = c.in_ok-check_nids.ensures.apart image ckpt ground.base ground.chain_is;
        marks = marks;
        pages = pages image ckpt ground.tells ground.geom_is ground.base ground.chain_is fine marks;
      };
      rolls = are image ckpt ground.tells ground.geom_is ground.base ground.chain_is fine marks;
    })
    c.roll_files.ensures.rolls c.roll_files.ensures.pages
