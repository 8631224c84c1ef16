use Rattle.f2_top.proofs.MountLemmas.{lines-first, EndsScript-mkfs, BreaksLimit-of, EndsScript-broken}
use Rattle.f2_top.proofs.DueLemmas.{IsDueLines-played}
use Rattle.f2_top.proofs.player.play.Goals as goal

pub returns-in-Ok-clause-ends : goal.returns-in-Ok-clause-ends
returns-in-Ok-clause-ends g c =
    let lines = lines-first c.args.lines _ _ _ _ _ c.into_vec.ensures c.into_iter-lines.ensures.rest c.in-Some-Mkfs.ensures.items c.in-Some-Mkfs.field-0-is in
    λ counts.
    EndsScript-mkfs _ _ _ c.args.lines _ record { blocks = c.in-Some-Mkfs.blocks; nat = c.in-Some-Mkfs.nat } c.in-Ok.geometry _ lines c.in-Ok.ensures.exact (c.play_image.ensures.ends counts)

pub returns-in-Ok-clause-due : goal.returns-in-Ok-clause-due
returns-in-Ok-clause-due g c =
    let lines = lines-first c.args.lines _ _ _ _ _ c.into_vec.ensures c.into_iter-lines.ensures.rest c.in-Some-Mkfs.ensures.items c.in-Some-Mkfs.field-0-is in
    IsDueLines-played c.args.lines _ record { blocks = c.in-Some-Mkfs.blocks; nat = c.in-Some-Mkfs.nat } c.in-Ok.geometry _ lines c.in-Ok.ensures.exact c.play_image.ensures.played

pub returns-in-Err-clause-ends : goal.returns-in-Err-clause-ends
returns-in-Err-clause-ends g c =
    let lines = lines-first c.args.lines _ _ _ _ _ c.into_vec.ensures c.into_iter-lines.ensures.rest c.in-Some-Mkfs.ensures.items c.in-Some-Mkfs.field-0-is in
    λ counts. EndsScript-broken _ c.args.lines _ record { blocks = c.in-Some-Mkfs.blocks; nat = c.in-Some-Mkfs.nat } c.in-Err.field-0 lines c.in-Err.ensures.exact

pub returns-in-Err-clause-due : goal.returns-in-Err-clause-due
returns-in-Err-clause-due g c =
    let lines = lines-first c.args.lines _ _ _ _ _ c.into_vec.ensures c.into_iter-lines.ensures.rest c.in-Some-Mkfs.ensures.items c.in-Some-Mkfs.field-0-is in
    BreaksLimit-of c.args.lines _ record { blocks = c.in-Some-Mkfs.blocks; nat = c.in-Some-Mkfs.nat } c.in-Err.field-0 lines c.in-Err.ensures.exact
