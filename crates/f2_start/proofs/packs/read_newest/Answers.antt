use Rattle.std.proofs.Common.{◌≡◌, true, false, sym, ◌∙◌}
use Rattle.f2_recover.proofs.Telling.{fault_holds, tells_on}
use Rattle.f2_start.proofs.Newest.{newest_pack, log_there, no_pack}
use Rattle.f2_start.proofs.packs.read_newest.Goals as goal
use Rattle.f2_start.proofs.packs.read_newest.Goals.{in_default-via-in-Ok+else-in_node, in_default-via-in_default}

no_test : false ≡ true → ⊥
no_test e = cc

pub returns-in_err-a-clause-fault : goal.returns-in_err-a-clause-fault
returns-in_err-a-clause-fault g c = fault_holds _ _ _ c.from_residual.ensures.1 (λ image _ _. c.in_err-a.ensures.fault image)

pub returns-in_err-b-clause-fault : goal.returns-in_err-b-clause-fault
returns-in_err-b-clause-fault g c = fault_holds _ _ _ c.from_residual-in_err-b.ensures.1 (λ image _ _. c.in_err-b.ensures.fault image)

pub returns-in-Ok-clause-newest : goal.returns-in-Ok-clause-newest
returns-in-Ok-clause-newest g c image t =
    newest_pack c.args.geometry.now image c.in_ok-a.a c.in_ok-b.b c.in-Ok.pack c.in-Ok.side
    (c.in_ok-a.ensures.pack image t) (c.in_ok-b.ensures.pack image (tells_on _ _ image c.in_ok-a.ensures.reads.kept t)) c.in-Ok.ensures

pub returns-in_default-clause-fault : goal.returns-in_default-clause-fault
returns-in_default-clause-fault g c image t sized =
    let in_a = c.in_ok-a.ensures.pack image t in
    let in_b = c.in_ok-b.ensures.pack image (tells_on _ _ image c.in_ok-a.ensures.reads.kept t) in
    elim c.in_default.branch [
      | in_default-via-in-Ok+else-in_node w ↦
          let is = newest_pack c.args.geometry.now image c.in_ok-a.a c.in_ok-b.b w.in-Ok.pack w.in-Ok.side in_a in_b w.in-Ok.ensures in
          absurd (no_test (w.if-in_node.ensures ∙ log_there c.args.geometry.now image w.in-Ok.pack w.in-Ok.side is))
      | in_default-via-in_default w ↦ no_pack c.args.geometry.now image c.in_ok-a.a c.in_ok-b.b in_a in_b (sym w.in_default.ensures) sized
    ]
