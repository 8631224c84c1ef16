use Rattle.std.proofs.Common.{◌≡◌, ◌≢◌, ◌∙◌, List, ℕ, refl, sym, ap, subst, false, IfOk}
use Rattle.f2_model.specs.Step as machine
use Rattle.f2_model.specs.declared.requests.Request.{Request}
use Rattle.f2_model.specs.declared.requests.Request.TheVariants.{Fsync, Sync}
use Rattle.f2_model.specs.declared.replies.Plan.TheVariants as plan
use Rattle.f2_model.specs.Tree.{walk}
use Rattle.f2_reference_calls.proofs.Results.{ok_after}
use Rattle.f2_reference.specs.Begins.{BeginsBy}
use Rattle.f2_reference.proofs.BeginTurns.{by_way, at_once_way}
use Rattle.f2_reference.proofs.begins.serve.Goals as goal

pub begin_fsync-requires : goal.begin_fsync-requires
begin_fsync-requires c = ap machine.adds_row (sym c.get.ensures ∙ c.in-Fsync.is)

pub returns-in_ok-file-in-Fsync-clause-ok : goal.returns-in_ok-file-in-Fsync-clause-ok
returns-in_ok-file-in-Fsync-clause-ok c =
    let old = c.args.plain.now in
    let new = c.begin_fsync.new.plain in
    let request = c.args.request in
    let is : request ≡ Fsync c.in-Fsync.path = sym c.get.ensures ∙ c.in-Fsync.is in
    ok_after c.begin_fsync.result
    (λ begun by. by_way c.args.choices old new c.args.seat request begun _ _
    (λ turn begins. subst (λ (one : Request). machine.Serves old.limits machine.calm old.state c.args.seat one turn) (sym is)
    (subst (λ (one : Request). machine.BeginsFsync old.limits old.state c.args.seat one (walk old.state.live c.in-Fsync.path) turn) is begins)) by)
    (c.begin_fsync.ensures.ok c.in-Fsync.path (c.in_ok-file-in-Fsync.ensures))

pub begin_check-requires-clause-rowless : goal.begin_check-requires-clause-rowless
begin_check-requires-clause-rowless c = ap machine.adds_row (sym c.get.ensures ∙ c.in-Sync.is)

pub returns-in-Sync-clause-ok : goal.returns-in-Sync-clause-ok
returns-in-Sync-clause-ok c =
    let old = c.args.plain.now in
    let new = c.begin_check.new.plain in
    let request = c.args.request in
    let is : request ≡ Sync = sym c.get.ensures ∙ c.in-Sync.is in
    ok_after c.begin_check.result
    (λ begun by. by_way c.args.choices old new c.args.seat request begun _ _
    (λ turn begins. subst (λ (one : Request). machine.Serves old.limits machine.calm old.state c.args.seat one turn) (sym is)
    (subst (λ (one : Request). machine.BeginsCheck old.state c.args.seat one plan.Sync turn) is begins)) by)
    c.begin_check.ensures.ok

pub returns-in_default : goal.returns-in_default
returns-in_default c =
    let old = c.args.plain.now in
    let new = c.call_at_once.new.plain in
    record {
      ok = ok_after c.call_at_once.result
          (λ begun by. by_way c.args.choices old new c.args.seat c.args.request begun _ _
          (at_once_way old.limits old.state c.args.seat c.args.request (λ path is. c.in_default.not-Fsync path (c.get.ensures ∙ is)) (λ is. c.in_default.not-Sync (c.get.ensures ∙ is))) by)
          c.call_at_once.ensures.ok;
      err = c.call_at_once.ensures.err;
    }
