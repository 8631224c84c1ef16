use Rattle.std.proofs.Common.{inl, List, ap, ◌∙◌, subst}
use Rattle.f2_model.specs.Step.{replied}
use Rattle.f2_model.specs.declared.events.Event.TheVariants.{Begin}
use Rattle.f2_model.specs.declared.replies.Reply.TheVariants as reply
use Rattle.f2_model.specs.declared.histories.Entry.{Entry}
use Rattle.f2_state.specs.Following.{AdvancesFrom, Follows, faults_between}
use Rattle.f2_state.specs.Looks.{MayLeave}
use Rattle.f2_state.specs.Seen.{Seen}
use Rattle.f2_state.proofs.Advancing.{same_with_room, memory_follows, look_follows}
use Rattle.f2_state.proofs.Counted.{volume_counted}
use Rattle.f2_state.proofs.volume.Volume.look.Goals as goal

pub returns-then-is_err-clause-follows : goal.returns-then-is_err-clause-follows
returns-then-is_err-clause-follows g c =
    let was = c.self.inside in
    subst (λ old. Follows g.D.Disk.contents g.D.Disk.meter old
    (record { disk = was.disk; geometry = was.geometry; mode = was.mode; files = was.files; pages = was.pages; history = c.room.new.self }) (Begin c.args.seat c.args.request) (replied reply.Memory)) c.self.view_is
    (memory_follows g.D.Disk.contents g.D.Disk.meter _ c.room.new.self (same_with_room c.room.result was.history c.room.new.self _ c.room.ensures.ok c.room.ensures.err) c.args.seat c.args.request c.requires.seat)

pub invariant_of-self-in_default : goal.invariant_of-self-in_default
invariant_of-self-in_default g c = volume_counted _ (g.D.Disk.contents c.self.inside.disk) _ c.room.new.self c.self.invariant

pub returns-in_default-clause-follows : goal.returns-in_default-clause-follows
returns-in_default-clause-follows g c =
    let was = c.self.inside in
    subst (λ old. Follows g.D.Disk.contents g.D.Disk.meter old
    (record { disk = was.disk; geometry = was.geometry; mode = was.mode; files = was.files; pages = was.pages; history = c.room.new.self }) (Begin c.args.seat c.args.request) (replied reply.Memory)) c.self.view_is
    (memory_follows g.D.Disk.contents g.D.Disk.meter _ c.room.new.self (same_with_room c.room.result was.history c.room.new.self _ c.room.ensures.ok c.room.ensures.err) c.args.seat c.args.request c.requires.seat)

pub invariant_of-self-2 : goal.invariant_of-self-2
invariant_of-self-2 g c = volume_counted _ (g.D.Disk.contents c.self.inside.disk) _ c.room.new.self c.self.invariant

pub returns-clause-follows : goal.returns-clause-follows
returns-clause-follows g c =
    let was = c.self.inside in
    let new = c.look_with_room.new.self in
    let told = c.look_with_room.result in
    subst (λ old. Follows g.D.Disk.contents g.D.Disk.meter old new (Begin c.args.seat c.args.request) (replied told)) c.self.view_is
    (look_follows g.D.Disk.contents g.D.Disk.meter _ c.room.new.self (same_with_room c.room.result was.history c.room.new.self _ c.room.ensures.ok c.room.ensures.err) new
    (Begin c.args.seat c.args.request) (replied told) c.look_with_room.ensures.rest c.look_with_room.ensures.reads
    (λ start from stands. subst (λ request. AdvancesFrom g.D.Disk.contents g.D.Disk.meter
    (record { disk = was.disk; geometry = was.geometry; mode = was.mode; files = was.files; pages = was.pages; history = c.room.new.self }) new (Begin c.args.seat request) (replied told) start from) c.in-Ok.ensures
    (c.look_with_room.ensures.advances start from stands)))

pub returns-then-is_err-clause-leaves : goal.returns-then-is_err-clause-leaves
returns-then-is_err-clause-leaves g c =
    let was = c.self.inside in
    let same = (same_with_room c.room.result was.history c.room.new.self _ c.room.ensures.ok c.room.ensures.err).0 in
    inl (same ∙ ap (λ (volume : Seen g.row.D.Denot). volume.history.entries) c.self.view_is)

pub returns-in_default-clause-leaves : goal.returns-in_default-clause-leaves
returns-in_default-clause-leaves g c =
    let was = c.self.inside in
    let same = (same_with_room c.room.result was.history c.room.new.self _ c.room.ensures.ok c.room.ensures.err).0 in
    inl (same ∙ ap (λ (volume : Seen g.row.D.Denot). volume.history.entries) c.self.view_is)

pub returns-clause-leaves : goal.returns-clause-leaves
returns-clause-leaves g c =
    let was = c.self.inside in
    let new = c.look_with_room.new.self in
    let same = (same_with_room c.room.result was.history c.room.new.self _ c.room.ensures.ok c.room.ensures.err).0 in
    subst (λ (old : Seen g.row.D.Denot). MayLeave c.args.seat c.args.request c.look_with_room.result (faults_between (g.D.Disk.meter old.disk) (g.D.Disk.meter new.disk)) old.history.entries new.history.entries) c.self.view_is
    (subst (λ (es : List Entry). MayLeave c.args.seat c.args.request c.look_with_room.result (faults_between (g.D.Disk.meter was.disk) (g.D.Disk.meter new.disk)) es new.history.entries) same
    (subst (λ request. MayLeave c.args.seat request c.look_with_room.result (faults_between (g.D.Disk.meter was.disk) (g.D.Disk.meter new.disk)) c.room.new.self.entries new.history.entries) c.in-Ok.ensures c.look_with_room.ensures.leaves))
