use Rattle.std.proofs.Common.{◌∙◌, ℕ, List, refl, sym, ap}
use Rattle.std.specs.Prelude.{is_some}
use Rattle.std.specs.FinMap as map
use Rattle.f2_dentry_block.specs.Dents.{type_of}
use Rattle.f2_recover.specs.Walking.{IsRowOf}
use Rattle.f2_recover.proofs.Telling.{fault_holds}
use Rattle.f2_recover.proofs.DentPlaces.{below_reached, ino_twice, name_twice, names_reached, names_below, names_as}
use Rattle.f2_recover.proofs.FreshKeys.{free_none}
use Rattle.f2_recover.proofs.LongerWalks.{queue_more, longer_more}
use Rattle.f2_recover.proofs.NextDents.{names_more, walked_more}
use Rattle.f2_recover.proofs.named.take_dent.Goals as goal
use Rattle.f2_recover.proofs.named.take_dent.Goals.{then-contains-via-then-contains, then-contains-via-else-contains+then-is_some}

pub returns-then-contains-clause-fault : goal.returns-then-contains-clause-fault
returns-then-contains-clause-fault g c image ckpt done places dents count read not_done at small is below first to = (
  read.has,
  elim c.then-contains.branch [
    | then-contains-via-then-contains w ↦ (
        ino_twice image ckpt done c.args.directory places dents count c.args.dent not_done at small is (below_reached image ckpt _ _ below) c.args.walk.now to c.requires.fit.least (sym w.if-contains.ensures)
        )
    | then-contains-via-else-contains+then-is_some w ↦ (
        name_twice image ckpt done c.args.directory places dents count c.args.dent not_done at small is (below_reached image ckpt _ _ below) c.args.names.now first
        (sym (w.if-is_some.ensures ∙ ap is_some w.get.ensures))
        )
  ],
)

pub returns-in_err-file-clause-fault : goal.returns-in_err-file-clause-fault
returns-in_err-file-clause-fault g c =
    fault_holds _ _ _ c.from_residual.ensures.1
    (λ image ckpt done places dents count read not_done at small is below first to.
    let up = below_reached image ckpt _ _ below in
    c.in_err-file.ensures.fault image ckpt to.taken.inos read
    (names_reached image ckpt done c.args.directory places dents count c.args.dent not_done at small is up)
    (names_as image ckpt done c.args.directory places dents count c.args.dent not_done at small is up)
    (names_below image ckpt done c.args.directory places dents count c.args.dent not_done at small is up c.args.depth c.requires.below below)
    (to.taken.next c.args.dent.ino (sym c.if-contains.ensures)))

pub returns-clause-walked : goal.returns-clause-walked
returns-clause-walked g c image ckpt done places dents count read not_done at small is below first to =
    let fresh = sym c.if-contains.ensures in
    let none = free_none (map.get c.args.names.now c.args.dent.name) (sym (c.if-is_some.ensures ∙ ap is_some c.get.ensures)) in
    let up = below_reached image ckpt _ _ below in
    let reached = names_reached image ckpt done c.args.directory places dents count c.args.dent not_done at small is up in
    let next = to.taken.next c.args.dent.ino fresh in
    let read_file = c.in_ok-file.ensures in
    let file = read_file.file image ckpt to.taken.inos read reached next in
    let row_is : IsRowOf image ckpt c.args.dent.ino (record { parent = c.args.directory; name = c.args.dent.name; depth = c.args.depth; file = c.in_ok-file.file }) = record {
      file = record { reached = file.reached; inode = file.inode; is = file.is; own = file.own; size = file.size; part = file.seen.part };
      below = names_below image ckpt done c.args.directory places dents count c.args.dent not_done at small is up c.args.depth c.requires.below below;
      ends = read_file.ends image ckpt to.taken.inos read reached next;
    } in (
      walked_more image ckpt done c.args.directory places dents count c.args.dent not_done at small is c.args.names.now first c.args.walk.now to c.requires.fit.least fresh none _ row_is
          (record { parent = refl; named = refl; typed = ap type_of (sym read_file.kind); least = c.requires.fit.least; good = c.requires.fit.good }) _ c.in_ok-put-2.ensures.ok refl file.seen.are,
      names_more dents count c.args.dent c.args.names.now c.put.new.self is none
          (c.in_ok-put.ensures.ok ∙ ap (λ (name : List ℕ). map.insert c.args.names.now name (c.args.dent.ino, c.args.dent.kind)) (c.in_ok-name.ensures ∙ c.as_slice.ensures)) first,
    )

pub returns-clause-longer : goal.returns-clause-longer
returns-clause-longer g c =
    longer_more c.args.walk.now _ c.args.dent.ino _ (sym c.if-contains.ensures) c.in_ok-put-2.ensures.ok c.in_ok-push.ensures.items

pub returns-clause-queue : goal.returns-clause-queue
returns-clause-queue g c =
    queue_more c.args.walk.now.rows c.args.dent.ino (sym c.if-contains.ensures) _ c.args.g.now c.args.walk.now.order.items c.requires.queue c.in_ok-file.ensures.within c.in_ok-file.ensures.depth c.put-2.new.self c.push.new.self.items
    c.in_ok-put-2.ensures.ok c.in_ok-push.ensures.items
