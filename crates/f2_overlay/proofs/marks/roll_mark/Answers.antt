use Rattle.std.proofs.Common.{◌≡◌, ℕ, ◌<◌, List, length, refl, sym, ap, ◌∙◌, subst}
use Rattle.std.specs.Prelude.{slice_index_or}
use Rattle.std.specs.Ordering.{nat_cmp}
use Rattle.std.specs.FinMap as map
use Rattle.std.proofs.lemmas.List.{get_or_default}
use Rattle.f2_footer.specs.Footer.{footer_of}
use Rattle.f2_footer.specs.declared.Footer.{Footer}
use Rattle.f2_format.specs.Footer.{footer_ino}
use Rattle.f2_image.specs.Chains.{Logged, chain, block_in, no_block}
use Rattle.f2_recover.specs.Faults.{IsRightFault}
use Rattle.f2_recover.proofs.Telling.{fault_holds}
use Rattle.f2_overlay.specs.Taking.{node_of}
use Rattle.f2_overlay.specs.declared.rolls.Roll.{Roll}
use Rattle.f2_overlay.specs.declared.marks.Rolling.{Rolling}
use Rattle.f2_overlay.proofs.Maps.{get_put, get_put-other}
use Rattle.f2_overlay.proofs.PutNodes.{block_at_place, logged_at}
use Rattle.f2_overlay.proofs.OwnersMore.{more_then}
use Rattle.f2_overlay.proofs.Newer.{pending_marked}
use Rattle.f2_overlay.proofs.RollMark.{at, newest_within, bad_inode, from_inode, from_nodes, at_end, rolled}
use Rattle.f2_overlay.proofs.marks.roll_mark.Goals as goal

abbrev Rolls : Type 0
Rolls = map.FinMap nat_cmp Roll

-- the ino of the block at a place
owner_is : (log : List Logged) (place : ℕ) (logged : Logged) (block : List ℕ) (footer : Footer) → place < length log → logged ≡ slice_index_or log place logged → block ≡ logged.block → footer ≡ footer_of block → footer_ino (block_in log place) ≡ footer.ino
owner_is log place logged block footer within is same read = sym (ap (λ (f : Footer). f.ino) read ∙ ap (λ (b : List ℕ). footer_ino b) (same ∙ block_at_place log place logged within is))

pub returns-in_err-check_ino-clause-fault : goal.returns-in_err-check_ino-clause-fault
returns-in_err-check_ino-clause-fault g c =
    let logged = c.index-log-place.result in
    let own = owner_is c.args.log.now c.args.place logged _ _ c.requires.within c.index-log-place.is (c.deref.ensures ∙ ap (λ (x : Logged). x.block) c.logged.view_is) c.read-footer.ensures in
    let block : c.deref.result.now ≡ block_in c.args.log.now c.args.place = c.deref.ensures ∙ ap (λ (x : Logged). x.block) c.logged.view_is ∙ block_at_place c.args.log.now c.args.place logged c.requires.within c.index-log-place.is in
    fault_holds _ _ _ c.from_residual.ensures.1
    (λ image ckpt ground before.
    c.in_err-check_ino.ensures.fault image ckpt c.args.place (block_in (chain image ckpt) c.args.place) ground.base
    (at _ c.args.g.now image ckpt c.args.walk.now c.args.log.now ground c.args.place c.read-footer.result.ino c.requires.within c.requires.marked own)
    (c.read-footer.ensures ∙ ap footer_of (block ∙ ap (λ (l : List Logged). block_in l c.args.place) ground.chain_is)))

pub returns-in_err-inode-clause-fault : goal.returns-in_err-inode-clause-fault
returns-in_err-inode-clause-fault g c =
    let logged = c.index-log-place.result in
    let own = owner_is c.args.log.now c.args.place logged _ _ c.requires.within c.index-log-place.is (c.deref.ensures ∙ ap (λ (x : Logged). x.block) c.logged.view_is) c.read-footer.ensures in
    fault_holds _ _ _ c.from_residual-in_err-inode.ensures.1
    (λ image ckpt ground before.
    subst (IsRightFault image ckpt) (sym c.in_err-inode.ensures.fault)
    (bad_inode _ c.args.g.now image ckpt c.args.walk.now c.args.log.now ground c.args.place c.read-footer.result.ino c.requires.within c.requires.marked own logged c.index-log-place.is
    (c.index-log-place.is ∙ get_or_default c.args.log.now c.args.place logged no_block c.requires.within) c.in_err-inode.ensures.odd))

pub returns-in_err-put_addresses-clause-fault : goal.returns-in_err-put_addresses-clause-fault
returns-in_err-put_addresses-clause-fault g c =
    let logged = c.index-log-place.result in
    let own = owner_is c.args.log.now c.args.place logged _ _ c.requires.within c.index-log-place.is (c.deref.ensures ∙ ap (λ (x : Logged). x.block) c.logged.view_is) c.read-footer.ensures in
    let block_is = block_at_place c.args.log.now c.args.place logged c.requires.within c.index-log-place.is in
    fault_holds _ _ _ c.from_residual-in_err-put_addresses.ensures.1
    (λ image ckpt ground before.
    c.in_err-put_addresses.ensures.fault image ckpt ground.base.has ground.geom_is
    (from_inode _ c.args.g.now image ckpt c.args.walk.now c.args.log.now ground c.args.place c.read-footer.result.ino c.requires.within c.requires.marked own c.args.rolling.now before c.in_ok-inode.inode logged.block block_is c.in_ok-inode.ensures.inode
    c.take-newest.result c.take-newest.ensures.taken)
    before.owners.right)

pub put_nodes-requires : goal.put_nodes-requires
put_nodes-requires g c = newest_within c.args.log.now c.args.place c.read-footer.result.ino c.take-newest.result c.args.rolling.now.pending c.requires.within c.requires.pending c.take-newest.ensures.taken

pub returns-in_err-put_nodes-clause-fault : goal.returns-in_err-put_nodes-clause-fault
returns-in_err-put_nodes-clause-fault g c =
    let logged = c.index-log-place.result in
    let own = owner_is c.args.log.now c.args.place logged _ _ c.requires.within c.index-log-place.is (c.deref.ensures ∙ ap (λ (x : Logged). x.block) c.logged.view_is) c.read-footer.ensures in
    let block_is = block_at_place c.args.log.now c.args.place logged c.requires.within c.index-log-place.is in
    fault_holds _ _ _ c.from_residual-in_err-put_nodes.ensures.1
    (λ image ckpt ground before.
    c.in_err-put_nodes.ensures.fault image ckpt ground.base.has ground.geom_is
    (from_nodes _ c.args.g.now image ckpt c.args.walk.now c.args.log.now ground c.args.place c.read-footer.result.ino c.requires.within c.requires.marked own c.args.rolling.now before c.in_ok-inode.inode logged.block block_is c.in_ok-inode.ensures.inode
    c.take-newest.result c.take-newest.ensures.taken)
    (c.in_ok-put_addresses.ensures.right image ckpt ground.geom_is
    (from_inode _ c.args.g.now image ckpt c.args.walk.now c.args.log.now ground c.args.place c.read-footer.result.ino c.requires.within c.requires.marked own c.args.rolling.now before c.in_ok-inode.inode logged.block block_is c.in_ok-inode.ensures.inode
    c.take-newest.result c.take-newest.ensures.taken)
    before.owners.right))

pub returns-in_err-check_end-clause-fault : goal.returns-in_err-check_end-clause-fault
returns-in_err-check_end-clause-fault g c =
    let logged = c.index-log-place.result in
    let own = owner_is c.args.log.now c.args.place logged _ _ c.requires.within c.index-log-place.is (c.deref.ensures ∙ ap (λ (x : Logged). x.block) c.logged.view_is) c.read-footer.ensures in
    let block_is = block_at_place c.args.log.now c.args.place logged c.requires.within c.index-log-place.is in
    fault_holds _ _ _ c.from_residual-in_err-check_end.ensures.1
    (λ image ckpt ground before.
    at_end _ c.args.g.now image ckpt c.args.walk.now c.args.log.now ground c.args.place c.read-footer.result.ino c.requires.within c.requires.marked own c.args.rolling.now before c.in_ok-inode.inode logged.block block_is c.in_ok-inode.ensures.inode
    c.take-newest.result c.take-newest.ensures.taken (c.in_ok-check_ino.ensures.free image ckpt ground.base) c.in_ok-pages.pages c.put_addresses.new.pages c.put_nodes.new.pages c.in_ok-pages.ensures.pages c.in_ok-put_addresses.ensures.put c.in_ok-put_nodes.ensures.put c.put_nodes.new.owners
    (λ start. c.in_ok-put_nodes.ensures.own (c.in_ok-put_addresses.ensures.own start)) _ (λ block. c.in_err-check_end.ensures.fault image ckpt c.args.place block ground.tells ground.base.has ground.geom_is))

pub returns-clause-rolled : goal.returns-clause-rolled
returns-clause-rolled g c image ckpt ground before =
    let logged = c.index-log-place.result in
    let own = owner_is c.args.log.now c.args.place logged _ _ c.requires.within c.index-log-place.is (c.deref.ensures ∙ ap (λ (x : Logged). x.block) c.logged.view_is) c.read-footer.ensures in
    let block_is = block_at_place c.args.log.now c.args.place logged c.requires.within c.index-log-place.is in
    let roll : Roll = record { parent = c.in_ok-parent.parent; name = c.in_ok-parent.name; size = c.in_ok-inode.inode.size; pages = c.put_nodes.new.pages; nodes = c.put.new.self } in
    let new : Rolling = record { rolls = c.put-2.new.self; pending = c.take-newest.new.self; owners = c.put_nodes.new.owners } in
    let put = c.in_ok-put-2.ensures.ok in
    rolled _ c.args.g.now image ckpt c.args.walk.now c.args.log.now ground c.args.place c.read-footer.result.ino c.requires.within c.requires.marked own c.args.rolling.now before c.in_ok-inode.inode logged.block block_is c.in_ok-inode.ensures.inode
    c.take-newest.result c.take-newest.ensures.taken (c.in_ok-check_ino.ensures.free image ckpt ground.base) c.in_ok-pages.pages c.put_addresses.new.pages c.put_nodes.new.pages c.in_ok-pages.ensures.pages c.in_ok-put_addresses.ensures.put c.in_ok-put_nodes.ensures.put c.put_nodes.new.owners
    (λ start. c.in_ok-put_nodes.ensures.own (c.in_ok-put_addresses.ensures.own start)) roll new refl refl c.in_ok-parent.ensures refl c.take-newest.ensures.left
    (λ other different. ap (λ (m : Rolls). map.get m other) put ∙ get_put-other c.start_file.new.rolls c.read-footer.result.ino roll other different ∙ c.in_ok-pages.ensures.others other different)
    (ap (λ (m : Rolls). map.get m c.read-footer.result.ino) put ∙ get_put c.start_file.new.rolls c.read-footer.result.ino roll) (more_then _ _ _ c.in_ok-put_addresses.ensures.more c.in_ok-put_nodes.ensures.more)
    (c.in_ok-put_nodes.ensures.right image ckpt ground.geom_is
    (from_nodes _ c.args.g.now image ckpt c.args.walk.now c.args.log.now ground c.args.place c.read-footer.result.ino c.requires.within c.requires.marked own c.args.rolling.now before c.in_ok-inode.inode logged.block block_is c.in_ok-inode.ensures.inode
    c.take-newest.result c.take-newest.ensures.taken)
    (c.in_ok-put_addresses.ensures.right image ckpt ground.geom_is
    (from_inode _ c.args.g.now image ckpt c.args.walk.now c.args.log.now ground c.args.place c.read-footer.result.ino c.requires.within c.requires.marked own c.args.rolling.now before c.in_ok-inode.inode logged.block block_is c.in_ok-inode.ensures.inode
    c.take-newest.result c.take-newest.ensures.taken)
    before.owners.right))
    (c.in_ok-check_end.ensures.right image ground.tells) c.in_ok-pages.nodes c.put_nodes.new.nodes c.in_ok-pages.ensures.nodes c.in_ok-put_nodes.ensures.nodes
    (c.in_ok-put.ensures.ok ∙ ap (map.insert c.put_nodes.new.nodes 0) (c.node_at.ensures ∙ ap node_of (logged_at c.args.log.now c.args.place logged c.requires.within c.index-log-place.is)))

pub returns-clause-pending : goal.returns-clause-pending
returns-clause-pending g c =
    let logged = c.index-log-place.result in
    let own = owner_is c.args.log.now c.args.place logged _ _ c.requires.within c.index-log-place.is (c.deref.ensures ∙ ap (λ (x : Logged). x.block) c.logged.view_is) c.read-footer.ensures in
    pending_marked c.args.log.now c.args.place c.read-footer.result.ino c.requires.marked own c.args.rolling.now.pending c.take-newest.new.self c.take-newest.ensures.left c.requires.pending
