use Rattle.std.proofs.Common.{◌∙◌, ◌∷◌, ◌++◌, ℕ, ◌<◌, List, [], refl, ap, subst}
use Rattle.std.specs.FinMap as map
use Rattle.std.specs.FinSet as set
use Rattle.f2_format.specs.Geometry.{nid_limit}
use Rattle.f2_image.specs.Bases as bases
use Rattle.f2_recover.specs.Taking.{Taken}
use Rattle.f2_recover.specs.Walking.{BaseRows}
use Rattle.f2_recover.specs.declared.rows.BaseRow.{BaseRow}
use Rattle.f2_recover.proofs.Telling.{fault_holds, read_on}
use Rattle.f2_recover.proofs.NextFiles.{first_file}
use Rattle.f2_recover.proofs.FirstRow.{walked_first, queue_first}
use Rattle.f2_recover.proofs.walk.begin.Goals as goal

pub returns-in_err-file-clause-fault : goal.returns-in_err-file-clause-fault
returns-in_err-file-clause-fault g c =
    let zones = c.in_ok-new.ensures in
    fault_holds _ _ _ c.from_residual-in_err-file.ensures.1
    (λ image ckpt read.
    c.in_err-file.ensures.fault image ckpt set.empty (read_on _ _ _ _ _ image ckpt refl (ap (λ (z : Taken). z.geom) zones) read) bases.root
    (first_file image ckpt 3 _ (ap (λ (z : Taken). z.nodes) zones) (ap (λ (z : Taken). z.pages) zones) (ap (λ (z : Taken). z.nids) zones)))

pub returns-in_err-check_root-clause-fault : goal.returns-in_err-check_root-clause-fault
returns-in_err-check_root-clause-fault g c =
    let zones = c.in_ok-new.ensures in
    fault_holds _ _ _ c.from_residual-in_err-check_root.ensures.1
    (λ image ckpt read.
    let file = c.in_ok-file.ensures.file image ckpt set.empty (read_on _ _ _ _ _ image ckpt refl (ap (λ (z : Taken). z.geom) zones) read) bases.root
    (first_file image ckpt 3 _ (ap (λ (z : Taken). z.nodes) zones) (ap (λ (z : Taken). z.pages) zones) (ap (λ (z : Taken). z.nids) zones)) in
    c.in_err-check_root.ensures.fault image ckpt file.inode read.has file.is)

pub returns-clause-walked : goal.returns-clause-walked
returns-clause-walked g c image ckpt read =
    let zones = c.in_ok-new.ensures in
    let row : BaseRow = record { parent = 3; name = c.new-5.result; depth = 0; file = c.in_ok-file.file } in
    let file = c.in_ok-file.ensures.file image ckpt set.empty (read_on _ _ _ _ _ image ckpt refl (ap (λ (z : Taken). z.geom) zones) read) bases.root
    (first_file image ckpt 3 _ (ap (λ (z : Taken). z.nodes) zones) (ap (λ (z : Taken). z.pages) zones) (ap (λ (z : Taken). z.nids) zones)) in
    walked_first image ckpt _ row file c.in_ok-check_root.ensures.directory refl c.new-5.ensures refl
    (c.in_ok-put.ensures.ok ∙ ap (λ (m : BaseRows). map.insert m 3 row) c.new-2.ensures) c.new-3.ensures

pub returns-clause-queue : goal.returns-clause-queue
returns-clause-queue g c =
    let row : BaseRow = record { parent = 3; name = c.new-5.result; depth = 0; file = c.in_ok-file.file } in
    queue_first _ row _ _ (c.in_ok-put.ensures.ok ∙ ap (λ (m : BaseRows). map.insert m 3 row) c.new-2.ensures) refl
    (c.in_ok-push.ensures.items ∙ ap (λ (xs : List ℕ). xs ++ 3 ∷ []) c.new-4.ensures.items)
    (subst (λ (z : Taken). 3 < nid_limit z.geom) c.in_ok-new.ensures c.in_ok-file.ensures.within)
