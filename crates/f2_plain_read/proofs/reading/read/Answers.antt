use Rattle.std.proofs.Common.{◌∙◌}
use Rattle.f2_plain_read.specs.Reads.{IsLaidOut, HasNoneLaid, IsAllLaidIn}
use Rattle.f2_plain_read.proofs.Telling.{telling, tells_on, fault_came, bad_came}
use Rattle.f2_plain_read.proofs.Finding.{too_short, slice_for, read_of}
use Rattle.f2_plain_read.proofs.reading.read.Goals as goal

pub returns-in_err-ckpt-clause-bad : goal.returns-in_err-ckpt-clause-bad
returns-in_err-ckpt-clause-bad g c bad = telling _ HasNoneLaid (λ image t tree stored storable few laid. c.in_err-ckpt.ensures.bad (fault_came _ _ _ c.from_residual.ensures.1 bad) image t tree stored few laid)

pub returns-in_err-table-clause-bad : goal.returns-in_err-table-clause-bad
returns-in_err-table-clause-bad g c bad = telling _ HasNoneLaid (λ image t tree stored storable few laid.
    let out : IsLaidOut image tree stored = record { storable = storable; laid = laid } in
    let past = c.in_err-table.ensures.bad (fault_came _ _ _ c.from_residual-in_err-table.ensures.1 bad) image (tells_on _ _ image c.in_ok-ckpt.ensures.reads.kept t) in
    let ckpt = c.in_ok-ckpt.ensures.found image t tree stored laid in
    too_short image tree stored out c.in_ok-ckpt.ckpt ckpt past)

pub returns-in_err-built-clause-bad : goal.returns-in_err-built-clause-bad
returns-in_err-built-clause-bad g c bad = telling _ HasNoneLaid (λ image t tree stored storable few laid.
    let out : IsLaidOut image tree stored = record { storable = storable; laid = laid } in
    let after_ckpt = tells_on _ _ image c.in_ok-ckpt.ensures.reads.kept t in
    let ckpt = c.in_ok-ckpt.ensures.found image t tree stored laid in
    c.in_err-built.ensures.bad (fault_came _ _ _ c.from_residual-in_err-built.ensures.1 bad) image (tells_on _ _ image c.in_ok-table.ensures.reads.kept after_ckpt) tree stored out
    (slice_for image tree stored out c.in_ok-ckpt.ckpt ckpt c.in_ok-table.table.items c.deref.result.now c.deref.ensures.value (c.in_ok-table.ensures.table image after_ckpt)))

pub returns-clause-found : goal.returns-clause-found
returns-clause-found g c = telling _ (λ image. IsAllLaidIn image c.in_ok-found.found.tree c.in_ok-found.found.stored) (λ image t tree stored storable laid.
    let out : IsLaidOut image tree stored = record { storable = storable; laid = laid } in
    let after_ckpt = tells_on _ _ image c.in_ok-ckpt.ensures.reads.kept t in
    let ckpt = c.in_ok-ckpt.ensures.found image t tree stored laid in
    let table = c.in_ok-table.ensures.table image after_ckpt in
    let slice = slice_for image tree stored out c.in_ok-ckpt.ckpt ckpt c.in_ok-table.table.items c.deref.result.now c.deref.ensures.value table in
    let files = c.in_ok-built.ensures.built image (tells_on _ _ image c.in_ok-table.ensures.reads.kept after_ckpt) tree stored out slice in
    c.in_ok-found.ensures.found image tree stored (read_of image tree stored out c.in_ok-ckpt.ckpt ckpt c.in_ok-table.table.items c.deref.result.now c.deref.ensures.value table c.len.result c.in_ok-built.built (c.len.ensures ∙ c.in_ok-table.table.ok.0) files))

pub returns-clause-sound : goal.returns-clause-sound
returns-clause-sound g c = c.in_ok-found.ensures.sound _ c.in_ok-ckpt.ensures.fits

pub returns-in_err-found-clause-bad : goal.returns-in_err-found-clause-bad
returns-in_err-found-clause-bad g c bad = telling _ HasNoneLaid (λ image t tree stored storable few laid.
    let out : IsLaidOut image tree stored = record { storable = storable; laid = laid } in
    let after_ckpt = tells_on _ _ image c.in_ok-ckpt.ensures.reads.kept t in
    let ckpt = c.in_ok-ckpt.ensures.found image t tree stored laid in
    let table = c.in_ok-table.ensures.table image after_ckpt in
    let slice = slice_for image tree stored out c.in_ok-ckpt.ckpt ckpt c.in_ok-table.table.items c.deref.result.now c.deref.ensures.value table in
    let files = c.in_ok-built.ensures.built image (tells_on _ _ image c.in_ok-table.ensures.reads.kept after_ckpt) tree stored out slice in
    c.in_err-found.ensures.bad (bad_came _ _ c.from_residual-in_err-found.ensures.1 bad) image tree stored (read_of image tree stored out c.in_ok-ckpt.ckpt ckpt c.in_ok-table.table.items c.deref.result.now c.deref.ensures.value table c.len.result c.in_ok-built.built (c.len.ensures ∙ c.in_ok-table.table.ok.0) files))
