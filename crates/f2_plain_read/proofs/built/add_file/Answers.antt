use Rattle.std.proofs.Common.{◌∙◌, subst, arith}
use Rattle.f2_laid.specs.declared.places.Place.{Place}
use Rattle.f2_plain_read.specs.Files.{ArePagesAt, ReachesPast}
use Rattle.f2_plain_read.proofs.Telling.{tells_on, fault_came, bad_came}
use Rattle.f2_plain_read.proofs.Standing.{stands, node_short, no_page_past}
use Rattle.f2_plain_read.proofs.Building.{takable_here, built_next, built_as, keys_next, unnamed}
use Rattle.f2_plain_read.proofs.built.add_file.Goals as goal

pub returns-in_err-file-clause-bad : goal.returns-in_err-file-clause-bad
returns-in_err-file-clause-bad g c bad image t tree stored out is built =
    let s = stands image tree stored out c.args.ino c.args.at is c.requires in
    let past = c.in_err-file.ensures.bad (fault_came _ _ _ c.from_residual.ensures.1 bad) image t s.row s.place s.own s.inode in
    let short = node_short image tree stored out c.args.ino c.args.at s in
    omega (arith, past, short.0)

pub returns-in_err-pages-clause-bad : goal.returns-in_err-pages-clause-bad
returns-in_err-pages-clause-bad g c bad image t tree stored out is built =
    let s = stands image tree stored out c.args.ino c.args.at is c.requires in
    let found = c.in_ok-file.ensures.file image t s.row s.place s.own s.at_place s.inode in
    let past = c.in_err-pages.ensures.bad (fault_came _ _ _ c.from_residual-in_err-pages.ensures.1 bad) image (tells_on _ _ image c.in_ok-file.ensures.reads.kept t) in
    no_page_past image tree stored out c.args.ino c.args.at s (subst (λ (p : Place). ReachesPast image p) found.place past)

pub returns-in_err-pages-2-clause-bad : goal.returns-in_err-pages-2-clause-bad
returns-in_err-pages-2-clause-bad g c bad image t tree stored out is built =
    let s = stands image tree stored out c.args.ino c.args.at is c.requires in
    let found = c.in_ok-file.ensures.file image t s.row s.place s.own s.at_place s.inode in
    let pages = subst (λ (p : Place). ArePagesAt image p c.in_ok-pages.pages) found.place (c.in_ok-pages.ensures.pages image (tells_on _ _ image c.in_ok-file.ensures.reads.kept t)) in
    c.in_err-pages-2.ensures.bad (bad_came _ _ c.from_residual-in_err-pages-2.ensures.1 bad) (takable_here image tree stored out c.args.ino c.args.at s c.args.built.now built c.in_ok-file.file found c.in_ok-pages.pages pages)

pub returns-clause-built : goal.returns-clause-built
returns-clause-built g c image t tree stored out is built =
    let s = stands image tree stored out c.args.ino c.args.at is c.requires in
    let found = c.in_ok-file.ensures.file image t s.row s.place s.own s.at_place s.inode in
    let pages = subst (λ (p : Place). ArePagesAt image p c.in_ok-pages.pages) found.place (c.in_ok-pages.ensures.pages image (tells_on _ _ image c.in_ok-file.ensures.reads.kept t)) in
    built_as tree stored.places _ _ _ _ _ _ (c.in_ok-put-2.ensures.ok ∙ unnamed c.args.built.now.rows c.args.ino c.args.ino c.in_ok-file.file.kind c.in_ok-file.file.size c.in_ok-pages-2.pages c.new.result c.new.ensures) c.in_ok-put.ensures.ok
    (built_next image tree stored out c.args.ino c.args.at s c.args.built.now built c.in_ok-file.file found c.in_ok-pages.pages pages c.take_content.new.names c.in_ok-pages-2.pages c.in_ok-pages-2.ensures.taken)

pub returns-clause-keys : goal.returns-clause-keys
returns-clause-keys g c limit low before = keys_next limit c.args.ino c.args.built.now.places c.put.new.self c.in_ok-file.file.place c.in_ok-put.ensures.ok low before
