use Rattle.std.proofs.Common.{◌≡◌, IfOk, rules, sym}
use Rattle.f2_tree_size.specs.Sizes.{blocks_of_entries}
use Rattle.f2_tree_size.proofs.FoundRows.{ok_from, file_part, directory_part}
use Rattle.f2_tree_size.proofs.rows.size_of_row.Goals as goal

pub returns-in-Regular : goal.returns-in-Regular
returns-in-Regular c =
    ok_from c.size_of_file.result (λ size nodes pages image tree is.
    file_part c.args.found.now c.args.ino c.in-Some.row.now (sym c.in-Some.ensures) size image tree is c.in-Regular.is nodes pages) c.size_of_file.ensures.nodes c.size_of_file.ensures.pages

pub returns-in-Some-get : goal.returns-in-Some-get
returns-in-Some-get c =
    let filled : IfOk c.size_of_directory.result (λ size. size.pages ≡ blocks_of_entries c.in-Some-get.names.now) = search rules in
    ok_from c.size_of_directory.result (λ size nodes pages image tree is.
    directory_part c.args.found.now c.args.ino c.in-Some.row.now (sym c.in-Some.ensures) size image tree is c.in-Some-get.names.now c.in-Directory.is (sym c.in-Some-get.ensures) nodes pages) c.size_of_directory.ensures.nodes filled
