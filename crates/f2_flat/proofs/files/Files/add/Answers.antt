use Rattle.std.proofs.Common.{◌≡◌, ◌+◌, None, ap, sym, ◌∙◌, subst, arith}
use Rattle.std.specs.FinMap as map
use Rattle.f2_model.specs.Tree.{ROOT}
use Rattle.f2_model.specs.Call.{new_row}
use Rattle.f2_model.specs.declared.rows.Kind.TheVariants.{Regular}
use Rattle.f2_flat.specs.Kept.{AreCounts, HasRootFiles}
use Rattle.f2_flat.specs.Steps.{with_file}
use Rattle.f2_flat.proofs.Grown.{counts_with_file, kept_same, kept_with_file}
use Rattle.f2_flat.proofs.Trees.{slots_few, put_taken}
use Rattle.f2_flat.proofs.files.Files.add.Goals as goal

pub overflow_add-counts : goal.overflow_add-counts
overflow_add-counts c =
    let tree = c.self.inside.tree in
    let free : map.get tree c.args.ino ≡ None = ap (λ t. map.get t c.args.ino) c.self.view_is ∙ c.requires.free in
    let files : HasRootFiles (with_file tree c.args.ino c.args.name.now) = subst (λ t. HasRootFiles (with_file t c.args.ino c.args.name.now)) (sym c.self.view_is) c.requires.files in
    let counted = counts_with_file tree c.args.ino c.args.name.now c.self.inside.counts free c.self.invariant.counted in
    let few = slots_few (with_file tree c.args.ino c.args.name.now) files in
    let most = files.few in
    let sum = counted.slots in
    let own = c.slots_of.ensures in
    omega (arith, few, most, sum, own)

pub put_file-requires-clause-counts : goal.put_file-requires-clause-counts
put_file-requires-clause-counts c =
    let tree = c.self.inside.tree in
    let free : map.get tree c.args.ino ≡ None = ap (λ t. map.get t c.args.ino) c.self.view_is ∙ c.requires.free in
    let files : HasRootFiles (with_file tree c.args.ino c.args.name.now) = subst (λ t. HasRootFiles (with_file t c.args.ino c.args.name.now)) (sym c.self.view_is) c.requires.files in
    let counted = counts_with_file tree c.args.ino c.args.name.now c.self.inside.counts free c.self.invariant.counted in
    subst (λ name. AreCounts (with_file tree c.args.ino name) (record { slots = c.self.inside.counts.slots + c.slots_of.result; pages = c.self.inside.counts.pages })) (sym (c.in_ok-row_name.ensures))
    (subst (λ n. AreCounts (with_file tree c.args.ino c.args.name.now) (record { slots = c.self.inside.counts.slots + n; pages = c.self.inside.counts.pages })) (sym c.slots_of.ensures) counted)

pub returns-in-Err-clause-kept : goal.returns-in-Err-clause-kept
returns-in-Err-clause-kept c =
    let tree = c.self.inside.tree in
    let free : map.get tree c.args.ino ≡ None = ap (λ t. map.get t c.args.ino) c.self.view_is ∙ c.requires.free in
    let files : HasRootFiles (with_file tree c.args.ino c.args.name.now) = subst (λ t. HasRootFiles (with_file t c.args.ino c.args.name.now)) (sym c.self.view_is) c.requires.files in
    let put = c.in_ok-put_file.ensures.added in
    c.remove.ensures.tree ∙ ap (λ t. map.remove t c.args.ino) put ∙ put_taken tree c.args.ino (new_row Regular c.args.ino ROOT c.in_ok-row_name.row_name) free ∙ c.self.view_is

pub invariant_of-self-in-Err : goal.invariant_of-self-in-Err
invariant_of-self-in-Err c =
    let tree = c.self.inside.tree in
    let free : map.get tree c.args.ino ≡ None = ap (λ t. map.get t c.args.ino) c.self.view_is ∙ c.requires.free in
    let files : HasRootFiles (with_file tree c.args.ino c.args.name.now) = subst (λ t. HasRootFiles (with_file t c.args.ino c.args.name.now)) (sym c.self.view_is) c.requires.files in
    let put = c.in_ok-put_file.ensures.added in
    kept_same tree c.remove.new.self c.self.inside.names c.put.new.self c.self.inside.counts c.self.invariant
    (c.remove.ensures.tree ∙ ap (λ t. map.remove t c.args.ino) put ∙ put_taken tree c.args.ino (new_row Regular c.args.ino ROOT c.in_ok-row_name.row_name) free)
    c.in-Err.ensures.err

pub invariant_of-self-2 : goal.invariant_of-self-2
invariant_of-self-2 c =
    let tree = c.self.inside.tree in
    let free : map.get tree c.args.ino ≡ None = ap (λ t. map.get t c.args.ino) c.self.view_is ∙ c.requires.free in
    let files : HasRootFiles (with_file tree c.args.ino c.args.name.now) = subst (λ t. HasRootFiles (with_file t c.args.ino c.args.name.now)) (sym c.self.view_is) c.requires.files in
    let put = c.in_ok-put_file.ensures.added in
    kept_with_file tree c.put_file.new.tree c.self.inside.names c.put.new.self c.self.inside.counts c.args.ino c.args.name.now c.in_ok-row_name.row_name c.in_ok-dir_name.dir_name c.slots_of.result free files c.self.invariant
    (c.in_ok-row_name.ensures) (c.in_ok-dir_name.ensures) c.slots_of.ensures put c.in_default.ensures.ok
