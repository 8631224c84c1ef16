use Rattle.std.proofs.Common.{◌≡◌, ℕ, List, [], sym, ap, subst, ◌∙◌}
use Rattle.std.specs.Ordering.{nat_cmp}
use Rattle.std.specs.FinMap as map
use Rattle.f2_model.specs.Tree.{ROOT}
use Rattle.f2_model.specs.declared.rows.Kind.TheVariants.{Directory}
use Rattle.f2_files.specs.Led.{Dirs, BindsNames}
use Rattle.f2_files.specs.Shape.{Shapes, new_shape}
use Rattle.f2_files.specs.declared.shapes.Shape.{Shape}
use Rattle.f2_files.proofs.Rooted.{shapes_root, dirs_root, binds_root}
use Rattle.f2_files.proofs.files.Files.root_alone.Goals as goal

pub invariant_of-result : goal.invariant_of-result
invariant_of-result c =
    let blank : Shape = new_shape Directory ROOT ROOT [] in
    let rows : c.put.new.self ≡ shapes_root =
    c.in_ok-put.ensures.ok
    ∙ ap (λ (m : Shapes). map.insert m ROOT (record blank { name = c.new.result; pages = c.new-2.result; nids = c.new-3.result })) c.new-shapes.ensures
    ∙ ap (λ (n : List ℕ). map.insert map.empty ROOT (record blank { name = n; pages = c.new-2.result; nids = c.new-3.result })) c.new.ensures
    ∙ ap (λ (p : map.FinMap nat_cmp ℕ). map.insert map.empty ROOT (record blank { pages = p; nids = c.new-3.result })) c.new-2.ensures
    ∙ ap (λ (p : map.FinMap nat_cmp ℕ). map.insert map.empty ROOT (record blank { nids = p })) c.new-3.ensures in
    let names : c.add.new.self ≡ dirs_root = c.in_ok-add.ensures.ok ∙ ap (λ (d : Dirs). map.insert d ROOT map.empty) c.new-directories.ensures in
    subst (λ (s : Shapes). BindsNames s c.add.new.self) (sym rows) (subst (BindsNames shapes_root) (sym names) binds_root)
