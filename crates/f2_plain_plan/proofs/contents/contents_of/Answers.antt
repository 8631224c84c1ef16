use Rattle.std.proofs.Common.{◌∙◌, ◌≤◌, ℕ, List, map as map_list, sym, subst, ap, refl}
use Rattle.std.specs.Prelude.{slice_get}
use Rattle.std.specs.FinMap as map
use Rattle.f2_dentry_block.specs.Dents.{dentry_of}
use Rattle.f2_format.specs.Offsets.{inode_pages}
use Rattle.f2_format.specs.Packing.{blocks_of_names}
use Rattle.f2_laid.specs.Laid.{file, directory}
use Rattle.f2_model.specs.Count.{data_of_kind}
use Rattle.f2_plain_plan.specs.Directories.{dents_in}
use Rattle.f2_plain_plan.proofs.Counts.{pages_before-map, pages_before-blocks}
use Rattle.f2_plain_plan.proofs.Dentries.{are_dentries}
use Rattle.f2_plain_plan.proofs.contents.contents_of.Goals as goal

pub returns-in-Regular : goal.returns-in-Regular
returns-in-Regular c geom tree storable names there =
    let row = c.args.row.now in
    record {
      holds = file c.in-Regular.is (λ page low. refl);
      count = pages_before-map row.pages inode_pages (λ page bytes found. storable.short_files row.ino page row bytes there found) ∙ sym (ap (λ kind. data_of_kind kind (map.values tree) row) c.in-Regular.is);
    }

pub returns-in_ok-blocks_of-in-Directory : goal.returns-in_ok-blocks_of-in-Directory
returns-in_ok-blocks_of-in-Directory c geom tree storable names there =
    let row = c.args.row.now in
    let dentries = map_list dentry_of (dents_in c.args.directories.now row.ino) in
    let are = are_dentries geom tree storable c.args.directories.now names row.ino in
    let count = c.in_ok-blocks_of-in-Directory.ensures.count ∙ ap blocks_of_names are.names in
    let few = subst (λ n. n ≤ inode_pages) (sym count) (storable.short_directories row.ino row there c.in-Directory.is) in
    record {
      holds = directory dentries c.in-Directory.is are (λ page low. ap (λ (blocks : List (List ℕ)). slice_get blocks page) c.in_ok-blocks_of-in-Directory.ensures.blocks);
      count = pages_before-blocks c.in_ok-blocks_of-in-Directory.field-0.items inode_pages few ∙ count ∙ sym (ap (λ kind. data_of_kind kind (map.values tree) row) c.in-Directory.is);
    }
