use Rattle.std.proofs.Common.{◌≡◌, ◌∙◌, List, [], map as map_list, length, ap, sym, subst, All, IfOk}
use Rattle.std.specs.Option.{unwrap_or}
use Rattle.std.specs.FinMap as map
use Rattle.f2_dentry_block.specs.Dents.{dentry_of}
use Rattle.f2_dentry_block.specs.Packed.{HasNameLength, names_of, packed_blocks}
use Rattle.f2_dentry_block.specs.declared.dents.Dent.{Dent}
use Rattle.f2_dir.specs.Entries.{dents_of}
use Rattle.f2_dir.proofs.Listed.{dent_of}
use Rattle.f2_format.specs.Packing.{blocks_of_names}
use Rattle.f2_model.proofs.MapViews.{lookup-seen}
use Rattle.f2_plain_plan.proofs.NameMaps.{no_entries}
use Rattle.f2_plain_plan.proofs.directories.Directories.blocks_of.Goals as goal

pub pack-requires : goal.pack-requires
pack-requires c =
    let there = sym (lookup-seen _ _ c.self.view_is c.args.directory) ∙ sym c.in-Some.ensures.value in
    let is = c.as_slice.ensures.value ∙ c.in_ok-dents-in-Some.ensures ∙ ap (λ o. dents_of (unwrap_or o map.empty)) (sym there) in
    subst (All (λ (dent : Dent). HasNameLength dent.name)) (sym is) c.requires

pub returns-in_ok-dents-in-Some-clause-blocks : goal.returns-in_ok-dents-in-Some-clause-blocks
returns-in_ok-dents-in-Some-clause-blocks c =
    let there = sym (lookup-seen _ _ c.self.view_is c.args.directory) ∙ sym c.in-Some.ensures.value in
    let is = c.as_slice.ensures.value ∙ c.in_ok-dents-in-Some.ensures ∙ ap (λ o. dents_of (unwrap_or o map.empty)) (sym there) in
    subst (λ (dents : List Dent). IfOk c.pack.result (λ blocks. blocks.items ≡ packed_blocks (map_list dentry_of dents))) is c.pack.ensures.blocks

pub returns-in_ok-dents-in-Some-clause-count : goal.returns-in_ok-dents-in-Some-clause-count
returns-in_ok-dents-in-Some-clause-count c =
    let there = sym (lookup-seen _ _ c.self.view_is c.args.directory) ∙ sym c.in-Some.ensures.value in
    let is = c.as_slice.ensures.value ∙ c.in_ok-dents-in-Some.ensures ∙ ap (λ o. dents_of (unwrap_or o map.empty)) (sym there) in
    subst (λ (dents : List Dent). IfOk c.pack.result (λ blocks. length blocks.items ≡ blocks_of_names (names_of (map_list dentry_of dents)))) is c.pack.ensures.count

no_dents : dents_of map.empty ≡ []
no_dents = ap (map_list dent_of) no_entries

pub returns-in-None-clause-blocks : goal.returns-in-None-clause-blocks
returns-in-None-clause-blocks c =
    let none = sym (lookup-seen _ _ c.self.view_is c.args.directory) ∙ sym c.in-None.ensures.value in
    let is = ap (λ o. dents_of (unwrap_or o map.empty)) none ∙ no_dents in
    c.new.ensures.items ∙ sym (ap (λ (dents : List Dent). packed_blocks (map_list dentry_of dents)) is)

pub returns-in-None-clause-count : goal.returns-in-None-clause-count
returns-in-None-clause-count c =
    let none = sym (lookup-seen _ _ c.self.view_is c.args.directory) ∙ sym c.in-None.ensures.value in
    let is = ap (λ o. dents_of (unwrap_or o map.empty)) none ∙ no_dents in
    ap length c.new.ensures.items ∙ sym (ap (λ (dents : List Dent). blocks_of_names (names_of (map_list dentry_of dents))) is)
