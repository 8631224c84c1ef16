use Rattle.std.proofs.Common.{◌≡◌, ◌+◌, drop, get_or, sym, ap, subst, ◌∙◌}
use Rattle.std.proofs.lemmas.List.{at_drop_all}
use Rattle.std.specs.List.{flat_map}
use Rattle.std.specs.FinSet as set
use Rattle.f2_format.specs.Offsets.{nodes_of_page}
use Rattle.f2_reference_calls.specs.Given.{StandOnce, set_of, with_all}
use Rattle.f2_reference_calls.proofs.Counted.{of_inode, once-none, way_adds, no_way, next_page, root_stays, root_in, counted}
use Rattle.f2_reference_calls.proofs.counts.node_count.Goals as goal
use Rattle.f2_reference_calls.proofs.counts.node_count.Goals.{in-Some+in_ok-add_offsets, in_default}

pub add_offset-requires : goal.add_offset-requires
add_offset-requires c = subst StandOnce (sym c.new-offsets.ensures.items) once-none

pub loop-page-init : goal.loop-page-init
loop-page-init c =
    let inode : set_of c.add_offset.new.offsets.items ≡ of_inode = c.in_ok-add_offset.ensures.added ∙ ap (λ offsets. set.insert (set_of offsets) 0) c.new-offsets.ensures.items in
    record {
      once = c.in_ok-add_offset.ensures.once;
      root = ap (λ offsets. set.contains offsets 0) inode ∙ root_in;
      added = ap (λ offsets. with_all offsets (flat_map nodes_of_page c.args.pages.now)) inode;
    }

pub loop-page-preserved : goal.loop-page-preserved
loop-page-preserved c =
    let offsets = set_of c.loop-page.offsets.items in
    let pages = c.args.pages.now in
    let i = c.loop-page.page-index in
    let page = get_or pages i 0 in
    let left = flat_map nodes_of_page (drop (i + 1) pages) in
    let next = sym (next_page offsets pages i c.loop-page-test.true) ∙ c.loop-page.invariant.added in
    elim c.match-path_of.branch [
      | in-Some+in_ok-add_offsets w ↦
          let put : set_of c.match-path_of.offsets.items ≡ with_all offsets (nodes_of_page page) =
          ap (λ offsets. set_of offsets.items) w.offsets-is ∙ w.in_ok-add_offsets.ensures.added
          ∙ way_adds offsets page w.in-Some.route c.loop-page.invariant.root w.in-Some.ensures in
          record {
            once = subst (λ offsets. StandOnce offsets.items) (sym w.offsets-is) w.in_ok-add_offsets.ensures.once;
            root = ap (λ offsets. set.contains offsets 0) put ∙ root_stays offsets (nodes_of_page page) c.loop-page.invariant.root;
            added = ap (λ offsets. with_all offsets left) put ∙ next;
          }
      | in_default w ↦
          let none = no_way page w.in_default.ensures in
          record {
            once = subst (λ offsets. StandOnce offsets.items) (sym w.offsets-is) c.loop-page.invariant.once;
            root = ap (λ offsets. set.contains (set_of offsets.items) 0) w.offsets-is ∙ c.loop-page.invariant.root;
            added = ap (λ offsets. with_all (set_of offsets.items) left) w.offsets-is ∙ sym (ap (λ nodes. with_all (with_all offsets nodes) left) none) ∙ next;
          }
    ]

pub returns : goal.returns
returns c =
    let offsets = set_of c.loop-page.offsets.items in
    c.len.ensures ∙ c.loop-page.offsets.ok.0 ∙ c.loop-page.invariant.once
    ∙ ap set.len (sym (at_drop_all (λ left. with_all offsets (flat_map nodes_of_page left)) c.args.pages.now c.loop-page.page-index c.loop-page-test.false) ∙ c.loop-page.invariant.added ∙ counted c.args.pages.now)
