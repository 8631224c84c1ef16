use Rattle.std.proofs.Common.{◌≡◌, ◌∙◌, ◌-◌, ◌<◌, ◌++◌, length, sym, ap, rules, arith}
use Rattle.std.specs.List.{flat_map}
use Rattle.std.specs.FinMap as map
use Rattle.f2_model.specs.declared.rows.Kind.TheVariants.{Regular, Directory}
use Rattle.f2_recover.proofs.Telling.{reads_then, tells_on}
use Rattle.f2_script.specs.Text.{name_text}
use Rattle.f2_script.specs.Trees.{row_line}
use Rattle.f2_listing.proofs.DentLines.{lines_at, dent_lines, file_lines, directory_lines_below}
use Rattle.f2_listing.proofs.Growing.{found_row, found_names, line_added, text_after, lines_added, path_added, dent_added, none_left}
use Rattle.f2_listing.proofs.lines.+push_below.Goals as goal

pub returns-then-eq-clause-text : goal.returns-then-eq-clause-text
returns-then-eq-clause-text g t c image rows row tells is there =
    let some : 0 < c.args.levels = omega (arith, c.if-levels-eq0.false) in
    let kind : c.in-Some.row.now.kind ≡ Regular = search rules in
    let found = found_row image rows c.args.tree.now c.args.ino row c.in-Some.row.now is there c.in-Some.ensures in
    line_added c.args.text.now.items _ _ _ c.args.path.now row c.in_ok-push_shown.ensures (c.in_ok-push_kind.ensures.text image row tells found) c.in_ok-push.ensures.items
    ∙ ap (λ line. c.args.text.now.items ++ line) (sym (file_lines c.args.levels rows c.args.path.now row some (sym found.kind ∙ kind)))

pub loop-dent-init : goal.loop-dent-init
loop-dent-init g t c =
    let some : 0 < c.args.levels = omega (arith, c.if-levels-eq0.false) in
    let kind : c.in-Some.row.now.kind ≡ Directory = search rules in
    let items : c.into_iter-dent-iterator.result.rest.items ≡ c.in_ok-dent-items.dent-items.items = c.into_iter-dent-iterator.ensures.into_iter_gives.0 in
    record {
      reads = c.in_ok-push_kind.ensures.reads;
      text = λ image rows row tells is there.
          let found = found_row image rows c.args.tree.now c.args.ino row c.in-Some.row.now is there c.in-Some.ensures in
          let directory = sym found.kind ∙ kind in
          let names = found_names image rows c.args.tree.now c.args.ino row c.in-Some-get.names.now is there directory c.in-Some-get.ensures in
          text_after c.args.text.now.items _ (row_line c.args.path.now row) _ _
          (line_added c.args.text.now.items _ _ _ c.args.path.now row c.in_ok-push_shown.ensures (c.in_ok-push_kind.ensures.text image row tells found) c.in_ok-push.ensures.items)
          (ap (λ dents. row_line c.args.path.now row ++ flat_map (dent_lines (c.args.levels - 1) rows c.args.path.now) dents) (items ∙ c.in_ok-dent-items.ensures)
          ∙ directory_lines_below c.args.levels rows c.args.path.now row c.args.ino c.in-Some-get.names.now some directory (is.own c.args.ino row there) names is.own);
    }

pub loop-dent-preserved : goal.loop-dent-preserved
loop-dent-preserved g t c =
    let before = c.loop-dent.invariant in
    let dent = c.in-Some-dent.dent in
    let below = c.as_slice-in-loop-dent.ensures.value ∙ path_added c.args.path.now _ _ _ dent c.in_ok-below.ensures.items c.in_ok-push-2.ensures.items (c.in_ok-push_name.ensures ∙ ap (λ name. c.push-in-loop-dent.new.self.items ++ name_text name) c.as_slice.ensures) in
    record {
      reads = reads_then _ _ _ _ _ _ before.reads c.in_ok-push_below.ensures.reads;
      text = λ image rows row tells is there.
          let told = tells_on _ _ image before.reads.kept tells in
          dent_added (c.args.levels - 1) rows c.args.path.now c.loop-dent.text.items c.push_below.new.text.items _ dent c.next.new.self.rest.items c.loop-dent.dent-iterator.rest.items
          (lines_added (c.args.levels - 1) rows c.as_slice-in-loop-dent.result.now c.loop-dent.text.items c.push_below.new.text.items (map.get rows dent.ino) (λ child at. c.in_ok-push_below.ensures.text image rows child told is at) (λ at. c.in_ok-push_below.ensures.none image rows told is at)
          ∙ ap (λ path. c.loop-dent.text.items ++ lines_at (c.args.levels - 1) rows path (map.get rows dent.ino)) below)
          c.in-Some-dent.ensures.steps.0 (before.text image rows row tells is there);
    }

pub returns-clause-text : goal.returns-clause-text
returns-clause-text g t c image rows row tells is there =
    let left = c.loop-dent.dent-iterator.rest in
    let none : length left.items ≡ 0 = omega (arith, left.ok.0, c.in-None.ensures.steps.0) in
    none_left (c.args.levels - 1) rows c.args.path.now c.loop-dent.text.items _ left.items none (c.loop-dent.invariant.text image rows row tells is there)
