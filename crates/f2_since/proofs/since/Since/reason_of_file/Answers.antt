use Rattle.std.proofs.Common.{◌∙◌, true, false, refl, sym, ap}
use Rattle.f2_model.specs.Fallback.{lacks_room}
use Rattle.f2_since.proofs.Holding.{file_root}
use Rattle.f2_since.proofs.Ordered.{in_order, alike, live_there, moved_same, shrunk_same}
use Rattle.f2_since.proofs.since.Since.reason_of_file.Goals as goal

pub returns-then-has_moved : goal.returns-then-has_moved
returns-then-has_moved c state row known is runs at live kind =
    let moved = sym c.if-has_moved.true ∙ c.has_moved.ensures ∙ moved_same c.args.files.now state c.args.shape.now row known at live in
    in_order c.args.limits state row true _ _ _ _ kind moved refl refl refl refl

pub returns-then-is_parent_new : goal.returns-then-is_parent_new
returns-then-is_parent_new c state row known is runs at live kind =
    let moved = sym c.if-has_moved.false ∙ c.has_moved.ensures ∙ moved_same c.args.files.now state c.args.shape.now row known at live in
    let here = live_there c.args.files.now state c.args.shape.now row known at live in
    let parent = sym c.if-is_parent_new.true ∙ c.is_parent_new.ensures.exact state row is runs here (sym (alike c.args.files.now state c.args.shape.now row known at live).parent) in
    in_order c.args.limits state row false true _ _ _ kind moved parent refl refl refl

pub returns-then-is_name_taken : goal.returns-then-is_name_taken
returns-then-is_name_taken c state row known is runs at live kind =
    let moved = sym c.if-has_moved.false ∙ c.has_moved.ensures ∙ moved_same c.args.files.now state c.args.shape.now row known at live in
    let here = live_there c.args.files.now state c.args.shape.now row known at live in
    let parent = sym c.if-is_parent_new.false ∙ c.is_parent_new.ensures.exact state row is runs here (sym (alike c.args.files.now state c.args.shape.now row known at live).parent) in
    let root = file_root c.args.self.now state row is runs here kind in
    let name = sym c.if-is_name_taken.true ∙ c.is_name_taken.ensures state row is runs here root (sym (alike c.args.files.now state c.args.shape.now row known at live).parent) (sym (alike c.args.files.now state c.args.shape.now row known at live).name) in
    in_order c.args.limits state row false false true _ _ kind moved parent name refl refl

pub returns-then-has_shrunk : goal.returns-then-has_shrunk
returns-then-has_shrunk c state row known is runs at live kind =
    let moved = sym c.if-has_moved.false ∙ c.has_moved.ensures ∙ moved_same c.args.files.now state c.args.shape.now row known at live in
    let here = live_there c.args.files.now state c.args.shape.now row known at live in
    let parent = sym c.if-is_parent_new.false ∙ c.is_parent_new.ensures.exact state row is runs here (sym (alike c.args.files.now state c.args.shape.now row known at live).parent) in
    let root = file_root c.args.self.now state row is runs here kind in
    let name = sym c.if-is_name_taken.false ∙ c.is_name_taken.ensures state row is runs here root (sym (alike c.args.files.now state c.args.shape.now row known at live).parent) (sym (alike c.args.files.now state c.args.shape.now row known at live).name) in
    let shrunk = sym c.if-has_shrunk.true ∙ c.has_shrunk.ensures ∙ shrunk_same c.args.files.now state c.args.shape.now row known at live in
    in_order c.args.limits state row false false false true _ kind moved parent name shrunk refl

pub returns-then-branch : goal.returns-then-branch
returns-then-branch c state row known is runs at live kind =
    let moved = sym c.if-has_moved.false ∙ c.has_moved.ensures ∙ moved_same c.args.files.now state c.args.shape.now row known at live in
    let here = live_there c.args.files.now state c.args.shape.now row known at live in
    let parent = sym c.if-is_parent_new.false ∙ c.is_parent_new.ensures.exact state row is runs here (sym (alike c.args.files.now state c.args.shape.now row known at live).parent) in
    let root = file_root c.args.self.now state row is runs here kind in
    let name = sym c.if-is_name_taken.false ∙ c.is_name_taken.ensures state row is runs here root (sym (alike c.args.files.now state c.args.shape.now row known at live).parent) (sym (alike c.args.files.now state c.args.shape.now row known at live).name) in
    let shrunk = sym c.if-has_shrunk.false ∙ c.has_shrunk.ensures ∙ shrunk_same c.args.files.now state c.args.shape.now row known at live in
    let room = sym c.if-branch.true ∙ c.in_ok-lacks_room.ensures state known is runs at ((alike c.args.files.now state c.args.shape.now row known at live).kind ∙ kind) ∙ ap (lacks_room c.args.limits state) (alike c.args.files.now state c.args.shape.now row known at live).ino in
    in_order c.args.limits state row false false false false true kind moved parent name shrunk room

pub returns : goal.returns
returns c state row known is runs at live kind =
    let moved = sym c.if-has_moved.false ∙ c.has_moved.ensures ∙ moved_same c.args.files.now state c.args.shape.now row known at live in
    let here = live_there c.args.files.now state c.args.shape.now row known at live in
    let parent = sym c.if-is_parent_new.false ∙ c.is_parent_new.ensures.exact state row is runs here (sym (alike c.args.files.now state c.args.shape.now row known at live).parent) in
    let root = file_root c.args.self.now state row is runs here kind in
    let name = sym c.if-is_name_taken.false ∙ c.is_name_taken.ensures state row is runs here root (sym (alike c.args.files.now state c.args.shape.now row known at live).parent) (sym (alike c.args.files.now state c.args.shape.now row known at live).name) in
    let shrunk = sym c.if-has_shrunk.false ∙ c.has_shrunk.ensures ∙ shrunk_same c.args.files.now state c.args.shape.now row known at live in
    let room = sym c.if-branch.false ∙ c.in_ok-lacks_room.ensures state known is runs at ((alike c.args.files.now state c.args.shape.now row known at live).kind ∙ kind) ∙ ap (lacks_room c.args.limits state) (alike c.args.files.now state c.args.shape.now row known at live).ino in
    in_order c.args.limits state row false false false false false kind moved parent name shrunk room
