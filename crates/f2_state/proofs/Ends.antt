-- What stands at the end of a path that a call isn't refused for.
use Rattle.std.proofs.Common.{◌≡◌, ℕ, ◌+◌, ◌≤◌, min, true, false, List, ap, sym, ◌∙◌}
use Rattle.std.specs.Prelude.{Option, Some, None, Result, Ok, Err}
use Rattle.std.specs.FinMap as map
use Rattle.f2_disk.specs.Contents.{Contents}
use Rattle.f2_format.specs.Inode.{SIZE_LIMIT}
use Rattle.f2_image_laws.specs.Rolled.{image_limits}
use Rattle.f2_model.specs.Call.{refusal, row_passes, answer, bytes_told, names_told}
use Rattle.f2_model.specs.Content.{bytes_between}
use Rattle.f2_model.specs.State.{State}
use Rattle.f2_model.specs.Tree.{Rows, IsGoodTree, is_directory, walk}
use Rattle.f2_model.specs.declared.bounds.Limits.{Limits}
use Rattle.f2_model.specs.declared.replies.Reply.{Reply}
use Rattle.f2_model.specs.declared.replies.Reply.TheVariants.{Bytes, Names}
use Rattle.f2_model.specs.declared.requests.Request.TheVariants.{Read, List as ListNames}
use Rattle.f2_model.specs.declared.rows.Kind.{Kind}
use Rattle.f2_model.specs.declared.rows.Kind.TheVariants.{Regular, Directory}
use Rattle.f2_model.specs.declared.rows.Row.{Row}
use Rattle.f2_laws.proofs.Passed.{passed, walk_ok, directory_ok, regular}
use Rattle.f2_files.specs.Led.{ino_at}
use Rattle.f2_files.specs.Shape.{IsShapeOf}
use Rattle.f2_files.proofs.Leads.{rooted_good, walk_there}
use Rattle.f2_spans.specs.Spans.{MOST_SIZE}
use Rattle.f2_state.specs.Looks.{HasOfFile}
use Rattle.f2_state.specs.Seen.{Seen}
use Rattle.f2_state.specs.Standing.{StandsIn, is_between}
use Rattle.f2_state.proofs.Standing.{proper_at}

-- a row of some kind stands at the end of a path, and this is its ino
pub record IsEnd (tree : Rows) (path : List (List ℕ)) (kind : Kind) (ino : ℕ) : Type 0 where
  pub row : Row
  pub leads : walk tree path ≡ Ok row
  pub there : map.get tree ino ≡ Some row
  pub kind_is : row.kind ≡ kind

module _ (limits : Limits) (most : ℕ) (tree : Rows) (good : IsGoodTree most tree) (path : List (List ℕ)) (ino : ℕ) (led : Ok ino ≡ ino_at (walk tree path)) where
  ok_same : (a b : ℕ) → ◌≡◌ {A = Result ℕ Reply} (Ok a) (Ok b) → a ≡ b
  ok_same a b is = cc

  end_at : (kind : Kind) (row : Row) → walk tree path ≡ Ok row → row.kind ≡ kind → IsEnd tree path kind ino
  end_at kind row leads is = record {
    row = row;
    leads = leads;
    there = ap (λ i. map.get tree i) (ok_same ino row.ino (led ∙ ap ino_at leads)) ∙ walk_there tree (rooted_good most tree good) path row leads;
    kind_is = is;
  }

  pub list_end : refusal limits tree (ListNames path) ≡ None → IsEnd tree path Directory ino
  list_end unrefused =
      let end = directory_ok (walk tree path) (passed limits tree (ListNames path) unrefused).walks in
      end_at Directory end.0 end.1 end.2

  pub read_end : (off len : ℕ) → refusal limits tree (Read path off len) ≡ None → IsEnd tree path Regular ino
  read_end off len unrefused =
      let tests = passed limits tree (Read path off len) unrefused in
      let end = walk_ok (walk tree path) tests.walks in
      let file : is_directory end.0.kind ≡ false = sym (ap (row_passes (λ row. is_directory row.kind)) end.1) ∙ tests.file in
      end_at Regular end.0 end.1 (regular end.0.kind file)

-- a walk that stops
names_refused : (tree : Rows) (end : Result Row Reply) (refused : Reply) → Err refused ≡ ino_at end → refused ≡ names_told tree end
names_refused tree (Ok row) refused is = absurd (cc)
names_refused tree (Err other) refused is = cc

bytes_refused : (off len : ℕ) (end : Result Row Reply) (refused : Reply) → Err refused ≡ ino_at end → refused ≡ bytes_told off len end
bytes_refused off len (Ok row) refused is = absurd (cc)
bytes_refused off len (Err other) refused is = cc

module _ {D : Type 0} (told : Option Contents) (volume : Seen D) (from : State) (stands : StandsIn told volume from) (quiet : is_between from ≡ true) (path : List (List ℕ)) where
  good : IsGoodTree SIZE_LIMIT from.live
  good = (proper_at told volume from stands quiet).good

  -- what a list tells
  pub names_here : (ino : ℕ) (names : List (List ℕ)) → refusal (image_limits volume.geometry) from.live (ListNames path) ≡ None
      → ((most : ℕ) (tree : Rows) → IsGoodTree most tree → IsShapeOf volume.files.shapes tree → Ok ino ≡ ino_at (walk tree path))
      → ((most : ℕ) (tree : Rows) (row : Row) → IsGoodTree most tree → IsShapeOf volume.files.shapes tree → map.get tree ino ≡ Some row → row.kind ≡ Directory → Names names ≡ names_told tree (Ok row))
      → Names names ≡ answer from.live (ListNames path)
  names_here ino names unrefused led named =
      let end = list_end (image_limits volume.geometry) SIZE_LIMIT from.live good path ino (led SIZE_LIMIT from.live good stands.stands.at.known.shapes) unrefused in
      named SIZE_LIMIT from.live end.row good stands.stands.at.known.shapes end.there end.kind_is ∙ ap (names_told from.live) (sym end.leads)

  pub stopped_here : (refused : Reply) → ((most : ℕ) (tree : Rows) → IsGoodTree most tree → IsShapeOf volume.files.shapes tree → Err refused ≡ ino_at (walk tree path))
      → (refused ≡ answer from.live (ListNames path)) × ((off len : ℕ) → refused ≡ answer from.live (Read path off len))
  stopped_here refused led =
      let is = led SIZE_LIMIT from.live good stands.stands.at.known.shapes in
      (names_refused from.live (walk from.live path) refused is, λ off len. bytes_refused off len (walk from.live path) refused is)

  -- what a read tells
  pub bytes_here : (ino off len end : ℕ) (bytes : List ℕ) → refusal (image_limits volume.geometry) from.live (Read path off len) ≡ None
      → ((most : ℕ) (tree : Rows) → IsGoodTree most tree → IsShapeOf volume.files.shapes tree → Ok ino ≡ ino_at (walk tree path))
      → ((tree : Rows) (row : Row) → IsShapeOf volume.files.shapes tree → map.get tree ino ≡ Some row → row.size ≤ MOST_SIZE → end ≡ min (off + len) row.size)
      → HasOfFile told volume ino (λ row. bytes ≡ bytes_between row.pages off end)
      → Bytes bytes ≡ answer from.live (Read path off len)
  bytes_here ino off len end bytes unrefused led ends has =
      let file = read_end (image_limits volume.geometry) SIZE_LIMIT from.live good path ino (led SIZE_LIMIT from.live good stands.stands.at.known.shapes) off len unrefused in
      let end_is = ends from.live file.row stands.stands.at.known.shapes file.there (good.pages ino file.row file.there).size in
      ap Bytes (has from file.row stands quiet file.there file.kind_is ∙ ap (bytes_between file.row.pages off) end_is) ∙ ap (bytes_told off len) (sym file.leads)
