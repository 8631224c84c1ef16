-- Trees whose rows stand under their own inos and are no longer than their pages have room for.
use Rattle.std.proofs.Common.{◌≡◌, ℕ, zero, suc, ◌≤◌, max, Bool, true, false, cond, ◌||◌, List, [], ◌∷◌, refl, sym, ap, subst, ◌∙◌, arith, true≢false}
use Rattle.std.specs.Prelude.{Option, Some, None, Result, Ok, Err, nat_lt, All, if◌then◌else◌}
use Rattle.std.specs.List.{list_any}
use Rattle.std.specs.Ordering.{nat_cmp, eq_by_cmp}
use Rattle.std.specs.Cmp.{nat_cmp_total, unsigned_tied}
use Rattle.std.proofs.lemmas.Bool.{eqb-true, ltb-false}
use Rattle.std.specs.FinMap as map
use Rattle.std.specs.FinMap.{get-empty, get-insert, get-remove}
use Rattle.f2_model.specs.Content.{end_of, raised_size}
use Rattle.f2_model.specs.Tree.{Rows, ROOT, is_directory, child, stands_at, walked, walk, or_no_entry}
use Rattle.f2_model.specs.Call.{refusal, effect, on_row, walk_parent}
use Rattle.f2_model.specs.declared.bounds.Limits.{Limits}
use Rattle.f2_model.specs.declared.rows.Row.{Row}
use Rattle.f2_model.specs.declared.requests.Piece.{Piece}
use Rattle.f2_model.specs.declared.requests.Request.{Request}
use Rattle.f2_model.specs.declared.requests.Request.TheVariants.{Create, Mkdir, Write, Truncate, Unlink, Rmdir, Rename, Read, List as ListNames, Fsync, Sync}
use Rattle.f2_model.specs.declared.replies.Reply.{Reply}
use Rattle.f2_laws.proofs.Values.{value_found}
use Rattle.f2_laws.proofs.Passed.{passed}
use Rattle.f2_reference_calls.specs.Given.{IsFitting, WritesWithin}
use Rattle.f2_spans.specs.Spans.{MOST_SIZE}

-- a row of a tree
abbrev pub IsIn : Rows → Row → Type 0
IsIn tree row = (ino : ℕ) × (map.get tree ino ≡ Some row)

found_in : (tree : Rows) (o : Option Row) → ((row : Row) → o ≡ Some row → IsIn tree row) → (next : Row → Result Row Reply) → ((row : Row) → IsIn tree row → (end : Row) → next row ≡ Ok end → IsIn tree end) → (end : Row) → or_no_entry o next ≡ Ok end → IsIn tree end
found_in tree None here next there end h = absurd (cc)
found_in tree (Some row) here next there end h = there row (here row refl) end h

walked_in : (tree : Rows) (names : List (List ℕ)) (row : Row) → IsIn tree row → (end : Row) → walked tree names row ≡ Ok end → IsIn tree end
walked_in tree [] row here end h =
    let same : row ≡ end = cc in
    subst (λ (one : Row). IsIn tree one) same here
walked_in tree (name ∷ names) row here end h = by_kind (walked_in tree names) (is_directory row.kind) h
  where
    by_kind : ((row : Row) → IsIn tree row → (end : Row) → walked tree names row ≡ Ok end → IsIn tree end) → (b : Bool) → (if b then or_no_entry (child tree row.ino name) (walked tree names) else Err Rattle.f2_model.specs.declared.replies.Reply.TheVariants.NotDir) ≡ Ok end → IsIn tree end
    by_kind rest true h = found_in tree (child tree row.ino name) (λ found is. (value_found tree (stands_at row.ino name) found is).1) (walked tree names) rest end h
    by_kind rest false h = absurd (cc)

-- a walk ends at a row of the tree
pub walk_in : (tree : Rows) (path : List (List ℕ)) (end : Row) → walk tree path ≡ Ok end → IsIn tree end
walk_in tree path end h = found_in tree (map.get tree ROOT) (λ row is. (ROOT, is)) (walked tree path) (walked_in tree path) end h

pub short_end : (tree : Rows) (path : List (List ℕ)) (end : Row) → IsFitting tree → walk tree path ≡ Ok end → end.size ≤ MOST_SIZE
short_end tree path end fitting h =
    let here = walk_in tree path end h in
    fitting.short here.0 end here.1

neither : (a b : Bool) → (a || b) ≡ false → (a ≡ false) × (b ≡ false)
neither true b h = absurd (true≢false h)
neither false b h = (refl, h)

-- pieces of which none ends past a size
pub none_past : (size most : ℕ) (pieces : List Piece) → size ≤ most → list_any (λ piece. nat_lt size (end_of piece)) pieces ≡ false → All (λ piece. end_of piece ≤ most) pieces
none_past size most [] below none k d inside = absurd (omega arith)
none_past size most (piece ∷ pieces) below none zero d inside =
    let ends : end_of piece ≤ size = ltb-false size (end_of piece) (neither (nat_lt size (end_of piece)) _ none).0 in
    omega arith
none_past size most (piece ∷ pieces) below none (suc k) d inside = none_past size most pieces below (neither (nat_lt size (end_of piece)) _ none).1 k d (omega arith)

raised_short : (most size : ℕ) (pieces : List Piece) → size ≤ most → All (λ piece. end_of piece ≤ most) pieces → raised_size size pieces ≤ most
raised_short most size [] short ends = short
raised_short most size (piece ∷ pieces) short ends =
    let first : end_of piece ≤ most = ends 0 piece (omega arith) in
    raised_short most (max size (end_of piece)) pieces (omega arith) (λ k d inside. ends (suc k) d (omega arith))

-- a row put under its ino, and one taken out
pub fitting_put : (tree : Rows) (row : Row) (ino : ℕ) → IsFitting tree → row.ino ≡ ino → row.size ≤ MOST_SIZE → IsFitting (map.insert tree ino row)
fitting_put tree row ino fitting own short = record {
  keyed = λ q one is. (by_tie q one (eq_by_cmp nat_cmp q ino) refl (sym (get-insert nat_cmp_total tree ino row q) ∙ is)).0;
  short = λ q one is. (by_tie q one (eq_by_cmp nat_cmp q ino) refl (sym (get-insert nat_cmp_total tree ino row q) ∙ is)).1;
}
  where
    by_tie : (q : ℕ) (one : Row) (b : Bool) → eq_by_cmp nat_cmp q ino ≡ b → cond (eq_by_cmp nat_cmp q ino) (Some row) (map.get tree q) ≡ Some one → (one.ino ≡ q) × (one.size ≤ MOST_SIZE)
    by_tie q one true t is =
        let put : Some row ≡ Some one = sym (ap (λ b. cond b (Some row) (map.get tree q)) t) ∙ is in
        let same : row ≡ one = cc in
        (sym (ap (λ (r : Row). r.ino) same) ∙ own ∙ sym (eqb-true q ino (sym (unsigned_tied q ino) ∙ t)), subst (λ (r : Row). r.size ≤ MOST_SIZE) same short)
    by_tie q one false t is =
        let there : map.get tree q ≡ Some one = sym (ap (λ b. cond b (Some row) (map.get tree q)) t) ∙ is in
        (fitting.keyed q one there, fitting.short q one there)

pub fitting_taken : (tree : Rows) (ino : ℕ) → IsFitting tree → IsFitting (map.remove tree ino)
fitting_taken tree ino fitting = record {
  keyed = λ q one is. fitting.keyed q one (by_tie q one (eq_by_cmp nat_cmp q ino) refl (sym (get-remove nat_cmp_total tree ino q) ∙ is));
  short = λ q one is. fitting.short q one (by_tie q one (eq_by_cmp nat_cmp q ino) refl (sym (get-remove nat_cmp_total tree ino q) ∙ is));
}
  where
    by_tie : (q : ℕ) (one : Row) (b : Bool) → eq_by_cmp nat_cmp q ino ≡ b → cond (eq_by_cmp nat_cmp q ino) None (map.get tree q) ≡ Some one → map.get tree q ≡ Some one
    by_tie q one true t is =
        let none : None ≡ Some one = sym (ap (λ b. cond b None (map.get tree q)) t) ∙ is in
        absurd (cc)
    by_tie q one false t is = sym (ap (λ b. cond b None (map.get tree q)) t) ∙ is

fitting_on : (tree : Rows) (end : Result Row Reply) (change : Row → Rows) → IsFitting tree → ((row : Row) → end ≡ Ok row → IsFitting (change row)) → IsFitting (on_row tree end change)
fitting_on tree (Ok row) change fitting next = next row refl
fitting_on tree (Err refused) change fitting next = fitting

-- the pieces of a write that isn't refused end within the longest file, and so does the size of a truncate
pub pieces_within : (limits : Limits) (tree : Rows) (path : List (List ℕ)) (pieces : List Piece) → limits.size ≤ MOST_SIZE → refusal limits tree (Write path pieces) ≡ None → All (λ piece. end_of piece ≤ MOST_SIZE) pieces
pieces_within limits tree path pieces size none = none_past limits.size MOST_SIZE pieces size (passed limits tree (Write path pieces) none).fits

pub size_within : (limits : Limits) (tree : Rows) (path : List (List ℕ)) (to : ℕ) → limits.size ≤ MOST_SIZE → refusal limits tree (Truncate path to) ≡ None → to ≤ MOST_SIZE
size_within limits tree path to size none =
    let within : to ≤ limits.size = ltb-false limits.size to (passed limits tree (Truncate path to) none).fits in
    omega arith

-- what a call that isn't refused writes ends within the longest file
pub writes_within : (limits : Limits) (tree : Rows) (request : Request) → limits.size ≤ MOST_SIZE → refusal limits tree request ≡ None → WritesWithin MOST_SIZE request
writes_within limits tree (Create path) size none = tt
writes_within limits tree (Mkdir path) size none = tt
writes_within limits tree (Write path pieces) size none = pieces_within limits tree path pieces size none
writes_within limits tree (Truncate path to) size none = tt
writes_within limits tree (Unlink path) size none = tt
writes_within limits tree (Rmdir path) size none = tt
writes_within limits tree (Rename from to) size none = tt
writes_within limits tree (Read path off len) size none = tt
writes_within limits tree (ListNames path) size none = tt
writes_within limits tree (Fsync path) size none = tt
writes_within limits tree Sync size none = tt

-- a call that isn't refused leaves such a tree
pub fitting_after : (limits : Limits) (tree : Rows) (request : Request) (ino : ℕ) → IsFitting tree → limits.size ≤ MOST_SIZE → refusal limits tree request ≡ None → IsFitting (effect tree request ino)
fitting_after limits tree (Create path) ino fitting size none = fitting_on tree (walk_parent tree path) _ fitting (λ up is. fitting_put tree _ ino fitting refl (omega arith))
fitting_after limits tree (Mkdir path) ino fitting size none = fitting_on tree (walk_parent tree path) _ fitting (λ up is. fitting_put tree _ ino fitting refl (omega arith))
fitting_after limits tree (Write path pieces) ino fitting size none = fitting_on tree (walk tree path) _ fitting (λ row is.
    fitting_put tree _ row.ino fitting refl (raised_short MOST_SIZE row.size pieces (short_end tree path row fitting is) (pieces_within limits tree path pieces size none)))
fitting_after limits tree (Truncate path to) ino fitting size none = fitting_on tree (walk tree path) _ fitting (λ row is.
    fitting_put tree _ row.ino fitting refl (size_within limits tree path to size none))
fitting_after limits tree (Unlink path) ino fitting size none = fitting_on tree (walk tree path) _ fitting (λ row is. fitting_taken tree row.ino fitting)
fitting_after limits tree (Rmdir path) ino fitting size none = fitting_on tree (walk tree path) _ fitting (λ row is. fitting_taken tree row.ino fitting)
fitting_after limits tree (Rename from to) ino fitting size none = fitting_on tree (walk tree from) _ fitting (λ row is.
    fitting_on tree (walk_parent tree to) _ fitting (λ up at. fitting_put tree _ row.ino fitting refl (short_end tree from row fitting is)))
fitting_after limits tree (Read path off len) ino fitting size none = fitting
fitting_after limits tree (ListNames path) ino fitting size none = fitting
fitting_after limits tree (Fsync path) ino fitting size none = fitting
fitting_after limits tree Sync ino fitting size none = fitting

pub fitting_none : IsFitting map.empty
fitting_none = record {
  keyed = λ ino row is. let none : None ≡ Some row = sym (get-empty nat_cmp ino) ∙ is in absurd (cc);
  short = λ ino row is. let none : None ≡ Some row = sym (get-empty nat_cmp ino) ∙ is in absurd (cc);
}
