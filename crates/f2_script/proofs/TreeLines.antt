-- The rows of a directory as a map that grows, and the lines of a row, a level down.
use Rattle.std.proofs.Common.{◌≡◌, ℕ, zero, suc, ◌-◌, ◌<◌, ◌∙◌, refl, sym, ap, append_assoc, arith, if◌then◌else◌, Bor, List, [], ◌∷◌, ◌++◌, length, map as map_list}
use Rattle.std.specs.List.{flat_map}
use Rattle.std.specs.Ordering.{nat_cmp, match_ordering}
use Rattle.std.specs.declared.cmp.Ordering.{Ordering}
use Rattle.std.specs.declared.cmp.Ordering.TheVariants.{Less, Equal, Greater}
use Rattle.std.specs.Cmp.Lexicographic.{slice_cmp, nat_list_cmp_total}
use Rattle.std.specs.BTreeMap.{insert_entry}
use Rattle.std.specs.FinMap as map
use Rattle.std.specs.FinMap.{len-empty, len-entries, entries-insert}
use Rattle.std.specs.FinMap.Entries.{put, by_order}
use Rattle.f2_model.specs.Tree.{Rows, is_directory}
use Rattle.f2_model.specs.declared.rows.Row.{Row}
use Rattle.f2_model.specs.declared.rows.Kind.TheVariants.{Directory}
use Rattle.f2_script.specs.Trees.{row_line, child_path, rows_in, lines_below}

-- rows by their names, as they are borrowed
abbrev pub shown : List (Bor (List ℕ) × Bor Row) → List (List ℕ × Row)
shown es = map_list (λ e. (e.0.now, e.1.now)) es

abbrev pub named_cmp : Bor (List ℕ) → Bor (List ℕ) → Ordering
named_cmp a b = slice_cmp nat_cmp a.now b.now

shown-insert_entry : (es : List (Bor (List ℕ) × Bor Row)) (k : Bor (List ℕ)) (v : Bor Row) → shown (insert_entry named_cmp es k v) ≡ put (slice_cmp nat_cmp) k.now v.now (shown es)
shown-insert_entry [] k v = refl
shown-insert_entry (e ∷ es) k v =
    elim (named_cmp k e.0) as (λ o. shown (match_ordering o ((k, v) ∷ e ∷ es) ((e.0, v) ∷ es) (e ∷ insert_entry named_cmp es k v)) ≡ by_order o ((k.now, v.now) ∷ shown (e ∷ es)) ((e.0.now, v.now) ∷ shown es) ((e.0.now, e.1.now) ∷ put (slice_cmp nat_cmp) k.now v.now (shown es))) [
      | Less ↦ refl
      | Equal ↦ refl
      | Greater ↦ ap (λ rest. (e.0.now, e.1.now) ∷ rest) (shown-insert_entry es k v)
    ]

-- a row more among the rows of a directory
pub shown_more : (es : List (Bor (List ℕ) × Bor Row)) (m : map.FinMap (slice_cmp nat_cmp) Row) (k : Bor (List ℕ)) (v : Bor Row) → shown es ≡ map.entries m → shown (insert_entry named_cmp es k v) ≡ map.entries (map.insert m k.now v.now)
shown_more es m k v e = shown-insert_entry es k v ∙ ap (put (slice_cmp nat_cmp) k.now v.now) e ∙ sym (entries-insert nat_list_cmp_total m k.now v.now)

no_items : {A : Type 0} (es : List A) → length es ≡ 0 → [] ≡ es
no_items [] e = refl
no_items (x ∷ es) e = absurd (omega arith)

-- no row yet
pub none_shown : [] ≡ map.entries (map.empty {X = Row} {R = slice_cmp nat_cmp})
none_shown = no_items _ (sym (len-entries _) ∙ len-empty (slice_cmp nat_cmp) Row)

shown-values : (es : List (Bor (List ℕ) × Bor Row)) → map_list (λ row. row.now) (map_list (λ e. e.1) es) ≡ map_list (λ e. e.1) (shown es)
shown-values [] = refl
shown-values (e ∷ es) = ap (λ rows. e.1.now ∷ rows) (shown-values es)

-- the lines of rows a level further down
abbrev pub lines_in : ℕ → Rows → List ℕ → List Row → List ℕ
lines_in levels tree path rows = flat_map (λ child. lines_below (levels - 1) tree (child_path path child) child) rows

lines-levels : (levels : ℕ) (tree : Rows) (path : List ℕ) (row : Row) → 0 < levels → lines_below levels tree path row ≡ row_line path row ++ (if is_directory row.kind then lines_in levels tree path (map.values (rows_in tree row.ino)) else [])
lines-levels zero tree path row some = absurd (omega arith)
lines-levels (suc levels) tree path row some =
    let e : suc levels - 1 ≡ levels = omega arith in
    rw e refl

-- the lines of a directory, from the rows that were found in it
pub lines-found : (levels : ℕ) (tree : Rows) (path : List ℕ) (row : Row) (es : List (Bor (List ℕ) × Bor Row)) → 0 < levels → row.kind ≡ Directory → shown es ≡ map.entries (rows_in tree row.ino) → row_line path row ++ lines_in levels tree path (map_list (λ row. row.now) (map_list (λ e. e.1) es)) ≡ lines_below levels tree path row
lines-found levels tree path row es some kind found =
    ap (λ rows. row_line path row ++ lines_in levels tree path rows) (shown-values es ∙ ap (map_list (λ e. e.1)) found)
    ∙ ap (λ kind. row_line path row ++ (if is_directory kind then lines_in levels tree path (map.values (rows_in tree row.ino)) else [])) (sym kind)
    ∙ sym (lines-levels levels tree path row some)

-- a line and what follows it, at the end of a text
pub text-after : (text new line rest all : List ℕ) → new ≡ text ++ line → line ++ rest ≡ all → new ++ rest ≡ text ++ all
text-after text new line rest all e f = ap (λ start. start ++ rest) e ∙ append_assoc text line rest ∙ ap (λ end. text ++ end) f
