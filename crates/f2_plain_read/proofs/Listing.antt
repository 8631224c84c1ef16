-- The names of a directory of a tree that can be stored.
use Rattle.std.proofs.Common.{◌≡◌, ◌≢◌, ℕ, suc, ◌<◌, ◌==◌, Bool, true, false, cond, ◌||◌, List, [], ◌∷◌, map as map_list, length, refl, sym, ap, subst, ◌∙◌, arith, inl, inr, eq-eqb}
use Rattle.std.specs.Prelude.{Some, None, ◌⊎◌, ◌&&◌, not, nat_le, IsTrue, if◌then◌else◌}
use Rattle.std.specs.List.{All, AllByRecursion, flat_map, list_any, list_all, slice_get}
use Rattle.std.specs.List.Sorted.{IsStrictlySortedBy}
use Rattle.std.specs.Ordering.{nat_cmp, eq_by_cmp, is_eq, ordering_reverse}
use Rattle.std.specs.Cmp.Lexicographic.{slice_cmp}
use Rattle.std.specs.declared.cmp.Ordering.{Ordering}
use Rattle.std.specs.declared.cmp.Ordering.TheVariants.{Less, Equal, Greater}
use Rattle.std.specs.FinMap as map
use Rattle.std.specs.FinMap.{entries, get-entries, find, nat_cmp-IsAntisymmetric, slice_cmp-IsAntisymmetric}
use Rattle.std.specs.FinSet as set
use Rattle.std.proofs.lemmas.Bool.{leb-true, ne_eqb}
use Rattle.std.proofs.lemmas.Cmp.{nat_list_cmp_total}
use Rattle.std.proofs.lemmas.List.Elements.{All-weaker}
use Rattle.f2_dentry_block.specs.Packed.{names_of, packed_blocks, HasNameLength, IsFitting}
use Rattle.f2_dentry_block.proofs.PackedBlocks.{length-packed_blocks}
use Rattle.f2_dentry_block.proofs.ReadBack.{ReadsBack, packed-reads_back}
use Rattle.f2_format.specs.Dentry.{Dentry, dentries_of, dentry_fault, REGULAR_TYPE, DIRECTORY_TYPE}
use Rattle.f2_format.specs.Geometry.{ImageGeometry, IsGeometry}
use Rattle.f2_format.specs.Offsets.{inode_pages}
use Rattle.f2_format.specs.Packing.{blocks_of_names}
use Rattle.f2_image.specs.Images.{Image}
use Rattle.f2_image.specs.Faults.{type_of_kind}
use Rattle.f2_laws.proofs.Passed.{both_true}
use Rattle.f2_laid.specs.Laid.{IsStorable, IsBound, AreDentries, page_in}
use Rattle.f2_laid.specs.declared.places.Place.{Place}
use Rattle.f2_model.proofs.RisingLemmas.{rises, contains-rising}
use Rattle.f2_model.specs.Content.{PageMap}
use Rattle.f2_model.specs.Names.{is_good_name, is_name_byte, is_dots}
use Rattle.f2_model.specs.Rising.{rising}
use Rattle.f2_model.specs.Tree.{Rows, ROOT, is_in, names_in, names_under}
use Rattle.f2_model.specs.declared.rows.Row.{Row}
use Rattle.f2_model.specs.declared.rows.Kind.{Kind}
use Rattle.f2_model.specs.declared.rows.Kind.TheVariants.{Regular, Directory}
use Rattle.f2_reference_calls.proofs.Listed.{names_under-row}
use Rattle.f2_plain_read.specs.Files.{ArePagesAt, AreBlocks}
use Rattle.f2_plain_read.proofs.Standing.{one_some}

-- what holds of each element, from the front on
pub each_of : {X : Type 0} (P : X → Type 0) (xs : List X) → All P xs → AllByRecursion P xs
each_of P [] h = tt
each_of P (x ∷ xs) h = (h 0 x (omega arith), each_of P xs (λ k d below. h (suc k) d (omega arith)))

-- a good name has a length that a dentry can have
good_length : (name : List ℕ) → is_good_name name ≡ true → HasNameLength name
good_length name h =
    let a = both_true (nat_le 1 (length name) && nat_le (length name) 255 && list_all is_name_byte name) (not (is_dots name)) h in
    let b = both_true (nat_le 1 (length name) && nat_le (length name) 255) (list_all is_name_byte name) a.0 in
    let c = both_true (nat_le 1 (length name)) (nat_le (length name) 255) b.0 in
    record { some = leb-true 1 (length name) c.0; most = leb-true (length name) 255 c.1 }

-- a kind has one of two types
known_type : (kind : Kind) (type : ℕ) → type ≡ type_of_kind kind → (type ≡ REGULAR_TYPE) ⊎ (type ≡ DIRECTORY_TYPE)
known_type Regular type e = inl e
known_type Directory type e = inr e

abbrev pub name_cmp : List ℕ → List ℕ → Ordering
name_cmp = slice_cmp nat_cmp

not_less : (name : List ℕ) → name_cmp name name ≡ Less → ⊥
not_less name h = turned (name_cmp name name) h (nat_list_cmp_total.antisymm name name)
  where
    turned : (o : Ordering) → o ≡ Less → o ≡ ordering_reverse o → ⊥
    turned Less h e = absurd (cc)
    turned Equal h e = absurd (cc)
    turned Greater h e = absurd (cc)

-- no two dentries have one ino
abbrev pub AreApart : List Dentry → Type 0
AreApart [] = Unit {0}
AreApart (dentry ∷ rest) = AllByRecursion (λ (other : Dentry). other.ino ≢ dentry.ino) rest × AreApart rest

-- the name of a row in a directory is among those of the rows
module _ (directory : ℕ) (p : List ℕ → Bool) where
  abbrev any_under : List Row → Bool
  any_under rows = list_any p (names_under rows directory)

  in_there : (row : Row) → row.ino ≢ ROOT → row.parent ≡ directory → is_in directory row ≡ true
  in_there row other up =
      ap (λ (b : Bool). list_any (λ (at : ℕ × List ℕ). at.0 == directory) (if b then [] else ((row.parent, row.name) ∷ []))) (ne_eqb row.ino ROOT other)
      ∙ subst (λ (n : ℕ). ((n == directory) || false) ≡ true) (sym up) (same_number directory)
    where
      same_number : (n : ℕ) → ((n == n) || false) ≡ true
      same_number n = ap (λ (b : Bool). b || false) (eq-eqb n n refl)

  first_of : (row : Row) (rows : List Row) → row.ino ≢ ROOT → row.parent ≡ directory → p row.name ≡ true → any_under (row ∷ rows) ≡ true
  first_of row rows other up passes =
      ap (list_any p) (names_under-row row rows directory ∙ ap (λ (b : Bool). if b then row.name ∷ names_under rows directory else names_under rows directory) (in_there row other up))
      ∙ ap (λ (b : Bool). b || any_under rows) passes

  later_of : (row : Row) (rows : List Row) → any_under rows ≡ true → any_under (row ∷ rows) ≡ true
  later_of row rows h = ap (list_any p) (names_under-row row rows directory) ∙ by_place (is_in directory row)
    where
      by_place : (b : Bool) → list_any p (if b then row.name ∷ names_under rows directory else names_under rows directory) ≡ true
      by_place true = ap (λ (b : Bool). p row.name || b) h ∙ or_true (p row.name)
        where
          or_true : (b : Bool) → (b || true) ≡ true
          or_true true = refl
          or_true false = refl
      by_place false = h

  found_under : (es : List (ℕ × Row)) (k : ℕ) (row : Row) → find nat_cmp k es ≡ Some row → row.ino ≢ ROOT → row.parent ≡ directory → p row.name ≡ true → any_under (map_list (λ e. e.1) es) ≡ true
  found_under [] k row found other up passes = absurd (cc)
  found_under (e ∷ es) k row found other up passes = by_key (λ h. found_under es k row h other up passes) (eq_by_cmp nat_cmp k e.0) found
    where
      by_key : (find nat_cmp k es ≡ Some row → any_under (map_list (λ e. e.1) es) ≡ true) → (b : Bool) → cond b (Some e.1) (find nat_cmp k es) ≡ Some row → any_under (e.1 ∷ map_list (λ e. e.1) es) ≡ true
      by_key rest true h =
          let same : row ≡ e.1 = sym (one_some e.1 row h) in
          first_of e.1 (map_list (λ e. e.1) es) (subst (λ (r : Row). r.ino ≢ ROOT) same other) (ap (λ (r : Row). r.parent) (sym same) ∙ up) (ap (λ (r : Row). p r.name) (sym same) ∙ passes)
      by_key rest false h = later_of e.1 (map_list (λ e. e.1) es) (rest h)

  pub row_under : (tree : Rows) (k : ℕ) (row : Row) → map.get tree k ≡ Some row → row.ino ≢ ROOT → row.parent ≡ directory → p row.name ≡ true → any_under (map.values tree) ≡ true
  row_under tree k row has other up passes = found_under (entries tree) k row (sym (get-entries tree k) ∙ has) other up passes

module _ (geom : ImageGeometry) (geometry : IsGeometry geom) (tree : Rows) (storable : IsStorable geom tree) (directory : ℕ) (dentries : List Dentry) (are : AreDentries tree directory dentries) where
  fits : (dentry : Dentry) → IsBound tree directory dentry → IsFitting dentry
  fits dentry bound =
      record {
        name = good_length dentry.name (subst (λ (n : List ℕ). IsTrue (is_good_name n)) bound.named (storable.good.names dentry.ino bound.row bound.there bound.below));
        ino = omega (arith, storable.numbered dentry.ino bound.row bound.there, geometry.most_nat);
        type = known_type bound.row.kind dentry.type bound.typed;
      }

  back : ReadsBack dentries
  back = packed-reads_back dentries (All-weaker (IsBound tree directory) IsFitting fits dentries are.bound)

  pub reads_back : flat_map dentries_of (packed_blocks dentries) ≡ dentries
  reads_back = back.names

  pub no_fault : All (λ block. dentry_fault block ≡ None) (packed_blocks dentries)
  no_fault = back.sound

  pub are_blocks : (row : Row) → map.get tree directory ≡ Some row → row.kind ≡ Directory → (image : Image) (place : Place) (pages : PageMap) → ArePagesAt image place pages
      → ((page : ℕ) → page < inode_pages → page_in image place page ≡ slice_get (packed_blocks dentries) page) → AreBlocks pages (packed_blocks dentries)
  are_blocks row there kind image place pages at held =
      record {
        each = λ page within. at.within page within ∙ held page within;
        few = omega (arith, length-packed_blocks dentries ∙ ap blocks_of_names are.names, storable.short_directories directory row there kind);
      }

  -- dentries with one ino have one name
  same_name : (a b : Dentry) → IsBound tree directory a → IsBound tree directory b → a.ino ≡ b.ino → a.name ≡ b.name
  same_name a b p q same =
      let rows : p.row ≡ q.row = one_some p.row q.row (sym p.there ∙ ap (map.get tree) same ∙ q.there) in
      sym p.named ∙ ap (λ (r : Row). r.name) rows ∙ q.named

  abbrev pub bound : AllByRecursion (IsBound tree directory) dentries
  bound = each_of (IsBound tree directory) dentries are.bound

  apart_from : (ds : List Dentry) → IsStrictlySortedBy name_cmp (names_of ds) → AllByRecursion (IsBound tree directory) ds → AreApart ds
  unfolding IsStrictlySortedBy
  apart_from [] rising all = tt
  apart_from (d ∷ ds) rising all = (others ds rising.0 all.1, apart_from ds rising.1 all.1)
    where
      others : (rest : List Dentry) → AllByRecursion (λ name. name_cmp d.name name ≡ Less) (names_of rest) → AllByRecursion (IsBound tree directory) rest → AllByRecursion (λ (other : Dentry). other.ino ≢ d.ino) rest
      others [] less each = tt
      others (e ∷ rest) less each =
          (λ same. not_less d.name (subst (λ (n : List ℕ). name_cmp d.name n ≡ Less) (same_name e d each.0 all.0 same) less.0), others rest less.1 each.1)

  pub apart : AreApart dentries
  apart = apart_from dentries (subst (IsStrictlySortedBy name_cmp) (sym are.names) (rises (names_in (map.values tree) directory))) bound

  -- a name of the directory is a dentry's
  abbrev HasNamed : List Dentry → List ℕ → Type 0
  HasNamed ds name = (d : Dentry) × (d.name ≡ name) × IsBound tree directory d × (list_any (λ (e : Dentry). e.ino == d.ino) ds ≡ true)

  named_as : (ds : List Dentry) (name : List ℕ) → list_any (eq_by_cmp name_cmp name) (names_of ds) ≡ true → AllByRecursion (IsBound tree directory) ds → HasNamed ds name
  named_as [] name h all = absurd (false_true h)
    where
      false_true : false ≡ true → ⊥
      false_true e = cc
  named_as (d ∷ ds) name h all = by_name (λ left. named_as ds name left all.1) (eq_by_cmp name_cmp name d.name) refl h
    where
      by_name : (list_any (eq_by_cmp name_cmp name) (names_of ds) ≡ true → HasNamed ds name) → (b : Bool) → eq_by_cmp name_cmp name d.name ≡ b → (b || list_any (eq_by_cmp name_cmp name) (names_of ds)) ≡ true → HasNamed (d ∷ ds) name
      by_name rest true t h = (d, sym (slice_cmp-IsAntisymmetric nat_cmp-IsAntisymmetric name d.name (tied (name_cmp name d.name) t)), all.0, ap (λ (b : Bool). b || list_any (λ (e : Dentry). e.ino == d.ino) ds) (eq-eqb d.ino d.ino refl))
        where
          tied : (o : Ordering) → is_eq o ≡ true → o ≡ Equal
          tied Less e = absurd (cc)
          tied Equal e = refl
          tied Greater e = absurd (cc)
      by_name rest false t h =
          let more = rest h in
          (more.0, more.1, more.2, ap (λ (b : Bool). (d.ino == more.0.ino) || b) more.3 ∙ or_true (d.ino == more.0.ino))
        where
          or_true : (b : Bool) → (b || true) ≡ true
          or_true true = refl
          or_true false = refl

  tied_itself : (name : List ℕ) → eq_by_cmp name_cmp name name ≡ true
  tied_itself name = turned (name_cmp name name) (nat_list_cmp_total.antisymm name name)
    where
      turned : (o : Ordering) → o ≡ ordering_reverse o → is_eq o ≡ true
      turned Less e = absurd (cc)
      turned Equal e = refl
      turned Greater e = absurd (cc)

  -- each row of the directory has a dentry
  pub has_dentry : (ino : ℕ) (row : Row) → map.get tree ino ≡ Some row → ino ≢ ROOT → row.parent ≡ directory → list_any (λ (e : Dentry). e.ino == ino) dentries ≡ true
  has_dentry ino row there other up =
      let rows = map.values tree in
      let own : row.ino ≢ ROOT = λ e. other (sym (storable.good.keyed ino row there) ∙ e) in
      let under : list_any (eq_by_cmp name_cmp row.name) (names_under rows directory) ≡ true = row_under directory (eq_by_cmp name_cmp row.name) tree ino row there own up (tied_itself row.name) in
      let listed : list_any (eq_by_cmp name_cmp row.name) (names_of dentries) ≡ true =
      ap (list_any (eq_by_cmp name_cmp row.name)) are.names
      ∙ sym (contains-rising nat_list_cmp_total (names_in rows directory) row.name)
      ∙ set.contains-from_list nat_list_cmp_total (names_under rows directory) row.name
      ∙ under in
      let d = named_as dentries row.name listed bound in
      let same : d.0.ino ≡ ino = storable.good.apart d.0.ino ino d.2.row row d.2.there there d.2.below other (d.2.parent ∙ sym up) (d.2.named ∙ d.1) in
      subst (λ (n : ℕ). list_any (λ (e : Dentry). e.ino == n) dentries ≡ true) same d.3
