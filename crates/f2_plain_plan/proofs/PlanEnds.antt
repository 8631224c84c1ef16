-- The blocks of a checkpoint, put together.
use Rattle.std.proofs.Common.{◌≡◌, ◌≢◌, ℕ, zero, suc, ◌+◌, ◌<◌, ◌≤◌, Bool, true, false, List, [], ◌∷◌, ◌++◌, map as map_list, length, get_or, refl, sym, ap, subst, ◌∙◌, arith, add-one, inl, inr, Some, None, Option, All}
use Rattle.std.specs.Prelude.{Contains}
use Rattle.std.specs.List.{AllByRecursion, range_with_len}
use Rattle.std.specs.FinMap as map
use Rattle.std.proofs.lemmas.Bool.{cases_eq}
use Rattle.std.proofs.lemmas.List.{length-append, length-map, map-append}
use Rattle.std.proofs.lemmas.List.Elements.{All-append, All-cons, All-contains, All-nil, All-weaker, Contains-append_left, Contains-append_right, recursion_from_All}
use Rattle.std.proofs.lemmas.List.FromFn.{get_or-range_with_len, length-range_with_len, map-range_with_len_more}
use Rattle.f2_format.specs.Geometry.{ImageGeometry, data_start, data_third, nat_address, node_start, node_third}
use Rattle.f2_format.specs.Inode.{NAME_BYTES}
use Rattle.f2_image.specs.Packs.{A, B, Side, head_address, summary_address}
use Rattle.f2_image.specs.Reached.{AllDiffer}
use Rattle.f2_laid.specs.Laid.{IsStorable, PlaceMap, at_of, page_at, side_of}
use Rattle.f2_laid.specs.Planned.{IsPlanOf, IsWriteOf, Writes, WritesPage, inode, page, table, summary, head}
use Rattle.f2_laid.specs.declared.places.Place.{Place}
use Rattle.f2_laid.specs.declared.planned.Planned.{Planned}
use Rattle.f2_laid.specs.declared.stored.Stored.{Stored}
use Rattle.f2_model.specs.Tree.{Rows, ROOT}
use Rattle.f2_model.specs.declared.rows.Row.{Row}
use Rattle.f2_plain_plan.specs.Drafts.{IsDraftOf, IsPageOf}
use Rattle.f2_plain_plan.specs.Inodes.{AddsInodes, HasInode, WritesInode}
use Rattle.f2_plain_plan.specs.Packs.{AddsPack, IsHead}
use Rattle.f2_plain_plan.specs.Tables.{AddsTables}
use Rattle.f2_plain_plan.specs.declared.plans.Next.{Next}
use Rattle.f2_plain_plan.proofs.Dentries.{good_length}
use Rattle.f2_plain_plan.proofs.Differ.{all_shown, differ-append, differ-other, differ-push, each-append, each-map, each-push, each-weaker, parted}
use Rattle.f2_plain_plan.proofs.DraftEnds.{rows_few}
use Rattle.f2_plain_plan.proofs.Values.{each_value, numbers_differ, value_there}
use Rattle.f2_plain_plan.proofs.ZoneRanges.{data_range, node_range}

same_some : {X : Type 0} (x y : X) → Some x ≡ Some y → x ≡ y
same_some x y e = cc

abbrev at_one : Planned → ℕ
at_one one = one.at

module _ (geom : ImageGeometry) (tree : Rows) (storable : IsStorable geom tree) where
  name_fits : (ino : ℕ) (row : Row) → map.get tree ino ≡ Some row → length row.name ≤ NAME_BYTES
  name_fits ino row there = elim (cases_eq ino ROOT) [
    | inl e ↦
        let root = storable.good.root in
        let same = same_some row root.0 (sym there ∙ ap (map.get tree) e ∙ root.1) in
        let none : length row.name ≡ 0 = ap (λ (r : Row). length r.name) same ∙ ap length root.2.name in
        omega (arith, none)
    | inr ne ↦ (good_length row.name (storable.good.names ino row there ne)).most
  ]

  -- each row of a drafted tree has an inode
  pub have_inodes : (old places : PlaceMap) (blocks : List Planned) → IsDraftOf geom tree old places blocks → All (HasInode places) (map.values tree)
  have_inodes old places blocks draft = each_value (HasInode places) tree (λ ino row there.
      let pages = draft.rows ino row there in
      record { place = pages.place; there = pages.there; size = (storable.good.pages ino row there).size; name = name_fits ino row there })

-- the addresses of the table's first blocks differ, and are below the next one's
record Rises (geom : ImageGeometry) (second : Bool) (end : ℕ) : Type 0 where
  differ : AllDiffer (map_list (λ block. nat_address geom block second) (range_with_len 0 end))
  under : AllByRecursion (λ at. at < nat_address geom end second) (map_list (λ block. nat_address geom block second) (range_with_len 0 end))

rises_more : (geom : ImageGeometry) (second : Bool) (end : ℕ) → Rises geom second end → Rises geom second (end + 1)
rises_more geom second end h =
    let more = map-range_with_len_more (λ block. nat_address geom block second) 0 end end (omega arith) in
    let xs = map_list (λ block. nat_address geom block second) (range_with_len 0 end) in
    let here = nat_address geom end second in
    let rises : nat_address geom end second < nat_address geom (end + 1) second = omega arith in
    record {
      differ = subst AllDiffer (sym more) (differ-push xs here h.differ (each-weaker (λ at. at < here) (λ at. at ≢ here) (λ at low e. absurd (omega (arith, e))) xs h.under));
      under = subst (AllByRecursion (λ at. at < nat_address geom (end + 1) second)) (sym more)
          (each-push (λ at. at < nat_address geom (end + 1) second) xs here (each-weaker (λ at. at < here) (λ at. at < nat_address geom (end + 1) second) (λ at low. omega (arith, rises)) xs h.under) rises);
    }

table_rises : (geom : ImageGeometry) (second : Bool) (end : ℕ) → Rises geom second end
table_rises geom second zero = record { differ = tt; under = tt }
table_rises geom second (suc end) = subst (Rises geom second) (add-one end) (rises_more geom second end (table_rises geom second end))

all_range : (P : ℕ → Type 0) (n : ℕ) → ((k : ℕ) → k < n → P k) → All P (range_with_len 0 n)
all_range P n h k d low =
    let short : k < n = subst (λ m. k < m) (length-range_with_len 0 n) low in
    let is : get_or (range_with_len 0 n) k d ≡ k = get_or-range_with_len 0 n k d short ∙ omega arith in
    subst P (sym is) (h k short)

side_low : (side : Side) → (head_address side + 1 < 8) × (head_address side < 8)
side_low A = (omega arith, omega arith)
side_low B = (omega arith, omega arith)

table_low : (geom : ImageGeometry) (second : Bool) (block : ℕ) → block < geom.nat → (8 ≤ nat_address geom block second) × (nat_address geom block second < node_start geom)
table_low geom true block low = (omega arith, omega arith)
table_low geom false block low = (omega arith, omega arith)

module _ (next : Next) (tree : Rows) (old places : PlaceMap) (data_blocks inode_blocks table_blocks all : List Planned) (tail : List ℕ)
    (storable : IsStorable next.geometry tree) (draft : IsDraftOf next.geometry tree old places data_blocks)
    (inodes : AddsInodes (map.values tree) places data_blocks inode_blocks)
    (tables : AddsTables next.geometry next.second places next.geometry.nat inode_blocks table_blocks)
    (pack : AddsPack (side_of next.side) tail table_blocks all)
    (is_head : IsHead next tail) where
  abbrev stored : Stored
  stored = record { geometry = next.geometry; side = next.side; version = next.version; second = next.second; places = places }

  abbrev geom : ImageGeometry
  geom = next.geometry

  abbrev summary_planned : Planned
  summary_planned = record { at = summary_address (side_of next.side); block = pack.summary }

  abbrev head_planned : Planned
  head_planned = record { at = head_address (side_of next.side); block = tail }

  abbrev last_blocks : List Planned
  last_blocks = summary_planned ∷ head_planned ∷ []

  -- a block of an earlier part is planned
  from_tables : (at : ℕ) (bytes : List ℕ) → Writes table_blocks at bytes → Writes all at bytes
  from_tables at bytes w = subst (λ (l : List Planned). Writes l at bytes) (sym pack.added) (Contains-append_left table_blocks last_blocks _ w)

  from_inodes : (at : ℕ) (bytes : List ℕ) → Writes inode_blocks at bytes → Writes all at bytes
  from_inodes at bytes w = from_tables at bytes (subst (λ (l : List Planned). Writes l at bytes) (sym tables.added) (Contains-append_left inode_blocks tables.more _ w))

  inode_written : (at : ℕ) (bytes : List ℕ) → Writes inodes.more at bytes → Writes all at bytes
  inode_written at bytes w = from_inodes at bytes (subst (λ (l : List Planned). Writes l at bytes) (sym inodes.added) (Contains-append_right data_blocks inodes.more _ w))

  table_written : (at : ℕ) (bytes : List ℕ) → Writes tables.more at bytes → Writes all at bytes
  table_written at bytes w = from_tables at bytes (subst (λ (l : List Planned). Writes l at bytes) (sym tables.added) (Contains-append_right inode_blocks tables.more _ w))

  page_written : (at : ℕ) (content : Option (List ℕ)) → WritesPage data_blocks at content → WritesPage all at content
  page_written at None w = w
  page_written at (Some bytes) w = (w.0, from_inodes at bytes (subst (λ (l : List Planned). Writes l at bytes) (sym inodes.added) (Contains-append_left data_blocks inodes.more _ w.1)))

  last_written : (one : Planned) → Contains last_blocks one → Contains all one
  last_written one c = subst (λ (l : List Planned). Contains l one) (sym pack.added) (Contains-append_right table_blocks last_blocks one c)

  inode_of_row : (ino : ℕ) (row : Row) → map.get tree ino ≡ Some row → WritesInode places inodes.more row
  inode_of_row ino row there = All-contains (WritesInode places inodes.more) (map.values tree) row inodes.inodes (value_there tree ino row there)

  -- each block is planned where it may be
  abbrev IsWrite : Planned → Type 0
  IsWrite one = IsWriteOf stored one.at

  data_within : All IsWrite data_blocks
  data_within = All-weaker (IsPageOf places) IsWrite (λ one (ino, number, place, there, ne, is). page ino number place there ne is) data_blocks draft.within

  inode_place : (ino : ℕ) (row : Row) → map.get tree ino ≡ Some row → IsWriteOf stored (at_of (map.get places row.ino))
  inode_place ino row there = let w = inode_of_row ino row there in inode row.ino w.place w.there (ap at_of w.there)

  inodes_within : All IsWrite inodes.more
  inodes_within = all_shown (IsWriteOf stored) at_one (λ (row : Row). at_of (map.get places row.ino)) inodes.more (map.values tree) inodes.ats (each_value (λ (row : Row). IsWriteOf stored (at_of (map.get places row.ino))) tree inode_place)

  tables_within : All IsWrite tables.more
  tables_within = all_shown (IsWriteOf stored) at_one (λ block. nat_address geom block next.second) tables.more (range_with_len 0 geom.nat) tables.ats (all_range (λ block. IsWriteOf stored (nat_address geom block next.second)) geom.nat (λ block low. table block low refl))

  last_within : All IsWrite last_blocks
  last_within = All-cons IsWrite summary_planned (head_planned ∷ []) (summary refl) (All-cons IsWrite head_planned [] (head refl) (All-nil IsWrite))

  all_within : All IsWrite all
  all_within =
      subst (All IsWrite) (sym pack.added) (All-append IsWrite table_blocks last_blocks
      (subst (All IsWrite) (sym tables.added) (All-append IsWrite inode_blocks tables.more
      (subst (All IsWrite) (sym inodes.added) (All-append IsWrite data_blocks inodes.more data_within inodes_within)) tables_within)) last_within)

  -- where the parts stand
  data_from : AllByRecursion (λ at. data_start geom ≤ at) (map_list at_one data_blocks)
  data_from = each-map (λ at. data_start geom ≤ at) at_one data_blocks (recursion_from_All (λ (one : Planned). data_start geom ≤ one.at) data_blocks
      (All-weaker (IsPageOf places) (λ (one : Planned). data_start geom ≤ one.at) (λ one (ino, number, place, there, ne, is). subst (λ at. data_start geom ≤ at) (sym is) (data_range geom (page_at place number) (draft.placed.pages ino number place there ne)).0) data_blocks draft.within))

  row_range : (ino : ℕ) (row : Row) → map.get tree ino ≡ Some row → (node_start geom ≤ at_of (map.get places row.ino)) × (at_of (map.get places row.ino) < data_start geom)
  row_range ino row there =
      let w = inode_of_row ino row there in
      subst (λ at. (node_start geom ≤ at) × (at < data_start geom)) (sym (ap at_of w.there)) (node_range geom w.place.at (draft.placed.nodes row.ino w.place w.there))

  inodes_range : AllByRecursion (λ at. (node_start geom ≤ at) × (at < data_start geom)) (map_list at_one inodes.more)
  inodes_range = subst (AllByRecursion (λ at. (node_start geom ≤ at) × (at < data_start geom))) (sym inodes.ats)
      (each-map (λ at. (node_start geom ≤ at) × (at < data_start geom)) (λ (row : Row). at_of (map.get places row.ino)) (map.values tree)
      (recursion_from_All (λ (row : Row). (node_start geom ≤ at_of (map.get places row.ino)) × (at_of (map.get places row.ino) < data_start geom)) (map.values tree) (each_value (λ (row : Row). (node_start geom ≤ at_of (map.get places row.ino)) × (at_of (map.get places row.ino) < data_start geom)) tree row_range)))

  tables_range : AllByRecursion (λ at. (8 ≤ at) × (at < node_start geom)) (map_list at_one tables.more)
  tables_range = subst (AllByRecursion (λ at. (8 ≤ at) × (at < node_start geom))) (sym tables.ats)
      (each-map (λ at. (8 ≤ at) × (at < node_start geom)) (λ block. nat_address geom block next.second) (range_with_len 0 geom.nat)
      (recursion_from_All (λ block. (8 ≤ nat_address geom block next.second) × (nat_address geom block next.second < node_start geom)) (range_with_len 0 geom.nat)
      (all_range (λ block. (8 ≤ nat_address geom block next.second) × (nat_address geom block next.second < node_start geom)) geom.nat (table_low geom next.second))))

  last_low : AllByRecursion (λ at. at < 8) (map_list at_one last_blocks)
  last_low = let low = side_low (side_of next.side) in (low.0, (low.1, tt))

  abbrev HasPlace : Row → Type 0
  HasPlace row = (place : Place) × (map.get places row.ino ≡ Some place)

  inodes_differ : AllDiffer (map_list at_one inodes.more)
  inodes_differ = subst AllDiffer (sym inodes.ats)
      (differ-other (λ (row : Row). row.ino) (λ (row : Row). at_of (map.get places row.ino)) HasPlace
      (λ a b p q e. draft.placed.nodes_apart a.ino b.ino p.0 q.0 p.1 q.1 (sym (ap at_of p.1) ∙ e ∙ ap at_of q.1))
      (map.values tree)
      (recursion_from_All HasPlace (map.values tree) (each_value HasPlace tree (λ ino row there. let w = inode_of_row ino row there in (w.place, w.there))))
      (numbers_differ (λ (row : Row). row.ino) tree storable.good.keyed))

  last_differ : AllDiffer (map_list at_one last_blocks)
  last_differ = ((λ e. absurd (omega (arith, e)), tt), (tt, tt))

  inode_blocks_ats : map_list at_one inode_blocks ≡ map_list at_one data_blocks ++ map_list at_one inodes.more
  inode_blocks_ats = ap (map_list at_one) inodes.added ∙ map-append at_one data_blocks inodes.more

  table_blocks_ats : map_list at_one table_blocks ≡ map_list at_one inode_blocks ++ map_list at_one tables.more
  table_blocks_ats = ap (map_list at_one) tables.added ∙ map-append at_one inode_blocks tables.more

  all_ats : map_list at_one all ≡ map_list at_one table_blocks ++ map_list at_one last_blocks
  all_ats = ap (map_list at_one) pack.added ∙ map-append at_one table_blocks last_blocks

  inode_blocks_from : AllByRecursion (λ at. node_start geom ≤ at) (map_list at_one inode_blocks)
  inode_blocks_from = subst (AllByRecursion (λ at. node_start geom ≤ at)) (sym inode_blocks_ats)
      (each-append (λ at. node_start geom ≤ at) (map_list at_one data_blocks) (map_list at_one inodes.more)
      (each-weaker (λ at. data_start geom ≤ at) (λ at. node_start geom ≤ at) (λ at h. omega (arith, h)) (map_list at_one data_blocks) data_from)
      (each-weaker (λ at. (node_start geom ≤ at) × (at < data_start geom)) (λ at. node_start geom ≤ at) (λ at h. h.0) (map_list at_one inodes.more) inodes_range))

  table_blocks_from : AllByRecursion (λ at. 8 ≤ at) (map_list at_one table_blocks)
  table_blocks_from = subst (AllByRecursion (λ at. 8 ≤ at)) (sym table_blocks_ats)
      (each-append (λ at. 8 ≤ at) (map_list at_one inode_blocks) (map_list at_one tables.more)
      (each-weaker (λ at. node_start geom ≤ at) (λ at. 8 ≤ at) (λ at h. omega (arith, h)) (map_list at_one inode_blocks) inode_blocks_from)
      (each-weaker (λ at. (8 ≤ at) × (at < node_start geom)) (λ at. 8 ≤ at) (λ at h. h.0) (map_list at_one tables.more) tables_range))

  all_differ : AllDiffer (map_list at_one all)
  all_differ =
      let d = subst AllDiffer (sym inode_blocks_ats) (differ-append (map_list at_one data_blocks) (map_list at_one inodes.more) draft.once inodes_differ
      (parted (data_start geom) (map_list at_one data_blocks) (map_list at_one inodes.more) data_from (each-weaker (λ at. (node_start geom ≤ at) × (at < data_start geom)) (λ at. at < data_start geom) (λ at h. h.1) (map_list at_one inodes.more) inodes_range))) in
      let t = subst AllDiffer (sym table_blocks_ats) (differ-append (map_list at_one inode_blocks) (map_list at_one tables.more) d (subst AllDiffer (sym tables.ats) (table_rises geom next.second geom.nat).differ)
      (parted (node_start geom) (map_list at_one inode_blocks) (map_list at_one tables.more) inode_blocks_from (each-weaker (λ at. (8 ≤ at) × (at < node_start geom)) (λ at. at < node_start geom) (λ at h. h.1) (map_list at_one tables.more) tables_range))) in
      subst AllDiffer (sym all_ats) (differ-append (map_list at_one table_blocks) (map_list at_one last_blocks) t last_differ (parted 8 (map_list at_one table_blocks) (map_list at_one last_blocks) table_blocks_from last_low))

  pub is_plan : IsPlanOf tree old stored all tail
  is_plan =
      record {
        placed = draft.placed;
        apart = draft.apart;
        rows = λ ino row there.
            let w = inode_of_row ino row there in
            let p = draft.rows ino row there in
            let same = same_some p.place w.place (sym p.there ∙ w.there) in
            record {
              place = w.place;
              there = w.there;
              block = w.block;
              inode = w.inode;
              unlogged = w.unlogged;
              written = inode_written w.place.at w.block w.written;
              contents = p.contents;
              content = p.content;
              pages = λ number low. page_written (page_at w.place number) (p.contents number) (subst (λ (place : Place). WritesPage data_blocks (page_at place number) (p.contents number)) same (p.pages number low));
            };
        only = draft.only;
        table = λ block low. let w = tables.tables block low in record { bytes = w.bytes; written = table_written (nat_address geom block next.second) w.bytes w.written; entries = w.entries };
        summary = (pack.summary, pack.empty, last_written summary_planned (0, omega arith, refl));
        head = record { pack = is_head.pack; version = is_head.version; low = is_head.low; newer = is_head.newer; bitmap = is_head.bitmap };
        head_written = last_written head_planned (1, omega arith, refl);
        within = all_within;
        once = all_differ;
      }

  -- how many blocks there are
  pub most_blocks : length all ≤ node_third geom + data_third geom + geom.nat + 2
  most_blocks =
      let a = ap length pack.added ∙ length-append table_blocks last_blocks in
      let b = ap length tables.added ∙ length-append inode_blocks tables.more in
      let c = ap length inodes.added ∙ length-append data_blocks inodes.more in
      let i = sym (length-map inodes.more at_one) ∙ ap length inodes.ats ∙ length-map (map.values tree) (λ (row : Row). at_of (map.get places row.ino)) in
      let t = sym (length-map tables.more at_one) ∙ ap length tables.ats ∙ length-map (range_with_len 0 geom.nat) (λ block. nat_address geom block next.second) ∙ length-range_with_len 0 geom.nat in
      let few = rows_few tree in
      let nodes = storable.nodes in
      let pages = draft.few in
      omega (arith, a, b, c, i, t, few, nodes, pages)
