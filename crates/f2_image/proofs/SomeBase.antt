-- A sound image has a base.
use Rattle.std.proofs.Common.{◌≡◌, ◌≢◌, ℕ, ◌+◌, ◌*◌, ◌<◌, ◌==◌, ◌⊎◌, inl, inr, ◌&&◌, nat_lt, not, cond, Bool, true, false, List, [], refl, sym, ap, ◌∙◌, subst, arith}
use Rattle.std.specs.Prelude.{Option, Some, None}
use Rattle.std.specs.FinMap as map
use Rattle.std.proofs.lemmas.Option.{none-some, same_Some}
use native.Mathlib.Decide.{ℕ_discrete, dec_lt}
use Rattle.f2_format.specs.Offsets.{page_limit}
use Rattle.f2_format.specs.Geometry.{ImageGeometry, node_start, node_third, is_in_node, nid_limit}
use Rattle.f2_format.specs.Inode.{inode_of}
use Rattle.f2_format.specs.Dentry.{Dentry}
use Rattle.f2_model.specs.Tree.{Rows, ROOT, most_depth, MOST_DEPTH}
use Rattle.f2_model.specs.Content.{PageMap}
use Rattle.f2_model.specs.declared.rows.Row.{Row}
use Rattle.f2_model.specs.declared.rows.Kind.{Kind}
use Rattle.f2_model.specs.declared.rows.Kind.TheVariants.{Regular, Directory}
use Rattle.f2_image.specs.Images.{Image, block_at}
use Rattle.f2_image.specs.Packs.{Checkpoint}
use Rattle.f2_image.specs.Nodes.{node, node_address, block_there, page_address}
use Rattle.f2_image.specs.Bases.{IsInode, HasDentryAt, HasDentry, IsReached, HasContent, IsBaseRow, IsBase, inode_kind}
use Rattle.f2_image.specs.Bases as bases
use Rattle.f2_image.specs.Reached as reached
use Rattle.f2_format.specs.Journal.{journal_count, MOST_JOURNAL_ENTRIES}
use Rattle.f2_image.specs.Faults.{IsBelow, IsSound, HasTable, Which, Journal, BadNat, BadInode, BadTree, VersionEnd}
use Rattle.f2_image.specs.Faults as faults
use Rattle.f2_image.proofs.Limited.{some_below, MapBelow, map_below}
use Rattle.f2_image.proofs.Dentries.{node_in_table, same_dentry}
use Rattle.f2_image.proofs.OneName.{Carries, StandsOnce, has_root, base_of_once}
use Rattle.f2_image.proofs.Depths.{IsDown, is_down, down_of, below_of, reached_of, some_depth}

-- a depth that no ino has
abbrev past_depth : ℕ
past_depth = MOST_DEPTH + 2

most_is_less : (kind : Kind) (depth : ℕ) → ¬ (most_depth kind < depth) → depth < past_depth
most_is_less Regular depth within = omega (arith, within)
most_is_less Directory depth within = omega (arith, within)

-- the address 0 is in no zone
outside : (geom : ImageGeometry) (at : ℕ) → at ≡ 0 → is_in_node geom at ≡ false
outside geom at e = ap (is_in_node geom) e ∙ ap (λ b. not b && nat_lt 0 (node_start geom + 3 * node_third geom)) (is_before (node_start geom) (omega arith))
  where
    is_before : (n : ℕ) → 0 < n → nat_lt 0 n ≡ true
    is_before n less = grind (arith, less)

-- an address is 0 or has a block
there_or_not : (image : Image) (at : ℕ) → (at ≡ 0) ⊎ ((block : List ℕ) × (block_there image at ≡ Some block))
there_or_not image at = by_test (at == 0) refl
  where
    zero_of : (n : ℕ) → (n == 0) ≡ true → n ≡ 0
    zero_of n e = grind (arith, e)

    by_test : (b : Bool) → (at == 0) ≡ b → (at ≡ 0) ⊎ ((block : List ℕ) × (block_there image at ≡ Some block))
    by_test true e = inl (zero_of at e)
    by_test false e = inr (block_at image at, ap (λ b. cond b None (Some (block_at image at))) e)

-- conditions that a sound image may not have
bad_nat : BadNat ≢ VersionEnd
bad_nat e = cc

pub bad_inode : BadInode ≢ VersionEnd
bad_inode e = cc

bad_tree : BadTree ≢ VersionEnd
bad_tree e = cc

-- where an ino stands: the root under no name in itself, another one under the name of a dentry
abbrev IsPlaced : Image → Checkpoint → ℕ → ℕ → List ℕ → Type 0
IsPlaced image ckpt ino directory name =
    ((ino ≡ ROOT) × (directory ≡ ROOT) × (name ≡ []))
    ⊎ ((dentry : Dentry) × IsReached image ckpt directory × HasDentry image ckpt directory dentry × (dentry.ino ≡ ino) × (dentry.name ≡ name))

module _ (image : Image) (ckpt : Checkpoint) where
  -- each ino of the base stands somewhere, and what stands somewhere is in the base
  placed : (ino : ℕ) → IsReached image ckpt ino → (directory : ℕ) × ((name : List ℕ) × IsPlaced image ckpt ino directory name)
  placed _ bases.root = (ROOT, ([], inl (refl, refl, refl)))
  placed _ (bases.below directory dentry up has) = (directory, (dentry.name, inr (dentry, up, has, refl, refl)))

  reached_there : (ino directory : ℕ) (name : List ℕ) → IsPlaced image ckpt ino directory name → IsReached image ckpt ino
  reached_there ino directory name (inl at_root) = subst (IsReached image ckpt) (sym at_root.0) bases.root
  reached_there ino directory name (inr (dentry, up, has, is, named)) = subst (IsReached image ckpt) is (bases.below directory dentry up has)

  -- the pages of a file, and a row's content
  content : (kind : Kind) (inode : List ℕ) → (size : ℕ) × ((pages : PageMap) × ((row : Row) → row.size ≡ size → row.pages ≡ pages → HasContent image ckpt inode kind row))
  content Directory inode = (0, (map.empty, λ row size pages. (size, pages)))
  content Regular inode =
      let pages = map_below (λ page. block_there image (page_address image ckpt inode page)) page_limit in (
        (inode_of inode).size,
        (
          pages.entries,
          λ row size is. (
            size,
            (λ page within. ap (λ m. map.get m page) is ∙ pages.below page within),
            (λ page bytes has. pages.within page bytes (ap (λ m. map.get m page) (sym is) ∙ has)),
          ),
        ),
      )

module _ (image : Image) (ckpt : Checkpoint) (sound : IsSound image ckpt) where
  -- the table can be read
  table : HasTable ckpt
  table = by_order (dec_lt MOST_JOURNAL_ENTRIES (journal_count ckpt.summary))
    where
      not_end : Journal ≢ VersionEnd
      not_end same = cc

      by_order : Dec (MOST_JOURNAL_ENTRIES < journal_count ckpt.summary) → HasTable ckpt
      by_order (yes many) = absurd (sound Journal (journal_count ckpt.summary) not_end (many, refl))
      by_order (no few) = omega (arith, few)

  -- an ino of the base has an inode of one of the two kinds
  has_node : (ino : ℕ) → IsReached image ckpt ino → (inode : List ℕ) × (node image ckpt ino ≡ Some inode)
  has_node ino reach = by_address (there_or_not image (node_address image ckpt ino))
    where
      by_address : (node_address image ckpt ino ≡ 0) ⊎ ((block : List ℕ) × (node image ckpt ino ≡ Some block)) → (inode : List ℕ) × (node image ckpt ino ≡ Some inode)
      by_address (inl e) = absurd (sound BadNat ino bad_nat (table, faults.nowhere ino 0 (reached.inode ino reach) (outside ckpt.geom (node_address image ckpt ino) e)))
      by_address (inr found) = found

  has_inode : (ino : ℕ) → IsReached image ckpt ino → (kind : Kind) × ((inode : List ℕ) × IsInode image ckpt ino kind inode)
  has_inode ino reach = by_kind (has_node ino reach).0 (has_node ino reach).1 (inode_kind (has_node ino reach).0) refl
    where
      by_kind : (inode : List ℕ) → node image ckpt ino ≡ Some inode → (o : Option Kind) → inode_kind inode ≡ o → (kind : Kind) × ((inode : List ℕ) × IsInode image ckpt ino kind inode)
      by_kind inode there None e = absurd (sound BadInode (node_address image ckpt ino) bad_inode (faults.in_base table ino inode reach there refl (inl e)))
      by_kind inode there (Some kind) e = (kind, (inode, record { there = there; is_kind = e }))

  -- no ino stands too deep
  depth_within : (depth ino : ℕ) → IsBelow image ckpt depth ino → depth < past_depth
  depth_within depth ino is =
      let found = has_inode ino (reached_of image ckpt depth ino is) in
      most_is_less found.0 depth (λ deep. sound BadTree ino bad_tree (table, faults.too_deep depth found.0 found.1.0 is found.1.1 deep))

  -- whether an ino is in the base
  is_reached : (ino : ℕ) → Dec (IsReached image ckpt ino)
  is_reached ino = by_search (some_below (λ depth. IsDown image ckpt depth ino) (λ depth. is_down image ckpt depth ino) past_depth)
    where
      by_search : Dec ((depth : ℕ) × (depth < past_depth) × IsDown image ckpt depth ino) → Dec (IsReached image ckpt ino)
      by_search (yes found) = yes (reached_of image ckpt found.0 ino (below_of image ckpt found.0 ino found.2))
      by_search (no none) = no (λ reach. let at = some_depth image ckpt ino reach in none (at.0, depth_within at.0 ino at.1, down_of image ckpt at.0 ino at.1))

  -- a dentry names no ino below 4, so not the root
  not_root : (directory : ℕ) (dentry : Dentry) → IsReached image ckpt directory → HasDentry image ckpt directory dentry → dentry.ino ≡ ROOT → ⊥
  not_root directory dentry up has e = sound BadTree dentry.ino bad_tree (table, faults.too_low directory dentry up has refl (omega (arith, e)))

  -- two dentries of one ino are the same
  one_dentry : (directory other : ℕ) (a b : Dentry) → IsReached image ckpt directory → IsReached image ckpt other → HasDentry image ckpt directory a → HasDentry image ckpt other b → a.ino ≡ b.ino
      → (directory ≡ other) × (a ≡ b)
  one_dentry directory other a b up up_other (page, slot, p) (more, place, q) same = by_parts (ℕ_discrete directory other) (ℕ_discrete page more) (ℕ_discrete slot place)
    where
      differ : (directory ≢ other) ⊎ (page ≢ more) ⊎ (slot ≢ place) → ⊥
      differ apart = sound BadTree b.ino bad_tree (table, faults.twice directory page slot other more place a b up up_other p q apart same refl)

      by_parts : Dec (directory ≡ other) → Dec (page ≡ more) → Dec (slot ≡ place) → (directory ≡ other) × (a ≡ b)
      by_parts (no apart) x y = absurd (differ (inl apart))
      by_parts (yes d) (no apart) y = absurd (differ (inr (inl apart)))
      by_parts (yes d) (yes e) (no apart) = absurd (differ (inr (inr apart)))
      by_parts (yes d) (yes e) (yes f) =
          let moved : HasDentryAt image ckpt other more place a =
          subst (λ k. HasDentryAt image ckpt other more k a) f (subst (λ k. HasDentryAt image ckpt other k slot a) e (subst (λ k. HasDentryAt image ckpt k page slot a) d p)) in
          (d, same_dentry image ckpt other more place a b moved q)

  -- so an ino stands in one place
  one_place : (ino a b : ℕ) (m n : List ℕ) → IsPlaced image ckpt ino a m → IsPlaced image ckpt ino b n → (a ≡ b) × (m ≡ n)
  one_place ino a b m n (inl p) (inl q) = (p.1 ∙ sym q.1, p.2 ∙ sym q.2)
  one_place ino a b m n (inl p) (inr (dentry, up, has, is, named)) = absurd (not_root b dentry up has (is ∙ p.0))
  one_place ino a b m n (inr (dentry, up, has, is, named)) (inl q) = absurd (not_root a dentry up has (is ∙ q.0))
  one_place ino a b m n (inr (dentry, up, has, is, named)) (inr (other, up_other, has_other, is_other, named_other)) =
      let same = one_dentry a b dentry other up up_other has has_other (is ∙ sym is_other) in
      (same.0, sym named ∙ ap (λ d. d.name) same.1 ∙ named_other)

  -- the row of an ino, where it is in the base
  record Choice (ino : ℕ) : Type 0 where
    row : Option Row
    absent : row ≡ None → ¬ (IsReached image ckpt ino)
    present : (r : Row) → row ≡ Some r → IsBaseRow image ckpt ino r × IsPlaced image ckpt ino r.parent r.name

  row_of : (ino : ℕ) → IsReached image ckpt ino → (row : Row) × (IsBaseRow image ckpt ino row × IsPlaced image ckpt ino row.parent row.name)
  row_of ino reach =
      let found = has_inode ino reach in
      let at = placed image ckpt ino reach in
      let parts = content image ckpt found.0 found.1.0 in
      let row : Row = record { ino = ino; kind = found.0; parent = at.0; name = at.1.0; size = parts.0; pages = parts.1.0 } in
      (row, (record { own = refl; reached = reach; inode = found.1.0; is = found.1.1; content = parts.1.1 row refl refl }, at.1.1))

  chosen : (ino : ℕ) → Choice ino
  chosen ino = by_decision (is_reached ino)
    where
      by_decision : Dec (IsReached image ckpt ino) → Choice ino
      by_decision (yes reach) =
          let found = row_of ino reach in
          record {
            row = Some found.0;
            absent = λ e. absurd (none-some found.0 (sym e));
            present = λ r e. subst (λ x. IsBaseRow image ckpt ino x × IsPlaced image ckpt ino x.parent x.name) (same_Some found.0 r e) found.1;
          }
      by_decision (no none) = record { row = None; absent = λ e. none; present = λ r e. absurd (none-some r e) }

  rows : MapBelow (nid_limit ckpt.geom) (λ ino. (chosen ino).row)
  rows = map_below (λ ino. (chosen ino).row) (nid_limit ckpt.geom)

  -- the base has a row where an ino stands
  stands : (ino directory : ℕ) (name : List ℕ) → IsPlaced image ckpt ino directory name → Carries rows.entries ino directory name
  stands ino directory name at = by_choice (chosen ino).row refl
    where
      reach : IsReached image ckpt ino
      reach = reached_there image ckpt ino directory name at

      within : ino < nid_limit ckpt.geom
      within = let found = has_node ino reach in node_in_table image ckpt ino found.0 found.1

      by_choice : (o : Option Row) → (chosen ino).row ≡ o → Carries rows.entries ino directory name
      by_choice None e = absurd ((chosen ino).absent e reach)
      by_choice (Some row) e =
          let same = one_place ino row.parent directory row.name name ((chosen ino).present row e).1 at in
          record { row = row; there = rows.below ino within ∙ e; parent = same.0; named = same.1 }

  are_rows : (ino : ℕ) (row : Row) → map.get rows.entries ino ≡ Some row → IsBaseRow image ckpt ino row
  are_rows ino row there = ((chosen ino).present row (sym (rows.below ino (rows.within ino row there)) ∙ there)).0

  are_named : (directory : ℕ) (dentry : Dentry) → IsReached image ckpt directory → HasDentry image ckpt directory dentry → StandsOnce rows.entries dentry.ino directory dentry.name
  are_named directory dentry up has =
      let at = stands dentry.ino directory dentry.name (inr (dentry, up, has, refl, refl)) in
      record { row = at.row; there = at.there; not_root = λ is. not_root directory dentry up has (sym (are_rows dentry.ino at.row at.there).own ∙ is); parent = at.parent; named = at.named }

  pub some_base : (base : Rows) × IsBase image ckpt base
  some_base =
      let top = stands ROOT ROOT [] (inl (refl, refl, refl)) in
      (rows.entries, base_of_once image ckpt rows.entries are_rows are_named (has_root rows.entries top.row top.there (are_rows ROOT top.row top.there).own top.parent top.named))
