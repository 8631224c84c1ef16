-- Nodes and pages that take their addresses, and the conditions that stand where one can't.
use Rattle.std.proofs.Common.{◌≡◌, ◌≢◌, ◌⊎◌, inl, inr, ℕ, ◌+◌, ◌<◌, ◌≤◌, ◌==◌, nat_lt, nat_le, not, ◌&&◌, ◌||◌, Bool, true, false, cond, List, refl, sym, ap, ◌∙◌, subst, arith}
use Rattle.std.specs.FinSet as set
use Rattle.std.specs.Prelude.{Some, None}
use Rattle.std.proofs.lemmas.Bool.{and_parts, not-true, ltb-false, ne_eqb, cases_lt}
use Rattle.f2_format.specs.Geometry.{ImageGeometry, node_start, data_start, is_in_node, is_in_data, nid_limit}
use Rattle.f2_format.specs.Footer.{footer_nid, footer_ino, footer_offset}
use Rattle.f2_model.specs.Tree.{ROOT}
use Rattle.f2_image.specs.Images.{Image, block_at}
use Rattle.f2_image.specs.Packs.{Checkpoint}
use Rattle.f2_image.specs.Nodes.{place_of_nid, node_address, node, block_there}
use Rattle.f2_image.specs.Reached.{IsNode, IsBasePage, IsPage}
use Rattle.f2_image.specs.Faults.{IsShared, IsMisplaced, HasTable, IsBadNat}
use Rattle.f2_image.specs.Faults as faults
use Rattle.f2_recover.specs.Reading.{IsNodeRead}
use Rattle.f2_recover.specs.Taking.{Taken, TakenNode, TakenPage, TakenNid, IsBefore, IsRightNode, IsRightPage, AreTaken}
use Rattle.f2_recover.proofs.Sets.{Numbers, not_both, not_true, here, stays, one_of}
use Rattle.f2_recover.proofs.NodesOfFiles.{one_nid}

-- an address in a zone is one
pub in_node_some : (geom : ImageGeometry) (at : ℕ) → is_in_node geom at ≡ true → at ≢ 0
in_node_some geom at inside none =
    let past : node_start geom ≤ at = ltb-false at (node_start geom) (not-true (nat_lt at (node_start geom)) (and_parts (not (nat_lt at (node_start geom))) _ inside).0) in
    omega (arith, past, none)

pub in_data_some : (geom : ImageGeometry) (at : ℕ) → is_in_data geom at ≡ true → at ≢ 0
in_data_some geom at inside none =
    let past : data_start geom ≤ at = ltb-false at (data_start geom) (not-true (nat_lt at (data_start geom)) (and_parts (not (nat_lt at (data_start geom))) _ inside).0) in
    omega (arith, past, none)

less : (m n : ℕ) → m < n → nat_lt m n ≡ true
less m n lt = grind (arith, lt)

-- past the table there is no address
none_past : (limit nid place : ℕ) → limit ≤ nid → cond ((nid == 0) || nat_le limit nid) 0 place ≡ 0
none_past limit nid place past = ap (λ b. cond ((nid == 0) || b) 0 place) (test limit nid past) ∙ either_way (nid == 0)
  where
    test : (m n : ℕ) → m ≤ n → nat_le m n ≡ true
    test m n le = grind (arith, le)

    either_way : (b : Bool) → cond (b || true) 0 place ≡ 0
    either_way true = refl
    either_way false = refl

module _ (image : Image) (ckpt : Checkpoint) (inos : Numbers) (ino : ℕ) where
  -- limits may be greater
  pub before_more : (a b other more : ℕ) → a ≤ b → IsBefore inos ino a other more → IsBefore inos ino b other more
  before_more a b other more le (inl before) = inl before
  before_more a b other more le (inr own) = inr (own.0, omega (arith, own.1, le))

  node_later : (a b at : ℕ) → a ≤ b → TakenNode image ckpt inos ino a at → TakenNode image ckpt inos ino b at
  node_later a b at le t = record { other = t.other; more = t.more; nid = t.nid; is = t.is; address = t.address; before = before_more a b t.other t.more le t.before }

  page_later : (a b at : ℕ) → a ≤ b → TakenPage image ckpt inos ino a at → TakenPage image ckpt inos ino b at
  page_later a b at le t = record { other = t.other; more = t.more; is = t.is; before = before_more a b t.other t.more le t.before }

  -- one that came before is another one
  differs : (limit other more : ℕ) → set.contains inos ino ≡ false → IsBefore inos ino limit other more → (ino ≢ other) ⊎ (limit ≢ more)
  differs limit other more fresh (inl before) = inl (λ same. not_both before (subst (λ n. set.contains inos n ≡ false) same fresh))
  differs limit other more fresh (inr own) = inr (λ same. omega (arith, own.1, same))

  -- one that comes before a greater limit came before, or is at the limit or past it
  abbrev pub Either : ℕ → ℕ → ℕ → Type 0
  Either limit other more = IsBefore inos ino limit other more ⊎ ((other ≡ ino) × (limit ≤ more))

  pub either : (a b other more : ℕ) → IsBefore inos ino b other more → (IsBefore inos ino a other more) ⊎ ((other ≡ ino) × (a ≤ more) × (more < b))
  either a b other more (inl before) = inl (inl before)
  either a b other more (inr own) = by_order (cases_lt more a)
    where
      by_order : (more < a) ⊎ (a ≤ more) → (IsBefore inos ino a other more) ⊎ ((other ≡ ino) × (a ≤ more) × (more < b))
      by_order (inl less) = inl (inr (own.0, less))
      by_order (inr least) = inr (own.0, least, own.1)

  -- limits go past what the file hasn't
  module _ (offset page o p : ℕ) (taken : Taken) (are : AreTaken image ckpt inos ino offset page taken) (lo : offset ≤ o) (lp : page ≤ p)
      (no_node : (q nid : ℕ) → offset ≤ q → q < o → IsNode image ckpt ino q nid → ⊥) (no_page : (q at : ℕ) → page ≤ q → q < p → IsBasePage image ckpt ino q at → ⊥) where
    node_before : (other more nid : ℕ) → IsNode image ckpt other more nid → IsBefore inos ino o other more → IsBefore inos ino offset other more
    node_before other more nid is before = by (either offset o other more before)
      where
        by : (IsBefore inos ino offset other more) ⊎ ((other ≡ ino) × (offset ≤ more) × (more < o)) → IsBefore inos ino offset other more
        by (inl h) = h
        by (inr h) = absurd (no_node more nid h.1 h.2 (subst (λ i. IsNode image ckpt i more nid) h.0 is))

    page_before : (other more at : ℕ) → IsBasePage image ckpt other more at → IsBefore inos ino p other more → IsBefore inos ino page other more
    page_before other more at is before = by (either page p other more before)
      where
        by : (IsBefore inos ino page other more) ⊎ ((other ≡ ino) × (page ≤ more) × (more < p)) → IsBefore inos ino page other more
        by (inl h) = h
        by (inr h) = absurd (no_page more at h.1 h.2 (subst (λ i. IsBasePage image ckpt i more at) h.0 is))

    pub taken_past : AreTaken image ckpt inos ino o p taken
    taken_past = record {
      fresh = are.fresh;
      nodes = λ at h. node_later offset o at lo (are.nodes at h);
      pages = λ at h. page_later page p at lp (are.pages at h);
      nids = are.nids;
      right_nodes = λ other more nid is before. are.right_nodes other more nid is (node_before other more nid is before);
      right_pages = λ other more at is before. are.right_pages other more at is (page_before other more at is before);
      nodes_apart = λ other more nid own place one is too before also same. are.nodes_apart other more nid own place one is too (node_before other more nid is before) (node_before own place one too also) same;
      pages_apart = λ other more own place at is too before also. are.pages_apart other more own place at is too (page_before other more at is before) (page_before own place at too also);
    }

  module _ (offset page : ℕ) (taken : Taken) (are : AreTaken image ckpt inos ino offset page taken) where
    -- a node takes its address
    module _ (nid at : ℕ) (now : Taken) (block : List ℕ) (is : IsNode image ckpt ino offset nid) (read : IsNodeRead image ckpt ino offset nid at block) (free : set.contains taken.nodes at ≡ false)
        (same : now ≡ record taken { nodes = set.insert taken.nodes at; nids = set.insert taken.nids nid }) where
      abbrev more_nodes : Taken
      more_nodes = record taken { nodes = set.insert taken.nodes at; nids = set.insert taken.nids nid }

      abbrev New : ℕ → ℕ → Type 0
      New other more = (other ≡ ino) × (more ≡ offset)

      part_of : (other more : ℕ) → IsBefore inos ino (offset + 1) other more → IsBefore inos ino offset other more ⊎ New other more
      part_of other more before = by (either offset (offset + 1) other more before)
        where
          by : (IsBefore inos ino offset other more) ⊎ ((other ≡ ino) × (offset ≤ more) × (more < offset + 1)) → IsBefore inos ino offset other more ⊎ New other more
          by (inl h) = inl h
          by (inr h) = inr (h.0, omega (arith, h.1, h.2))

      new_nid : (other more one : ℕ) → IsNode image ckpt other more one → New other more → one ≡ nid
      new_nid other more one node new = one_nid image ckpt ino offset one nid (subst (λ o. IsNode image ckpt ino o one) new.1 (subst (λ i. IsNode image ckpt i more one) new.0 node)) is

      new_address : (other more one : ℕ) → IsNode image ckpt other more one → New other more → node_address image ckpt one ≡ at
      new_address other more one node new = ap (node_address image ckpt) (new_nid other more one node new) ∙ read.address

      holds : (q : ℕ) → (q ≡ at) ⊎ (set.contains taken.nodes q ≡ true) → TakenNode image ckpt inos ino (offset + 1) q
      holds q (inl e) = record { other = ino; more = offset; nid = nid; is = is; address = read.address ∙ sym e; before = inr (refl, omega arith) }
      holds q (inr h) = node_later offset (offset + 1) q (omega arith) (are.nodes q h)

      right : (other more one : ℕ) → IsNode image ckpt other more one → IsBefore inos ino offset other more ⊎ New other more → IsRightNode image ckpt more_nodes other more one
      right other more one node (inl before) =
          let old = are.right_nodes other more one node before in
          record { block = old.block; read = old.read; taken_is = stays taken.nodes at (node_address image ckpt one) old.taken_is; nid_is = stays taken.nids nid one old.nid_is }
      right other more one node (inr new) =
          let here_at = new_address other more one node new in
          record {
            block = block;
            read = subst (λ i. IsNodeRead image ckpt i more one (node_address image ckpt one) block) (sym new.0)
                (subst (λ o. IsNodeRead image ckpt ino o one (node_address image ckpt one) block) (sym new.1)
                (subst (λ n. IsNodeRead image ckpt ino offset n (node_address image ckpt n) block) (sym (new_nid other more one node new))
                (subst (λ a. IsNodeRead image ckpt ino offset nid a block) (sym read.address) read)));
            taken_is = subst (λ a. set.contains (set.insert taken.nodes at) a ≡ true) (sym here_at) (here taken.nodes at);
            nid_is = subst (λ n. set.contains (set.insert taken.nids nid) n ≡ true) (sym (new_nid other more one node new)) (here taken.nids nid);
          }

      -- a node that came before has another address
      other_address : (other more one : ℕ) → IsNode image ckpt other more one → IsBefore inos ino offset other more → node_address image ckpt one ≡ at → ⊥
      other_address other more one node before e = not_both (sym (ap (set.contains taken.nodes) e) ∙ (are.right_nodes other more one node before).taken_is) free

      apart : (other more one own place two : ℕ) → IsNode image ckpt other more one → IsNode image ckpt own place two → IsBefore inos ino offset other more ⊎ New other more → IsBefore inos ino offset own place ⊎ New own place
          → node_address image ckpt one ≡ node_address image ckpt two → (other ≡ own) × (more ≡ place)
      apart other more one own place two node too (inl a) (inl b) e = are.nodes_apart other more one own place two node too a b e
      apart other more one own place two node too (inl a) (inr b) e = absurd (other_address other more one node a (e ∙ new_address own place two too b))
      apart other more one own place two node too (inr a) (inl b) e = absurd (other_address own place two too b (sym e ∙ new_address other more one node a))
      apart other more one own place two node too (inr a) (inr b) e = (a.0 ∙ sym b.0, a.1 ∙ sym b.1)

      by_nid : (n : ℕ) → (n ≡ nid) ⊎ (set.contains taken.nids n ≡ true) → TakenNid image ckpt n
      by_nid n (inl e) = record { ino = ino; offset = offset; is = subst (IsNode image ckpt ino offset) (sym e) is }
      by_nid n (inr h) = are.nids n h

      pub node_claims : AreTaken image ckpt inos ino (offset + 1) page now
      node_claims = subst (AreTaken image ckpt inos ino (offset + 1) page) (sym same) (record {
        fresh = are.fresh;
        nodes = λ q h. holds q (one_of taken.nodes at q h);
        pages = are.pages;
        nids = λ n h. by_nid n (one_of taken.nids nid n h);
        right_nodes = λ other more one node before. right other more one node (part_of other more before);
        right_pages = λ other more q base before. let old = are.right_pages other more q base before in record { in_zone = old.in_zone; taken_is = old.taken_is };
        nodes_apart = λ other more one own place two node too before also e. apart other more one own place two node too (part_of other more before) (part_of own place also) e;
        pages_apart = are.pages_apart;
      })

    pub node_shared : (nid at : ℕ) → IsNode image ckpt ino offset nid → node_address image ckpt nid ≡ at → at ≢ 0 → set.contains taken.nodes at ≡ true → IsShared image ckpt at
    node_shared nid at is address some h =
        let t = are.nodes at h in
        faults.nodes ino offset nid t.other t.more t.nid is t.is (differs offset t.other t.more are.fresh t.before) some address t.address

    -- a page takes its address
    module _ (at : ℕ) (now : Taken) (is : IsBasePage image ckpt ino page at) (inside : is_in_data ckpt.geom at ≡ true) (free : set.contains taken.pages at ≡ false)
        (only : (q : ℕ) → IsBasePage image ckpt ino page q → q ≡ at) (same : now ≡ record taken { pages = set.insert taken.pages at }) where
      abbrev more_pages : Taken
      more_pages = record taken { pages = set.insert taken.pages at }

      abbrev NewPage : ℕ → ℕ → Type 0
      NewPage other more = (other ≡ ino) × (more ≡ page)

      page_part : (other more : ℕ) → IsBefore inos ino (page + 1) other more → IsBefore inos ino page other more ⊎ NewPage other more
      page_part other more before = by (either page (page + 1) other more before)
        where
          by : (IsBefore inos ino page other more) ⊎ ((other ≡ ino) × (page ≤ more) × (more < page + 1)) → IsBefore inos ino page other more ⊎ NewPage other more
          by (inl h) = inl h
          by (inr h) = inr (h.0, omega (arith, h.1, h.2))

      new_at : (other more q : ℕ) → IsBasePage image ckpt other more q → NewPage other more → q ≡ at
      new_at other more q base new = only q (subst (λ p. IsBasePage image ckpt ino p q) new.1 (subst (λ i. IsBasePage image ckpt i more q) new.0 base))

      holds_page : (q : ℕ) → (q ≡ at) ⊎ (set.contains taken.pages q ≡ true) → TakenPage image ckpt inos ino (page + 1) q
      holds_page q (inl e) = record { other = ino; more = page; is = subst (IsBasePage image ckpt ino page) (sym e) is; before = inr (refl, omega arith) }
      holds_page q (inr h) = page_later page (page + 1) q (omega arith) (are.pages q h)

      right_page : (other more q : ℕ) → IsBasePage image ckpt other more q → IsBefore inos ino page other more ⊎ NewPage other more → IsRightPage ckpt more_pages q
      right_page other more q base (inl before) =
          let old = are.right_pages other more q base before in
          record { in_zone = old.in_zone; taken_is = stays taken.pages at q old.taken_is }
      right_page other more q base (inr new) = subst (IsRightPage ckpt more_pages) (sym (new_at other more q base new)) (record { in_zone = inside; taken_is = here taken.pages at })

      fresh_page : (other more : ℕ) → IsBasePage image ckpt other more at → IsBefore inos ino page other more → ⊥
      fresh_page other more base before = not_both (are.right_pages other more at base before).taken_is free

      pages_differ : (other more own place q : ℕ) → IsBasePage image ckpt other more q → IsBasePage image ckpt own place q → IsBefore inos ino page other more ⊎ NewPage other more → IsBefore inos ino page own place ⊎ NewPage own place
          → (other ≡ own) × (more ≡ place)
      pages_differ other more own place q base too (inl a) (inl b) = are.pages_apart other more own place q base too a b
      pages_differ other more own place q base too (inl a) (inr b) = absurd (fresh_page other more (subst (IsBasePage image ckpt other more) (new_at own place q too b) base) a)
      pages_differ other more own place q base too (inr a) (inl b) = absurd (fresh_page own place (subst (IsBasePage image ckpt own place) (new_at other more q base a) too) b)
      pages_differ other more own place q base too (inr a) (inr b) = (a.0 ∙ sym b.0, a.1 ∙ sym b.1)

      pub page_claims : AreTaken image ckpt inos ino offset (page + 1) now
      page_claims = subst (AreTaken image ckpt inos ino offset (page + 1)) (sym same) (record {
        fresh = are.fresh;
        nodes = are.nodes;
        nids = are.nids;
        pages = λ q h. holds_page q (one_of taken.pages at q h);
        right_nodes = λ other more nid node before. let old = are.right_nodes other more nid node before in record { block = old.block; read = old.read; taken_is = old.taken_is; nid_is = old.nid_is };
        right_pages = λ other more q base before. right_page other more q base (page_part other more before);
        nodes_apart = are.nodes_apart;
        pages_apart = λ other more own place q base too before also. pages_differ other more own place q base too (page_part other more before) (page_part own place also);
      })

    pub page_shared : (at : ℕ) → IsBasePage image ckpt ino page at → set.contains taken.pages at ≡ true → IsShared image ckpt at
    page_shared at is h =
        let t = are.pages at h in
        faults.pages ino page t.other t.more at_base t_base (differs page t.other t.more are.fresh t.before)
      where
        at_base : IsPage image ckpt ino page at
        at_base = inl is

        t_base : IsPage image ckpt (are.pages at h).other (are.pages at h).more at
        t_base = inl (are.pages at h).is

-- a node whose address isn't in its zone, or whose nid isn't in the table
pub unfit_node : (image : Image) (ckpt : Checkpoint) (geom : ImageGeometry) (nid at : ℕ) → ckpt.geom ≡ geom → node_address image ckpt nid ≡ at → (is_in_node geom at && nat_lt nid (nid_limit geom)) ≡ false → is_in_node ckpt.geom (node_address image ckpt nid) ≡ false
unfit_node image ckpt geom nid at sizes address unfit = by (cases_lt nid (nid_limit geom))
  where
    not_in : is_in_node ckpt.geom 0 ≡ false
    not_in = not_true (is_in_node ckpt.geom 0) (λ h. in_node_some ckpt.geom 0 h refl)

    past : nid_limit geom ≤ nid → node_address image ckpt nid ≡ 0
    past le = none_past (nid_limit ckpt.geom) nid (place_of_nid image ckpt nid).1 (subst (λ (e : ImageGeometry). nid_limit e ≤ nid) (sym sizes) le)

    and_true : (a b : Bool) → b ≡ true → (a && b) ≡ false → a ≡ false
    and_true true b is h = absurd (not_both is h)
    and_true false b is h = refl

    by : (nid < nid_limit geom) ⊎ (nid_limit geom ≤ nid) → is_in_node ckpt.geom (node_address image ckpt nid) ≡ false
    by (inl low) = ap (λ a. is_in_node ckpt.geom a) address ∙ ap (λ e. is_in_node e at) sizes ∙ and_true (is_in_node geom at) (nat_lt nid (nid_limit geom)) (less nid (nid_limit geom) low) unfit
    by (inr high) = ap (is_in_node ckpt.geom) (past high) ∙ not_in

-- a node whose block was read at its address
module _ (image : Image) (ckpt : Checkpoint) (geom : ImageGeometry) (ino offset nid at : ℕ) (block : List ℕ) (sizes : ckpt.geom ≡ geom) (address : node_address image ckpt nid ≡ at) (inside : is_in_node geom at ≡ true) (content : block ≡ block_at image at) where
  pub node_there : node image ckpt nid ≡ Some block
  node_there = ap (block_there image) address ∙ ap (λ b. cond b None (Some (block_at image at))) (ne_eqb at 0 (in_node_some geom at inside)) ∙ ap Some (sym content)

  pub node_read : (4 ≤ nid) ⊎ ((ino ≡ ROOT) × (offset ≡ 0)) → footer_nid block ≡ nid → footer_ino block ≡ ino → footer_offset block ≡ offset → IsNodeRead image ckpt ino offset nid at block
  node_read least one two three = record {
    least = least;
    address = address;
    in_zone = ap (λ e. is_in_node e at) sizes ∙ inside;
    there = node_there;
    footer_nid_is = one;
    footer_ino_is = two;
    footer_offset_is = three;
  }

  pub node_misplaced : HasTable ckpt → IsNode image ckpt ino offset nid → IsMisplaced block ino offset nid → HasTable ckpt × IsBadNat image ckpt nid
  node_misplaced has is wrong = (has, faults.misplaced ino offset block is node_there wrong)
