-- The nodes of a file, one offset and one page after another.
use Rattle.std.proofs.Common.{◌≡◌, ◌≢◌, ◌⊎◌, inl, inr, ℕ, ◌+◌, ◌<◌, ◌≤◌, List, refl, sym, ap, subst, ◌∙◌, arith}
use Rattle.std.specs.Prelude.{Option, Some, None, slice_index, slice_index_or}
use Rattle.std.specs.Ordering.{nat_cmp}
use Rattle.std.specs.FinMap as map
use Rattle.std.specs.FinMap.{get-empty}
use Rattle.std.proofs.lemmas.Bool.{cases_eq, cases_lt}
use Rattle.f2_overlay.proofs.Maps.{not_none, one_some, get_put, get_put-other}
use Rattle.f2_overlay.specs.declared.rolls.Roll.{Roll}
use Rattle.f2_overlay.specs.declared.taking.NodeAt.{NodeAt}
use Rattle.f2_recover.specs.Seeing.{no_page}
use Rattle.f2_recover.specs.declared.nodes.PageAt.{PageAt}
use Rattle.f2_recover.specs.declared.rows.BaseRow.{BaseRow}
use Rattle.f2_shape.specs.Routes.{route_of}
use Rattle.f2_shape.specs.declared.path.Route.{Route}
use Rattle.f2_takeover.specs.Nodes.{Nodes, node_from, IsAmong, IsOnWay, IsNeededTo, inode, above, AreNodesTo, AreTakenTo, with_node}

-- nodes with one more, where it is there
module _ (nodes : Nodes) (offset : ℕ) where
  with_here : (one : Option NodeAt) (told : NodeAt) → one ≡ Some told → map.get (with_node nodes offset one) offset ≡ Some told
  with_here None told is = absurd (not_none told is)
  with_here (Some x) told is = get_put nodes offset x ∙ is

  with_other : (one : Option NodeAt) (other : ℕ) → other ≢ offset → map.get (with_node nodes offset one) other ≡ map.get nodes other
  with_other None other different = refl
  with_other (Some x) other different = get_put-other nodes offset x other different

  with_only : (one : Option NodeAt) (other : ℕ) (told : NodeAt) → map.get (with_node nodes offset one) other ≡ Some told → (map.get nodes other ≡ Some told) ⊎ ((other ≡ offset) × (one ≡ Some told))
  with_only None other told there = inl there
  with_only (Some x) other told there = by (cases_eq other offset)
    where
      by : (other ≡ offset) ⊎ (other ≢ offset) → (map.get nodes other ≡ Some told) ⊎ ((other ≡ offset) × (Some x ≡ Some told))
      by (inl same) = inr (same, sym (get_put nodes offset x) ∙ ap (map.get (map.insert nodes offset x)) (sym same) ∙ there)
      by (inr different) = inl (sym (get_put-other nodes offset x other different) ∙ there)

module _ (roll : Option Roll) (base : Option BaseRow) where
  abbrev source : ℕ → Option NodeAt
  source offset = node_from roll base offset

  module _ (offsets : List ℕ) where
    pub taken_none : (nodes : Nodes) → AreTakenTo roll base offsets 0 nodes nodes
    taken_none nodes = record { all = λ offset told among is. absurd (omega (arith, among.1.0)); kept = λ offset told is there. there; only = λ offset told there. inl there }

    -- one offset more
    module _ (count : ℕ) (old mid new : Nodes) (before : AreTakenTo roll base offsets count old mid) (put : new ≡ with_node mid (slice_index offsets count) (source (slice_index offsets count))) where
      abbrev at : ℕ
      at = slice_index offsets count

      stays : (offset : ℕ) (told : NodeAt) → source offset ≡ Some told → map.get mid offset ≡ Some told → map.get new offset ≡ Some told
      stays offset told is there = ap (λ (m : Nodes). map.get m offset) put ∙ by (cases_eq offset at)
        where
          by : (offset ≡ at) ⊎ (offset ≢ at) → map.get (with_node mid at (source at)) offset ≡ Some told
          by (inl same) = ap (map.get (with_node mid at (source at))) same ∙ with_here mid at (source at) told (ap source (sym same) ∙ is)
          by (inr different) = with_other mid at (source at) offset different ∙ there

      more : (offset : ℕ) → IsAmong offsets count offset → IsAmong offsets (count + 1) offset
      more offset among = (among.0, (omega (arith, among.1.0), among.1.1))

      pub taken_more : AreTakenTo roll base offsets (count + 1) old new
      taken_more = record {
        all = λ offset told among is. all offset told among is (cases_lt among.0 count);
        kept = λ offset told is there. stays offset told is (before.kept offset told is there);
        only = λ offset told there. only offset told (with_only mid at (source at) offset told (ap (λ (m : Nodes). map.get m offset) (sym put) ∙ there));
      }
        where
          all : (offset : ℕ) (told : NodeAt) (among : IsAmong offsets (count + 1) offset) → source offset ≡ Some told → (among.0 < count) ⊎ (count ≤ among.0) → map.get new offset ≡ Some told
          all offset told among is (inl low) = stays offset told is (before.all offset told (among.0, (low, among.1.1)) is)
          all offset told among is (inr high) =
              let last : among.0 ≡ count = omega (arith, high, among.1.0) in
              let same : offset ≡ at = sym among.1.1 ∙ ap (slice_index offsets) last in
              ap (λ (m : Nodes). map.get m offset) put ∙ ap (map.get (with_node mid at (source at))) same ∙ with_here mid at (source at) told (ap source (sym same) ∙ is)

          only : (offset : ℕ) (told : NodeAt) → (map.get mid offset ≡ Some told) ⊎ ((offset ≡ at) × (source at ≡ Some told)) → (map.get old offset ≡ Some told) ⊎ (IsAmong offsets (count + 1) offset × (source offset ≡ Some told))
          only offset told (inl there) = by (before.only offset told there)
            where
              by : (map.get old offset ≡ Some told) ⊎ (IsAmong offsets count offset × (source offset ≡ Some told)) → (map.get old offset ≡ Some told) ⊎ (IsAmong offsets (count + 1) offset × (source offset ≡ Some told))
              by (inl was) = inl was
              by (inr is) = inr (more offset is.0, is.1)
          only offset told (inr is) = inr ((count, (omega arith, sym is.0)), ap source is.0 ∙ is.1)

  abbrev empty_nodes : Nodes
  empty_nodes = map.empty

  -- the inode alone
  pub nodes_none : (pages : List PageAt) (nodes : Nodes) → nodes ≡ with_node map.empty 0 (source 0) → AreNodesTo roll base pages 0 nodes
  nodes_none pages nodes put = record {
    all = λ offset told needs is. all offset told needs is;
    needed = λ offset told there. inode (found offset told there).0;
    only = λ offset told there. let one = found offset told there in ap source one.0 ∙ one.1;
  }
    where
      found : (offset : ℕ) (told : NodeAt) → map.get nodes offset ≡ Some told → (offset ≡ 0) × (source 0 ≡ Some told)
      found offset told there = by (with_only map.empty 0 (source 0) offset told (ap (λ (m : Nodes). map.get m offset) (sym put) ∙ there))
        where
          by : (map.get empty_nodes offset ≡ Some told) ⊎ ((offset ≡ 0) × (source 0 ≡ Some told)) → (offset ≡ 0) × (source 0 ≡ Some told)
          by (inl was) = absurd (not_none told (sym (get-empty nat_cmp offset) ∙ was))
          by (inr one) = one

      all : (offset : ℕ) (told : NodeAt) → IsNeededTo pages 0 offset → source offset ≡ Some told → map.get nodes offset ≡ Some told
      all offset told (inode top) is = ap (λ (m : Nodes). map.get m offset) put ∙ ap (map.get (with_node map.empty 0 (source 0))) top ∙ with_here map.empty 0 (source 0) told (ap source (sym top) ∙ is)
      all offset told (above k low way) is = absurd (omega (arith, low))

  -- one page more
  module _ (pages : List PageAt) (count : ℕ) (old new : Nodes) (before : AreNodesTo roll base pages count old) where
    abbrev page : ℕ
    page = (slice_index_or pages count no_page).page

    needs_more : (offset : ℕ) → IsNeededTo pages count offset → IsNeededTo pages (count + 1) offset
    needs_more offset (inode top) = inode top
    needs_more offset (above k low way) = above k (omega (arith, low)) way

    needs_less : (offset : ℕ) → IsNeededTo pages (count + 1) offset → IsNeededTo pages count offset ⊎ IsOnWay page offset
    needs_less offset (inode top) = inl (inode top)
    needs_less offset (above k low way) = by (cases_lt k count)
      where
        by : (k < count) ⊎ (count ≤ k) → IsNeededTo pages count offset ⊎ IsOnWay page offset
        by (inl less) = inl (above k less way)
        by (inr high) = let last : k ≡ count = omega (arith, low, high) in inr (subst (λ n. IsOnWay (slice_index_or pages n no_page).page offset) last way)

    same_route : (a b : Route) → route_of page ≡ Some a → route_of page ≡ Some b → a ≡ b
    same_route a b is other = one_some a b (sym is ∙ other)

    with_way : (route : Route) → route_of page ≡ Some route → AreTakenTo roll base route.nodes 4 old new → AreNodesTo roll base pages (count + 1) new
    with_way route leads taken = record {
      all = λ offset told needs is. all offset told is (needs_less offset needs);
      needed = λ offset told there. needed offset told (taken.only offset told there);
      only = λ offset told there. only offset told (taken.only offset told there);
    }
      where
        all : (offset : ℕ) (told : NodeAt) → source offset ≡ Some told → IsNeededTo pages count offset ⊎ IsOnWay page offset → map.get new offset ≡ Some told
        all offset told is (inl was) = taken.kept offset told is (before.all offset told was is)
        all offset told is (inr way) = taken.all offset told (subst (λ (r : Route). IsAmong r.nodes 4 offset) (same_route way.route route way.leads leads) way.among) is

        needed : (offset : ℕ) (told : NodeAt) → (map.get old offset ≡ Some told) ⊎ (IsAmong route.nodes 4 offset × (source offset ≡ Some told)) → IsNeededTo pages (count + 1) offset
        needed offset told (inl was) = needs_more offset (before.needed offset told was)
        needed offset told (inr is) = above count (omega arith) (record { route = route; leads = leads; among = is.0 })

        only : (offset : ℕ) (told : NodeAt) → (map.get old offset ≡ Some told) ⊎ (IsAmong route.nodes 4 offset × (source offset ≡ Some told)) → source offset ≡ Some told
        only offset told (inl was) = before.only offset told was
        only offset told (inr is) = is.1

    no_way : route_of page ≡ None → AreNodesTo roll base pages (count + 1) old
    no_way none = record {
      all = λ offset told needs is. all offset told is (needs_less offset needs);
      needed = λ offset told there. needs_more offset (before.needed offset told there);
      only = before.only;
    }
      where
        all : (offset : ℕ) (told : NodeAt) → source offset ≡ Some told → IsNeededTo pages count offset ⊎ IsOnWay page offset → map.get old offset ≡ Some told
        all offset told is (inl was) = before.all offset told was is
        all offset told is (inr way) = absurd (not_none way.route (sym none ∙ way.leads))

    pub nodes_more : ((route : Route) → route_of page ≡ Some route → AreTakenTo roll base route.nodes 4 old new) → (route_of page ≡ None → new ≡ old) → AreNodesTo roll base pages (count + 1) new
    nodes_more taken same = by (route_of page) refl
      where
        by : (r : Option Route) → route_of page ≡ r → AreNodesTo roll base pages (count + 1) new
        by None e = subst (AreNodesTo roll base pages (count + 1)) (sym (same e)) (no_way e)
        by (Some route) e = with_way route e (taken route e)
