-- A file as far as it was read, with a node or a page more.
use Rattle.std.proofs.Common.{◌≡◌, ◌≢◌, ◌⊎◌, inl, inr, ℕ, ◌+◌, ◌<◌, ◌≤◌, [], ◌∷◌, ◌++◌, sym, ap, ◌∙◌, subst, arith}
use Rattle.std.specs.Prelude.{Some}
use Rattle.std.specs.Option.{option_map}
use Rattle.std.specs.Ordering.{nat_cmp}
use Rattle.std.specs.FinMap as map
use Rattle.std.proofs.lemmas.Bool.{cases_eq, cases_lt}
use Rattle.f2_image.specs.Images.{Image}
use Rattle.f2_image.specs.Packs.{Checkpoint}
use Rattle.f2_image.specs.Nodes.{node_address}
use Rattle.f2_image.specs.Reached.{IsNode, IsBasePage}
use Rattle.f2_image.proofs.OneBase.{same_some}
use Rattle.f2_recover.specs.Seeing.{IsPart, IsList, IsNodeBelow, IsPageBelow}
use Rattle.f2_recover.specs.declared.nodes.FileNodes.{FileNodes}
use Rattle.f2_recover.proofs.NodesOfFiles.{one_nid}
use Rattle.f2_laws.proofs.Maps.{get_put, get_put-other}
use Rattle.f2_recover.proofs.PageLists.{list_later, list_more}

abbrev Map : Type 0
Map = map.FinMap nat_cmp ℕ

-- what a map has with an entry more
one_of : (m : Map) (k v q w : ℕ) → map.get (map.insert m k v) q ≡ Some w → ((q ≡ k) × (w ≡ v)) ⊎ ((q ≢ k) × (map.get m q ≡ Some w))
one_of m k v q w there = by (cases_eq q k)
  where
    by : (q ≡ k) ⊎ (q ≢ k) → ((q ≡ k) × (w ≡ v)) ⊎ ((q ≢ k) × (map.get m q ≡ Some w))
    by (inl e) = inl (e, same_some w v (sym there ∙ ap (map.get (map.insert m k v)) e ∙ get_put m k v))
    by (inr other) = inr (other, sym (get_put-other m k v q other) ∙ there)

module _ (image : Image) (ckpt : Checkpoint) (ino : ℕ) where
  node_later : (a b o nid : ℕ) → a ≤ b → IsNodeBelow image ckpt ino a o nid → IsNodeBelow image ckpt ino b o nid
  node_later a b o nid le is = record { within = omega (arith, is.within, le); is = is.is }

  page_later : (a b p at : ℕ) → a ≤ b → IsPageBelow image ckpt ino a p at → IsPageBelow image ckpt ino b p at
  page_later a b p at le is = record { within = omega (arith, is.within, le); is = is.is }

  module _ (offset page : ℕ) (file : FileNodes) (part : IsPart image ckpt ino offset page file) where
    pub part_node : (nid at : ℕ) (now : FileNodes) → IsNode image ckpt ino offset nid → node_address image ckpt nid ≡ at
        → now.nids ≡ map.insert file.nids offset nid → now.addresses ≡ map.insert file.addresses offset at → now.pages ≡ file.pages → now.list.items ≡ file.list.items → IsPart image ckpt ino (offset + 1) page now
    part_node nid at now is address nids addresses pages list = record {
      nodes = λ o one there. by_node o one (one_of file.nids offset nid o one (sym (ap (λ (m : Map). map.get m o) nids) ∙ there));
      all_nodes = λ o one node within. ap (λ (m : Map). map.get m o) nids ∙ by_all o one node within (cases_eq o offset);
      addresses = λ o. ap (λ (m : Map). map.get m o) addresses ∙ by_address o (cases_eq o offset) ∙ ap (λ (m : Map). option_map (node_address image ckpt) (map.get m o)) (sym nids);
      pages = λ p q there. part.pages p q (sym (ap (λ x. map.get x.pages p) pages) ∙ there);
      all_pages = λ p q base within. ap (λ x. map.get x.pages p) pages ∙ part.all_pages p q base within;
      listed = subst (λ x. IsList page x.pages now.list.items) (sym pages) (subst (IsList page file.pages.pages) (sym list) part.listed);
    }
      where
        by_node : (o one : ℕ) → ((o ≡ offset) × (one ≡ nid)) ⊎ ((o ≢ offset) × (map.get file.nids o ≡ Some one)) → IsNodeBelow image ckpt ino (offset + 1) o one
        by_node o one (inl e) = record { within = omega (arith, e.0); is = subst (λ n. IsNode image ckpt ino o n) (sym e.1) (subst (λ n. IsNode image ckpt ino n nid) (sym e.0) is) }
        by_node o one (inr old) = node_later offset (offset + 1) o one (omega arith) (part.nodes o one old.1)

        by_all : (o one : ℕ) → IsNode image ckpt ino o one → o < offset + 1 → (o ≡ offset) ⊎ (o ≢ offset) → map.get (map.insert file.nids offset nid) o ≡ Some one
        by_all o one node within (inl e) = ap (map.get (map.insert file.nids offset nid)) e ∙ get_put file.nids offset nid ∙ ap Some (one_nid image ckpt ino offset nid one is (subst (λ n. IsNode image ckpt ino n one) e node))
        by_all o one node within (inr other) = get_put-other file.nids offset nid o other ∙ part.all_nodes o one node (omega (arith, within, other))

        by_address : (o : ℕ) → (o ≡ offset) ⊎ (o ≢ offset) → map.get (map.insert file.addresses offset at) o ≡ option_map (node_address image ckpt) (map.get (map.insert file.nids offset nid) o)
        by_address o (inl e) =
            ap (map.get (map.insert file.addresses offset at)) e ∙ get_put file.addresses offset at ∙ ap Some (sym address)
            ∙ ap (option_map (node_address image ckpt)) (sym (ap (map.get (map.insert file.nids offset nid)) e ∙ get_put file.nids offset nid))
        by_address o (inr other) =
            get_put-other file.addresses offset at o other ∙ part.addresses o ∙ ap (option_map (node_address image ckpt)) (sym (get_put-other file.nids offset nid o other))

    pub part_page : (at : ℕ) (now : FileNodes) → IsBasePage image ckpt ino page at → ((q : ℕ) → IsBasePage image ckpt ino page q → q ≡ at)
        → now.nids ≡ file.nids → now.addresses ≡ file.addresses → now.pages.pages ≡ map.insert file.pages.pages page at → now.list.items ≡ file.list.items ++ record { page = page; at = at } ∷ []
        → IsPart image ckpt ino offset (page + 1) now
    part_page at now is only nids addresses pages list = record {
      nodes = λ o one there. part.nodes o one (sym (ap (λ (m : Map). map.get m o) nids) ∙ there);
      all_nodes = λ o one node within. ap (λ (m : Map). map.get m o) nids ∙ part.all_nodes o one node within;
      addresses = λ o. ap (λ (m : Map). map.get m o) addresses ∙ part.addresses o ∙ ap (λ (m : Map). option_map (node_address image ckpt) (map.get m o)) (sym nids);
      pages = λ p q there. by_page p q (one_of file.pages.pages page at p q (sym (ap (λ (m : Map). map.get m p) pages) ∙ there));
      all_pages = λ p q base within. ap (λ (m : Map). map.get m p) pages ∙ by_all p q base within (cases_eq p page);
      listed = list_more page at file.pages.pages now.pages.pages file.list.items now.list.items part.listed (λ q there. let below = (part.pages page q there).within in omega (arith, below)) pages list;
    }
      where
        by_page : (p q : ℕ) → ((p ≡ page) × (q ≡ at)) ⊎ ((p ≢ page) × (map.get file.pages.pages p ≡ Some q)) → IsPageBelow image ckpt ino (page + 1) p q
        by_page p q (inl e) = record { within = omega (arith, e.0); is = subst (λ n. IsBasePage image ckpt ino p n) (sym e.1) (subst (λ n. IsBasePage image ckpt ino n at) (sym e.0) is) }
        by_page p q (inr old) = page_later page (page + 1) p q (omega arith) (part.pages p q old.1)

        by_all : (p q : ℕ) → IsBasePage image ckpt ino p q → p < page + 1 → (p ≡ page) ⊎ (p ≢ page) → map.get (map.insert file.pages.pages page at) p ≡ Some q
        by_all p q base within (inl e) = ap (map.get (map.insert file.pages.pages page at)) e ∙ get_put file.pages.pages page at ∙ ap Some (sym (only q (subst (λ n. IsBasePage image ckpt ino n q) e base)))
        by_all p q base within (inr other) = get_put-other file.pages.pages page at p other ∙ part.all_pages p q base (omega (arith, within, other))

    -- limits go past what the file hasn't
    pub part_past : (o p : ℕ) → offset ≤ o → page ≤ p → ((q nid : ℕ) → offset ≤ q → q < o → IsNode image ckpt ino q nid → ⊥) → ((q at : ℕ) → page ≤ q → q < p → IsBasePage image ckpt ino q at → ⊥)
        → IsPart image ckpt ino o p file
    part_past o p lo lp no_node no_page = record {
      nodes = λ q one there. node_later offset o q one lo (part.nodes q one there);
      all_nodes = λ q one node within. by_node q one node within (cases_lt q offset);
      addresses = part.addresses;
      pages = λ q at there. page_later page p q at lp (part.pages q at there);
      all_pages = λ q at base within. by_page q at base within (cases_lt q page);
      listed = list_later page p file.pages.pages file.list.items lp part.listed;
    }
      where
        by_node : (q one : ℕ) → IsNode image ckpt ino q one → q < o → (q < offset) ⊎ (offset ≤ q) → map.get file.nids q ≡ Some one
        by_node q one node within (inl low) = part.all_nodes q one node low
        by_node q one node within (inr high) = absurd (no_node q one high within node)

        by_page : (q at : ℕ) → IsBasePage image ckpt ino q at → q < p → (q < page) ⊎ (page ≤ q) → map.get file.pages.pages q ≡ Some at
        by_page q at base within (inl low) = part.all_pages q at base low
        by_page q at base within (inr high) = absurd (no_page q at high within base)
