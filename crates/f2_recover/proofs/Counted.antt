-- More nodes or pages than a third of their zone: as many differ as addresses were taken.
use Rattle.std.proofs.Common.{◌≡◌, ◌≢◌, ℕ, zero, suc, ◌-◌, ◌<◌, ◌≤◌, Bool, true, false, cond, not, ◌&&◌, ◌||◌, List, [], ◌∷◌, length, refl, sym, ap, ◌∙◌, subst, arith, eq-eqb}
use Rattle.std.specs.List.{list_any, AllByRecursion}
use Rattle.std.specs.Ordering.{nat_cmp, eq_by_cmp}
use Rattle.std.specs.Cmp.{nat_cmp_total, unsigned_tied}
use Rattle.std.specs.FinSet as set
use Rattle.std.specs.FinSet.{nat_cmp-IsAntisymmetric}
use Rattle.f2_format.specs.Geometry.{node_third, data_third}
use Rattle.f2_image.specs.Images.{Image}
use Rattle.f2_image.specs.Packs.{Checkpoint}
use Rattle.f2_image.specs.Nodes.{node_address}
use Rattle.f2_image.specs.Reached.{IsNode, AllDiffer}
use Rattle.f2_image.specs.Faults.{IsSomeNode, IsBaseBlock, IsTooFull}
use Rattle.f2_image.specs.Faults as faults
use Rattle.f2_recover.specs.Taking.{Taken, AreTaken}
use Rattle.f2_recover.proofs.Sets.{Numbers, not_both}
use Rattle.f2_recover.proofs.NodesOfFiles.{one_nid}

itself : (k : ℕ) → eq_by_cmp nat_cmp k k ≡ true
itself k = unsigned_tied k k ∙ eq-eqb k k refl

-- as many members of a set as it has, no two the same
record HasMembers (s : Numbers) (n : ℕ) : Type 0 where
  list : List ℕ
  long : length list ≡ n
  differ : AllDiffer list
  all : AllByRecursion (λ k. set.contains s k ≡ true) list

module _ (s : Numbers) (k : ℕ) where
  abbrev rest : Numbers
  rest = set.remove s k

  stays_in : (q : ℕ) → set.contains rest q ≡ true → set.contains s q ≡ true
  stays_in q h = second (not (eq_by_cmp nat_cmp q k)) (set.contains s q) (sym (set.contains-remove nat_cmp_total s k q) ∙ h)
    where
      second : (a b : Bool) → (a && b) ≡ true → b ≡ true
      second true b e = e
      second false b e = absurd (cc)

  gone : set.contains rest k ≡ false
  gone = set.contains-remove nat_cmp_total s k k ∙ ap (λ b. not b && set.contains s k) (itself k)

  differs : (q : ℕ) → set.contains rest q ≡ true → k ≢ q
  differs q h same = not_both h (ap (set.contains rest) (sym same) ∙ gone)

  all_in : (list : List ℕ) → AllByRecursion (λ q. set.contains rest q ≡ true) list → AllByRecursion (λ q. set.contains s q ≡ true) list
  all_in [] h = tt
  all_in (q ∷ list) h = (stays_in q h.0, all_in list h.1)

  all_differ : (list : List ℕ) → AllByRecursion (λ q. set.contains rest q ≡ true) list → AllByRecursion (λ q. k ≢ q) list
  all_differ [] h = tt
  all_differ (q ∷ list) h = (differs q h.0, all_differ list h.1)

some_member : (s : Numbers) (items : List ℕ) → ((q : ℕ) → set.contains s q ≡ list_any (eq_by_cmp nat_cmp q) items) → 0 < set.len s → (k : ℕ) × (set.contains s k ≡ true)
some_member s [] are some =
    let empty : s ≡ set.empty = set.same_set nat_cmp_total nat_cmp-IsAntisymmetric s set.empty (λ q. are q ∙ sym (set.contains-empty nat_cmp q)) in
    let zero_long : set.len s ≡ 0 = ap set.len empty ∙ set.len-empty nat_cmp in
    absurd (omega (arith, zero_long, some))
some_member s (k ∷ items) are some = (k, are k ∙ ap (λ b. b || list_any (eq_by_cmp nat_cmp k) items) (itself k))

members : (n : ℕ) (s : Numbers) → n ≤ set.len s → HasMembers s n
members zero s most = record { list = []; long = refl; differ = tt; all = tt }
members (suc n) s most =
    let one = some_member s (set.items s) (set.contains-items s) (omega (arith, most)) in
    let left : set.len (set.remove s one.0) ≡ set.len s - 1 = set.len-remove nat_cmp_total s one.0 ∙ ap (λ b. cond b (set.len s - 1) (set.len s)) one.1 in
    let others = members n (set.remove s one.0) (omega (arith, most, left)) in
    record {
      list = one.0 ∷ others.list;
      long = ap suc others.long;
      differ = (all_differ s one.0 others.list others.all, others.differ);
      all = (one.1, all_in s one.0 others.list others.all);
    }

module _ (image : Image) (ckpt : Checkpoint) (inos : Numbers) (ino offset page : ℕ) (taken : Taken) (are : AreTaken image ckpt inos ino offset page taken) where
  abbrev Held : List ℕ → Type 0
  Held list = AllByRecursion (λ k. set.contains taken.nodes k ≡ true) list

  pair_at : (k : ℕ) → set.contains taken.nodes k ≡ true → ℕ × ℕ
  pair_at k h = ((are.nodes k h).other, (are.nodes k h).more)

  pairs : (list : List ℕ) → Held list → List (ℕ × ℕ)
  pairs [] held = []
  pairs (k ∷ list) held = pair_at k held.0 ∷ pairs list held.1

  -- one node has one address
  apart : (k q : ℕ) (h : set.contains taken.nodes k ≡ true) (i : set.contains taken.nodes q ≡ true) → k ≢ q → pair_at k h ≢ pair_at q i
  unfolding pair_at
  apart k q h i other same =
      let a = are.nodes k h in
      let b = are.nodes q i in
      let is : IsNode image ckpt b.other b.more a.nid = subst (λ (p : ℕ × ℕ). IsNode image ckpt p.0 p.1 a.nid) same a.is in
      other (sym a.address ∙ ap (node_address image ckpt) (one_nid image ckpt b.other b.more a.nid b.nid is b.is) ∙ b.address)

  long : (list : List ℕ) (held : Held list) → length (pairs list held) ≡ length list
  unfolding pairs
  long [] held = refl
  long (k ∷ list) held = ap suc (long list held.1)

  some : (list : List ℕ) (held : Held list) → AllByRecursion (IsSomeNode image ckpt) (pairs list held)
  unfolding pairs pair_at
  some [] held = tt
  some (k ∷ list) held = (((are.nodes k held.0).nid, (are.nodes k held.0).is), some list held.1)

  head_differs : (k : ℕ) (h : set.contains taken.nodes k ≡ true) (list : List ℕ) (held : Held list) → AllByRecursion (λ q. k ≢ q) list → AllByRecursion (λ p. pair_at k h ≢ p) (pairs list held)
  unfolding pairs
  head_differs k h [] held others = tt
  head_differs k h (q ∷ list) held others = (apart k q h held.0 others.0, head_differs k h list held.1 others.1)

  differ : (list : List ℕ) (held : Held list) → AllDiffer list → AllDiffer (pairs list held)
  unfolding pairs
  differ [] held apart_all = tt
  differ (k ∷ list) held apart_all = (head_differs k held.0 list held.1 apart_all.0, differ list held.1 apart_all.1)

  pub too_many_nodes : (limit : ℕ) → limit ≡ node_third ckpt.geom → limit < set.len taken.nodes → IsTooFull image ckpt limit
  too_many_nodes limit is more =
      let m = members (set.len taken.nodes) taken.nodes (omega arith) in
      faults.base_nodes is (record { some = pairs m.list m.all; differ = differ m.list m.all m.differ; all = some m.list m.all; more = omega (arith, more, long m.list m.all, m.long) })

  blocks : (list : List ℕ) → AllByRecursion (λ k. set.contains taken.pages k ≡ true) list → AllByRecursion (IsBaseBlock image ckpt) list
  blocks [] held = tt
  blocks (k ∷ list) held = (((are.pages k held.0).other, (are.pages k held.0).more, (are.pages k held.0).is), blocks list held.1)

  pub too_many_pages : (limit : ℕ) → limit ≡ data_third ckpt.geom → limit < set.len taken.pages → IsTooFull image ckpt limit
  too_many_pages limit is more =
      let m = members (set.len taken.pages) taken.pages (omega arith) in
      faults.base_blocks is (record { some = m.list; differ = m.differ; all = blocks m.list m.all; more = omega (arith, more, m.long) })
