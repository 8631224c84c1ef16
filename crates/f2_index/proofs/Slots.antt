-- The nodes as they are stored: what each change of a slot and of the list does to them.
use Rattle.std.proofs.Common.{◌≡◌, ℕ, ◌+◌, ◌-◌, ◌<◌, ◌≤◌, Bool, true, false, cond, ◌≢◌, List, [], ◌∷◌, ◌++◌, length, length-append, Option, Some, None, is_some, slice_index, refl, ap, sym, ◌∙◌, arith, inl, inr}
use Rattle.std.specs.Prelude.{option_map, map as list_map}
use Rattle.std.specs.Ordering.{nat_cmp, eq_by_cmp}
use Rattle.std.specs.Cmp.{nat_cmp_total}
use Rattle.std.specs.FinMap as map
use Rattle.std.proofs.lemmas.Bool.{cases_eq}
use Rattle.std.proofs.lemmas.Bool.Decides.{nat_tests}
use Rattle.std.specs.FinSet as set
use Rattle.std.specs.List.{list_any}
use Rattle.f2_index.specs.Nodes.{Nodes, is_dirty, dirty_of, cleaned, cleaned_at}
use Rattle.f2_index.specs.declared.nodes.Node.{Node}
use Rattle.f2_index.specs.Slots.{Slots, AreKept, AreListed, place_of, node_of, nodes_of}
use Rattle.f2_index.specs.declared.nodes.Slot.{Slot}
use Rattle.f2_index.proofs.Listed.{AreListed-empty, AreListed-push, AreListed-alike, AreListed-swapped, any_listed, length-le-listed}
use Rattle.f2_index.proofs.Counts.{contains-dirty_of, same_set}
use Rattle.f2_index.proofs.Tables.{same, none_unless}

find-nodes : (q : ℕ) (es : List (ℕ × Slot)) → map.find nat_cmp q (list_map (λ (e : ℕ × Slot). (e.0, node_of e.1)) es) ≡ option_map node_of (map.find nat_cmp q es)
find-nodes q [] = refl
find-nodes q (e ∷ es) = ap (cond (eq_by_cmp nat_cmp q e.0) (Some (node_of e.1))) (find-nodes q es) ∙ by (eq_by_cmp nat_cmp q e.0) (map.find nat_cmp q es)
  where
    by : (b : Bool) (o : Option Slot) → cond b (Some (node_of e.1)) (option_map node_of o) ≡ option_map node_of (cond b (Some e.1) o)
    by true o = refl
    by false o = refl

pub get-nodes_of : (slots : Slots) (q : ℕ) → map.get (nodes_of slots) q ≡ option_map node_of (map.get slots q)
get-nodes_of slots q = map.get-from_entries nat_cmp_total _ q ∙ find-nodes q (map.entries slots) ∙ ap (option_map node_of) (sym (map.get-entries slots q))

mapped_cond : (b : Bool) (o p : Option Slot) → option_map node_of (cond b o p) ≡ cond b (option_map node_of o) (option_map node_of p)
mapped_cond true o p = refl
mapped_cond false o p = refl

pub nodes_of-insert : (slots : Slots) (k : ℕ) (slot : Slot) → nodes_of (map.insert slots k slot) ≡ map.insert (nodes_of slots) k (node_of slot)
nodes_of-insert slots k slot = same _ _ (λ q.
    get-nodes_of (map.insert slots k slot) q ∙ ap (option_map node_of) (map.get-insert nat_cmp_total slots k slot q)
    ∙ mapped_cond (eq_by_cmp nat_cmp q k) (Some slot) (map.get slots q)
    ∙ ap (cond (eq_by_cmp nat_cmp q k) (Some (node_of slot))) (sym (get-nodes_of slots q))
    ∙ sym (map.get-insert nat_cmp_total (nodes_of slots) k (node_of slot) q))

pub nodes_of-remove : (slots : Slots) (k : ℕ) → nodes_of (map.remove slots k) ≡ map.remove (nodes_of slots) k
nodes_of-remove slots k = same _ _ (λ q.
    get-nodes_of (map.remove slots k) q ∙ ap (option_map node_of) (map.get-remove nat_cmp_total slots k q)
    ∙ mapped_cond (eq_by_cmp nat_cmp q k) None (map.get slots q)
    ∙ ap (cond (eq_by_cmp nat_cmp q k) None) (sym (get-nodes_of slots q))
    ∙ sym (map.get-remove nat_cmp_total (nodes_of slots) k q))

pub nodes_of-empty : nodes_of map.empty ≡ map.empty
nodes_of-empty = same _ _ (λ q. get-nodes_of map.empty q ∙ ap (option_map node_of) (map.get-empty nat_cmp q) ∙ sym (map.get-empty nat_cmp q))

-- to put what is there changes nothing
insert_same : {X : Type 0} (m : map.FinMap nat_cmp X) (k : ℕ) (v : X) → map.get m k ≡ Some v → map.insert m k v ≡ m
insert_same m k v there = same _ _ (λ q. map.get-insert nat_cmp_total m k v q ∙ elim (cases_eq q k) [
  | inl e ↦ rw e (rw there (grind (arith, nat_tests)))
  | inr apart ↦ grind (arith, nat_tests)
])

-- a slot put where one was leaves their number
pub len-put : (slots : Slots) (k : ℕ) (slot : Slot) → is_some (map.get slots k) ≡ true → map.len (map.insert slots k slot) ≡ map.len slots
len-put slots k slot there = map.len-insert nat_cmp_total slots k slot ∙ ap (λ b. cond b (map.len slots) (map.len slots + 1)) there

pub AreKept-empty : (capacity : ℕ) → AreKept map.empty [] capacity
AreKept-empty capacity = record {
  are_listed = AreListed-empty _ (λ q. ap place_of (map.get-empty nat_cmp q));
  room = omega (arith, map.len-empty nat_cmp Slot);
}

place_cond : (b : Bool) (o p : Option Slot) → place_of (cond b o p) ≡ cond b (place_of o) (place_of p)
place_cond true o p = refl
place_cond false o p = refl

pub place-insert : (slots : Slots) (k : ℕ) (slot : Slot) (q : ℕ) → place_of (map.get (map.insert slots k slot) q) ≡ cond (eq_by_cmp nat_cmp q k) slot.place (place_of (map.get slots q))
place-insert slots k slot q = ap place_of (map.get-insert nat_cmp_total slots k slot q) ∙ place_cond (eq_by_cmp nat_cmp q k) (Some slot) (map.get slots q)

some_of_place : (o : Option Slot) → is_some (place_of o) ≡ true → is_some o ≡ true
some_of_place (Some slot) h = refl
some_of_place None h = h

module _ (slots : Slots) (offsets : List ℕ) (capacity : ℕ) (are : AreKept slots offsets capacity) where
  -- there are no more dirty nodes than nodes
  pub length-le-kept : length offsets ≤ map.len slots
  length-le-kept = length-le-listed _ offsets are.are_listed slots (λ q some. some_of_place (map.get slots q) some)

  -- the places after one more dirty node
  pub AreListed-added : (offset pages : ℕ) → place_of (map.get slots offset) ≡ None → AreListed (λ q. place_of (map.get (map.insert slots offset (record { pages = pages; place = Some (length offsets) })) q)) (offsets ++ offset ∷ [])
  AreListed-added offset pages none = AreListed-push _ offsets are.are_listed offset _ none (λ q. place-insert slots offset _ q)

  -- a node that becomes dirty has room in the list
  pub length-lt-kept : (offset : ℕ) → is_some (map.get slots offset) ≡ true → place_of (map.get slots offset) ≡ None → length offsets < capacity
  length-lt-kept offset there none =
      let within = length-le-listed _ (offsets ++ offset ∷ []) (AreListed-added offset 0 none) (map.insert slots offset (record { pages = 0; place = Some (length offsets) })) (λ q some. some_of_place _ some) in
      omega (arith, within, are.room, len-put slots offset (record { pages = 0; place = Some (length offsets) }) there, length-append offsets (offset ∷ []))

  -- one more dirty node is kept, where there is room for all
  pub AreKept-added : (offset pages place room : ℕ) → place_of (map.get slots offset) ≡ None → place ≡ length offsets → map.len (map.insert slots offset (record { pages = pages; place = Some place })) ≤ room → AreKept (map.insert slots offset (record { pages = pages; place = Some place })) (offsets ++ offset ∷ []) room
  AreKept-added offset pages place room none at fits = record {
    are_listed = rw at (AreListed-added offset pages none);
    room = fits;
  }

  -- another number of pages changes no place
  pub AreKept-pages : (offset pages : ℕ) (slot : Slot) → map.get slots offset ≡ Some slot → AreKept (map.insert slots offset (record { pages = pages; place = slot.place })) offsets capacity
  AreKept-pages offset pages slot at = record {
    are_listed = AreListed-alike _ offsets are.are_listed _ (λ q. place-insert slots offset _ q ∙ elim (cases_eq q offset) [
      | inl same ↦ rw same (grind (arith, nat_tests, ap place_of at))
      | inr apart ↦ grind (arith, nat_tests)
    ]);
    room = omega (arith, are.room, len-put slots offset (record { pages = pages; place = slot.place }) (ap is_some at));
  }

  -- a clean node that leaves has no place
  pub AreKept-removed : (offset : ℕ) → place_of (map.get slots offset) ≡ None → AreKept (map.remove slots offset) offsets capacity
  AreKept-removed offset none = record {
    are_listed = AreListed-alike _ offsets are.are_listed _ (λ q. ap place_of (map.get-remove nat_cmp_total slots offset q) ∙ place_cond (eq_by_cmp nat_cmp q offset) None (map.get slots q) ∙ elim (cases_eq q offset) [
      | inl same ↦ rw same (grind (arith, nat_tests, none))
      | inr apart ↦ grind (arith, nat_tests)
    ]);
    room = let long = map.len-remove nat_cmp_total slots offset in less (map.contains_key slots offset) long;
  }
    where
      less : (b : Bool) → map.len (map.remove slots offset) ≡ cond b (map.len slots - 1) (map.len slots) → map.len (map.remove slots offset) ≤ capacity
      less true long = omega (arith, long, are.room)
      less false long = omega (arith, long, are.room)

  -- the last of the list is a node
  pub there-end : (last : ℕ) → 0 < length offsets → last ≡ slice_index offsets (length offsets - 1) → is_some (map.get slots last) ≡ true
  there-end last some ends = some_of_place (map.get slots last) (ap is_some (ap (λ k. place_of (map.get slots k)) ends ∙ are.are_listed.listed (length offsets - 1) (omega arith)))

  -- the members of the list, in whatever order, are the dirty nodes
  pub from_list-kept : (ks : List ℕ) → ((q : ℕ) → list_any (eq_by_cmp nat_cmp q) ks ≡ list_any (eq_by_cmp nat_cmp q) offsets) → set.from_list ks ≡ dirty_of (nodes_of slots)
  from_list-kept ks alike = same_set _ _ (λ q.
      set.contains-from_list nat_cmp_total ks q ∙ alike q ∙ any_listed _ offsets are.are_listed q
      ∙ sym (contains-dirty_of (nodes_of slots) q ∙ ap is_dirty (get-nodes_of slots q) ∙ dirty_since (map.get slots q)))
    where
      dirty_since : (o : Option Slot) → is_dirty (option_map node_of o) ≡ is_some (place_of o)
      dirty_since None = refl
      dirty_since (Some slot) = refl

  module _ (offset place last : ℕ) (slot moved : Slot) (at : map.get slots offset ≡ Some slot) (put : slot.place ≡ Some place) (ends : last ≡ slice_index offsets (length offsets - 1)) (got : map.get slots last ≡ Some moved) where
    abbrev cleaned_slots : Slots
    cleaned_slots = map.insert (map.insert slots last (record { pages = moved.pages; place = Some place })) offset (record { pages = slot.pages; place = None })

    pub there_still : is_some (map.get (map.insert slots last (record { pages = moved.pages; place = Some place })) offset) ≡ true
    there_still = ap is_some (map.get-insert nat_cmp_total slots last (record { pages = moved.pages; place = Some place }) offset) ∙ elim (cases_eq offset last) [
      | inl same ↦ grind (arith, nat_tests)
      | inr apart ↦ grind (arith, nat_tests, ap is_some at)
    ]

    pub AreKept-cleaned : (new : List ℕ) → length new + 1 ≡ length offsets
        → (place + 1 < length offsets → slice_index new place ≡ slice_index offsets (length offsets - 1))
        → ((k : ℕ) → k ≢ place → k + 1 < length offsets → slice_index new k ≡ slice_index offsets k)
        → AreKept cleaned_slots new capacity
    AreKept-cleaned new shorter took kept = record {
      are_listed = AreListed-swapped _ offsets are.are_listed offset place (ap place_of at ∙ put) _ new
          (λ q. place-insert _ offset _ q ∙ ap (cond (eq_by_cmp nat_cmp q offset) None) (place-insert slots last _ q ∙ ap (λ e. cond (eq_by_cmp nat_cmp q e) (Some place) (place_of (map.get slots q))) ends))
          shorter took kept;
      room = omega (arith, are.room, len-put slots last (record { pages = moved.pages; place = Some place }) (ap is_some got), len-put (map.insert slots last (record { pages = moved.pages; place = Some place })) offset (record { pages = slot.pages; place = None }) there_still);
    }

    pub nodes_of-cleaned : nodes_of cleaned_slots ≡ cleaned (nodes_of slots) offset
    nodes_of-cleaned =
        let here = are.are_listed.placed offset place (ap place_of at ∙ put) in
        let has = are.are_listed.listed (length offsets - 1) (omega (arith, here.0)) in
        let dirty : is_some moved.place ≡ true = ap is_some (sym (ap place_of got) ∙ ap (λ e. place_of (map.get slots e)) ends ∙ has) in
        let seen : map.get (nodes_of slots) last ≡ Some (record { pages = moved.pages; dirty = true }) = get-nodes_of slots last ∙ ap (option_map node_of) got ∙ ap (λ b. Some (record { pages = moved.pages; dirty = b })) dirty in
        nodes_of-insert _ offset _
        ∙ ap (λ m. map.insert m offset (record { pages = slot.pages; dirty = false })) (nodes_of-insert slots last _ ∙ insert_same (nodes_of slots) last _ seen)
        ∙ sym (ap (cleaned_at (nodes_of slots) offset) (get-nodes_of slots offset ∙ ap (option_map node_of) at))

-- a node that has no place is clean already
pub cleaned-clean : (slots : Slots) (offset : ℕ) (slot : Slot) → map.get slots offset ≡ Some slot → slot.place ≡ None → cleaned (nodes_of slots) offset ≡ nodes_of slots
cleaned-clean slots offset slot at none =
    let seen : map.get (nodes_of slots) offset ≡ Some (record { pages = slot.pages; dirty = false }) = get-nodes_of slots offset ∙ ap (option_map node_of) at ∙ ap (λ b. Some (record { pages = slot.pages; dirty = b })) (ap is_some none) in
    ap (cleaned_at (nodes_of slots) offset) seen ∙ insert_same (nodes_of slots) offset _ seen

pub cleaned-absent : (slots : Slots) (offset : ℕ) → map.get slots offset ≡ None → cleaned (nodes_of slots) offset ≡ nodes_of slots
cleaned-absent slots offset none = ap (cleaned_at (nodes_of slots) offset) (get-nodes_of slots offset ∙ ap (option_map node_of) none)

none_mapped : (o : Option Slot) → option_map node_of o ≡ None → o ≡ None
none_mapped None h = refl
none_mapped (Some slot) h = absurd (let wrong : ◌≡◌ true false = ap is_some h in cc)

some_mapped : (o : Option Slot) → is_some (option_map node_of o) ≡ is_some o
some_mapped None = refl
some_mapped (Some slot) = refl

clean_mapped : (o : Option Slot) → is_dirty (option_map node_of o) ≡ false → place_of o ≡ None
clean_mapped None h = refl
clean_mapped (Some slot) h = none_unless slot.place h

pub absent-slots : (slots : Slots) (q : ℕ) → map.get (nodes_of slots) q ≡ None → map.get slots q ≡ None
absent-slots slots q none = none_mapped (map.get slots q) (sym (get-nodes_of slots q) ∙ none)

pub there-slots : (slots : Slots) (q : ℕ) → is_some (map.get (nodes_of slots) q) ≡ true → is_some (map.get slots q) ≡ true
there-slots slots q there = sym (some_mapped (map.get slots q)) ∙ ap is_some (sym (get-nodes_of slots q)) ∙ there

-- a node that was made clean has no place, and to take it out is to take out the one that was there
pub no_place-cleaned : (slots : Slots) (nodes : Nodes) (offset : ℕ) → nodes_of slots ≡ cleaned nodes offset → place_of (map.get slots offset) ≡ None
no_place-cleaned slots nodes offset is = clean_mapped (map.get slots offset) (ap is_dirty (sym (get-nodes_of slots offset) ∙ ap (λ m. map.get m offset) is) ∙ by (map.get nodes offset) refl)
  where
    by : (o : Option Node) → map.get nodes offset ≡ o → is_dirty (map.get (cleaned_at nodes offset o) offset) ≡ false
    by None e = ap is_dirty e
    by (Some node) e = ap is_dirty (map.get-insert nat_cmp_total nodes offset (record { pages = node.pages; dirty = false }) offset) ∙ grind (arith, nat_tests)

pub remove-cleaned : (nodes : Nodes) (offset : ℕ) → map.remove (cleaned nodes offset) offset ≡ map.remove nodes offset
remove-cleaned nodes offset = by (map.get nodes offset)
  where
    by : (o : Option Node) → map.remove (cleaned_at nodes offset o) offset ≡ map.remove nodes offset
    by None = refl
    by (Some node) = same _ _ (λ q.
        map.get-remove nat_cmp_total _ offset q
        ∙ ap (cond (eq_by_cmp nat_cmp q offset) None) (map.get-insert nat_cmp_total nodes offset (record { pages = node.pages; dirty = false }) q)
        ∙ elim (cases_eq q offset) [ inl e ↦ grind (arith, nat_tests) | inr apart ↦ grind (arith, nat_tests) ]
        ∙ sym (map.get-remove nat_cmp_total nodes offset q))

pub len-new : (slots : Slots) (k : ℕ) (slot : Slot) → map.get slots k ≡ None → map.len (map.insert slots k slot) ≡ map.len slots + 1
len-new slots k slot absent = map.len-insert nat_cmp_total slots k slot ∙ ap (λ b. cond b (map.len slots) (map.len slots + 1)) (ap is_some absent)
