-- The pages of an image stand in its data zone, and so within its blocks.
use Rattle.std.proofs.Common.{◌≡◌, ℕ, zero, suc, ◌+◌, ◌-◌, ◌*◌, ◌/◌, ◌<◌, ◌≤◌, ◌&&◌, not, nat_lt, Bool, true, false, T, cond, List, [], ◌∷◌, length, get_or, refl, sym, ap, subst, ◌∙◌, arith, eq-eqb}
use Rattle.std.specs.Prelude.{Some}
use Rattle.std.specs.Option.{unwrap_or}
use Rattle.std.specs.Ordering.{nat_cmp, eq_by_cmp, is_lt}
use Rattle.std.specs.Cmp.{nat_cmp_total, tied_itself, unsigned_tied}
use Rattle.std.specs.FinMap as map
use Rattle.std.specs.FinMap.{FinMap, find, is_sorted}
use Rattle.std.specs.FinMap.Entries.{below_all}
use Rattle.std.proofs.lemmas.Bool.{eqb-true}
use Rattle.std.proofs.lemmas.List.{get_or_default}
use Rattle.std.proofs.lemmas.List.Elements.{All-map}
use Rattle.f2_format.specs.Geometry.{ImageGeometry, data_third, data_start, is_in_data}
use Rattle.f2_image.specs.Images.{Image}
use Rattle.f2_image.specs.Packs.{Checkpoint}
use Rattle.f2_image.specs.Reached.{IsMarkedPage}
use Rattle.f2_model.specs.Tree.{Rows}
use Rattle.f2_model.specs.State.{Mark}
use Rattle.f2_overlay.specs.declared.rolls.Roll.{Roll}
use Rattle.f2_overlay.proofs.Based.{list_of_row, page_of_base}
use Rattle.f2_recover.specs.declared.nodes.PageAt.{PageAt}
use Rattle.f2_recover.specs.declared.rows.BaseRow.{BaseRow}
use Rattle.f2_recover.specs.declared.walk.Walk.{Walk}
use Rattle.f2_recover_laws.proofs.RightNodes.{right_nodes}
use Rattle.f2_found.specs.Made.{Rolls, listed_of}
use Rattle.f2_found.specs.Places.{AreBelow}
use Rattle.f2_found.proofs.Trees.{IsTree, roll_from}

-- an address in the data zone is that of a block of the image
in_blocks : (blocks nat at : ℕ) → 8 + 2 * nat + 3 * ((blocks - 8 - 2 * nat) / 12) ≤ at
    → at < 8 + 2 * nat + 3 * ((blocks - 8 - 2 * nat) / 12) + 3 * ((blocks - 8 - 2 * nat - 3 * ((blocks - 8 - 2 * nat) / 12)) / 3) → at < blocks
in_blocks blocks nat at from to = omega (arith, from, to)

both_true : (a b : Bool) → (not a && b) ≡ true → (a ≡ false) × (b ≡ true)
both_true false true e = (refl, refl)
both_true false false e = absurd (cc)
both_true true b e = absurd (cc)

zone_within : (geom : ImageGeometry) (at : ℕ) → is_in_data geom at ≡ true → at < geom.blocks
zone_within geom at e =
    let both = both_true (nat_lt at (data_start geom)) (nat_lt at (data_start geom + 3 * data_third geom)) e in
    in_blocks geom.blocks geom.nat at (not_below at (data_start geom) both.0) (is_below at (data_start geom + 3 * data_third geom) both.1)
  where
    not_below : (m n : ℕ) → nat_lt m n ≡ false → n ≤ m
    not_below m n e = grind (arith, e)

    is_below : (m n : ℕ) → nat_lt m n ≡ true → m < n
    is_below m n e = grind (arith, e)

-- each entry of a map is what it has at that key
first : (a b : Bool) → T (a && b) → T a
first true b h = tt
first false b h = absurd h

second : (a b : Bool) → T (a && b) → T b
second true b h = h
second false b h = absurd h

less_behind : (x : ℕ) (es : List (ℕ × ℕ)) (k : ℕ) (d : ℕ × ℕ) → T (below_all nat_cmp x es) → k < length es → T (is_lt (nat_cmp x (get_or es k d).0))
less_behind x [] k d below small = absurd (omega (arith, small))
less_behind x (e ∷ es) zero d below small = first _ _ below
less_behind x (e ∷ es) (suc k) d below small = less_behind x es k d (second _ _ below) (omega (arith, small))

not_tied : (x q : ℕ) → T (is_lt (nat_cmp x q)) → (b : Bool) → eq_by_cmp nat_cmp q x ≡ b → b ≡ false
not_tied x q less true t =
    let same : q ≡ x = eqb-true q x (sym (unsigned_tied q x) ∙ t) in
    absurd (subst (λ o. T (is_lt o)) (ap (nat_cmp x) same ∙ tied_itself nat_cmp_total x) less)
not_tied x q less false t = refl

found_at : (es : List (ℕ × ℕ)) (k : ℕ) (d : ℕ × ℕ) → T (is_sorted nat_cmp es) → k < length es → find nat_cmp (get_or es k d).0 es ≡ Some (get_or es k d).1
found_at [] k d sorted small = absurd (omega (arith, small))
found_at (e ∷ es) zero d sorted small = ap (λ (b : Bool). cond b (Some e.1) (find nat_cmp e.0 es)) (unsigned_tied e.0 e.0 ∙ eq-eqb e.0 e.0 refl)
found_at (e ∷ es) (suc k) d sorted small =
    let low : k < length es = omega (arith, small) in
    let q : ℕ = (get_or es k d).0 in
    let other = not_tied e.0 q (less_behind e.0 es k d (first _ _ sorted) low) (eq_by_cmp nat_cmp q e.0) refl in
    ap (λ (b : Bool). cond b (Some e.1) (find nat_cmp q es)) other ∙ found_at es k d (second _ _ sorted) low

each_listed : (blocks : ℕ) (pages : FinMap nat_cmp ℕ) → ((page at : ℕ) → map.get pages page ≡ Some at → at < blocks) → AreBelow blocks (listed_of pages)
each_listed blocks pages below = All-map (λ (x : PageAt). x.at < blocks) (λ (entry : ℕ × ℕ). record { page = entry.0; at = entry.1 }) (map.entries pages)
    (λ k d small. let entry : ℕ × ℕ = get_or (map.entries pages) k d in below entry.0 entry.1 (map.get-entries pages entry.0 ∙ found_at (map.entries pages) k d (map.entries_sorted pages) small))

module _ (image : Image) (ckpt : Checkpoint) (walk : Walk) (rolls : Rolls) (base : Rows) (marks : List Mark) (is : IsTree image ckpt walk rolls base marks) where
  -- the pages of a file that was marked
  pub roll_below : (ino : ℕ) (roll : Roll) → map.get rolls ino ≡ Some roll → AreBelow ckpt.geom.blocks (listed_of roll.pages)
  roll_below ino roll there = each_listed ckpt.geom.blocks roll.pages (λ page at has.
      let from = roll_from image ckpt walk rolls base marks is ino roll there in
      let within = from.at.within page at has in
      let marked : IsMarkedPage image ckpt ino page at = record {
        place = from.place;
        inode = _;
        marked = from.marked_at;
        own = from.own;
        within = within;
        address = sym (from.at.pages page within) ∙ ap (λ o. unwrap_or o 0) has;
        there = from.at.there page at has;
      } in
      zone_within ckpt.geom at (is.pages.zones ino page at marked))

  -- the pages of a file of the base
  pub base_below : (ino : ℕ) (old : BaseRow) → map.get walk.rows ino ≡ Some old → AreBelow ckpt.geom.blocks old.file.nodes.list.items
  base_below ino old there = λ k d small.
      let list = old.file.nodes.list.items in
      let x : PageAt = get_or list k d in
      let has = (list_of_row image ckpt walk is.read ino old there).only x (k, small, get_or_default list k x d small) in
      zone_within ckpt.geom x.at ((right_nodes image ckpt walk is.read).pages ino x.page x.at (page_of_base image ckpt walk is.read ino old there x.page x.at has))
