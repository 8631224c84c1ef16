-- What a call of one event leaves dirty of a file in fsync: the same pages and nodes.
use Rattle.std.proofs.Common.{◌≡◌, ◌≢◌, ℕ, Bool, true, false, not, ◌||◌, ◌&&◌, List, [], ◌∷◌, ◌++◌, refl, sym, ap, subst, ◌∙◌}
use Rattle.std.specs.Prelude.{None, Result, Ok, ◌==◌}
use Rattle.std.specs.List.{filter}
use Rattle.std.specs.FinSet as set
use Rattle.std.proofs.lemmas.Bool.{ne_eqb}
use Rattle.f2_model.specs.Tree.{Rows, walk}
use Rattle.f2_model.specs.State.{State, Pairs, with_pairs, without_pairs, without_ino, directs_of, has_direct, dirtied, marked_dirty, touched, removed}
use Rattle.f2_model.specs.Step.{freezing, freezing_walked}
use Rattle.f2_model.specs.declared.rows.Row.{Row}
use Rattle.f2_model.specs.declared.replies.Reply.{Reply}
use Rattle.f2_model.specs.declared.requests.Request.{Request}
use Rattle.f2_model.specs.declared.requests.Request.TheVariants.{Create, Mkdir, Write, Truncate, Unlink, Rmdir, Rename, Read, List as ListNames, Fsync, Sync}
use Rattle.f2_laws.specs.Flights.{IsFrozen}
use Rattle.f2_laws.proofs.Seats.{not_frozen}
use Rattle.f2_laws.proofs.Orders.{pair_cmp_total, pair_cmp-IsAntisymmetric}
use Rattle.f2_laws.proofs.Clean.{other_pairs}
use Rattle.f2_laws.proofs.Dirtied.{from_both_rows_only, from_row_only}

-- two sets have the same pairs of an ino
abbrev pub AreAlike : ℕ → Pairs → Pairs → Type 0
AreAlike ino before after = (number : ℕ) → set.contains after (ino, number) ≡ set.contains before (ino, number)

module _ (ino other : ℕ) (apart : ino ≢ other) where
  alike_with : (pairs : Pairs) (number : ℕ) → AreAlike ino pairs (set.insert pairs (other, number))
  alike_with pairs number at =
      set.contains-insert pair_cmp_total pairs (other, number) (ino, at)
      ∙ ap (λ b. b || set.contains pairs (ino, at)) (other_pairs (ino, at) (other, number) apart)

  alike_without : (pairs : Pairs) (number : ℕ) → AreAlike ino pairs (set.remove pairs (other, number))
  alike_without pairs number at =
      set.contains-remove pair_cmp_total pairs (other, number) (ino, at)
      ∙ ap (λ b. not b && set.contains pairs (ino, at)) (other_pairs (ino, at) (other, number) apart)

  alike_with_all : (pairs : Pairs) (numbers : List ℕ) → AreAlike ino pairs (with_pairs other pairs numbers)
  alike_with_all pairs [] at = refl
  alike_with_all pairs (number ∷ numbers) at = alike_with_all (set.insert pairs (other, number)) numbers at ∙ alike_with pairs number at

  alike_without_all : (pairs : Pairs) (numbers : List ℕ) → AreAlike ino pairs (without_pairs other pairs numbers)
  alike_without_all pairs [] at = refl
  alike_without_all pairs (number ∷ numbers) at = alike_without_all (set.remove pairs (other, number)) numbers at ∙ alike_without pairs number at

  alike_without_ino : (pairs : Pairs) → AreAlike ino pairs (without_ino other pairs)
  alike_without_ino pairs at =
      set.contains-retain pairs (λ pair. not (pair.0 == other)) (ino, at) (λ pair same. ap (λ (pair : ℕ × ℕ). not (pair.0 == other)) (sym (pair_cmp-IsAntisymmetric (ino, at) pair same)))
      ∙ ap (λ b. set.contains pairs (ino, at) && not b) (ne_eqb ino other apart)
      ∙ all_kept (set.contains pairs (ino, at))
    where
      all_kept : (b : Bool) → (b && true) ≡ b
      all_kept true = refl
      all_kept false = refl

-- a state leaves the dirty pages and nodes of a file
pub record LeavesFile (before after : State) (ino : ℕ) : Type 0 where
  pub pages : AreAlike ino before.dirty_pages after.dirty_pages
  pub nodes : AreAlike ino before.dirty_nodes after.dirty_nodes

module _ (state : State) (ino : ℕ) (frozen : IsFrozen state.flights ino) where
  abbrev Leaves : State → Type 0
  Leaves after = LeavesFile state after ino

  same : Leaves state
  same = record { pages = λ number. refl; nodes = λ number. refl }

  elsewhere : (end : Result Row Reply) (row : Row) → end ≡ Ok row → freezing_walked state end ≡ None → ino ≢ row.ino
  elsewhere end row leads none is = not_frozen state row.ino (sym (ap (freezing_walked state) leads) ∙ none) (subst (IsFrozen state.flights) is frozen)

  leaves_dirtied : (old new : Row) (now_touched now_removed : List ℕ) → ino ≢ old.ino → Leaves (dirtied state old new now_touched now_removed)
  leaves_dirtied old new now_touched now_removed apart =
      let lost = directs_of now_removed in
      record {
        pages = λ number. alike_with_all ino old.ino apart (without_pairs old.ino state.dirty_pages now_removed) now_touched number ∙ alike_without_all ino old.ino apart state.dirty_pages now_removed number;
        nodes = λ number. alike_with_all ino old.ino apart (without_pairs old.ino state.dirty_nodes lost) (filter (has_direct new) lost ++ directs_of now_touched) number ∙ alike_without_all ino old.ino apart state.dirty_nodes lost number;
      }

  pub called_leaves : (request : Request) (after : Rows) → freezing state request ≡ None → Leaves (marked_dirty state request after)
  called_leaves (Write path pieces) after thawed =
      from_both_rows_only Leaves state (walk state.live path) (walk after path) _ same
      (λ old new leads. leaves_dirtied old new (touched old (Write path pieces)) (removed old (Write path pieces)) (elsewhere (walk state.live path) old leads thawed))
  called_leaves (Truncate path size) after thawed =
      from_both_rows_only Leaves state (walk state.live path) (walk after path) _ same
      (λ old new leads. leaves_dirtied old new (touched old (Truncate path size)) (removed old (Truncate path size)) (elsewhere (walk state.live path) old leads thawed))
  called_leaves (Unlink path) after thawed =
      from_row_only Leaves state (walk state.live path) _ same
      (λ row leads. (let apart = elsewhere (walk state.live path) row leads thawed in record { pages = alike_without_ino ino row.ino apart state.dirty_pages; nodes = alike_without_ino ino row.ino apart state.dirty_nodes }))
  called_leaves (Rename from to) after thawed = from_row_only Leaves state (walk state.live from) _ same (λ row leads. record { pages = λ number. refl; nodes = λ number. refl })
  called_leaves (Create path) after thawed = same
  called_leaves (Mkdir path) after thawed = same
  called_leaves (Rmdir path) after thawed = same
  called_leaves (Read path off len) after thawed = same
  called_leaves (ListNames path) after thawed = same
  called_leaves (Fsync path) after thawed = same
  called_leaves Sync after thawed = same
