-- While an fsync is in flight nobody makes a checkpoint.
use Rattle.std.proofs.Common.{◌≡◌, ℕ, Bool, true, false, cond, List, [], ◌∷◌, map as map_list, refl, sym, ap, ◌∙◌, true≢false}
use Rattle.std.specs.Prelude.{Some, None, ◌&&◌, ◌||◌, is_none}
use Rattle.std.specs.List.{filter, list_any}
use Rattle.std.specs.FinMap as map
use Rattle.std.specs.Ordering.{nat_cmp}
use Rattle.std.specs.FinMap.{nat_cmp-IsAntisymmetric}
use Rattle.std.specs.Cmp.{nat_cmp_total}
use Rattle.f2_files.proofs.Finding.{value_passes}
use Rattle.f2_model.specs.State.{State, Flight, Progress, InFsync, InCheck}
use Rattle.f2_model.specs.Step.{first_key, is_check, is_up, checking_seat}
use Rattle.f2_model.specs.declared.bounds.Limits.{Limits}
use Rattle.f2_model.specs.declared.modes.Mode.TheVariants.{Up}
use Rattle.f2_model.specs.declared.replies.Plan.{Plan}
use Rattle.f2_room_laws.specs.ProperStates.{IsProperState}
use Rattle.f2_state.specs.Standing.{is_between}

-- where no flight is a checkpoint, no seat makes one
none_first : (es : List (ℕ × Flight)) → list_any is_check (map_list (λ (e : ℕ × Flight). e.1) es) ≡ false → first_key (filter (λ one. is_check one.1) es) ≡ None
none_first [] none = refl
none_first (e ∷ es) none = by_test (none_first es) (is_check e.1) none
  where
    by_test : (list_any is_check (map_list (λ (e : ℕ × Flight). e.1) es) ≡ false → first_key (filter (λ one. is_check one.1) es) ≡ None) → (b : Bool) → (b || list_any is_check (map_list (λ (e : ℕ × Flight). e.1) es)) ≡ false → first_key (cond b (e ∷ filter (λ one. is_check one.1) es) (filter (λ one. is_check one.1) es)) ≡ None
    by_test rest true h = absurd (true≢false h)
    by_test rest false h = rest h

module _ (limits : Limits) (state : State) (proper : IsProperState limits state) (seat ino : ℕ) (progress : Progress) (there : map.get state.flights seat ≡ Some (InFsync ino progress)) where
  nobody : (other : ℕ) (flight : Flight) → is_check flight ≡ true → map.get state.flights other ≡ Some flight → ⊥
  nobody other (InFsync file more) check found = absurd (true≢false (sym check))
  nobody other (InCheck plan) check found =
      let same : seat ≡ other = proper.alone other seat plan (InFsync ino progress) found there in
      let both : Some (InFsync ino progress) ≡ Some (InCheck plan) = sym there ∙ ap (λ s. map.get state.flights s) same ∙ found in
      absurd (cc)

  none_checks : (b : Bool) → list_any is_check (map.values state.flights) ≡ b → checking_seat state ≡ None
  none_checks false is = none_first (map.entries state.flights) is
  none_checks true is =
      let found = value_passes nat_cmp nat_cmp_total nat_cmp-IsAntisymmetric state.flights is_check is in
      absurd (nobody found.0 found.1 found.2 found.3)

  -- so an open volume is between two checkpoints
  pub between_by_fsync : state.mode ≡ Up → is_between state ≡ true
  between_by_fsync up = ap (λ mode. is_up mode && is_none (checking_seat state)) up ∙ ap (λ by. is_none by) (none_checks (list_any is_check (map.values state.flights)) refl)
