-- The end of a mount.
use Rattle.std.proofs.Common.{◌≡◌, ◌≢◌, ◌⊎◌, inl, inr, ℕ, ◌&&◌, cond, List, refl, sym, ap, ◌∙◌}
use Rattle.std.specs.Prelude.{Option, Some, None, if◌then◌else◌, ◌==◌}
use Rattle.std.specs.Cmp.{nat_cmp_total, unsigned_tied}
use Rattle.std.proofs.lemmas.Bool.{ne_eqb, cases_eq}
use Rattle.std.specs.FinMap as map
use Rattle.std.specs.FinMap.{get-insert, get-empty}
use Rattle.std.specs.Ordering.{nat_cmp}
use Rattle.f2_disk.specs.Contents.{Contents}
use Rattle.f2_model.specs.State.{State, Flight, InCheck}
use Rattle.f2_model.specs.Turns.{MOUNT_SEAT, is_up}
use Rattle.f2_model.specs.declared.modes.Mode.{Mode}
use Rattle.f2_model.specs.declared.modes.Mode.TheVariants.{Up, Shut}
use Rattle.f2_model.specs.declared.replies.Plan.TheVariants as plan
use Rattle.f2_image.specs.Packs.{Checkpoint}
use Rattle.f2_stored.specs.Places.{Places}
use Rattle.f2_stored.specs.Trees.{Unwritten}
use Rattle.f2_stored.specs.Layout.{Layout}
use Rattle.f2_checkpoint_laws.specs.Ended.{IsBeforeTail}
use Rattle.f2_checkpoint_laws.proofs.Gone.{checkpoints_go_on}
use Rattle.f2_checkpoint_laws.proofs.TailsWhole.{tails_end_whole}
use Rattle.f2_mount_laws.specs.Ending.{MountsBegin, IsMountWritten, MountsEndWhole}
use Rattle.f2_mount_laws.proofs.Proper.{may_be_written}

pub mounts_begin : MountsBegin
mounts_begin state meaning choice = record { mode = refl; flights = refl }

-- the mount's seat alone is in flight
abbrev one_flight : map.FinMap nat_cmp Flight
one_flight = map.insert map.empty MOUNT_SEAT (InCheck plan.Sync)

flight_at : (seat : ℕ) → map.get one_flight seat ≡ cond (seat == MOUNT_SEAT) (Some (InCheck plan.Sync)) None
flight_at seat = get-insert nat_cmp_total map.empty MOUNT_SEAT (InCheck plan.Sync) seat
    ∙ ap (λ b. cond b (Some (InCheck plan.Sync)) (map.get (map.empty {X = Flight} {R = nat_cmp}) seat)) (unsigned_tied seat MOUNT_SEAT)
    ∙ ap (cond (seat == MOUNT_SEAT) (Some (InCheck plan.Sync))) (get-empty nat_cmp seat)

mount_alone : (seat : ℕ) (flight : Flight) → map.get one_flight seat ≡ Some flight → seat ≡ MOUNT_SEAT
mount_alone seat flight there = by_seat (cases_eq seat MOUNT_SEAT)
  where
    by_seat : (seat ≡ MOUNT_SEAT) ⊎ (seat ≢ MOUNT_SEAT) → seat ≡ MOUNT_SEAT
    by_seat (inl same) = same
    by_seat (inr other) =
        let none : ◌≡◌ {A = Option Flight} None (Some flight) = sym (flight_at seat ∙ ap (λ b. cond b (Some (InCheck plan.Sync)) None) (ne_eqb seat MOUNT_SEAT other)) ∙ there in
        absurd (cc)

module _ (lists now new : Contents) (layout : Layout) (state : State) (places : Places) (unwritten : Unwritten) (ckpt : Checkpoint) (tail : List ℕ)
    (is : IsMountWritten lists now layout state places unwritten ckpt tail) where
  before : IsBeforeTail now layout state places unwritten MOUNT_SEAT plan.Sync ckpt tail
  before = record {
    checkpointing = checkpoints_go_on layout state lists now is.there places is.left unwritten (may_be_written lists layout state is.there is.left is.began) is.wrote;
    written = is.written;
    ready = is.ready;
    apart = is.apart;
    alone = record {
      in_flight = ap (λ (flights : map.FinMap nat_cmp Flight). map.get flights MOUNT_SEAT) is.is_mounting.flights ∙ flight_at MOUNT_SEAT;
      only = λ other flight there. mount_alone other flight (sym (ap (λ (flights : map.FinMap nat_cmp Flight). map.get flights other) is.is_mounting.flights) ∙ there);
    };
  }

pub mounts_end_whole : MountsEndWhole
mounts_end_whole lists now new layout state places unwritten ckpt tail is made = (
  tails_end_whole now new layout state places unwritten MOUNT_SEAT plan.Sync ckpt tail (before lists now new layout state places unwritten ckpt tail is) made,
  ap (λ (mode : Mode). if (is_up mode && (MOUNT_SEAT == MOUNT_SEAT)) then Shut else Up) is.is_mounting.mode,
  is.began.taken.rolls,
)
